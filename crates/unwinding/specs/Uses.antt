-- For contracts inside the crate: sums by hour while a row goes. No promise to the outside names these.
use Rattle.std.specs.Prelude.{◌≡◌, Bool, List, ℕ, ◌+◌, ◌≤◌, ◌<◌, length, get_or}
use Rattle.rules.specs.Pick.{pick}
use Rattle.rules.specs.Layout.{used}
use Rattle.rules.proofs.Unwound.{use_unwound}
use Rattle.unwinding.specs.Order.{freed_below}

-- sums of H hours that have f h to give
pub record Holding (H : ℕ) (f : ℕ → ℕ) (sums : List ℕ) : Type 0 where
  pub long : length sums ≡ H
  pub enough : (h : ℕ) → h < H → f h ≤ get_or sums h 0

-- sums that lack f h of g h
pub record Lacking (H : ℕ) (f g : ℕ → ℕ) (sums : List ℕ) : Type 0 where
  pub long : length sums ≡ H
  pub each : (h : ℕ) → h < H → get_or sums h 0 + f h ≡ g h

-- k rows were looked at: of the use of path x the sums lack the available of those that are freed; there is enough of it
-- for all
pub record Freeing (H : ℕ) (l : List ℕ) (gone : ℕ → Bool) (x n k : ℕ) (sums : List ℕ) : Type 0 where
  pub lacking : Lacking H (λ h. freed_below H l gone x n h k) (λ h. use_unwound H l gone x h) sums
  pub most : (h : ℕ) → h < H → freed_below H l gone x n h (used l) ≤ use_unwound H l gone x h

-- f h went off each sum, if it counted, and came to it, if it came back
pub record Shifted (f : ℕ → ℕ) (counted back : Bool) (sums next : List ℕ) : Type 0 where
  pub long : length next ≡ length sums
  pub each : (h : ℕ) → h < length sums → get_or next h 0 + pick counted (f h) 0 ≡ get_or sums h 0 + pick back (f h) 0
