-- The row that an action names.
use mathlib.Core.Path.{◌≡◌, ap}
use mathlib.Core.List.{List}
use Prim.Native.Nat.{ℕ, ◌≤◌}
use native.Mathlib.Omega.{arith}
use Rattle.rules.specs.Layout.{used, row}
use Rattle.rules.specs.Checks.{named, named_row}
use Rattle.rules.specs.declared.Action.{Action}
use Rattle.layout.specs.SoundAt.{SoundAt}
use Rattle.layout.specs.Placed.{Placed}
use Rattle.layout.proofs.Placed.{placed_at}

-- of a sound ledger: the row is in use
module _ {l : List ℕ} {R H : ℕ} (s : SoundAt l R H) where
  pub names : (a : Action) → (1 ≤ a.reference) × (a.reference ≤ used l) → {n : ℕ} → n ≡ named a → Placed l R H n
  names a r e = placed_at s (omega (arith, r.0, r.1, e))

-- what is said of row n is said of the row that the action names
pub of_named : (l : List ℕ) (H : ℕ) (a : Action) {n : ℕ} {A : Type 0} (f : List ℕ → A) → n ≡ named a → f (row H l n) ≡ f (named_row H l a)
of_named l H a f e = ap (λ (k : ℕ). f (row H l k)) e
