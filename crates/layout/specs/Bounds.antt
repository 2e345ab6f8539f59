-- For contracts inside the crate: what is known of lengths and spans before words are read.
use Rattle.std.specs.Prelude.{◌≡◌, List, [], ◌∷◌, ℕ, ◌≤◌, ◌<◌, length}
use Rattle.rules.specs.Numbers.{most_hours}
use Rattle.rules.specs.Layout.{row_size, start, stop}

-- a row of H hours whose span lies in them
pub record Spanned (H : ℕ) (r : List ℕ) : Type 0 where
  pub long : length r ≡ row_size H
  pub hours : H ≤ most_hours
  pub starts : start r < stop r
  pub stops : stop r ≤ H

-- the head of a ledger that is new
abbrev pub head_of : ℕ → ℕ → ℕ → ℕ → ℕ → List ℕ
head_of R H provider window base = R ∷ H ∷ provider ∷ window ∷ base ∷ 0 ∷ 0 ∷ 0 ∷ []
