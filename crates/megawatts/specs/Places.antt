-- For contracts inside the crates: where the hours of a row's profiles lie. No promise to the outside names this.
use Rattle.std.specs.Prelude.{◌≡◌, List, ℕ, ◌+◌, ◌≤◌, length}
use Rattle.rules.specs.Layout.{row_base, hour_at}
use Rattle.layout.specs.Places.{longest}

-- a is where count hours of profile p of row n start, from hour s on, and they lie in the ledger
pub record HoursIn (l : List ℕ) (H n p s count a : ℕ) : Type 0 where
  pub is : a ≡ row_base H n + hour_at H p s
  pub fits : a + count ≤ length l
  pub small : length l ≤ longest
