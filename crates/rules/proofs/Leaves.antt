-- What an effect leaves of the ledger: the row that it is about, and the others, of which at most available, displaced
-- and reduced change.
use mathlib.Core.Path.{◌≡◌}
use mathlib.Core.Logic.{◌≢◌, ◌⊎◌}
use mathlib.Core.List.{List}
use Prim.Native.Nat.{ℕ, ◌≤◌, ◌<◌}
use lib.ListN.{length, get_or}
use Rattle.rules.specs.Numbers.{head_words, row_words, profiles, available_part}
use Rattle.rules.specs.Layout.{row, row_size, start, stop, hour_at, Sized}

-- row q is row r but for hours of available, displaced and reduced inside the span
pub record Kin (H : ℕ) (r q : List ℕ) : Type 0 where
  pub long : length q ≡ row_size H
  pub field : (k : ℕ) → k < row_words → get_or q k 0 ≡ get_or r k 0
  pub hour : (p h : ℕ) → p < available_part → h < H → get_or q (hour_at H p h) 0 ≡ get_or r (hour_at H p h) 0
  pub outside : (p h : ℕ) → p < profiles → h < H → (h < start r) ⊎ (stop r ≤ h) → get_or q (hour_at H p h) 0 ≡ get_or r (hour_at H p h) 0

-- l' is l but for row n, which is r, and hours of available, displaced and reduced of other rows
pub record Leaves (R H : ℕ) (l l' : List ℕ) (n : ℕ) (r : List ℕ) : Type 0 where
  pub sized : Sized l' R H
  pub own : row H l' n ≡ r
  pub kin : (m : ℕ) → m ≢ n → m < R → Kin H (row H l m) (row H l' m)
  pub past : (m : ℕ) → R ≤ m → row H l' m ≡ row H l m
  pub head : (i : ℕ) → i < head_words → get_or l' i 0 ≡ get_or l i 0
