-- For contracts inside the crates: where a row and the hours of a profile lie, as the functions that find them say.
use Rattle.std.specs.Prelude.{◌≡◌, ℕ, ◌+◌, ◌*◌, ◌≤◌}
use Rattle.rules.specs.Numbers.{head_words, most_rows, most_hours}
use Rattle.rules.specs.Layout.{row_base, row_size, hour_at}

-- the words of the longest ledger
abbrev pub longest : ℕ
longest = head_words + most_rows * row_size most_hours

-- a is where row n starts, and it lies in a ledger of R rows and H hours
pub record RowAt (R H n a : ℕ) : Type 0 where
  pub is : a ≡ row_base H n
  pub fits : a + row_size H ≤ row_base H R
  pub small : row_base H R ≤ longest

-- a is where row n starts, or where a ledger of n rows ends
pub record EndAt (H n a : ℕ) : Type 0 where
  pub is : a ≡ row_base H n
  pub least : head_words ≤ a
  pub small : a ≤ longest

-- a is where n hours of profile p start in a row, from hour s on, and they lie in it
pub record HoursAt (H p s n a : ℕ) : Type 0 where
  pub is : a ≡ hour_at H p s
  pub fits : a + n ≤ row_size H
