-- For contracts inside the crate: a mark for each row that is annulled, and what is known before a row goes. No promise
-- to the outside names these.
use Rattle.std.specs.Prelude.{◌≡◌, ◌≢◌, Bool, true, false, List, ℕ, ◌<◌, get_or}
use Rattle.words.specs.Lists.{word_at}
use Rattle.rules.specs.Numbers.{RELINQUISH}
use Rattle.rules.specs.Layout.{used, row_of, row, reqtype, related_row}
use Rattle.rules.specs.Moves.{is_confirmed}
use Rattle.rules.proofs.Unwound.{gone_at, stays, whole_again}
use Rattle.unwinding.specs.Order.{gives_late}

unfoldable pub marked : List Bool → ℕ → Bool
marked marks m = get_or marks m false

-- the rows of the first k references are marked, and no other
pub record Marks (refs : List ℕ) (marks : List Bool) (k : ℕ) : Type 0 where
  pub is : (m : ℕ) → marked marks m ≡ gone_at refs k m

-- each row that was given something back late by one of them is marked, and none that is still CONFIRMED
pub record Late (H : ℕ) (l refs : List ℕ) (late : List Bool) (k : ℕ) : Type 0 where
  pub all : (j : ℕ) → j < k → gives_late H l (gone_at refs j) (row_of (word_at refs j)) ≡ true
      → marked late (related_row H l (row_of (word_at refs j))) ≡ true
  pub off : (p : ℕ) → marked late p ≡ true → stays H l (gone_at refs k) p ≡ false

-- row n can go as far as 4, 11 and 15 say, and no relinquish record went from 13
pub record Going (H : ℕ) (l : List ℕ) (gone : ℕ → Bool) (n : ℕ) : Type 0 where
  pub free : gone n ≡ false
  pub whole : is_confirmed (row H l n) ≡ true → whole_again H l gone n ≡ true
  pub records : (j : ℕ) → gone j ≡ true → is_confirmed (row H l j) ≡ true → reqtype (row H l j) ≢ RELINQUISH
  pub row : n < used l
