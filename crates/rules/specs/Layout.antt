-- Ledger words. A ledger is a head and R rows of H hours; H is a parameter of all that is said of rows.
use Rattle.std.specs.Prelude.{◌≡◌, Bool, List, ℕ, ◌+◌, ◌-◌, ◌*◌, ◌/◌, ◌%◌, ◌≤◌, eqb, ltb, length, set}
use Rattle.words.specs.Lists.{word_at, part, splice, zip2, noughts}
use Rattle.rules.specs.Pick.{pick, ◌is_from◌to◌}
use Rattle.rules.specs.Numbers.{head_words, row_words, profiles, most_rows, most_hours, requested_part, granted_part, available_part, displaced_part, reduced_part}

-- the head: R, H, provider, window, base, now, rows used, 0
abbrev pub rows : List ℕ → ℕ
rows l = word_at l 0

abbrev pub hours : List ℕ → ℕ
hours l = word_at l 1

abbrev pub provider : List ℕ → ℕ
provider l = word_at l 2

abbrev pub window : List ℕ → ℕ
window l = word_at l 3

abbrev pub base : List ℕ → ℕ
base l = word_at l 4

abbrev pub clock : List ℕ → ℕ
clock l = word_at l 5

abbrev pub used : List ℕ → ℕ
used l = word_at l 6

abbrev pub head_end : List ℕ → ℕ
head_end l = word_at l 7

abbrev pub set_clock : ℕ → List ℕ → List ℕ
set_clock v l = set l 5 v

abbrev pub set_used : ℕ → List ℕ → List ℕ
set_used v l = set l 6 v

-- ASSIGNMENT_REF counts from 1, rows are numbered from 0: reference r is row r - 1
abbrev pub row_of : ℕ → ℕ
row_of r = r - 1

unfoldable pub issued : List ℕ → ℕ → Bool
issued l r = r is_from 1 to used l

-- where row n starts; a ledger of R rows ends where row R would start
abbrev pub row_size : ℕ → ℕ
row_size H = row_words + profiles * H

unfoldable pub row_base : ℕ → ℕ → ℕ
row_base H n = head_words + n * row_size H

-- row n, and the ledger with row n changed by f
unfoldable pub row : ℕ → List ℕ → ℕ → List ℕ
row H l n = part l (row_base H n) (row_size H)

unfoldable pub on_row : ℕ → ℕ → (List ℕ → List ℕ) → List ℕ → List ℕ
on_row H n f l = splice l (row_base H n) (f (row H l n))

-- a row's words, of the row r; reqtype is REQUEST_TYPE
abbrev pub reqtype : List ℕ → ℕ
reqtype r = word_at r 0

abbrev pub status : List ℕ → ℕ
status r = word_at r 1

abbrev pub customer : List ℕ → ℕ
customer r = word_at r 2

abbrev pub seller : List ℕ → ℕ
seller r = word_at r 3

abbrev pub related : List ℕ → ℕ
related r = word_at r 4

abbrev pub start : List ℕ → ℕ
start r = word_at r 5

abbrev pub stop : List ℕ → ℕ
stop r = word_at r 6

abbrev pub flags : List ℕ → ℕ
flags r = word_at r 7

abbrev pub bid : List ℕ → ℕ
bid r = word_at r 8

abbrev pub offer : List ℕ → ℕ
offer r = word_at r 9

abbrev pub limit : List ℕ → ℕ
limit r = word_at r 10

abbrev pub path : List ℕ → ℕ
path r = word_at r 11

abbrev pub set_status : ℕ → List ℕ → List ℕ
set_status v r = set r 1 v

abbrev pub set_bid : ℕ → List ℕ → List ℕ
set_bid v r = set r 8 v

abbrev pub set_offer : ℕ → List ℕ → List ℕ
set_offer v r = set r 9 v

abbrev pub set_limit : ℕ → List ℕ → List ℕ
set_limit v r = set r 10 v

-- the row that row n is related to
unfoldable pub related_row : ℕ → List ℕ → ℕ → ℕ
related_row H l n = row_of (related (row H l n))

-- flags are powers of 2
unfoldable pub has_flag : ℕ → ℕ → Bool
has_flag flag word = eqb (word / flag % 2) 1

unfoldable pub flagged : ℕ → ℕ → ℕ
flagged flag word = pick (has_flag flag word) word (word + flag)

abbrev pub has : ℕ → List ℕ → Bool
has flag r = has_flag flag (flags r)

abbrev pub raise : ℕ → List ℕ → List ℕ
raise flag r = set r 7 (flagged flag (flags r))

-- hours run from start up to, not including, stop; the span's hours of profile p
abbrev pub hour_at : ℕ → ℕ → ℕ → ℕ
hour_at H p h = row_words + p * H + h

abbrev pub hours_of : ℕ → ℕ → ℕ → ℕ → List ℕ → List ℕ
hours_of H p s n r = part r (hour_at H p s) n

abbrev pub span_hours : List ℕ → ℕ
span_hours r = stop r - start r

unfoldable pub span : ℕ → ℕ → List ℕ → List ℕ
span H p r = hours_of H p (start r) (span_hours r) r

abbrev pub requested : ℕ → List ℕ → List ℕ
requested H r = span H requested_part r

abbrev pub granted : ℕ → List ℕ → List ℕ
granted H r = span H granted_part r

abbrev pub available : ℕ → List ℕ → List ℕ
available H r = span H available_part r

abbrev pub displaced : ℕ → List ℕ → List ℕ
displaced H r = span H displaced_part r

abbrev pub reduced : ℕ → List ℕ → List ℕ
reduced H r = span H reduced_part r

-- the row with the words v in profile p from hour s on; with v added there; with v taken off; with n zeros
unfoldable pub set_hours : ℕ → ℕ → ℕ → List ℕ → List ℕ → List ℕ
set_hours H p s v r = splice r (hour_at H p s) v

unfoldable pub add_hours : ℕ → ℕ → ℕ → List ℕ → List ℕ → List ℕ
add_hours H p s v r = set_hours H p s (zip2 ◌+◌ (hours_of H p s (length v) r) v) r

unfoldable pub less_hours : ℕ → ℕ → ℕ → List ℕ → List ℕ → List ℕ
less_hours H p s v r = set_hours H p s (zip2 ◌-◌ (hours_of H p s (length v) r) v) r

unfoldable pub clear_hours : ℕ → ℕ → ℕ → ℕ → List ℕ → List ℕ
clear_hours H p s n r = set_hours H p s (noughts n) r

-- a profile's words stand from hour s on, with 0 elsewhere: the word for hour h
unfoldable pub standing : ℕ → List ℕ → ℕ → ℕ
standing s v h = pick (ltb h s) 0 (word_at v (h - s))

-- a ledger of R rows and H hours
pub record Sized (l : List ℕ) (R H : ℕ) : Type 0 where
  pub long : length l ≡ row_base H R
  pub rows : R ≤ most_rows
  pub hours : H ≤ most_hours
