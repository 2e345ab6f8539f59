-- What opening works out for the hour of a column; nothing is subtracted.
use Rattle.std.specs.Prelude.{◌≡◌, Bool, false, ◌&&◌, ◌||◌, ℕ, suc, ◌+◌, eqb}
use Rattle.column.specs.Sum.{gate, sum_to}
use Rattle.column.specs.Column.{Col}

-- row n is CONFIRMED or DISPLACED; row c is such a row, and related to row n
abbrev pub stands : Col → ℕ → Bool
stands S n = eqb (S.st n) 13 || (eqb (S.st n) 15 || false)

abbrev pub draws_on : Col → ℕ → ℕ → Bool
draws_on S n c = stands S c && eqb (S.ref c) (suc n)

-- the two redirects; it is one of them; it is a relinquish record
abbrev pub redirect : ℕ → Bool
redirect t = eqb t 4 || (eqb t 5 || false)

abbrev pub redirect_on : Col → ℕ → ℕ → Bool
redirect_on S n c = draws_on S n c && redirect (S.ty c)

abbrev pub relinquish_on : Col → ℕ → ℕ → Bool
relinquish_on S n c = draws_on S n c && eqb (S.ty c) 8

-- granted of the rows that draw on row n; of the relinquish records among them
unfoldable pub drawn : Col → ℕ → ℕ
drawn S n = sum_to S.used (λ c. gate (draws_on S n c) (S.g c))

unfoldable pub relinquished : Col → ℕ → ℕ
relinquished S n = sum_to S.used (λ c. gate (relinquish_on S n c) (S.g c))

-- granted of the relinquish records of the redirects that draw on row n
unfoldable pub taken_off : Col → ℕ → ℕ
taken_off S n = sum_to S.used (λ c. gate (redirect_on S n c) (relinquished S c))

-- granted is what the row holds and what is drawn on it, a redirect's less that of its own relinquish records
abbrev pub RowSum : Col → ℕ → Type 0
RowSum S n = S.g n + taken_off S n ≡ S.a n + S.d n + S.r n + drawn S n
