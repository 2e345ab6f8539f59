-- Demand 3, of a column.
use Rattle.std.specs.Prelude.{◌≡◌, ◌≢◌, ◌⊎◌, Bool, true, false, ℕ, zero, suc, ◌+◌, eqb, ℤ, pos, negsuc, ◌+ℤ◌}
use Rattle.column.specs.Sum.{gate, sum_to}
use Rattle.column.specs.Column.{Col, either}

-- CONFIRMED or DISPLACED
abbrev pub Live : ℕ → Type 0
Live s = (s ≡ 13) ⊎ (s ≡ 15)

abbrev pub NotNegative : ℤ → Type 0
NotNegative (pos n) = Unit {0}
NotNegative (negsuc n) = ⊥

-- granted is what is available, displaced, resold, redirected, transferred, relinquished and reduced
abbrev pub Whole : Col → ℕ → Type 0
Whole S n = pos (S.g n) ≡ pos (S.a n) +ℤ pos (S.d n) +ℤ S.out 0 n +ℤ S.out 1 n +ℤ S.out 2 n +ℤ S.out 3 n +ℤ S.red n

-- none of the five of the tally is negative
pub record Five (S : Col) (n : ℕ) : Type 0 where
  pub resold : NotNegative (S.out 0 n)
  pub redirected : NotNegative (S.out 1 n)
  pub transferred : NotNegative (S.out 2 n)
  pub relinquished : NotNegative (S.out 3 n)
  pub reduced : NotNegative (S.red n)

-- the row n is o or descends from it; a reference is at most the row's own number, so n steps up are enough
abbrev pub up : (ℕ → Bool) → ℕ → Bool
up f zero = false
up f (suc p) = f p

unfoldable pub within : (ℕ → ℕ) → ℕ → ℕ → ℕ → Bool
within ref zero o n = eqb n o
within ref (suc k) o n = either (eqb n o) (up (λ p. within ref k o p) (ref n))

abbrev pub inside : (ℕ → ℕ) → ℕ → ℕ → Bool
inside ref o n = within ref n o n

abbrev pub gateℤ : Bool → ℤ → ℤ
gateℤ true x = x
gateℤ false x = pos 0

unfoldable pub sumℤ : ℕ → (ℕ → ℤ) → ℤ
sumℤ zero f = pos 0
sumℤ (suc m) f = sumℤ m f +ℤ f m

-- granted of an original is what is available, displaced and reduced in it and in all that descends from it
abbrev pub Tree : Col → ℕ → Type 0
Tree S o = pos (S.g o) ≡ sumℤ S.used (λ n. gateℤ (inside S.ref o n) (pos (S.a n) +ℤ pos (S.d n) +ℤ S.red n))

-- the same by the rows' reduced
abbrev pub StoredTree : Col → ℕ → Type 0
StoredTree S o = S.g o ≡ sum_to S.used (λ n. gate (inside S.ref o n) (S.a n + S.d n + S.r n))

-- of every row: its reduced word is the tally's reduced, and none of the five is negative; then the two balances
pub record Demand3 (S : Col) : Type 0 where
  pub stored : (n : ℕ) → S.red n ≡ pos (S.r n)
  pub five : (n : ℕ) → Five S n
  pub whole : (n : ℕ) → Live (S.st n) → S.ty n ≢ 8 → Whole S n
  pub tree : (o : ℕ) → Live (S.st o) → (S.ty o ≡ 1) ⊎ (S.ty o ≡ 2) → Tree S o
  pub stored_tree : (o : ℕ) → Live (S.st o) → (S.ty o ≡ 1) ⊎ (S.ty o ≡ 2) → StoredTree S o

-- descent as the paper has it: a row is inside o's tree where it is o, or refers to a row that is
pub data From (ref : ℕ → ℕ) (o : ℕ) : ℕ → Type 0 where
  itself : From ref o o
  below : {n p : ℕ} → ref n ≡ suc p → From ref o p → From ref o n
