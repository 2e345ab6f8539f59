-- Use of a path in the hour of a column.
use Rattle.std.specs.Prelude.{◌≡◌, Bool, ◌&&◌, ◌||◌, ℕ, suc, ◌-◌, ◌≤◌, eqb}
use Rattle.column.specs.Sum.{gate, sum_to}
use Rattle.column.specs.Column.{Col}

-- the row n is CONFIRMED and of path x
abbrev pub holds_on : Col → ℕ → ℕ → Bool
holds_on S x n = eqb (S.st n) 13 && eqb (S.path n) x

-- the row n counts to path x: it is CONFIRMED, and of that path or a type 5 related to such a row
abbrev pub counts_on : Col → ℕ → ℕ → Bool
counts_on S x n = eqb (S.st n) 13 && (eqb (S.path n) x || eqb (S.ty n) 5 && holds_on S x (S.ref n - 1))

-- the same, where the rows that confirmed names are CONFIRMED
abbrev pub counts_by : Col → (ℕ → Bool) → ℕ → ℕ → Bool
counts_by S confirmed x n = confirmed n && (eqb (S.path n) x || eqb (S.ty n) 5 && (confirmed (S.ref n - 1) && eqb (S.path (S.ref n - 1)) x))

abbrev pub counted : Col → ℕ → ℕ → ℕ
counted S x n = gate (counts_on S x n) (S.a n)

unfoldable pub use_of : Col → ℕ → ℕ
use_of S x = sum_to S.used (λ n. counted S x n)

-- use is within what is posted, B x for path x; paths count from 1
pub record Within (B : ℕ → ℕ) (S : Col) : Type 0 where
  pub use_of_lem : (x : ℕ) → 1 ≤ x → use_of S x ≤ B x

-- what is tested of the column after: the path of row c, and that of the row it is related to
pub record Tested (B : ℕ → ℕ) (S S' : Col) (c : ℕ) : Type 0 where
  pub own : use_of S' (S.path c) ≤ B (S.path c)
  pub above : (p : ℕ) → S.ref c ≡ suc p → use_of S' (S.path p) ≤ B (S.path p)
