-- Sums of a function over the rows 0 .. m - 1, and a number behind a test.
use Rattle.std.specs.Prelude.{ℕ, zero, suc, ◌+◌, Bool, true, false, eqb}

abbrev pub gate : Bool → ℕ → ℕ
gate true x = x
gate false x = 0

abbrev pub choose : Bool → ℕ → ℕ → ℕ
choose true x y = x
choose false x y = y

-- the function f with v at c
unfoldable pub upd : (ℕ → ℕ) → ℕ → ℕ → ℕ → ℕ
upd f c v i = choose (eqb i c) v (f i)

unfoldable pub sum_to : ℕ → (ℕ → ℕ) → ℕ
sum_to zero f = 0
sum_to (suc m) f = sum_to m f + f m
