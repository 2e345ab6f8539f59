-- The rule of the table of days: one test, computed over the whole table, and the rule at each entry.
-- Assumes nothing.
use mathlib.Core.Path.{◌≡◌, refl, sym, ap, ◌∙◌}
use mathlib.Core.Bool.{Bool, true, ◌&&◌}
use mathlib.Core.List.{List, [], ◌∷◌}
use Prim.Native.Nat.{ℕ, zero, suc, ◌+◌, ◌<◌}
use native.Mathlib.Nat.{le_of_suc-le-suc, not-suc-le-zero, add-suc, add-zero, zero-add, suc-add}
use borrow.Author.Tests.{eqb-true}
use lib.Dec.{eqb}
use lib.ListN.{length, get_or}
use Rattle.stamp.specs.Calendar.{days_in, days_before}
use Rattle.stamp.proofs.Picks.{and_left, and_right}

-- the list has d, and then at each place the entry before with the days of its month, from the month m on
unfoldable pub follows : ℕ → ℕ → List ℕ → Bool
follows m d [] = true
follows m d (x ∷ xs) = eqb x d && follows (suc m) (d + days_in m) xs

-- the rule at each entry
pub entry_rule : (xs : List ℕ) (m d : ℕ) → follows m d xs ≡ true → d ≡ days_before m → (k : ℕ) → k < length xs → get_or xs k 0 ≡ days_before (m + k)
unfolding follows days_before
entry_rule [] m d t e k h = absurd (not-suc-le-zero h)
entry_rule (x ∷ xs) m d t e zero h = eqb-true x d (and_left (eqb x d) _ t) ∙ e ∙ ap days_before (sym (add-zero m))
entry_rule (x ∷ xs) m d t e (suc k) h =
    entry_rule xs (suc m) (d + days_in m) (and_right (eqb x d) _ t) (ap (λ (y : ℕ). y + days_in m) e) k (le_of_suc-le-suc h)
    ∙ ap days_before (suc-add m k ∙ sym (add-suc m k))

-- a list that follows the calendar from the first month on has the days before each month
pub table_rule : (xs : List ℕ) → follows 0 0 xs ≡ true → (k : ℕ) → k < length xs → get_or xs k 0 ≡ days_before k
unfolding days_before
table_rule xs t k h = entry_rule xs 0 0 t refl k h ∙ ap days_before (zero-add k)
