-- Opening: a call that only reads, and tests the balance by the rows alone. It is one of whole numbers: what the text
-- takes off on one side is added on the other.
use Rattle.std.specs.Prelude.{◌≡◌, Bool, true, ◌&&◌, ◌||◌, not, List, ℕ, ◌+◌, eqb}
use Rattle.words.specs.Lists.{word_at, all_below, sum_below}
use Rattle.rules.specs.Pick.{pick, ◌gives◌else◌}
use Rattle.rules.specs.Numbers.{granted_part, available_part, displaced_part, reduced_part, RELINQUISH}
use Rattle.rules.specs.Layout.{hours, used, row_of, row, reqtype, status, related, hour_at}
use Rattle.rules.specs.Create.{good_numbers, fresh}
use Rattle.rules.specs.Sound.{original, redirect, sound}
use Rattle.rules.specs.Calls.{Call, run_calls}
use Rattle.rules.specs.Balance.{live, descends}

-- granted of row n in hour h; what the row holds itself: available, displaced and reduced
unfoldable pub granted_of : ℕ → List ℕ → ℕ → ℕ → ℕ
granted_of H l h n = word_at (row H l n) (hour_at H granted_part h)

unfoldable pub held_of : ℕ → List ℕ → ℕ → ℕ → ℕ
held_of H l h n =
    word_at (row H l n) (hour_at H available_part h) + word_at (row H l n) (hour_at H displaced_part h)
    + word_at (row H l n) (hour_at H reduced_part h)

-- row n is at 13 or 15; row c is such a row, and related to row n
unfoldable pub stands : ℕ → List ℕ → ℕ → Bool
stands H l n = live (status (row H l n))

unfoldable pub draws_on : ℕ → List ℕ → ℕ → ℕ → Bool
draws_on H l n c = stands H l c && eqb (related (row H l c)) (n + 1)

-- it is a redirect; it is a relinquish record
unfoldable pub redirect_on : ℕ → List ℕ → ℕ → ℕ → Bool
redirect_on H l n c = draws_on H l n c && redirect (reqtype (row H l c))

unfoldable pub relinquish_on : ℕ → List ℕ → ℕ → ℕ → Bool
relinquish_on H l n c = draws_on H l n c && eqb (reqtype (row H l c)) RELINQUISH

-- granted of the rows at 13 or 15 that are related to row n; of the type 8 rows among them
unfoldable pub drawn : ℕ → List ℕ → ℕ → ℕ → ℕ
drawn H l h n = sum_below (used l) (λ c. pick (draws_on H l n c) (granted_of H l h c) 0)

unfoldable pub relinquished : ℕ → List ℕ → ℕ → ℕ → ℕ
relinquished H l h n = sum_below (used l) (λ c. pick (relinquish_on H l n c) (granted_of H l h c) 0)

-- of each redirect that is related to row n, the granted of its own type 8 rows
unfoldable pub taken_off : ℕ → List ℕ → ℕ → ℕ → ℕ
taken_off H l h n = sum_below (used l) (λ c. pick (redirect_on H l n c) (relinquished H l h c) 0)

-- granted against available, displaced, reduced and what is drawn, a redirect's less the granted of its own type 8 rows
unfoldable pub row_balances : ℕ → List ℕ → ℕ → ℕ → Bool
row_balances H l n h = eqb (granted_of H l h n + taken_off H l h n) (held_of H l h n + drawn H l h n)

-- row n is row o or descends from it
unfoldable pub in_tree : ℕ → List ℕ → ℕ → ℕ → Bool
in_tree H l o n = descends (λ r. related (row H l (row_of r))) (o + 1) (n + 1)

-- granted of an original against what it and all rows descended from it hold, at any status
unfoldable pub tree_balances : ℕ → List ℕ → ℕ → ℕ → Bool
tree_balances H l o h = eqb (granted_of H l h o) (sum_below (used l) (λ n. pick (in_tree H l o n) (held_of H l h n) 0))

-- tested is the equation of each row at 13 or 15 but relinquish records, and the tree sum of each original at 13 or 15
unfoldable pub has_equation : ℕ → List ℕ → ℕ → Bool
has_equation H l n = stands H l n && not (eqb (reqtype (row H l n)) RELINQUISH)

unfoldable pub has_tree : ℕ → List ℕ → ℕ → Bool
has_tree H l n = stands H l n && original (reqtype (row H l n))

-- in every hour
unfoldable pub balanced_row : ℕ → List ℕ → ℕ → Bool
balanced_row H l n = not (has_equation H l n) || all_below H (λ h. row_balances H l n h)

unfoldable pub balanced_tree : ℕ → List ℕ → ℕ → Bool
balanced_tree H l n = not (has_tree H l n) || all_below H (λ h. tree_balances H l n h)

unfoldable pub unbalanced : List ℕ → Bool
unbalanced l =
    not (all_below (used l) (λ n. balanced_row (hours l) l n) && all_below (used l) (λ n. balanced_tree (hours l) l n))

-- 20 where some hour does not balance, after 1
unfoldable pub open_number : List ℕ → ℕ
open_number l =
    not (sound l) gives 1 else
    unbalanced l gives 20 else
    0

-- what a list of calls from a fresh ledger leaves always opens, whatever is posted
abbrev pub AlwaysOpens : Type 0
AlwaysOpens =
    (R H provider window base : ℕ) → good_numbers R H provider window base ≡ true →
    (ps : List ℕ) (calls : List Call) → open_number (run_calls (fresh R H provider window base) ps calls).ledger ≡ 0
