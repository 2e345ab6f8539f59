-- Opening at work: expected numbers worked out from the text of request P6, by hand; shown by computation.
use mathlib.Core.Path.{◌≡◌, refl}
use mathlib.Core.List.{List, [], ◌∷◌}
use Prim.Native.Nat.{ℕ, ◌+◌}
use lib.ListN.{set, take}
use Rattle.rules.specs.Rules.{rules}
use Rattle.rules.specs.Numbers.{granted_part, available_part, displaced_part, reduced_part}
use Rattle.rules.specs.Layout.{row_base, hour_at}
use Rattle.rules.specs.Calls.{Run, run_actions}
use Rattle.rules.specs.Open.{open_number}
use Rattle.rules.specs.Day.{day_words, day_actions, day_ledger, day_posted, day_run}

-- of four hours: the ledger with the word v at place k of row n, or in hour h of its profile p
word : ℕ → ℕ → ℕ → List ℕ → List ℕ
word n k v l = set l (row_base 4 n + k) v

hour : ℕ → ℕ → ℕ → ℕ → List ℕ → List ℕ
hour n p h v l = word n (hour_at 4 p h) v l

-- the day at the desk: row 0 is an original of 100 at 15, displaced 100, 100, 60, 70; row 1 its annulled resale; row 2
-- its non-firm redirect at 13, granted 40 and 50 in hours 2 and 3, available 40 and 30; row 3 a resale at 1; row 4 a
-- relinquish record of row 2, of 20 in hour 3
left : List ℕ
left = day_run.ledger

day_opens : (open_number day_ledger ≡ 0) × (open_number left ≡ 0)
unfolding rules left
day_opens = (refl, refl)

-- one word changed: of row 0 a displaced or a granted word, of row 2 an available word, of row 4 the granted word
one_word : (open_number (hour 0 displaced_part 0 99 left) ≡ 20) × (open_number (hour 0 granted_part 3 101 left) ≡ 20) × (open_number (hour 2 available_part 2 41 left) ≡ 20) × (open_number (hour 4 granted_part 3 19 left) ≡ 20)
unfolding rules left hour word
one_word = (refl, refl, refl, refl)

-- a megawatt in another hour; in another row of the tree, which its sum does not see
moved : (open_number (hour 0 displaced_part 0 99 (hour 0 displaced_part 1 101 left)) ≡ 20) × (open_number (hour 0 displaced_part 2 59 (hour 2 available_part 2 41 left)) ≡ 20)
unfolding rules left hour word
moved = (refl, refl)

-- the tree alone sees a word in a row at 1 or 16; granted of a row at 16 is in no sum
tree_alone : (open_number (hour 3 available_part 2 1 left) ≡ 20) × (open_number (hour 1 reduced_part 1 1 left) ≡ 20) × (open_number (hour 1 granted_part 1 41 left) ≡ 0)
unfolding rules left hour word
tree_alone = (refl, refl, refl)

-- a relinquish record counts at 15 as at 13; one of more than its redirect was granted balances nothing
records : (open_number (word 4 1 15 left) ≡ 0) × (open_number (hour 4 granted_part 3 60 (hour 2 available_part 3 0 (hour 0 displaced_part 3 100 left))) ≡ 20)
unfolding rules left hour word
records = (refl, refl)

-- where the redirect is at 16 neither it nor its records count: with all of row 0 displaced the ledger opens, and with
-- 20 more in hour 3, as if the record were taken off still, it does not
dead_redirect :
    (open_number (word 2 1 16 (hour 2 available_part 2 0 (hour 2 available_part 3 0 (hour 0 displaced_part 2 100 (hour 0 displaced_part 3 100 left))))) ≡ 0)
    × (open_number (word 2 1 16 (hour 2 available_part 2 0 (hour 2 available_part 3 0 (hour 0 displaced_part 2 100 (hour 0 displaced_part 3 120 left))))) ≡ 20)
unfolding rules left hour word
dead_redirect = (refl, refl)

-- 1 comes before 20: a broken zero word, a slice that is too short, no words
unsound_first : (open_number (word 0 15 1 (hour 0 displaced_part 0 99 left)) ≡ 1) × (open_number (take 100 left) ≡ 1) × (open_number [] ≡ 1)
unfolding rules left hour word
unsound_first = (refl, refl, refl)

-- row 0, confirmed with 100, is reduced by 10, 0, 20, 30
cut : Run
cut =
    run_actions (run_actions day_posted.ledger day_posted.postings day_words (take 3 day_actions)).ledger day_posted.postings (10 ∷ 0 ∷ 20 ∷ 30 ∷ [])
    (record { kind = 5; actor = 1; reference = 1; reqtype = 0; status = 0; seller = 0; related = 0; start = 0; stop = 0; flags = 0; price = 0; time = 0; offset = 0; length = 4; path = 0 } ∷ [])

reduced_opens : (open_number cut.ledger ≡ 0) × (open_number (hour 0 reduced_part 2 19 cut.ledger) ≡ 20) × (open_number (hour 0 reduced_part 1 1 cut.ledger) ≡ 20)
unfolding rules cut hour word
reduced_opens = (refl, refl, refl)
