-- Annulments in order at work, by computation: the chain of the day at the desk, a transfer, and a redirect whose old path
-- has been sold.
use mathlib.Core.Path.{◌≡◌, refl}
use mathlib.Core.Bool.{Bool, true, false}
use mathlib.Core.List.{List, [], ◌∷◌}
use Prim.Native.Nat.{ℕ}
use lib.ListN.{take}
use Rattle.rules.specs.Rules.{rules}
use Rattle.rules.specs.Calls.{Run, run_actions}
use Rattle.rules.specs.Create.{fresh}
use Rattle.rules.specs.Paths.{unposted}
use Rattle.rules.specs.Day.{submits, names, posts, day_words, day_actions, day_posted, day_run}
use Rattle.rules.specs.Annulments.{annuls_in_order}

-- the day before its tenth action: 1 is CONFIRMED, the resale 2 and the redirect 3 came from it, and 4 is an open
-- preconfirmed resale
morning : Run
morning = run_actions day_posted.ledger day_posted.postings day_words (take 9 day_actions)

unwinds : List ℕ → Bool
unwinds refs = annuls_in_order morning.ledger morning.postings refs

-- what came from row 1 goes first, in any order
right_order : (unwinds (2 ∷ 3 ∷ 1 ∷ []) ≡ true) × (unwinds (3 ∷ 4 ∷ 2 ∷ 1 ∷ []) ≡ true) × (unwinds [] ≡ true)
unfolding rules morning unwinds
right_order = (refl, refl, refl)

wrong_order : (unwinds (1 ∷ []) ≡ false) × (unwinds (2 ∷ 1 ∷ 3 ∷ []) ≡ false)
unfolding rules morning unwinds
wrong_order = (refl, refl)

-- a reference twice, or one that is not there, or more than there are rows
twice_or_none : (unwinds (2 ∷ 2 ∷ []) ≡ false) × (unwinds (4 ∷ 2 ∷ 4 ∷ []) ≡ false) × (unwinds (2 ∷ 5 ∷ []) ≡ false) × (unwinds (0 ∷ []) ≡ false)
    × (unwinds (2 ∷ 3 ∷ 4 ∷ 1 ∷ 2 ∷ []) ≡ false)
unfolding rules morning unwinds
twice_or_none = (refl, refl, refl, refl, refl)

-- after the day: the redirect 3 is partly relinquished, the relinquish record 5 stays for good, 1 is DISPLACED and 2
-- ANNULLED
after_the_day : (annuls_in_order day_run.ledger day_run.postings (3 ∷ []) ≡ false) × (annuls_in_order day_run.ledger day_run.postings (5 ∷ []) ≡ false)
    × (annuls_in_order day_run.ledger day_run.postings (1 ∷ []) ≡ false) × (annuls_in_order day_run.ledger day_run.postings (2 ∷ []) ≡ false)
    × (annuls_in_order day_run.ledger day_run.postings (4 ∷ []) ≡ true)
unfolding rules
after_the_day = (refl, refl, refl, refl, refl)

-- words that are no ledger, and postings of the wrong length: no, but for the empty list
unsound : (annuls_in_order [] [] [] ≡ true) × (annuls_in_order [] [] (1 ∷ []) ≡ false) × (annuls_in_order morning.ledger [] (2 ∷ []) ≡ false)
unfolding rules morning
unsound = (refl, refl, refl)

-- 10 has 100 and transferred 40 of it to 20: 10, and not the provider, is the seller of 2
transferred : Run
transferred =
    run_actions (fresh 2 1 1 3600 0) (unposted 1) (100 ∷ 40 ∷ [])
    (posts 1 1
    ∷ submits 10 1 1 0 0 1 1 0 0 1 1 ∷ names 2 1 1 10 0
    ∷ submits 20 6 10 1 0 1 1 0 1 1 1 ∷ names 2 10 2 10 0 ∷ names 4 1 2 0 0
    ∷ [])

by_its_seller : (annuls_in_order transferred.ledger transferred.postings (2 ∷ 1 ∷ []) ≡ true) × (annuls_in_order transferred.ledger transferred.postings (1 ∷ 2 ∷ []) ≡ false)
unfolding rules transferred
by_its_seller = (refl, refl)

-- 100 is posted on paths 1 and 2. 10 has 100 on path 1 and redirected 60 of it to path 2, firm; 20 has the 60 since
redirected : Run
redirected =
    run_actions (fresh 3 1 1 3600 0) (unposted 1) (100 ∷ 60 ∷ [])
    (posts 1 1 ∷ posts 1 2
    ∷ submits 10 1 1 0 0 1 1 0 0 1 1 ∷ names 2 1 1 10 0
    ∷ submits 10 4 1 1 0 1 1 0 1 1 2 ∷ names 2 1 2 10 0
    ∷ submits 20 1 1 0 0 1 1 0 1 1 1 ∷ names 2 1 3 10 0
    ∷ [])

-- the redirect goes back once path 1 has room
room_first :
    (annuls_in_order redirected.ledger redirected.postings (2 ∷ []) ≡ false)
    × (annuls_in_order redirected.ledger redirected.postings (2 ∷ 3 ∷ 1 ∷ []) ≡ false)
    × (annuls_in_order redirected.ledger redirected.postings (3 ∷ 2 ∷ 1 ∷ []) ≡ true)
unfolding rules redirected
room_first = (refl, refl, refl)
