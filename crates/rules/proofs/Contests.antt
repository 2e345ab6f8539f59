-- Contests at work: expected answers worked out from the text of request P12, by hand; shown by computation.
use mathlib.Core.Path.{◌≡◌, refl}
use mathlib.Core.List.{List, [], ◌∷◌}
use Prim.Native.Nat.{ℕ}
use lib.ListN.{set}
use Rattle.rules.specs.Rules.{rules}
use Rattle.rules.specs.Layout.{row, available, displaced}
use Rattle.rules.specs.Create.{fresh}
use Rattle.rules.specs.Paths.{unposted}
use Rattle.rules.specs.Contest.{contested}
use Rattle.rules.specs.Calls.{Run, one, contest, run_actions, answers, run_calls}
use Rattle.rules.specs.Day.{submits, names, line}
use Rattle.rules.specs.declared.Action.{Action}
use Rattle.rules.specs.declared.Answer.{Answer}
use Rattle.rules.specs.declared.Contest.{Contest}

-- R 4, H 8, provider 1, window 3,600
ledger : List ℕ
ledger = fresh 4 8 1 3600 0

words : List ℕ
words = 150 ∷ 150 ∷ 150 ∷ 150 ∷ 150 ∷ 150 ∷ 150 ∷ 150 ∷ 100 ∷ 100 ∷ 40 ∷ []

posts : Action
posts = record { kind = 8; actor = 1; reference = 0; reqtype = 0; status = 0; seller = 0; related = 0; start = 0; stop = 8; flags = 0; price = 0; time = 0; offset = 0; length = 8; path = 1 }

-- row 1: firm, hours 2 to 4, 100 MW; row 2: non-firm, hours 4 to 6, 100 MW; row 3: a resale of row 1, hour 2, 40 MW;
-- row 4: firm, hours 2 to 4, not confirmed
beforehand : List Action
beforehand =
    posts
    ∷ submits 10 1 1 0 2 4 1 5 8 2 1
    ∷ names 2 1 1 10 5
    ∷ submits 10 2 1 0 4 6 1 5 8 2 1
    ∷ names 2 1 2 10 5
    ∷ submits 20 3 10 1 2 3 1 5 10 1 1
    ∷ names 2 10 3 10 5
    ∷ submits 10 1 1 0 2 4 0 5 8 2 1
    ∷ []

start : Run
start = run_actions ledger (unposted 8) words beforehand

-- actor, reference, the challenger's greatest term, the holder's
between : ℕ → ℕ → ℕ → ℕ → Contest
between actor reference challenger holder = record { actor = actor; reference = reference; challenger = challenger; holder = holder }

-- hour 3 of row 1 has so much displaced that its 100 MW would pass 100,000
crowded : List ℕ → List ℕ
crowded l = set l 51 99901

-- what a contest answers
asked : List ℕ → List ℕ → Contest → List ℕ → List ℕ → Answer
asked l ps k moves replies = (contested l ps k moves replies).answer

table : List ℕ → List ℕ → List Answer
table l ps =
    asked l ps (between 0 9 0 0) [] []
    ∷ asked l ps (between 10 9 0 0) [] []
    ∷ asked l ps (between 10 1 0 0) [] []
    ∷ asked l ps (between 1 2 0 0) [] []
    ∷ asked l ps (between 1 4 0 0) [] []
    ∷ asked l ps (between 1 1 0 4) (3 ∷ []) (0 ∷ [])
    ∷ asked l ps (between 1 1 9 4) (3 ∷ []) (0 ∷ [])
    ∷ asked l ps (between 1 1 4 9) (3 ∷ []) (0 ∷ [])
    ∷ asked l ps (between 1 1 4 1) (3 ∷ []) (0 ∷ [])
    ∷ asked l ps (between 1 1 4 2) (2 ∷ []) (0 ∷ [])
    ∷ asked l ps (between 1 1 4 2) (5 ∷ []) (0 ∷ [])
    ∷ asked l ps (between 1 1 4 2) (3 ∷ []) (1 ∷ [])
    ∷ asked l ps (between 1 1 8 5) (3 ∷ 5 ∷ 5 ∷ []) (1 ∷ 1 ∷ 0 ∷ [])
    ∷ asked l ps (between 1 1 8 5) (3 ∷ 8 ∷ []) (1 ∷ 1 ∷ [])
    ∷ asked l ps (between 1 1 8 8) (3 ∷ 5 ∷ 8 ∷ 0 ∷ []) (1 ∷ 1 ∷ 1 ∷ [])
    ∷ asked l ps (between 1 1 8 8) (3 ∷ 5 ∷ []) (1 ∷ 7 ∷ 0 ∷ [])
    ∷ asked l ps (between 1 1 8 8) (3 ∷ 5 ∷ []) (1 ∷ [])
    ∷ asked l ps (between 1 1 8 8) [] []
    ∷ asked l ps (between 1 1 8 8) (0 ∷ 9 ∷ []) (0 ∷ [])
    ∷ asked l ps (between 1 1 8 8) (3 ∷ 2 ∷ []) (0 ∷ 1 ∷ [])
    ∷ asked l ps (between 10 3 8 8) (3 ∷ 8 ∷ []) (1 ∷ 0 ∷ [])
    ∷ asked (crowded l) ps (between 1 1 8 8) (3 ∷ []) (0 ∷ [])
    ∷ asked (crowded l) ps (between 1 1 8 8) (3 ∷ 0 ∷ []) (1 ∷ [])
    ∷ asked l [] (between 1 1 8 8) (0 ∷ []) []
    ∷ []

expected : List Answer
expected =
    -- no entity; no such reference; not the seller; not firm; not confirmed
    line 3 0 0 0 0
    ∷ line 4 0 0 0 0
    ∷ line 3 0 0 0 0
    ∷ line 11 0 0 0 0
    ∷ line 11 0 0 0 0
    -- a greatest term that is 0, above H, below the row's two hours
    ∷ line 25 0 0 0 0
    ∷ line 25 0 0 0 0
    ∷ line 25 0 0 0 0
    ∷ line 25 0 0 0 0
    -- a term not longer than the row's hours, above the challenger's greatest, above the holder's; not longer than the
    -- last; a later match above the holder's
    ∷ line 25 0 0 0 0
    ∷ line 25 0 0 0 0
    ∷ line 25 0 0 0 0
    ∷ line 25 0 0 0 0
    ∷ line 25 0 0 0 0
    -- kept; either list runs out; nothing is named; a stop, and moves that are not looked at
    ∷ line 0 1 13 13 0
    ∷ line 0 1 13 13 0
    ∷ line 0 1 13 13 0
    ∷ line 0 1 13 13 0
    ∷ line 0 1 13 13 0
    -- lost, and moves that are not looked at; a resale of a firm row, by its seller
    ∷ line 0 1 13 15 160
    ∷ line 0 3 13 15 40
    -- a displaced word would pass 100,000: lost, and kept
    ∷ line 1 0 0 0 0
    ∷ line 0 1 13 13 0
    -- postings of the wrong length
    ∷ line 1 0 0 0 0
    ∷ []

contests_at_work : table start.ledger start.postings ≡ expected
unfolding rules ledger words posts beforehand start between crowded asked table expected
contests_at_work = refl

-- in a list: a contest that is kept, one that is lost, the same again, and an action
listed : Run
listed =
    run_calls start.ledger start.postings
    (contest (between 1 1 8 8) (3 ∷ 0 ∷ []) (1 ∷ []) ∷ contest (between 1 1 8 8) (3 ∷ []) (0 ∷ []) ∷ contest (between 1 1 8 8) (3 ∷ []) (0 ∷ []) ∷ one words (names 2 10 3 16 0) ∷ [])

contests_in_a_list :
    (answers listed.done ≡ line 0 1 13 15 160 ∷ line 0 3 13 16 40 ∷ [])
    × (displaced 8 (row 8 listed.ledger 0) ≡ 100 ∷ 100 ∷ [])
    × (available 8 (row 8 listed.ledger 0) ≡ 0 ∷ 0 ∷ [])
unfolding rules ledger words posts beforehand start between listed
contests_in_a_list = (refl, refl, refl)
