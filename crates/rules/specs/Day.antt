-- A day at the desk: fourteen actions, with their profiles in one list of words, after the postings of two paths.
use Rattle.std.specs.Prelude.{◌≡◌, List, [], ◌∷◌, ℕ, length}
use Rattle.rules.specs.Layout.{row, available, displaced}
use Rattle.rules.specs.Create.{fresh}
use Rattle.rules.specs.Paths.{unposted}
use Rattle.rules.specs.Calls.{Run, run_actions, answers}
use Rattle.rules.specs.declared.Action.{Action}
use Rattle.rules.specs.declared.Answer.{Answer}

-- actor, type, seller, related, start, stop, flags, price, offset and length of the profile, path
abbrev pub submits : ℕ → ℕ → ℕ → ℕ → ℕ → ℕ → ℕ → ℕ → ℕ → ℕ → ℕ → Action
submits actor reqtype seller related start stop flags price offset length path =
    record { kind = 1; actor = actor; reference = 0; reqtype = reqtype; status = 0; seller = seller; related = related; start = start; stop = stop; flags = flags; price = price; time = 0; offset = offset; length = length; path = path }

-- kind, actor, reference, status, price; no profile
abbrev pub names : ℕ → ℕ → ℕ → ℕ → ℕ → Action
names kind actor reference status price =
    record { kind = kind; actor = actor; reference = reference; reqtype = 0; status = status; seller = 0; related = 0; start = 0; stop = 0; flags = 0; price = price; time = 0; offset = 0; length = 0; path = 0 }

-- the provider posts the path's first hours, so many
abbrev pub posts : ℕ → ℕ → Action
posts hours path =
    record { kind = 8; actor = 1; reference = 0; reqtype = 0; status = 0; seller = 0; related = 0; start = 0; stop = hours; flags = 0; price = 0; time = 0; offset = 0; length = hours; path = path }

abbrev pub line : ℕ → ℕ → ℕ → ℕ → ℕ → Answer
line n r s t m = record { number = n; reference = r; before = s; after = t; moved = m }

unfoldable pub day_ledger : List ℕ
day_ledger = fresh 8 4 1 3600 0

unfoldable pub day_words : List ℕ
day_words = 100 ∷ 100 ∷ 100 ∷ 100 ∷ 40 ∷ 60 ∷ 40 ∷ 50 ∷ 1 ∷ 20 ∷ []

unfoldable pub day_actions : List Action
day_actions =
    submits 10 1 1 0 0 4 0 500 0 4 1
    ∷ names 2 1 1 10 500
    ∷ names 3 10 1 13 500
    ∷ submits 20 3 10 1 1 3 1 700 4 2 1
    ∷ names 2 10 2 10 700
    ∷ submits 10 5 1 1 2 4 1 0 6 2 2
    ∷ names 2 1 3 10 0
    ∷ submits 30 3 10 1 2 3 1 0 8 1 1
    ∷ names 2 10 4 10 0
    ∷ names 2 1 1 15 0
    ∷ submits 10 8 1 3 3 4 1 0 9 1 2
    ∷ names 2 1 5 10 0
    ∷ names 2 10 2 16 0
    ∷ names 2 1 3 16 0
    ∷ []

unfoldable pub day_answers : List Answer
day_answers =
    line 0 1 0 1 0
    ∷ line 0 1 1 10 0
    ∷ line 0 1 10 13 400
    ∷ line 0 2 0 1 0
    ∷ line 0 2 1 13 100
    ∷ line 0 3 0 1 0
    ∷ line 0 3 1 13 90
    ∷ line 0 4 0 1 0
    ∷ line 14 0 0 0 0
    ∷ line 0 1 13 15 210
    ∷ line 0 5 0 1 0
    ∷ line 0 5 1 13 20
    ∷ line 0 2 13 16 100
    ∷ line 15 0 0 0 0
    ∷ []

-- paths 1 and 2 are posted at 100 beforehand
unfoldable pub day_posted : Run
day_posted = run_actions day_ledger (unposted 4) day_words (posts 4 1 ∷ posts 4 2 ∷ [])

unfoldable pub day_run : Run
day_run = run_actions day_posted.ledger day_posted.postings day_words day_actions

-- the two postings are accepted; the table, and the words it leaves
abbrev pub DayAtTheDesk : Type 0
DayAtTheDesk =
    (answers day_posted.done ≡ line 0 0 0 0 0 ∷ line 0 0 0 0 0 ∷ [])
    × (answers day_run.done ≡ day_answers)
    × (displaced 4 (row 4 day_run.ledger 0) ≡ 100 ∷ 100 ∷ 60 ∷ 70 ∷ [])
    × (available 4 (row 4 day_run.ledger 2) ≡ 40 ∷ 30 ∷ [])
