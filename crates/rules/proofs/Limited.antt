-- Path limits at work: expected answers worked out from the text of request P7, by hand; shown by computation.
use mathlib.Core.Path.{◌≡◌, refl}
use mathlib.Core.List.{List, [], ◌∷◌}
use Prim.Native.Nat.{ℕ}
use lib.ListN.{set}
use Rattle.rules.specs.Rules.{rules}
use Rattle.rules.specs.Create.{fresh}
use Rattle.rules.specs.Paths.{unposted}
use Rattle.rules.specs.Calls.{run_actions, answers}
use Rattle.rules.specs.Day.{submits, names, line}
use Rattle.rules.specs.declared.Action.{Action}
use Rattle.rules.specs.declared.Answer.{Answer}

-- R 8, H 2, provider 1, window 3,600
ledger : List ℕ
ledger = fresh 8 2 1 3600 0

words : List ℕ
words = 100 ∷ 100 ∷ 50 ∷ 50 ∷ 40 ∷ 40 ∷ 60 ∷ 60 ∷ 1 ∷ 1 ∷ 0 ∷ 0 ∷ 100001 ∷ 0 ∷ []

-- kind, actor, path, start, stop, offset of the profile, which has two words
of_kind : ℕ → ℕ → ℕ → ℕ → ℕ → ℕ → Action
of_kind kind actor path start stop offset =
    record { kind = kind; actor = actor; reference = 0; reqtype = 0; status = 0; seller = 0; related = 0; start = start; stop = stop; flags = 0; price = 0; time = 0; offset = offset; length = 2; path = path }

posts : ℕ → ℕ → Action
posts path offset = of_kind 8 1 path 0 2 offset

-- 10 submits, preconfirmed, for both hours, bid 5: type, related, offset of the profile, path
asks : ℕ → ℕ → ℕ → ℕ → Action
asks reqtype related offset path = submits 10 reqtype 1 related 0 2 1 5 offset 2 path

accepts : ℕ → Action
accepts reference = names 2 1 reference 10 5

moves : ℕ → ℕ → Action
moves reference status = names 2 1 reference status 0

actions : List Action
actions =
    of_kind 8 2 1 0 2 0
    ∷ posts 65 0
    ∷ of_kind 8 1 0 0 3 0
    ∷ of_kind 8 1 1 0 3 0
    ∷ posts 1 12
    ∷ posts 1 0
    ∷ posts 2 2
    ∷ asks 1 0 0 0
    ∷ asks 1 0 0 1
    ∷ accepts 1
    ∷ asks 1 0 8 1
    ∷ accepts 2
    ∷ asks 4 1 6 2
    ∷ accepts 3
    ∷ asks 4 1 4 2
    ∷ accepts 4
    ∷ submits 20 3 10 1 0 2 1 5 8 2 2
    ∷ submits 20 3 10 9 0 2 1 5 8 2 2
    ∷ posts 1 2
    ∷ posts 1 6
    ∷ moves 4 16
    ∷ posts 1 0
    ∷ accepts 2
    ∷ moves 4 16
    ∷ moves 2 16
    ∷ moves 4 16
    ∷ asks 5 1 2 2
    ∷ accepts 5
    ∷ posts 1 2
    ∷ moves 1 15
    ∷ posts 1 10
    ∷ posts 2 10
    ∷ of_kind 9 1 1 0 2 0
    ∷ moves 5 16
    ∷ posts 2 10
    ∷ []

expected : List Answer
expected =
    -- not the provider; unknown paths, before the hours; hours; a word over 100,000
    line 3 0 0 0 0
    ∷ line 21 0 0 0 0
    ∷ line 21 0 0 0 0
    ∷ line 6 0 0 0 0
    ∷ line 7 0 0 0 0
    -- paths 1 and 2 are posted at 100 and 50
    ∷ line 0 0 0 0 0
    ∷ line 0 0 0 0 0
    -- an unknown path; 100 on path 1, and 1 more does not fit
    ∷ line 21 0 0 0 0
    ∷ line 0 1 0 1 0
    ∷ line 0 1 1 13 200
    ∷ line 0 2 0 1 0
    ∷ line 22 0 0 0 0
    -- a firm redirect to path 2: 60 do not fit, 40 do, and free 40 on path 1
    ∷ line 0 3 0 1 0
    ∷ line 22 0 0 0 0
    ∷ line 0 4 0 1 0
    ∷ line 0 4 1 13 80
    -- a resale on another path; of a row that is not there it is a 9
    ∷ line 21 0 0 0 0
    ∷ line 9 0 0 0 0
    -- path 1 cannot be posted below its use of 60, but at it; then the redirect cannot come back
    ∷ line 22 0 0 0 0
    ∷ line 0 0 0 0 0
    ∷ line 22 0 0 0 0
    -- nor, at 100, while the 1 MW stands
    ∷ line 0 0 0 0 0
    ∷ line 0 2 1 13 2
    ∷ line 22 0 0 0 0
    ∷ line 0 2 13 16 2
    ∷ line 0 4 13 16 80
    -- a non-firm redirect counts on its old path too
    ∷ line 0 5 0 1 0
    ∷ line 0 5 1 13 100
    ∷ line 22 0 0 0 0
    -- until the row that it came from is displaced
    ∷ line 0 1 13 15 100
    ∷ line 0 0 0 0 0
    ∷ line 22 0 0 0 0
    ∷ line 2 0 0 0 0
    ∷ line 0 5 13 16 100
    ∷ line 0 0 0 0 0
    ∷ []

limits_at_work : answers (run_actions ledger (unposted 2) words actions).done ≡ expected
unfolding rules ledger words of_kind posts asks accepts moves actions expected
limits_at_work = refl

-- Annulling a firm redirect can fail on its old path: what it left there, another original has taken. Once that one is
-- annulled, the redirect can be too
back : List Action
back =
    posts 1 0
    ∷ posts 2 0
    ∷ asks 1 0 0 1
    ∷ accepts 1
    ∷ asks 4 1 0 2
    ∷ accepts 2
    ∷ asks 1 0 0 1
    ∷ accepts 3
    ∷ moves 2 16
    ∷ moves 3 16
    ∷ moves 2 16
    ∷ []

back_answers : List Answer
back_answers =
    -- both paths are posted at 100
    line 0 0 0 0 0
    ∷ line 0 0 0 0 0
    -- an original of 100 on path 1 is redirected to path 2 whole, and another of 100 takes path 1
    ∷ line 0 1 0 1 0
    ∷ line 0 1 1 13 200
    ∷ line 0 2 0 1 0
    ∷ line 0 2 1 13 200
    ∷ line 0 3 0 1 0
    ∷ line 0 3 1 13 200
    -- the redirect cannot come back until that one is annulled
    ∷ line 22 0 0 0 0
    ∷ line 0 3 13 16 200
    ∷ line 0 2 13 16 200
    ∷ []

redirected_back : answers (run_actions ledger (unposted 2) words back).done ≡ back_answers
unfolding rules ledger words of_kind posts asks accepts moves back back_answers
redirected_back = refl

-- 21 comes after 10 and before 12; 22 after 14, and after 15
ordered : List Action
ordered =
    posts 1 0
    ∷ posts 2 2
    ∷ submits 10 1 1 0 0 2 4 5 0 2 0
    ∷ submits 10 1 1 0 0 2 1 100000000 0 2 0
    ∷ asks 1 0 0 1
    ∷ accepts 1
    ∷ asks 4 1 4 2
    ∷ accepts 2
    ∷ asks 4 1 0 2
    ∷ accepts 3
    ∷ submits 20 3 10 2 0 2 1 5 8 2 2
    ∷ names 2 10 4 10 5
    ∷ posts 1 6
    ∷ moves 2 16
    ∷ []

ordered_answers : List Answer
ordered_answers =
    -- paths 1 and 2 are posted at 100 and 50
    line 0 0 0 0 0
    ∷ line 0 0 0 0 0
    -- an unknown path with wrong flags, and with too high a price
    ∷ line 10 0 0 0 0
    ∷ line 21 0 0 0 0
    -- 40 of 100 are redirected to path 2; 100 more are neither there to be taken nor would fit it
    ∷ line 0 1 0 1 0
    ∷ line 0 1 1 13 200
    ∷ line 0 2 0 1 0
    ∷ line 0 2 1 13 80
    ∷ line 0 3 0 1 0
    ∷ line 14 0 0 0 0
    -- a redirect that is resold in part would not fit its old path either
    ∷ line 0 4 0 1 0
    ∷ line 0 4 1 13 2
    ∷ line 0 0 0 0 0
    ∷ line 15 0 0 0 0
    ∷ []

order_of_checks : answers (run_actions ledger (unposted 2) words ordered).done ≡ ordered_answers
unfolding rules ledger words of_kind posts asks accepts moves ordered ordered_answers
order_of_checks = refl

-- postings of the wrong length, or with a word over 100,000: a 1
short_postings : answers (run_actions ledger (unposted 1) words (posts 1 0 ∷ [])).done ≡ line 1 0 0 0 0 ∷ []
unfolding rules ledger words of_kind posts
short_postings = refl

high_postings : answers (run_actions ledger (set (unposted 2) 127 100001) words (posts 1 0 ∷ [])).done ≡ line 1 0 0 0 0 ∷ []
unfolding rules ledger words of_kind posts
high_postings = refl
