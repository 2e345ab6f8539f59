-- What every list of calls from a fresh ledger keeps: the limits of paths, and the 100,000 of a word.
use Rattle.std.specs.Prelude.{◌≡◌, true, List, ℕ, ◌≤◌, ◌<◌}
use Rattle.rules.specs.Numbers.{most_path}
use Rattle.rules.specs.Layout.{hours}
use Rattle.rules.specs.Create.{good_numbers, fresh}
use Rattle.rules.specs.Paths.{posted_in, unposted, use_of}
use Rattle.rules.specs.Act.{common_number, kind_number, kind_after, last_number}
use Rattle.rules.specs.Calls.{Run, Call, run_calls}
use Rattle.rules.specs.declared.Action.{Action}

-- use never exceeds the posting, for every path and hour
abbrev pub UseWithin : Run → Type 0
UseWithin run =
    (x h : ℕ) → 1 ≤ x → x ≤ most_path → h < hours run.ledger →
    use_of (hours run.ledger) run.ledger x h ≤ posted_in (hours run.ledger) run.postings x h

-- Path limits: with all postings 0 at first
abbrev pub PathLimits : Type 0
PathLimits =
    (R H provider window base : ℕ) → good_numbers R H provider window base ≡ true →
    (calls : List Call) → UseWithin (run_calls (fresh R H provider window base) (unposted H) calls)

-- The 1 that is judged last never comes on what a list leaves: whatever is posted, an action that passes the checks of
-- its kind carries no available, displaced or reduced word over 100,000
abbrev pub NeverOver : Type 0
NeverOver =
    (R H provider window base : ℕ) → good_numbers R H provider window base ≡ true →
    (ps : List ℕ) (calls : List Call) (w : List ℕ) (a : Action) →
    let l = (run_calls (fresh R H provider window base) ps calls).ledger in
    common_number true a ≡ 0 → kind_number (hours l) l w a ≡ 0 →
    last_number (hours l) (kind_after (hours l) l w a) ≡ 0
