-- What each action keeps, every list of calls keeps.
use mathlib.Core.Path.{◌≡◌, refl, sym, ap, subst, ◌∙◌}
use mathlib.Core.Bool.{Bool, true, false}
use mathlib.Core.List.{List, [], ◌∷◌, ◌++◌, append_assoc, append-nil}
use Prim.Native.Nat.{ℕ}
use Rattle.rules.specs.Pick.{pick}
use Rattle.rules.specs.Act.{outcome}
use Rattle.rules.specs.Contest.{displacing, loses}
use Rattle.rules.specs.Calls.{Done, Run, Call, one, together, contest, doing, run_actions, too_few, together_run, contest_run, run_call, joined, run_calls, settled_call, settled_calls, actions_alone}
use Rattle.rules.specs.FirstRefusal.{SettledAlike}
use Rattle.rules.specs.Tally.{Tally, feed, tally_from}
use Rattle.rules.specs.declared.Action.{Action}
use Rattle.rules.specs.declared.Contest.{Contest}
use Rattle.rules.proofs.Contested.{contest_by}

-- a tally of two lists, one after the other
tally_join : (t : Tally) (ds es : List Done) → tally_from t (ds ++ es) ≡ tally_from (tally_from t ds) es
unfolding tally_from
tally_join t [] es = refl
tally_join t (d ∷ ds) es = tally_join (feed d.action d.words d.answer t) ds es

-- the actions of a contest: the displacement where the row is lost, else none
unfoldable pub contest_actions : List ℕ → List ℕ → Contest → List ℕ → List ℕ → List Action
contest_actions l ps k moves replies = pick (loses l ps k moves replies) (displacing k ∷ []) []

-- it is the run of them
pub contest_actions_lem : (l ps : List ℕ) (k : Contest) (moves replies : List ℕ) → contest_run l ps k moves replies ≡ run_actions l ps [] (contest_actions l ps k moves replies)
unfolding contest_run contest_actions run_actions doing
contest_actions_lem l ps k moves replies =
    contest_by l ps k moves replies
    (λ lost left.
    record { ledger = left.ledger; postings = left.postings; done = pick lost (record { action = displacing k; words = []; answer = left.answer } ∷ []) [] }
    ≡ run_actions l ps [] (pick lost (displacing k ∷ []) []))
    refl
    (λ _. refl)

-- ---- calls without their contests
run_append : (cs ds : List Call) (l ps : List ℕ) → run_calls l ps (cs ++ ds) ≡ joined (run_calls l ps cs) (run_calls (run_calls l ps cs).ledger (run_calls l ps cs).postings ds)
unfolding run_calls joined
run_append [] ds l ps = refl
run_append (c ∷ cs) ds l ps =
    ap (λ (rest : Run). joined (run_call l ps c) rest) (run_append cs ds (run_call l ps c).ledger (run_call l ps c).postings)
    ∙ ap (λ (done : List Done). record { ledger = end.ledger; postings = end.postings; done = done }) (sym (append_assoc (run_call l ps c).done rest.done end.done))
  where
    rest : Run
    rest = run_calls (run_call l ps c).ledger (run_call l ps c).postings cs

    end : Run
    end = run_calls rest.ledger rest.postings ds

call_alone : (l ps : List ℕ) (c : Call) → run_calls l ps (c ∷ []) ≡ run_call l ps c
unfolding run_calls joined
call_alone l ps c = ap (λ (done : List Done). record { ledger = (run_call l ps c).ledger; postings = (run_call l ps c).postings; done = done }) (append-nil (run_call l ps c).done)

settled_call_lem : (l ps : List ℕ) (c : Call) → run_calls l ps (settled_call l ps c) ≡ run_call l ps c
unfolding settled_call run_calls run_call joined contest_actions run_actions doing
settled_call_lem l ps (one w a) = call_alone l ps (one w a)
settled_call_lem l ps (together w xs places) = call_alone l ps (together w xs places)
settled_call_lem l ps (contest k moves replies) = go (loses l ps k moves replies) ∙ sym (contest_actions_lem l ps k moves replies)
  where
    go : (b : Bool) → run_calls l ps (pick b (one [] (displacing k) ∷ []) []) ≡ run_actions l ps [] (pick b (displacing k ∷ []) [])
    go true = call_alone l ps (one [] (displacing k))
    go false = refl

settled_run : (cs : List Call) (l ps : List ℕ) → run_calls l ps (settled_calls l ps cs) ≡ run_calls l ps cs
unfolding settled_calls run_calls
settled_run [] l ps = refl
settled_run (c ∷ cs) l ps =
    run_append (settled_call l ps c) (settled_calls (run_call l ps c).ledger (run_call l ps c).postings cs) l ps
    ∙ ap (λ (first : Run). joined first (run_calls first.ledger first.postings (settled_calls (run_call l ps c).ledger (run_call l ps c).postings cs))) (settled_call_lem l ps c)
    ∙ ap (λ (rest : Run). joined (run_call l ps c) rest) (settled_run cs (run_call l ps c).ledger (run_call l ps c).postings)

-- no contest is among them
alone : (cs : List Call) (l ps : List ℕ) → actions_alone (settled_calls l ps cs) ≡ true
unfolding settled_calls settled_call actions_alone
alone [] l ps = refl
alone (one w a ∷ cs) l ps = alone cs (run_call l ps (one w a)).ledger (run_call l ps (one w a)).postings
alone (together w xs places ∷ cs) l ps = alone cs (run_call l ps (together w xs places)).ledger (run_call l ps (together w xs places)).postings
alone (contest k moves replies ∷ cs) l ps = go (loses l ps k moves replies) (alone cs (run_call l ps c).ledger (run_call l ps c).postings)
  where
    c : Call
    c = contest k moves replies

    rest : List Call
    rest = settled_calls (run_call l ps (contest k moves replies)).ledger (run_call l ps (contest k moves replies)).postings cs

    go : (b : Bool) → actions_alone rest ≡ true → actions_alone (pick b (one [] (displacing k) ∷ []) [] ++ rest) ≡ true
    go true e = e
    go false e = e

pub settled_alike : SettledAlike
settled_alike l ps calls = (alone calls l ps, settled_run calls l ps)

module _ (P : List ℕ → List ℕ → Tally → Type 0) (step : (l ps w : List ℕ) (a : Action) (t : Tally) → P l ps t → P (outcome l ps w a).ledger (outcome l ps w a).postings (feed a w (outcome l ps w a).answer t)) where
  -- P of what a run leaves
  After : Tally → Run → Type 0
  After t run = P run.ledger run.postings (tally_from t run.done)

  actions_keep : (xs : List Action) (l ps w : List ℕ) (t : Tally) → P l ps t → After t (run_actions l ps w xs)
  unfolding After run_actions doing tally_from
  actions_keep [] l ps w t p = p
  actions_keep (a ∷ xs) l ps w t p =
      actions_keep xs (outcome l ps w a).ledger (outcome l ps w a).postings w (feed a w (outcome l ps w a).answer t) (step l ps w a t p)

  nothing_keeps : (l ps : List ℕ) (t : Tally) → P l ps t → After t (record { ledger = l; postings = ps; done = [] })
  unfolding After tally_from
  nothing_keeps l ps t p = p

  call_keeps : (c : Call) (l ps : List ℕ) (t : Tally) → P l ps t → After t (run_call l ps c)
  unfolding run_call together_run
  call_keeps (one w a) l ps t p = actions_keep (a ∷ []) l ps w t p
  call_keeps (together w xs places) l ps t p = go (too_few xs places)
    where
      go : (b : Bool) → After t (pick b (record { ledger = l; postings = ps; done = [] }) (run_actions l ps w xs))
      go true = nothing_keeps l ps t p
      go false = actions_keep xs l ps w t p
  call_keeps (contest k moves replies) l ps t p =
      subst (λ (run : Run). After t run) (sym (contest_actions_lem l ps k moves replies)) (actions_keep (contest_actions l ps k moves replies) l ps [] t p)

  pub calls_keep : (cs : List Call) (l ps : List ℕ) (t : Tally) → P l ps t → P (run_calls l ps cs).ledger (run_calls l ps cs).postings (tally_from t (run_calls l ps cs).done)
  unfolding After run_calls joined tally_from
  calls_keep [] l ps t p = p
  calls_keep (c ∷ cs) l ps t p =
      subst (λ (u : Tally). P rest.ledger rest.postings u)
      (sym (tally_join t (run_call l ps c).done rest.done))
      (calls_keep cs (run_call l ps c).ledger (run_call l ps c).postings (tally_from t (run_call l ps c).done) (call_keeps c l ps t p))
    where
      rest : Run
      rest = run_calls (run_call l ps c).ledger (run_call l ps c).postings cs
