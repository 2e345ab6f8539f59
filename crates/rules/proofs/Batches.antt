-- Actions one after another, and handed over together, where soundness was tested once, before the first: they are the run of the rules.
use mathlib.Core.Path.{◌≡◌, refl, sym, ap, ◌∙◌, subst}
use mathlib.Core.Bool.{Bool, true, false}
use mathlib.Core.List.{List, [], ◌∷◌, ◌++◌}
use Prim.Native.Nat.{ℕ, suc}
use lib.Dec.{ltb}
use lib.ListN.{length, drop}
use Rattle.rules.specs.Act.{common_number, number, refused, step, sound_both, outcome}
use Rattle.rules.specs.Calls.{Run, doing, run_actions, answers, too_few, together_run, together_number, together_answers}
use Rattle.rules.specs.declared.Action.{Action}
use Rattle.rules.specs.declared.Answer.{Answer}
use Rattle.rules.proofs.Picks.{hit, skip}
use Rattle.rules.proofs.Soundness.{sound_step}

-- the ledger and the postings after actions in turn, and the answers to them, each action told that both are sound, or
-- that they are not
unfoldable pub ledgers_by : Bool → List ℕ → List ℕ → List ℕ → List Action → List ℕ
ledgers_by b l ps w [] = l
ledgers_by b l ps w (a ∷ xs) = ledgers_by b (step b l ps w a).ledger (step b l ps w a).postings w xs

unfoldable pub postings_by : Bool → List ℕ → List ℕ → List ℕ → List Action → List ℕ
postings_by b l ps w [] = ps
postings_by b l ps w (a ∷ xs) = postings_by b (step b l ps w a).ledger (step b l ps w a).postings w xs

unfoldable pub replies_by : Bool → List ℕ → List ℕ → List ℕ → List Action → List Answer
replies_by b l ps w [] = []
replies_by b l ps w (a ∷ xs) = (step b l ps w a).answer ∷ replies_by b (step b l ps w a).ledger (step b l ps w a).postings w xs

pub length_replies : (b : Bool) (l ps w : List ℕ) (xs : List Action) → length (replies_by b l ps w xs) ≡ length xs
unfolding replies_by
length_replies b l ps w [] = refl
length_replies b l ps w (a ∷ xs) = ap suc (length_replies b (step b l ps w a).ledger (step b l ps w a).postings w xs)

-- an action told that they are unsound is refused, and both stay
unsound_stays : (l ps w : List ℕ) (a : Action) → sound_both (step false l ps w a).ledger (step false l ps w a).postings ≡ sound_both l ps
unfolding step number common_number refused
unsound_stays l ps w a = refl

-- what was tested of the ledger and the postings holds of what an action leaves
pub tested_after : (b : Bool) (l ps w : List ℕ) (a : Action) → b ≡ sound_both l ps → b ≡ sound_both (step b l ps w a).ledger (step b l ps w a).postings
tested_after true l ps w a e = sym (subst (λ (b : Bool). sound_both (step b l ps w a).ledger (step b l ps w a).postings ≡ true) (sym e) (sound_step l ps w a (sym e)))
tested_after false l ps w a e = e ∙ sym (unsound_stays l ps w a)

-- so the run of the rules is had from one test
pub run_ledger : (b : Bool) (l ps w : List ℕ) (xs : List Action) → b ≡ sound_both l ps → (run_actions l ps w xs).ledger ≡ ledgers_by b l ps w xs
unfolding run_actions doing outcome ledgers_by
run_ledger b l ps w [] e = refl
run_ledger b l ps w (a ∷ xs) e =
    ap (λ (t : Bool). (run_actions (step t l ps w a).ledger (step t l ps w a).postings w xs).ledger) (sym e)
    ∙ run_ledger b (step b l ps w a).ledger (step b l ps w a).postings w xs (tested_after b l ps w a e)

pub run_postings : (b : Bool) (l ps w : List ℕ) (xs : List Action) → b ≡ sound_both l ps → (run_actions l ps w xs).postings ≡ postings_by b l ps w xs
unfolding run_actions doing outcome postings_by
run_postings b l ps w [] e = refl
run_postings b l ps w (a ∷ xs) e =
    ap (λ (t : Bool). (run_actions (step t l ps w a).ledger (step t l ps w a).postings w xs).postings) (sym e)
    ∙ run_postings b (step b l ps w a).ledger (step b l ps w a).postings w xs (tested_after b l ps w a e)

pub run_answers : (b : Bool) (l ps w : List ℕ) (xs : List Action) → b ≡ sound_both l ps → answers (run_actions l ps w xs).done ≡ replies_by b l ps w xs
unfolding run_actions doing outcome answers replies_by
run_answers b l ps w [] e = refl
run_answers b l ps w (a ∷ xs) e =
    ap (λ (t : Bool). (step t l ps w a).answer ∷ answers (run_actions (step t l ps w a).ledger (step t l ps w a).postings w xs).done) (sym e)
    ∙ ap (λ (rs : List Answer). (step b l ps w a).answer ∷ rs) (run_answers b (step b l ps w a).ledger (step b l ps w a).postings w xs (tested_after b l ps w a e))

-- ---- handed over together
-- with fewer answer places than actions: nothing is done
pub too_few_number : (xs : List Action) (places : ℕ) → ltb places (length xs) ≡ true → together_number xs places ≡ 17
unfolding together_number too_few
too_few_number xs places short = sym (hit _ _ _ short)

pub too_few_ledger : (l ps w : List ℕ) (xs : List Action) (places : ℕ) → ltb places (length xs) ≡ true → (together_run l ps w xs places).ledger ≡ l
unfolding together_run too_few
too_few_ledger l ps w xs places short = ap (λ (r : Run). r.ledger) (sym (hit _ _ _ short))

pub too_few_postings : (l ps w : List ℕ) (xs : List Action) (places : ℕ) → ltb places (length xs) ≡ true → (together_run l ps w xs places).postings ≡ ps
unfolding together_run too_few
too_few_postings l ps w xs places short = ap (λ (r : Run). r.postings) (sym (hit _ _ _ short))

pub too_few_answers : (l ps w : List ℕ) (xs : List Action) (out : List Answer) → ltb (length out) (length xs) ≡ true → together_answers l ps w xs out ≡ out
unfolding together_answers too_few
too_few_answers l ps w xs out short = sym (hit _ _ _ short)

-- with places enough: all are done, and the spare places are as they were
pub together_number_lem : (xs : List Action) (places : ℕ) → ltb places (length xs) ≡ false → together_number xs places ≡ 0
unfolding together_number too_few
together_number_lem xs places enough = sym (skip _ _ _ _ enough refl)

pub together_ledger : (b : Bool) (l ps w : List ℕ) (xs : List Action) (places : ℕ) → b ≡ sound_both l ps → ltb places (length xs) ≡ false → (together_run l ps w xs places).ledger ≡ ledgers_by b l ps w xs
unfolding together_run too_few
together_ledger b l ps w xs places e enough = ap (λ (r : Run). r.ledger) (sym (skip _ _ _ _ enough refl)) ∙ run_ledger b l ps w xs e

pub together_postings : (b : Bool) (l ps w : List ℕ) (xs : List Action) (places : ℕ) → b ≡ sound_both l ps → ltb places (length xs) ≡ false → (together_run l ps w xs places).postings ≡ postings_by b l ps w xs
unfolding together_run too_few
together_postings b l ps w xs places e enough = ap (λ (r : Run). r.postings) (sym (skip _ _ _ _ enough refl)) ∙ run_postings b l ps w xs e

pub together_answers_lem : (b : Bool) (l ps w : List ℕ) (xs : List Action) (out : List Answer) → b ≡ sound_both l ps → ltb (length out) (length xs) ≡ false
    → together_answers l ps w xs out ≡ replies_by b l ps w xs ++ drop (length xs) out
unfolding together_answers too_few
together_answers_lem b l ps w xs out e enough = sym (skip _ _ _ _ enough (ap (λ (rs : List Answer). rs ++ drop (length xs) out) (sym (run_answers b l ps w xs e))))
