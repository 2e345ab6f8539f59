-- What is answered, by the kind of the action.
use mathlib.Core.Path.{◌≡◌, refl, sym, ap, subst, ◌∙◌}
use mathlib.Core.Logic.{◌≢◌}
use mathlib.Core.Bool.{Bool, true, false, ◌||◌}
use mathlib.Core.List.{List}
use Prim.Native.Nat.{ℕ, ◌+◌, ◌-◌, ◌≤◌}
use native.Mathlib.Omega.{arith}
use borrow.Author.Tests.{eq-eqb, ne_eqb}
use lib.Dec.{eqb}
use Rattle.rules.specs.Pick.{pick}
use Rattle.rules.specs.Layout.{used, row_of, row, status}
use Rattle.rules.specs.Checks.{named, named_row}
use Rattle.rules.specs.Act.{refusal, subject, status_before, acceptance, answered}
use Rattle.rules.specs.Tally.{counts}
use Rattle.rules.specs.declared.Action.{Action}
use Rattle.rules.specs.declared.Answer.{Answer}
use Rattle.rules.proofs.TallyLaws.{counted}

-- the answer of an accepted action about reference r
pub record AnswerOf (answer : Answer) (r old new : ℕ) : Type 0 where
  pub number : answer.number ≡ 0
  pub reference : answer.reference ≡ r
  pub before : answer.before ≡ old
  pub after : answer.after ≡ new

pub answer_counts : {answer : Answer} {r before after : ℕ} → AnswerOf answer r before after → 1 ≤ r → counts answer ≡ true
answer_counts {answer} {r} A least = counted answer A.number (omega (arith, A.reference))

module _ (H : ℕ) (l w : List ℕ) (a : Action) (next : List ℕ) (clock : a.kind ≢ 7) (post : a.kind ≢ 8) where
  is_accepted : answered H l w a next ≡ acceptance H l w a next
  unfolding answered
  is_accepted =
      ap (λ (b : Bool). pick (b || eqb a.kind 8) (refusal 0) (acceptance H l w a next)) (ne_eqb a.kind 7 clock)
      ∙ ap (λ (b : Bool). pick b (refusal 0) (acceptance H l w a next)) (ne_eqb a.kind 8 post)

  -- of an action that names its row
  pub named_answer : a.kind ≢ 1 → AnswerOf (answered H l w a next) a.reference (status (named_row H l a)) (status (row H next (named a)))
  unfolding subject status_before acceptance
  named_answer ne =
      let no : eqb a.kind 1 ≡ false = ne_eqb a.kind 1 ne in
      let is : subject l a ≡ a.reference = ap (λ (b : Bool). pick b (used l + 1) a.reference) no in
      subst (λ (x : Answer). AnswerOf x a.reference (status (named_row H l a)) (status (row H next (named a)))) (sym is_accepted)
      (record {
        number = refl;
        reference = is;
        before = ap (λ (b : Bool). pick b 0 (status (named_row H l a))) no;
        after = ap (λ (r : ℕ). status (row H next (row_of r))) is;
      })

  -- of a submission
  pub submit_answer : a.kind ≡ 1 → AnswerOf (answered H l w a next) (used l + 1) 0 (status (row H next (used l)))
  unfolding subject status_before acceptance
  submit_answer e =
      let yes : eqb a.kind 1 ≡ true = eq-eqb a.kind 1 e in
      let is : subject l a ≡ used l + 1 = ap (λ (b : Bool). pick b (used l + 1) a.reference) yes in
      let last : used l + 1 - 1 ≡ used l = omega arith in
      subst (λ (x : Answer). AnswerOf x (used l + 1) 0 (status (row H next (used l)))) (sym is_accepted)
      (record {
        number = refl;
        reference = is;
        before = ap (λ (b : Bool). pick b 0 (status (named_row H l a))) yes;
        after = ap (λ (r : ℕ). status (row H next (row_of r))) is ∙ ap (λ (n : ℕ). status (row H next n)) last;
      })
