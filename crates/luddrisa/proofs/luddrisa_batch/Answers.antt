-- `luddrisa_batch`: with too few places for the answers nothing is done; else every action is, one after another.
use Rattle.std.proofs.Common.{◌≡◌, false, length, arith, add-one, ◌∙◌, sym}
use lib.Dec.{ltb}
use borrow.Author.Tests.{lt-ltb, le-ltb}
use Rattle.rules.proofs.Batches.{too_few_number, too_few_ledger, too_few_postings, too_few_answers, together_number_lem, together_ledger, together_postings, together_answers_lem}
use Rattle.luddrisa.proofs.Fold.{more, led_ended, psts_ended, out_ended}
use Rattle.luddrisa.proofs.luddrisa_batch.Goals as goal

pub returns-then-answers-actions-clause-number : goal.returns-then-answers-actions-clause-number
returns-then-answers-actions-clause-number c = c.from.ensures ∙ sym (too_few_number _ _ (lt-ltb _ _ c.if-answers-actions.true))

pub returns-then-answers-actions-clause-ledger : goal.returns-then-answers-actions-clause-ledger
returns-then-answers-actions-clause-ledger c = sym (too_few_ledger _ _ _ _ _ (lt-ltb _ _ c.if-answers-actions.true))

pub returns-then-answers-actions-clause-postings : goal.returns-then-answers-actions-clause-postings
returns-then-answers-actions-clause-postings c = sym (too_few_postings _ _ _ _ _ (lt-ltb _ _ c.if-answers-actions.true))

pub returns-then-answers-actions-clause-answers : goal.returns-then-answers-actions-clause-answers
returns-then-answers-actions-clause-answers c = sym (too_few_answers _ _ _ _ _ (lt-ltb _ _ c.if-answers-actions.true))

pub loop-i-preserved : goal.loop-i-preserved
loop-i-preserved c = rw add-one (more c.loop-i.invariant c.loop-i-test.true c.step.ensures.answer c.step.ensures.ledger c.step.ensures.postings)

all_done : (c : goal.After-loop-i) → c.loop-i.i ≡ length c.args.actions.now
all_done c = omega (arith, c.loop-i.invariant.within, c.loop-i-test.false)

enough : (c : goal.After-loop-i) → ltb (length c.args.answers.now) (length c.args.actions.now) ≡ false
enough c = le-ltb _ _ c.if-answers-actions.false

pub returns-clause-number : goal.returns-clause-number
returns-clause-number c = sym (together_number_lem _ _ (enough c))

pub returns-clause-ledger : goal.returns-clause-ledger
returns-clause-ledger c =
    led_ended c.loop-i.invariant (all_done c) ∙ sym (together_ledger _ _ _ _ _ _ c.sound_both-sound.ensures (enough c))

pub returns-clause-postings : goal.returns-clause-postings
returns-clause-postings c =
    psts_ended c.loop-i.invariant (all_done c) ∙ sym (together_postings _ _ _ _ _ _ c.sound_both-sound.ensures (enough c))

pub returns-clause-answers : goal.returns-clause-answers
returns-clause-answers c =
    out_ended c.loop-i.invariant (all_done c) c.if-answers-actions.false
    ∙ sym (together_answers_lem _ _ _ _ _ _ c.sound_both-sound.ensures (enough c))
