use Rattle.std.proofs.Common.{◌≡◌, List, ℕ, refl, ap, ◌∙◌, arith, get_or}
use Rattle.rules.specs.Layout.{row, status}
use Rattle.rules.specs.Act.{answered}
use Rattle.layout.proofs.SoundAt.{head_fits}
use Rattle.ledger.proofs.Laws.{passes_next, passes_more, submission_answer}
use Rattle.ledger.proofs.answering.accept_submission.Goals as goal

pub bounds-l-6 : goal.bounds-l-6
bounds-l-6 c = let h = head_fits c.requires.passes.sound in omega (arith, h)

pub invariant_of-entry : goal.invariant_of-entry
invariant_of-entry c = record { sound_at = passes_next c.requires.passes c.apply.ensures }

pub invariant_of-entry-2 : goal.invariant_of-entry-2
invariant_of-entry-2 c = record { in_use = passes_more c.requires.passes c.requires.kind c.apply.ensures }

pub returns-clause-answer : goal.returns-clause-answer
returns-clause-answer c =
    let H : ℕ = c.args.size.hours in
    let is : c.word-status.result ≡ status (row H c.apply.new.l (get_or c.args.l.now 6 0)) = cc (c.word-status.ensures, c.row.ensures.words, c.row.ensures.size, c.row.ensures.n) in
    submission_answer H c.args.l.now c.args.known.request.words.now c.args.known.request.action _ c.requires.kind refl is c.moved.ensures
    ∙ ap (λ (x : List ℕ). answered H c.args.l.now c.args.known.request.words.now c.args.known.request.action x) c.apply.ensures
