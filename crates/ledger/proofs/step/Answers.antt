use Rattle.rules.proofs.Refused.{no_zero}
use Rattle.std.proofs.Common.{refl, ap, ◌∙◌}
use Rattle.rules.specs.Act.{refusal}
use Rattle.ledger.proofs.Laws.{accept_asks, step_accepts, step_refuses}
use Rattle.ledger.proofs.step.Goals as goal

pub accept-requires : goal.accept-requires
accept-requires c =
    accept_asks c.args.sound c.args.l.now c.args.postings.now c.args.words.now c.args.a c.in-Ok.ensures.number refl c.requires

pub returns-in-Ok : goal.returns-in-Ok
returns-in-Ok c =
    let e = c.accept.ensures in
    let s = step_accepts c.args.sound c.args.l.now c.args.postings.now c.args.words.now c.args.a c.in-Ok.ensures.number refl e.answer e.ledger e.postings in
    record { answer = s.0; ledger = s.1.0; postings = s.1.1 }

pub returns-in-Err : goal.returns-in-Err
returns-in-Err c =
    let s = step_refuses c.args.sound c.args.l.now c.args.postings.now c.args.words.now c.args.a c.in-Err.ensures.number (no_zero _) (c.refused.ensures ∙ ap refusal c.from.ensures) in
    record { answer = s.0; ledger = s.1.0; postings = s.1.1 }
