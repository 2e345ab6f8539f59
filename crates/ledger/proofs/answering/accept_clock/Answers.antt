use Rattle.std.proofs.Common.{refl}
use Rattle.ledger.proofs.Laws.{five_zeros}
use Rattle.ledger.proofs.answering.accept_clock.Goals as goal

pub returns-clause-answer : goal.returns-clause-answer
returns-clause-answer c = five_zeros c.args.size.hours c.args.l.now c.args.known.request.words.now c.args.known.request.action _ c.requires.kind refl c.refused.ensures
