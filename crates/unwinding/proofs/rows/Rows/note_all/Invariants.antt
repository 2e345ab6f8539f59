use Rattle.unwinding.proofs.Movable.{Moving}
use Rattle.unwinding.proofs.rows.Rows.note_all.Given as goal

abbrev pub invariant-loop-r : goal.invariant-loop-r
invariant-loop-r l = Moving l.self.ledger.size.hours l.self.ledger.words.now l.refs l.moved.gone l.moved.late l.r-index
