use Rattle.unwinding.specs.Marks.{marked}
use Rattle.unwinding.specs.Uses.{Freeing}
use Rattle.unwinding.proofs.rows.Rows.free_rows.Given as goal

abbrev pub invariant-loop-m : goal.invariant-loop-m
invariant-loop-m l = Freeing l.self.ledger.size.hours l.self.ledger.words.now (marked l.marks) l.x l.n l.m l.sums
