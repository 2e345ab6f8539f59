use Rattle.unwinding.specs.Marks.{marked}
use Rattle.unwinding.proofs.GivenBack.{Backing}
use Rattle.unwinding.proofs.rows.Rows.sum_back.Given as goal

abbrev pub invariant-loop-j : goal.invariant-loop-j
invariant-loop-j l = Backing l.self.ledger.size.hours l.self.ledger.words.now (marked l.marks) l.m l.sums l.j
