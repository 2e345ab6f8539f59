use Rattle.paths.proofs.Walk.{Walking}
use Rattle.paths.proofs.adding.Walk.add_each.Given as goal

abbrev pub invariant-loop-m : goal.invariant-loop-m
invariant-loop-m l = Walking l.self.ledger.words.now l.self.ledger.size.hours l.self.change l.x l.sums l.m
