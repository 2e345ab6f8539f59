use Rattle.unwinding.proofs.Carried.{Following}
use Rattle.unwinding.proofs.carrying.Carrying.follow.Given as goal

abbrev pub invariant-loop-r : goal.invariant-loop-r
invariant-loop-r l =
    let c = l.self in
    Following c.rows.ledger.size.hours c.rows.ledger.words.now c.postings.now c.refs.now l.path.number l.sums l.marks l.r-index
