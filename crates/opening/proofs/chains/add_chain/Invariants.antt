use Rattle.rules.specs.Layout.{used}
use Rattle.opening.proofs.Added.{Walking}
use Rattle.opening.proofs.chains.add_chain.Given as goal

abbrev pub invariant-loop-m : goal.invariant-loop-m
invariant-loop-m g l =
    let ledger = l.ledger in
    Walking (used ledger.words.now) ledger.size.hours (λ h c. g.T.Test.share ledger.size.hours ledger.words.now h c) l.befores l.fn.sums l.last l.sums l.m

abbrev pub decreases-loop-m : goal.decreases-loop-m
decreases-loop-m g l = l.m
