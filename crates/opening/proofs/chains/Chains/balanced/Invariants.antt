use Rattle.words.proofs.Laws.{Passing}
use Rattle.rules.specs.Layout.{used}
use Rattle.opening.specs.Shares.{balanced_by}
use Rattle.opening.proofs.chains.Chains.balanced.Given as goal

abbrev pub invariant-loop-n : goal.invariant-loop-n
invariant-loop-n g l =
    let ledger = l.self.ledger in
    let t = g.T.Test in
    Passing (used ledger.words.now) (λ k. balanced_by t.is_tested t.link t.own t.share ledger.size.hours ledger.words.now k) l.n-end l.n
