use Rattle.words.proofs.Laws.{Filling}
use Rattle.opening.specs.Chains.{root_link}
use Rattle.opening.proofs.links.link_roots.Given as goal

abbrev pub invariant-loop-n : goal.invariant-loop-n
invariant-loop-n l = Filling l.fn.links (λ k. root_link l.ledger.size.hours l.ledger.words.now k) l.n-end l.links l.n
