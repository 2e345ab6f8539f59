use lib.ListN.{length}
use Rattle.words.proofs.Laws.{Filling}
use Rattle.opening.specs.Chains.{draw_link}
use Rattle.opening.proofs.links.link_draws.Given as goal

abbrev pub invariant-loop-n : goal.invariant-loop-n
invariant-loop-n l = Filling l.fn.links (λ k. draw_link l.ledger.size.hours l.ledger.words.now k) (length l.fn.links) l.links l.n
