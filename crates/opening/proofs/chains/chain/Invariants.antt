use Rattle.opening.proofs.Chained.{Chaining}
use Rattle.opening.proofs.chains.chain.Given as goal

abbrev pub invariant-loop-n : goal.invariant-loop-n
invariant-loop-n l = Chaining l.links l.lasts l.befores l.n
