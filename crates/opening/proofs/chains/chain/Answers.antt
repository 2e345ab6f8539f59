use mathlib.Core.Path.{refl}
use Rattle.opening.proofs.Chained.{chaining_start, chaining_turn}
use Rattle.opening.proofs.chains.chain.Goals as goal

pub loop-n-init : goal.loop-n-init
loop-n-init c = chaining_start c.requires.unchained c.requires.lasts_value

pub loop-n-preserved : goal.loop-n-preserved
loop-n-preserved c =
    chaining_turn c.loop-n.invariant c.loop-n-test.true (c.requires.unchained.low c.loop-n.n c.loop-n-test.true) refl refl
