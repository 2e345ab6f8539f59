use mathlib.Core.Path.{◌∙◌}
use Rattle.words.proofs.Laws.{filling_start, filling_turn}
use Rattle.opening.proofs.links.link_draws.Goals as goal

pub loop-n-init : goal.loop-n-init
loop-n-init c = filling_start _ _

pub loop-n-preserved : goal.loop-n-preserved
loop-n-preserved c =
    filling_turn c.loop-n.invariant c.loop-n-test.true _ (c.draw_link.ensures ∙ cc (c.reservation.ensures.words, c.reservation.ensures.n))
