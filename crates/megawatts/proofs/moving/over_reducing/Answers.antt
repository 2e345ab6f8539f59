use Rattle.rules.specs.Layout.{span}
use Rattle.rules.proofs.Over.{over_reducing}
use Rattle.megawatts.proofs.moving.over_reducing.Goals as goal

pub returns : goal.returns
unfolding over_reducing span
returns c = cc (c.has_room.ensures, c.start.ensures, c.requires)
