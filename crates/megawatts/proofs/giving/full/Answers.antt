use Rattle.rules.proofs.Over.{full}
use Rattle.megawatts.proofs.giving.full.Goals as goal

pub returns : goal.returns
unfolding full
returns c = cc (c.has_room.ensures, c.returns_to.ensures, c.own.ensures.is)
