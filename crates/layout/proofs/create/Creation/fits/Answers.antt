use Rattle.rules.specs.Create.{creates}
use Rattle.rules.proofs.Picks.{stops, goes}
use Rattle.layout.proofs.create.Creation.fits.Goals as goal

pub returns-then-is_good : goal.returns-then-is_good
unfolding creates
returns-then-is_good c = goes _ c.is_good.ensures c.if-is_good.true (simp (c.is_long.ensures, c.size.ensures.rows, c.size.ensures.hours))

pub returns-else-is_good : goal.returns-else-is_good
unfolding creates
returns-else-is_good c = stops _ c.is_good.ensures c.if-is_good.false
