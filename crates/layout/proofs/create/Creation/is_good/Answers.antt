use Rattle.rules.specs.Create.{good_numbers}
use Rattle.layout.proofs.create.Creation.is_good.Goals as goal

pub returns : goal.returns
unfolding good_numbers
returns c = simp (c.is_from.ensures, c.is_from-2.ensures, c.is_entity.ensures, c.is_from-3.ensures)
