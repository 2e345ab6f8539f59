use Rattle.rules.proofs.SoundFacts.{good_sizes}
use Rattle.layout.proofs.create.Creation.size.Goals as goal

pub invariant_of-result : goal.invariant_of-result
invariant_of-result c = record { in_range = good_sizes _ _ _ _ _ c.requires }
