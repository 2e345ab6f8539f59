use Rattle.rules.specs.Act.{outcome}
use Rattle.ledger.proofs.act.Goals as goal

pub returns : goal.returns
unfolding outcome
returns c = rw (← c.sound_both-sound.ensures) c.step.ensures
