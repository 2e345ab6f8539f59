use Rattle.rules.proofs.SoundFacts.{sound_facts}
use Rattle.layout.proofs.Soundness.{head_of_sound}
use Rattle.layout.proofs.sound.size_of.Goals as goal

pub head_size-requires : goal.head_size-requires
head_size-requires c = head_of_sound _ c.requires

pub returns : goal.returns
returns c = record { sound = sound_facts c.requires; rows = c.head_size.ensures.rows; hours = c.head_size.ensures.hours }
