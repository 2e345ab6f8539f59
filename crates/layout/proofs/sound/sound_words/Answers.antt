use Rattle.rules.specs.Sound.{sound_words}
use Rattle.layout.proofs.sound.sound_words.Goals as goal

pub returns : goal.returns
unfolding sound_words
returns c =
    simp (c.is_from.ensures, c.is_from-2.ensures, c.is_entity.ensures, c.is_entity-2.ensures, c.is_from-3.ensures, c.all_zero.ensures, c.own-r.ensures.is)
