use Rattle.rules.specs.Layout.{span}
use Rattle.rules.specs.Sound.{sound_profile}
use Rattle.layout.proofs.sound.sound_profile.Goals as goal

pub returns : goal.returns
unfolding sound_profile span
returns c =
    simp (c.all_zero.ensures, c.all_within.ensures, c.all_zero-2.ensures, c.hours.ensures.is, c.hours-2.ensures.is, c.hours-3.ensures.is, c.word-start.ensures, c.word-stop.ensures)
