use Rattle.std.proofs.Common.{sym, ◌∙◌}
use Rattle.rules.specs.Act.{sound_both}
use Rattle.rules.proofs.Picks.{and_stops, goes}
use Rattle.layout.proofs.sound.sound_both.Goals as goal

pub returns-then-not-sound : goal.returns-then-not-sound
unfolding sound_both
returns-then-not-sound c = and_stops _ _ (sym c.sound.ensures ∙ c.if-not-sound.true)

pub size_of-requires : goal.size_of-requires
size_of-requires c = sym c.sound.ensures ∙ c.if-not-sound.false

pub returns : goal.returns
unfolding sound_both
returns c = goes _ c.sound.ensures c.if-not-sound.false (rw (← c.size_of.ensures.hours) c.sound_postings.ensures)
