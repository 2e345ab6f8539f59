use Rattle.rules.specs.Sound.{sound_head}
use Rattle.rules.proofs.Picks.{stops, goes}
use Rattle.layout.proofs.Soundness.{short_head}
use Rattle.layout.proofs.sound.sound_head.Goals as goal

pub returns-then-l-lt-HEAD_WORDS : goal.returns-then-l-lt-HEAD_WORDS
returns-then-l-lt-HEAD_WORDS c = short_head c.args.l.now c.if-l-lt-HEAD_WORDS.true

pub returns-then-is_good : goal.returns-then-is_good
unfolding sound_head
returns-then-is_good c = goes _ c.is_good.ensures c.if-is_good.true (simp (c.is_long.ensures, c.size.ensures.rows, c.size.ensures.hours))

pub returns-else-is_good : goal.returns-else-is_good
unfolding sound_head
returns-else-is_good c = stops _ c.is_good.ensures c.if-is_good.false
