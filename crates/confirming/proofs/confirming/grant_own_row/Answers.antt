use Rattle.std.proofs.Common.{arith}
use Rattle.confirming.proofs.Laws.{copied_word}
use Rattle.confirming.proofs.confirming.grant_own_row.Goals as goal

pub flag_raised-requires : goal.flag_raised-requires
flag_raised-requires c = (omega arith, omega arith, grind (arith, copied_word c.requires.r_len c.requires.sound_words c.hours_at-to.ensures c.hours_at-from.ensures 7))
