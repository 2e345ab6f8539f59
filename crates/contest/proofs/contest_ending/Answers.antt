use Rattle.contest.proofs.Laws.{ending_says}
use Rattle.contest.proofs.contest_ending.Goals as goal

pub returns : goal.returns
returns c = ending_says _ _ _ _ _ c.play.ensures c.present_term.ensures
