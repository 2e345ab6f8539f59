use Rattle.contest.proofs.Turns.{Playing}
use Rattle.contest.proofs.playing.play.Given as goal

abbrev pub invariant-loop-i : goal.invariant-loop-i
invariant-loop-i l = Playing l.challenger l.holder l.present l.moves l.replies l.last l.i
