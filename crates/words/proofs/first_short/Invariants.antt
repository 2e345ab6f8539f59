use Rattle.std.proofs.Common.{◌-◌, length, get_or, ltb}
use Rattle.words.proofs.Laws.{Searching}
use Rattle.words.proofs.first_short.Given as goal

abbrev pub invariant-loop-i : goal.invariant-loop-i
invariant-loop-i l = Searching (length l.a) (λ k. ltb (get_or l.a k 0) (get_or l.b k 0)) l.i

abbrev pub decreases-loop-i : goal.decreases-loop-i
decreases-loop-i l = length l.a - l.i
