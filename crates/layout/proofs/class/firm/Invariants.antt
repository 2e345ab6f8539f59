use Rattle.std.proofs.Common.{◌≡◌}
use Rattle.rules.specs.Sound.{firm}
use Rattle.layout.proofs.class.firm.Given as goal

abbrev pub invariant-loop-at : goal.invariant-loop-at
invariant-loop-at l =
    (l.at.size ≡ l.row.size) × ((l.at.words.now ≡ l.row.words.now) × (firm l.row.size.hours l.row.words.now l.at.n ≡ firm l.row.size.hours l.row.words.now l.row.n))

abbrev pub decreases-loop-at : goal.decreases-loop-at
decreases-loop-at l = l.at.n
