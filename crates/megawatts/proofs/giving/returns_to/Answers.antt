use Rattle.rules.specs.Moves.{is_confirmed}
use Rattle.rules.specs.Megawatts.{returns_to}
use Rattle.rules.proofs.Picks.{choice}
use Rattle.megawatts.proofs.giving.returns_to.Goals as goal

pub returns-then-r-eq-CONFIRMED : goal.returns-then-r-eq-CONFIRMED
unfolding returns_to is_confirmed
returns-then-r-eq-CONFIRMED c = search choice

pub returns : goal.returns
unfolding returns_to is_confirmed
returns c = search choice
