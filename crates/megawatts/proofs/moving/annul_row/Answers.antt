use Rattle.rules.specs.Megawatts.{annulled_row}
use Rattle.megawatts.proofs.moving.annul_row.Goals as goal

pub returns : goal.returns
unfolding annulled_row
returns c = cc c.clear_hours.ensures
