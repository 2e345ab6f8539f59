use Rattle.layout.proofs.Lent.{hours_back}
use Rattle.layout.proofs.rows.set_hours.Goals as goal

pub returns : goal.returns
returns c = hours_back c.args.r.now c.requires.long c.hours_at-from.ensures c.copy.new.dst _ c.copy.auto.dst c.copy.ensures
