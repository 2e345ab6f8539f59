use Rattle.std.proofs.Common.{List, ℕ, ◌-◌, ◌∙◌, ap}
use Rattle.words.specs.Lists.{zip2}
use Rattle.rules.specs.Layout.{less_hours}
use Rattle.layout.proofs.Lent.{hours_lent, hours_back}
use Rattle.layout.proofs.rows.less_hours.Goals as goal

pub returns : goal.returns
unfolding less_hours
returns c = hours_back c.args.r.now c.requires.room.long c.hours_at-from.ensures c.subtract.new.dst _ c.subtract.auto.dst (c.subtract.ensures ∙ ap (λ (x : List ℕ). zip2 ◌-◌ x c.args.v.now) (hours_lent c.args.r.now c.requires.room.long c.hours_at-from.ensures))
