use Rattle.std.proofs.Common.{List, ℕ, ◌+◌, ◌∙◌, ap}
use Rattle.words.specs.Lists.{zip2}
use Rattle.rules.specs.Layout.{add_hours}
use Rattle.layout.proofs.Lent.{hours_lent, hours_back}
use Rattle.layout.proofs.rows.add_hours.Goals as goal

pub returns : goal.returns
unfolding add_hours
returns c = hours_back c.args.r.now c.requires.room.long c.hours_at-from.ensures c.add.new.dst _ c.add.auto.dst (c.add.ensures ∙ ap (λ (x : List ℕ). zip2 ◌+◌ x c.args.v.now) (hours_lent c.args.r.now c.requires.room.long c.hours_at-from.ensures))
