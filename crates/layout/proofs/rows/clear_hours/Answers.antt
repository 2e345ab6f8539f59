use Rattle.std.proofs.Common.{◌∙◌, ap}
use Rattle.words.specs.Lists.{noughts}
use Rattle.rules.specs.Layout.{clear_hours}
use Rattle.layout.proofs.Lent.{hours_lent_length, hours_back}
use Rattle.layout.proofs.rows.clear_hours.Goals as goal

pub returns : goal.returns
unfolding clear_hours
returns c = hours_back c.args.r.now c.requires.r_len c.hours_at-from.ensures c.clear.new.dst _ c.clear.auto.dst (c.clear.ensures ∙ ap noughts (hours_lent_length c.args.r.now c.requires.r_len c.hours_at-from.ensures))
