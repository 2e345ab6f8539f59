use Rattle.std.proofs.Common.{◌∙◌}
use Rattle.rules.specs.Megawatts.{displaced_row}
use Rattle.megawatts.proofs.Laws.{displace_room, displace_splice}
use Rattle.megawatts.proofs.moving.displace_row.Goals as goal

pub add_part-requires-clause-count_value : goal.add_part-requires-clause-count_value
add_part-requires-clause-count_value c =
    displace_room c.args.r.now c.requires.spanned.long c.hours_at-to.ensures c.hours_at-from.ensures c.requires.r_value

pub returns : goal.returns
unfolding displaced_row
returns c =
    let e = c.add_part.ensures ∙ displace_splice c.args.r.now c.requires.spanned.long c.hours_at-to.ensures c.hours_at-from.ensures in
    cc (c.clear_hours.ensures, e)
