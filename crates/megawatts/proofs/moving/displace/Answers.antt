use Rattle.std.proofs.Common.{List, ℕ, ap, ◌∙◌}
use Rattle.rules.specs.Megawatts.{displaced_row, displace}
use Rattle.rules.proofs.Over.{over_displacing}
use Rattle.layout.proofs.Lent.{row_lent, row_back}
use Rattle.layout.proofs.Placed.{sized, spanned_as}
use Rattle.megawatts.proofs.moving.displace.Goals as goal

pub displace_row-requires : goal.displace_row-requires
displace_row-requires c =
    let e = row_lent (sized c.requires.placed) c.row_at-at.ensures c.row_words.ensures in
    record { spanned = spanned_as c.requires.placed e; r_value = ap (λ (r : List ℕ). over_displacing c.args.size.hours r) e ∙ c.requires.n_value }

pub returns : goal.returns
unfolding displace
returns c =
    row_back (sized c.requires.placed) c.row_at-at.ensures c.row_words.ensures (displaced_row c.args.size.hours) c.displace_row.new.r c.displace_row.auto.r c.displace_row.ensures
