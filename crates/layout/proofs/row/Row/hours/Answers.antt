use Rattle.std.proofs.Common.{ℕ, List, ap, arith, ◌∙◌}
use Rattle.rules.specs.Layout.{hours_of}
use Rattle.layout.specs.Profiles.{part_of}
use Rattle.layout.proofs.Lent.{hours_lent, hours_lent_length}
use Rattle.layout.proofs.row.Row.hours.Goals as goal

pub slice_bounds-result-end : goal.slice_bounds-result-end
slice_bounds-result-end c = omega (arith, c.own.ensures.long, c.hours_at-from.ensures.fits)

pub returns : goal.returns
returns c =
    let lent = hours_lent c.own.result.now c.own.ensures.long c.hours_at-from.ensures in
    record {
      is = lent ∙ ap (λ (r : List ℕ). hours_of c.args.self.size.hours (part_of c.args.p) c.args.start c.args.count r) c.own.ensures.is;
      long = hours_lent_length c.own.result.now c.own.ensures.long c.hours_at-from.ensures;
    }
