-- The numbers of a second are in range.
use Rattle.std.proofs.Common.{sym, subst}
use Rattle.stamp.specs.Steps.{Ranged}
use Rattle.stamp.proofs.Dates.{at_ranged, at_fields}
use Rattle.stamp.proofs.Zones.{code_below}
use Rattle.stamp.proofs.moment.Moment.at.Goals as goal

pub invariant_of-result : goal.invariant_of-result
invariant_of-result c =
    record {
      ranged = subst Ranged (sym (at_fields _ _ c.requires _ _ c.month_of-month.ensures.is c.days_before.ensures.is)) (at_ranged _ _ c.requires (code_below c.args.zone));
    }
