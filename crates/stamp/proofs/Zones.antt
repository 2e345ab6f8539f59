-- Each zone of the code is one of the nine. Assumes nothing.
use Rattle.std.proofs.Common.{ℕ, ◌≤◌, ◌<◌, get_or, refl, arith}
use Rattle.stamp.specs.Stamp.{zone_count, behind}
use Rattle.stamp.specs.Zones.{code}
use Rattle.stamp.proofs.Lists.{most_at}
use Rattle.stamp.specs.declared.zone.Zone.{Zone}
use Rattle.stamp.specs.declared.zone.Zone.TheVariants.{Universal, EasternStandard, EasternDaylight, CentralStandard, CentralDaylight, MountainStandard, MountainDaylight, PacificStandard, PacificDaylight}

pub code_below : (z : Zone) → code z < zone_count
code_below Universal = omega arith
code_below EasternStandard = omega arith
code_below EasternDaylight = omega arith
code_below CentralStandard = omega arith
code_below CentralDaylight = omega arith
code_below MountainStandard = omega arith
code_below MountainDaylight = omega arith
code_below PacificStandard = omega arith
code_below PacificDaylight = omega arith

-- none is more than eight hours behind
pub hours_most : (z : ℕ) → get_or behind z 0 ≤ 8
hours_most z = most_at behind 8 refl z
