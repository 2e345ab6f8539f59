-- For contracts inside the crate: the zones by their codes.
use Rattle.std.specs.Prelude.{◌≡◌, ℕ, ◌*◌, ◌≤◌, get_or, Option, Some, None, Result, MatchResult}
use Rattle.stamp.specs.Stamp.{zone_count, behind, offset, hour}
use Rattle.stamp.specs.declared.zone.Zone.{Zone}
use Rattle.stamp.specs.declared.zone.Zone.TheVariants.{Universal, EasternStandard, EasternDaylight, CentralStandard, CentralDaylight, MountainStandard, MountainDaylight, PacificStandard, PacificDaylight}
use Rattle.stamp.specs.declared.zone.UnknownZone.{UnknownZone}

abbrev pub code : Zone → ℕ
code Universal = 0
code EasternStandard = 1
code EasternDaylight = 2
code CentralStandard = 3
code CentralDaylight = 4
code MountainStandard = 5
code MountainDaylight = 6
code PacificStandard = 7
code PacificDaylight = 8

-- 9 for none
abbrev pub code_or_none : Option Zone → ℕ
code_or_none (Some zone) = code zone
code_or_none None = zone_count

-- the zone with a code, or an error with a code that no zone has
abbrev pub OfCode : ℕ → Result Zone UnknownZone → Type 0
OfCode number r = MatchResult r (λ zone. code zone ≡ number) (λ _. zone_count ≤ number)

-- the hours that a zone is behind UT
abbrev pub hours_behind : ℕ → ℕ
hours_behind z = get_or behind z 0

-- the seconds that a zone is behind UT
pub record Offset (z r : ℕ) : Type 0 where
  pub is : r ≡ offset z
  pub small : r ≤ 8 * hour
