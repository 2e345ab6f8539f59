-- The number of a profile.
use Rattle.std.proofs.Common.{◌<◌}
use lib.Dec.{lit<}
use Rattle.rules.specs.Numbers.{profiles}
use Rattle.layout.specs.Profiles.{part_of}
use Rattle.layout.specs.declared.profile.Profile.{Profile}
use Rattle.layout.specs.declared.profile.Profile.TheVariants.{Requested, Granted, Available, Displaced, Reduced}

pub part_below : (p : Profile) → part_of p < profiles
part_below Requested = lit< tt
part_below Granted = lit< tt
part_below Available = lit< tt
part_below Displaced = lit< tt
part_below Reduced = lit< tt
