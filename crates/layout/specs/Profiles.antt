-- For contracts inside the crates: the number of a profile.
use Rattle.std.specs.Prelude.{ℕ}
use Rattle.rules.specs.Numbers.{requested_part, granted_part, available_part, displaced_part, reduced_part}
use Rattle.layout.specs.declared.profile.Profile.{Profile}
use Rattle.layout.specs.declared.profile.Profile.TheVariants.{Requested, Granted, Available, Displaced, Reduced}

-- the profiles of a row are numbered in their order
abbrev pub part_of : Profile → ℕ
part_of Requested = requested_part
part_of Granted = granted_part
part_of Available = available_part
part_of Displaced = displaced_part
part_of Reduced = reduced_part
