-- For contracts inside the crate: the moments by their numbers.
use Rattle.std.specs.Prelude.{◌≡◌, ℕ, List, false, Option, MatchOption}
use Rattle.stamp.specs.Stamp.{Fields, fields_of, century, in_range}
use Rattle.stamp.specs.Zones.{code}
use Rattle.stamp.specs.declared.moment.Moment.{Moment}

abbrev pub fields : Moment → Fields
fields m =
    record {
      century = century;
      year = m.year;
      month = m.month;
      day = m.day;
      hour = m.hour;
      minute = m.minute;
      second = m.second;
      zone = code m.zone;
    }

-- the moment that sixteen bytes spell, or none where a number is out of range
abbrev pub MomentRead : List ℕ → Option Moment → Type 0
MomentRead bs r = MatchOption r (in_range (fields_of bs) ≡ false) (λ m. fields m ≡ fields_of bs)
