-- The numbers of a stamp and the second in its zone: each gives back the other. Assumes nothing.
use mathlib.Core.Path.{◌≡◌, refl, sym, ap, ◌∙◌}
use Prim.Native.Nat.{ℕ, ◌+◌, ◌-◌, ◌/◌, ◌%◌, ◌<◌}
use native.Mathlib.Omega.{arith}
use Rattle.stamp.specs.Calendar.{days_in, days_before, month_of, all_months, months_of_year}
use Rattle.stamp.specs.Stamp.{fields_at, day_in, month_in, local_second, all_seconds, zone_count, century, day, hour, minute, Fields}
use Rattle.stamp.specs.Steps.{Ranged, Printable}
use Rattle.stamp.proofs.Months.{InMonth, next_month, one_month, month_of_lem, days_most}
use Rattle.stamp.proofs.Ranges.{day_below}

pub printable : {f : Fields} → Ranged f → Printable f
printable {f} r =
    record {
      hundreds = omega arith;
      years = omega arith;
      months = omega arith;
      days = omega (arith, days_most (month_in f));
      hours = omega arith;
      minutes = omega arith;
      seconds = omega arith;
      zones = r.zones;
    }

-- From a second to its numbers.
module _ (t z : ℕ) (few : t < all_seconds) where
  found : InMonth (t / day) (month_of (t / day)) × (month_of (t / day) < all_months)
  found = month_of_lem (t / day) (omega arith)

  month_back : month_in (fields_at t z) ≡ month_of (t / day)
  unfolding fields_at
  month_back = omega arith

  day_back : day_in (fields_at t z) ≡ t / day
  unfolding day_in fields_at
  day_back = omega (arith, ap days_before month_back, found.0.begins)

  -- found by way of the month m and the days before it
  pub at_fields : (m before : ℕ) → m ≡ month_of (t / day) → before ≡ days_before m
      → record {
        century = century;
        year = m / months_of_year;
        month = m % months_of_year + 1;
        day = t / day - before + 1;
        hour = t % day / hour;
        minute = t % hour / minute;
        second = t % minute;
        zone = z;
      } ≡ fields_at t z
  unfolding fields_at
  at_fields m before p q = cc

  -- they are in range
  pub at_ranged : z < zone_count → Ranged (fields_at t z)
  unfolding fields_at
  at_ranged h =
      let m : ℕ = month_of (t / day) in
      let small : m < all_months = found.1 in
      record {
        hundreds = refl;
        years = omega arith;
        first_month = omega arith;
        last_month = omega arith;
        first_day = omega arith;
        last_day = omega (arith, ap days_in month_back, next_month m, found.0.begins, found.0.ends);
        hours = omega arith;
        minutes = omega arith;
        seconds = omega arith;
        zones = h;
      }

  -- and give the second back
  pub second_back : local_second (fields_at t z) ≡ t
  unfolding local_second fields_at
  second_back = omega (arith, day_back)

-- From numbers in range to the second.
module _ {f : Fields} (r : Ranged f) where
  in_month_lem : InMonth (day_in f) (month_in f)
  unfolding day_in
  in_month_lem = record { begins = omega arith; ends = omega (arith, next_month (month_in f)) }

  its_day : local_second f / day ≡ day_in f
  unfolding local_second
  its_day = omega arith

  its_month : month_of (local_second f / day) ≡ month_in f
  its_month = ap month_of its_day ∙ one_month (month_of_lem (day_in f) (day_below r)).0 in_month_lem

  date_back : ((fields_at (local_second f) f.zone).year ≡ f.year) × ((fields_at (local_second f) f.zone).month ≡ f.month) × ((fields_at (local_second f) f.zone).day ≡ f.day)
  unfolding fields_at day_in
  date_back = (omega (arith, its_month), omega (arith, its_month), omega (arith, its_day, ap days_before its_month))

  time_back : ((fields_at (local_second f) f.zone).hour ≡ f.hour) × ((fields_at (local_second f) f.zone).minute ≡ f.minute) × ((fields_at (local_second f) f.zone).second ≡ f.second)
  unfolding fields_at local_second
  time_back = (omega arith, omega arith, omega arith)

  pub fields_back : fields_at (local_second f) f.zone ≡ f
  unfolding fields_at
  fields_back =
      let d = date_back in
      let t = time_back in
      λ i. record {
        century = sym r.hundreds i;
        year = d.0 i;
        month = d.1 i;
        day = d.2 i;
        hour = t.0 i;
        minute = t.1 i;
        second = t.2 i;
        zone = f.zone;
      }
