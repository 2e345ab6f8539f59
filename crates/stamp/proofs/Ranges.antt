-- What the ranges of a stamp's numbers say, as facts on numbers. Assumes nothing.
use mathlib.Core.Path.{◌≡◌}
use mathlib.Core.Bool.{Bool, true, false, ◌&&◌}
use Prim.Native.Nat.{suc, ◌<◌}
use native.Mathlib.Omega.{arith}
use borrow.Author.Tests.{ltb-true, leb-true, eqb-true, lt-ltb, le-leb, eq-eqb}
use lib.Dec.{eqb, ltb, leb}
use Rattle.std.proofs.Common.{◌⊎◌, inl, inr}
use Rattle.stamp.specs.Calendar.{all_months, all_days, months_of_year}
use Rattle.stamp.specs.Stamp.{is_month, in_month, is_date, is_time, in_range, month_in, day_in, century, last_year, zone_count, Fields}
use Rattle.stamp.specs.Steps.{Ranged}
use Rattle.stamp.proofs.Picks.{by_test, and_left, and_right}
use Rattle.stamp.proofs.Months.{next_month, later_month, all_days_lem}

pub ranged : (f : Fields) → in_range f ≡ true → Ranged f
unfolding in_range is_date is_time is_month
ranged f h =
    let z : ltb f.zone zone_count ≡ true = and_right (is_date f && is_time f) (ltb f.zone zone_count) h in
    let dt : (is_date f && is_time f) ≡ true = and_left (is_date f && is_time f) (ltb f.zone zone_count) h in
    let d : is_date f ≡ true = and_left (is_date f) (is_time f) dt in
    let m : is_month f ≡ true = and_left (is_month f) (in_month f) d in
    let a1 : Bool = eqb f.century century in
    let a2 : Bool = a1 && leb f.year last_year in
    let a3 : Bool = a2 && leb 1 f.month in
    let a4 : Bool = a3 && leb f.month months_of_year in
    let d4 : a4 ≡ true = and_left a4 (leb 1 f.day) m in
    let d3 : a3 ≡ true = and_left a3 (leb f.month months_of_year) d4 in
    let d2 : a2 ≡ true = and_left a2 (leb 1 f.month) d3 in
    let t3 : is_time f ≡ true = and_right (is_date f) (is_time f) dt in
    let b2 : Bool = leb f.hour 23 && leb f.minute 59 in
    let t2 : b2 ≡ true = and_left b2 (leb f.second 59) t3 in
    record {
      hundreds = eqb-true _ _ (and_left a1 (leb f.year last_year) d2);
      years = leb-true _ _ (and_right a1 (leb f.year last_year) d2);
      first_month = leb-true _ _ (and_right a2 (leb 1 f.month) d3);
      last_month = leb-true _ _ (and_right a3 (leb f.month months_of_year) d4);
      first_day = leb-true _ _ (and_right a4 (leb 1 f.day) m);
      last_day = leb-true _ _ (and_right (is_month f) (in_month f) d);
      hours = leb-true _ _ (and_left (leb f.hour 23) (leb f.minute 59) t2);
      minutes = leb-true _ _ (and_right (leb f.hour 23) (leb f.minute 59) t2);
      seconds = leb-true _ _ (and_right b2 (leb f.second 59) t3);
      zones = ltb-true _ _ z;
    }

pub range_cases : (f : Fields) → (in_range f ≡ false) ⊎ Ranged f
range_cases f = by_test (in_range f) (λ p. inr (ranged f p)) (λ p. inl p)

pub in_range_lem : {f : Fields} → Ranged f → in_range f ≡ true
unfolding in_range is_date is_month is_time
in_range_lem {f} r =
    simp (eq-eqb _ _ r.hundreds, le-leb _ _ r.years, le-leb _ _ r.first_month, le-leb _ _ r.last_month, le-leb _ _ r.first_day, le-leb _ _ r.last_day, le-leb _ _ r.hours, le-leb _ _ r.minutes, le-leb _ _ r.seconds, lt-ltb _ _ r.zones)

pub month_below : {f : Fields} → Ranged f → month_in f < all_months
month_below {f} r = omega arith

pub day_below : {f : Fields} → Ranged f → day_in f < all_days
unfolding day_in
day_below {f} r =
    omega (arith, next_month (month_in f), later_month (suc (month_in f)) all_months (month_below r), all_days_lem)
