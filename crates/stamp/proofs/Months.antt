-- Laws of the calendar: the days before a month, and the month of a day. Assumes nothing.
use mathlib.Core.Path.{◌≡◌, refl, sym, ap, subst, ◌∙◌}
use mathlib.Core.Bool.{Bool, true, false, ◌&&◌}
use Prim.Native.Nat.{ℕ, zero, suc, ◌+◌, ◌-◌, ◌≤◌, ◌<◌}
use native.Mathlib.Omega.{arith}
use native.Mathlib.Numerals.{add-one}
use native.Mathlib.Nat.{add-suc, add-zero, suc-add}
use borrow.Author.Tests.{ltb-true, ltb-false, eqb-true}
use lib.Dec.{eqb, ltb}
use lib.ListN.{get_or}
use Rattle.words.specs.Pick.{pick}
use Rattle.stamp.specs.Calendar.{days_in, days_before, month_from, month_of, leap_day, leap, year_of, place_in_year, common_days, all_months, all_days}
use Rattle.stamp.proofs.Picks.{by_test, hit, skip}
use Rattle.stamp.proofs.Lists.{most_at}

-- the month m begins on or before the day d and ends after it
pub record InMonth (d m : ℕ) : Type 0 where
  pub begins : days_before m ≤ d
  pub ends : d < days_before (suc m)

pub next_month : (m : ℕ) → days_before (suc m) ≡ days_before m + days_in m
unfolding days_before
next_month m = refl

pub month_after : (m : ℕ) → days_before (m + 1) ≡ days_before m + days_in m
month_after m = ap days_before (add-one m) ∙ next_month m

pub all_days_lem : days_before all_months ≡ all_days
unfolding days_before days_in leap
all_days_lem = refl

from_month : (m n : ℕ) → days_before m ≤ days_before (m + n)
from_month m zero = rw add-zero (omega arith)
from_month m (suc n) = rw add-suc (omega (arith, from_month m n, next_month (m + n)))

-- a later month has no fewer days before it
pub later_month : (m k : ℕ) → m ≤ k → days_before m ≤ days_before k
later_month m k h =
    let e : m + (k - m) ≡ k = omega arith in
    subst (λ (j : ℕ). days_before m ≤ days_before j) e (from_month m (k - m))

-- a day lies in one month
pub one_month : {d m k : ℕ} → InMonth d m → InMonth d k → m ≡ k
one_month {d} {m} {k} a b =
    by_test (ltb m k)
    (λ p. absurd (omega (arith, later_month (suc m) k (ltb-true m k p))))
    (λ p. by_test (ltb k m)
    (λ q. absurd (omega (arith, later_month (suc k) m (ltb-true k m q))))
    (λ q. omega (arith, ltb-false m k p, ltb-false k m q)))

-- the walk from the month m on finds the month, below m + n
from_is : (n m d : ℕ) → days_before m + d < days_before (m + n) → InMonth (days_before m + d) (month_from n m d) × (month_from n m d < m + n)
unfolding month_from
from_is zero m d h = absurd (omega (arith, ap days_before (add-zero m)))
from_is (suc n) m d h =
    by_test (ltb d (days_in m))
    (λ p. subst (λ (k : ℕ). InMonth (days_before m + d) k × (k < m + suc n)) (hit (ltb d (days_in m)) m m (month_from n (suc m) (d - days_in m)) p refl)
    (record { begins = omega arith; ends = omega (arith, ltb-true d (days_in m) p, next_month m) }, omega arith))
    (λ p.
    let e : days_before (suc m) + (d - days_in m) ≡ days_before m + d = omega (arith, ltb-false d (days_in m) p, next_month m) in
    let f : days_before (suc m + n) ≡ days_before (m + suc n) = ap days_before (suc-add m n ∙ sym (add-suc m n)) in
    let r : InMonth (days_before (suc m) + (d - days_in m)) (month_from n (suc m) (d - days_in m)) × (month_from n (suc m) (d - days_in m) < suc m + n) = from_is n (suc m) (d - days_in m) (omega arith) in
    subst (λ (k : ℕ). InMonth (days_before m + d) k × (k < m + suc n)) (skip (ltb d (days_in m)) (month_from n (suc m) (d - days_in m)) m (month_from n (suc m) (d - days_in m)) p refl)
    (record { begins = omega arith; ends = omega arith }, omega arith))

-- no day comes before the first month
pub before_first : days_before 0 ≡ 0
unfolding days_before
before_first = refl

-- the month of a day of the years 2000 to 2099
pub month_of_lem : (d : ℕ) → d < all_days → InMonth d (month_of d) × (month_of d < all_months)
unfolding month_of
month_of_lem d h =
    let r : InMonth (days_before 0 + d) (month_from all_months 0 d) × (month_from all_months 0 d < 0 + all_months) = from_is all_months 0 d (omega (arith, all_days_lem, before_first)) in
    (record { begins = omega (arith, before_first); ends = omega (arith, before_first) }, omega arith)

one_most : (t : Bool) → pick t 1 0 ≤ 1
one_most true = omega arith
one_most false = omega arith

-- no month has more than 31 days
pub days_most : (m : ℕ) → days_in m ≤ 31
unfolding days_in
days_most m =
    by_test (eqb (place_in_year m) 1)
    (λ p.
    let e : get_or common_days (place_in_year m) 0 ≡ 28 = ap (λ (k : ℕ). get_or common_days k 0) (eqb-true (place_in_year m) 1 p) in
    omega (arith, one_most (eqb (place_in_year m) 1 && leap (year_of m))))
    (λ p.
    let e : leap_day m ≡ 0 = ap (λ (t : Bool). pick (t && leap (year_of m)) 1 0) p in
    omega (arith, most_at common_days 31 refl (place_in_year m)))
