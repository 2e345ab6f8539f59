-- The month of a day, by the table: the last that does not begin after it. Assumes nothing.
use Rattle.std.proofs.Common.{◌≡◌, ℕ, suc, ◌-◌, ◌≤◌, ◌<◌, true, false, leb, leb-true, leb-false, ltb, ltb-true, ltb-false, List, length, get_or, arith, ap, subst}
use Rattle.std.specs.List.Sorted.{IsPartitionedBy, IsPartitionPoint}
use Rattle.std.proofs.lemmas.List.Sorted.{IsPartitionedBy-leb, IsNonDecreasingBy-from_default}
use Rattle.stamp.specs.Calendar.{days_before, all_months, all_days}
use Rattle.stamp.specs.Steps.{MonthTable, MonthFound}
use Rattle.stamp.proofs.Picks.{by_test}
use Rattle.stamp.proofs.Months.{all_days_lem, before_first, later_month, one_month, month_of_lem}

module _ {t : List ℕ} (table : MonthTable t) (day : ℕ) where
  rises : (i j : ℕ) → i ≤ j → j < length t → get_or t i 0 ≤ get_or t j 0
  rises i j p q =
      omega (arith, table.entries i (omega arith), table.entries j (omega arith), later_month i j p)

  pub parted : IsPartitionedBy (λ before. leb before day) t
  parted = IsPartitionedBy-leb (λ before. before) t day (IsNonDecreasingBy-from_default (λ before. before) t 0 rises)

  -- r months have begun by the day
  module _ (early : day < all_days) (r : ℕ) (within : r ≤ length t) (point : IsPartitionPoint (λ before. leb before day ≡ true) (λ before. leb before day ≡ false) t r) where
    pub one_begun : 1 ≤ r
    one_begun =
        by_test (leb 1 r) (λ p. leb-true 1 r p)
        (λ p. let e : leb (get_or t 0 0) day ≡ false = point.1 0 0 (omega (arith, leb-false 1 r p)) (omega (arith, table.months)) in absurd (omega (arith, leb-false _ _ e, table.entries 0 (omega arith), before_first)))

    pub last_begun : MonthFound day (r - 1)
    last_begun =
        let one : 1 ≤ r = one_begun in
        let begins : days_before (r - 1) ≤ day = omega (arith, leb-true _ _ (point.0 (r - 1) 0 (omega arith) (omega arith)), table.entries (r - 1) (omega (arith, table.months))) in
        let ends : day < days_before r =
        by_test (ltb r all_months)
        (λ p. let h : r < all_months = ltb-true _ _ p in omega (arith, leb-false _ _ (point.1 r 0 (omega arith) (omega (arith, table.months))), table.entries r h))
        (λ p. let e : r ≡ all_months = omega (arith, ltb-false _ _ p, table.months) in omega (arith, ap days_before e, all_days_lem))
        in
        let n : r ≡ suc (r - 1) = omega arith in
        record {
          is = one_month (record { begins = begins; ends = subst (λ k. day < days_before k) n ends }) (month_of_lem day early).0;
          begins = begins;
          small = omega (arith, table.months);
        }
