-- For contracts inside the crate: what the inner functions ask and give.
use Rattle.std.specs.Prelude.{◌≡◌, List, ℕ, ◌≤◌, ◌<◌, length, get_or, Option, Some, None, MatchOption}
use Rattle.stamp.specs.Calendar.{months_of_year, all_months, all_days, days_in, days_before, month_of}
use Rattle.stamp.specs.Stamp.{Fields, century, last_year, last_hour, last_minute, last_second, no_number, zone_count, month_in}

-- a table of the days before each of the 1,200 months
pub record MonthTable (t : List ℕ) : Type 0 where
  pub months : length t ≡ all_months
  pub entries : (m : ℕ) → m < all_months → get_or t m 0 ≡ days_before m

-- the days before a month, looked up
pub record Before (m r : ℕ) : Type 0 where
  pub is : r ≡ days_before m
  pub small : r ≤ all_days

-- the month of a day, found
pub record MonthFound (d r : ℕ) : Type 0 where
  pub is : r ≡ month_of d
  pub begins : days_before r ≤ d
  pub small : r < all_months

-- the number that two digits stand for, or 100
abbrev pub number_or_none : Option ℕ → ℕ
number_or_none (Some number) = number
number_or_none None = no_number

-- the number n if it is from the least on and not above the most
abbrev pub Within : ℕ → ℕ → ℕ → Option ℕ → Type 0
Within least most n r = MatchOption r (least ≤ n → most < n) (λ x. (x ≡ n) × (least ≤ x) × (x ≤ most))

-- a stamp's numbers in range: `in_range` as facts
pub record Ranged (f : Fields) : Type 0 where
  pub hundreds : f.century ≡ century
  pub years : f.year ≤ last_year
  pub first_month : 1 ≤ f.month
  pub last_month : f.month ≤ months_of_year
  pub first_day : 1 ≤ f.day
  pub last_day : f.day ≤ days_in (month_in f)
  pub hours : f.hour ≤ last_hour
  pub minutes : f.minute ≤ last_minute
  pub seconds : f.second ≤ last_second
  pub zones : f.zone < zone_count

-- each number takes two digits, and the zone is one of the nine
pub record Printable (f : Fields) : Type 0 where
  pub hundreds : f.century < no_number
  pub years : f.year < no_number
  pub months : f.month < no_number
  pub days : f.day < no_number
  pub hours : f.hour < no_number
  pub minutes : f.minute < no_number
  pub seconds : f.second < no_number
  pub zones : f.zone < zone_count
