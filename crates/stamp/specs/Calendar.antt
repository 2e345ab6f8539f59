-- The Gregorian calendar from January 2000 on. Months are counted from 0, January 2000, and days from 0, 2000-01-01.
use Rattle.std.specs.Prelude.{ℕ, zero, suc, ◌+◌, ◌-◌, ◌/◌, ◌%◌, Bool, ◌&&◌, ◌||◌, not, List, [], ◌∷◌, eqb, ltb, get_or}
use Rattle.words.specs.Pick.{pick}

abbrev pub first_year : ℕ
first_year = 2000

abbrev pub months_of_year : ℕ
months_of_year = 12

-- the months of the years 2000 to 2099, and their days
abbrev pub all_months : ℕ
all_months = 1200

abbrev pub all_days : ℕ
all_days = 36525

abbrev pub divides : ℕ → ℕ → Bool
divides k n = eqb (n % k) 0

-- a leap year: every fourth, but of the hundredth years only every fourth
unfoldable pub leap : ℕ → Bool
leap y = divides 4 y && (not (divides 100 y) || divides 400 y)

-- the days of January to December in a common year
abbrev pub common_days : List ℕ
common_days = 31 ∷ 28 ∷ 31 ∷ 30 ∷ 31 ∷ 30 ∷ 31 ∷ 31 ∷ 30 ∷ 31 ∷ 30 ∷ 31 ∷ []

-- the year of the month m, and its place in the year, January 0
abbrev pub year_of : ℕ → ℕ
year_of m = first_year + m / months_of_year

abbrev pub place_in_year : ℕ → ℕ
place_in_year m = m % months_of_year

-- February of a leap year has a day more
abbrev pub leap_day : ℕ → ℕ
leap_day m = pick (eqb (place_in_year m) 1 && leap (year_of m)) 1 0

-- the days of the month m
unfoldable pub days_in : ℕ → ℕ
days_in m = get_or common_days (place_in_year m) 0 + leap_day m

-- the days before the month m, month by month
unfoldable pub days_before : ℕ → ℕ
days_before zero = 0
days_before (suc m) = days_before m + days_in m

-- the month of the day that is d days after the first of the month m: m itself where d is among its days, else with
-- those taken off from the next month on; n bounds the walk
unfoldable pub month_from : ℕ → ℕ → ℕ → ℕ
month_from zero m d = m
month_from (suc n) m d = pick (ltb d (days_in m)) m (month_from n (suc m) (d - days_in m))

-- the month in which the day d lies
unfoldable pub month_of : ℕ → ℕ
month_of d = month_from all_months 0 d
