-- Time stamps, as document 01 has them under "Reading out": exactly 16 bytes, yyyymmddhhmmss and zone.
use Rattle.std.specs.Prelude.{ℕ, suc, ◌+◌, ◌-◌, ◌*◌, ◌/◌, ◌%◌, Bool, ◌&&◌, ◌||◌, not, List, [], ◌∷◌, ◌++◌, eqb, leb, ltb, length, get_or}
use Rattle.words.specs.Pick.{pick, ◌gives◌else◌}
use Rattle.stamp.specs.Calendar.{months_of_year, all_days, days_in, days_before, month_of}

abbrev pub stamp_length : ℕ
stamp_length = 16

-- the numbers of a refused reading and of a refused writing
abbrev pub not_read : ℕ
not_read = 18

abbrev pub not_written : ℕ
not_written = 19

-- seconds in a minute, an hour, a day
abbrev pub minute : ℕ
minute = 60

abbrev pub hour : ℕ
hour = 60 * minute

abbrev pub day : ℕ
day = 24 * hour

-- the seconds of the years 2000 to 2099: a second is below this
abbrev pub all_seconds : ℕ
all_seconds = all_days * day

-- years 2000 to 2099: the first two digits, and the most that the last two give
abbrev pub century : ℕ
century = 20

abbrev pub last_year : ℕ
last_year = 99

-- hours 00 to 23, minutes and seconds 00 to 59
abbrev pub last_hour : ℕ
last_hour = 23

abbrev pub last_minute : ℕ
last_minute = 59

abbrev pub last_second : ℕ
last_second = 59

-- DIGITS

abbrev pub digit0 : ℕ
digit0 = 48

abbrev pub digit9 : ℕ
digit9 = 57

unfoldable pub no_digit : ℕ → Bool
no_digit b = ltb b digit0 || ltb digit9 b

-- what two bytes give that are not both digits: more than two digits can, and so in no range
abbrev pub no_number : ℕ
no_number = 100

-- the number that two digits stand for
unfoldable pub two_digits : ℕ → ℕ → ℕ
two_digits a b =
    no_digit a gives no_number else
    no_digit b gives no_number else
    10 * (a - digit0) + (b - digit0)

-- the two digits of a number below 100
abbrev pub digits_of : ℕ → List ℕ
digits_of n = (digit0 + n / 10) ∷ (digit0 + n % 10) ∷ []

-- ZONES

-- two letters as one number
abbrev pub letters : ℕ → ℕ → ℕ
letters a b = 256 * a + b

abbrev pub C : ℕ
C = 67

abbrev pub D : ℕ
D = 68

abbrev pub E : ℕ
E = 69

abbrev pub M : ℕ
M = 77

abbrev pub P : ℕ
P = 80

abbrev pub S : ℕ
S = 83

abbrev pub T : ℕ
T = 84

abbrev pub U : ℕ
U = 85

-- the zones with the codes 0 to 8
abbrev pub zones : List ℕ
zones =
    letters U T
    ∷ letters E S
    ∷ letters E D
    ∷ letters C S
    ∷ letters C D
    ∷ letters M S
    ∷ letters M D
    ∷ letters P S
    ∷ letters P D
    ∷ []

-- their hours behind UT
abbrev pub behind : List ℕ
behind = 0 ∷ 5 ∷ 4 ∷ 6 ∷ 5 ∷ 7 ∷ 6 ∷ 8 ∷ 7 ∷ []

abbrev pub zone_count : ℕ
zone_count = 9

-- the place of w in a list, counted from k; past the list's end where w is not in it
abbrev pub place_from : ℕ → ℕ → List ℕ → ℕ
place_from k w [] = k
place_from k w (x ∷ xs) = pick (eqb w x) k (place_from (suc k) w xs)

-- the code of the zone with these letters, or 9
unfoldable pub zone_of : ℕ → ℕ
zone_of w = place_from 0 w zones

-- the letters of a zone
unfoldable pub zone_letters : ℕ → ℕ
zone_letters z = get_or zones z 0

abbrev pub letters_of : ℕ → List ℕ
letters_of z = (zone_letters z / 256) ∷ (zone_letters z % 256) ∷ []

-- the seconds that a zone is behind UT
unfoldable pub offset : ℕ → ℕ
offset z = get_or behind z 0 * hour

-- THE NUMBERS OF A STAMP

-- the number of the two bytes at the place k
abbrev pub number_at : List ℕ → ℕ → ℕ
number_at bs k = two_digits (get_or bs k 0) (get_or bs (k + 1) 0)

-- the zone's code
abbrev pub stamp_zone : List ℕ → ℕ
stamp_zone bs = zone_of (letters (get_or bs 14 0) (get_or bs 15 0))

-- the first two and the last two digits of the year, month and day from 1 on, the time, and the zone's code
pub record Fields : Type 0 where
  pub century : ℕ
  pub year : ℕ
  pub month : ℕ
  pub day : ℕ
  pub hour : ℕ
  pub minute : ℕ
  pub second : ℕ
  pub zone : ℕ

-- the numbers that the bytes give
unfoldable pub fields_of : List ℕ → Fields
fields_of bs =
    record {
      century = number_at bs 0;
      year = number_at bs 2;
      month = number_at bs 4;
      day = number_at bs 6;
      hour = number_at bs 8;
      minute = number_at bs 10;
      second = number_at bs 12;
      zone = stamp_zone bs;
    }

-- the bytes of the numbers
unfoldable pub bytes_of : Fields → List ℕ
bytes_of f =
    digits_of f.century ++ digits_of f.year ++ digits_of f.month ++ digits_of f.day
    ++ digits_of f.hour ++ digits_of f.minute ++ digits_of f.second ++ letters_of f.zone

-- the month, counted from January 2000
abbrev pub month_in : Fields → ℕ
month_in f = months_of_year * f.year + (f.month - 1)

-- years 2000 to 2099, and a day from the first of a month on
unfoldable pub is_month : Fields → Bool
is_month f =
    eqb f.century century && leb f.year last_year
    && leb 1 f.month && leb f.month months_of_year
    && leb 1 f.day

-- the day is not past the month's last: days by the Gregorian calendar
abbrev pub in_month : Fields → Bool
in_month f = leb f.day (days_in (month_in f))

unfoldable pub is_date : Fields → Bool
is_date f = is_month f && in_month f

unfoldable pub is_time : Fields → Bool
is_time f = leb f.hour last_hour && leb f.minute last_minute && leb f.second last_second

unfoldable pub in_range : Fields → Bool
in_range f = is_date f && is_time f && ltb f.zone zone_count

-- the day, counted from 2000-01-01
unfoldable pub day_in : Fields → ℕ
day_in f = days_before (month_in f) + (f.day - 1)

-- the seconds since 2000-01-01 00:00, in the stamp's zone and in UT
unfoldable pub local_second : Fields → ℕ
local_second f = day_in f * day + f.hour * hour + f.minute * minute + f.second

unfoldable pub second_of : Fields → ℕ
second_of f = local_second f + offset f.zone

-- the numbers of the second t of the zone z
unfoldable pub fields_at : ℕ → ℕ → Fields
fields_at t z =
    let d = t / day in
    let m = month_of d in
    record {
      century = century;
      year = m / months_of_year;
      month = m % months_of_year + 1;
      day = d - days_before m + 1;
      hour = t % day / hour;
      minute = t % hour / minute;
      second = t % minute;
      zone = z;
    }

-- READING: 18, not such a stamp, or past the last second

unfoldable pub is_stamp : List ℕ → Bool
is_stamp bs = eqb (length bs) stamp_length && in_range (fields_of bs)

-- what reading gives: 0 and the second, or 18 and 0
pub record Reading : Type 0 where
  pub number : ℕ
  pub second : ℕ

abbrev pub refusal : Reading
refusal = record { number = not_read; second = 0 }

unfoldable pub reading : List ℕ → Reading
reading bs =
    pick (is_stamp bs && ltb (second_of (fields_of bs)) all_seconds)
    (record { number = 0; second = second_of (fields_of bs) })
    refusal

-- WRITING: 19, seconds or zone out of range, local year before 2000, or slice not 16 bytes; nothing written

unfoldable pub write_number : List ℕ → ℕ → ℕ → ℕ
write_number bs s z =
    leb all_seconds s gives not_written else
    leb zone_count z gives not_written else
    ltb s (offset z) gives not_written else
    not (eqb (length bs) stamp_length) gives not_written else
    0

-- the stamp of the second s in the zone z
unfoldable pub stamp_of : ℕ → ℕ → List ℕ
stamp_of s z = bytes_of (fields_at (s - offset z) z)

-- the slice after writing
unfoldable pub written : List ℕ → ℕ → ℕ → List ℕ
written bs s z = pick (eqb (write_number bs s z) 0) (stamp_of s z) bs

-- COMPARING two readings: the order of their seconds, whatever the zones; 18 and 0, either was refused

-- the order of two seconds: the first is earlier, they are the same, the first is later
abbrev pub earlier : ℕ
earlier = 0

abbrev pub same : ℕ
same = 1

abbrev pub later : ℕ
later = 2

unfoldable pub order_of : ℕ → ℕ → ℕ
order_of s t =
    ltb s t gives earlier else
    eqb s t gives same else
    later

-- what comparing gives: 0 and the order, or 18 and 0
pub record Comparison : Type 0 where
  pub number : ℕ
  pub order : ℕ

abbrev pub incomparable : Comparison
incomparable = record { number = not_read; order = 0 }

unfoldable pub comparison : Reading → Reading → Comparison
comparison a b =
    pick (eqb a.number 0 && eqb b.number 0)
    (record { number = 0; order = order_of a.second b.second })
    incomparable
