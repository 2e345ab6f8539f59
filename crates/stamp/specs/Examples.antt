-- The stamps that document 01 prints, and two comparisons across zones.
use Rattle.std.specs.Prelude.{◌≡◌, List, [], ◌∷◌, ℕ}
use Rattle.stamp.specs.Stamp.{reading, refusal, comparison, incomparable, same, later, stamp_of}

-- 20070423060000ES
abbrev pub morning : List ℕ
morning = 50 ∷ 48 ∷ 48 ∷ 55 ∷ 48 ∷ 52 ∷ 50 ∷ 51 ∷ 48 ∷ 54 ∷ 48 ∷ 48 ∷ 48 ∷ 48 ∷ 69 ∷ 83 ∷ []

-- 20000229000000UT
abbrev pub leap_day2000 : List ℕ
leap_day2000 = 50 ∷ 48 ∷ 48 ∷ 48 ∷ 48 ∷ 50 ∷ 50 ∷ 57 ∷ 48 ∷ 48 ∷ 48 ∷ 48 ∷ 48 ∷ 48 ∷ 85 ∷ 84 ∷ []

-- 20070423220070ES
abbrev pub misprint : List ℕ
misprint = 50 ∷ 48 ∷ 48 ∷ 55 ∷ 48 ∷ 52 ∷ 50 ∷ 51 ∷ 50 ∷ 50 ∷ 48 ∷ 48 ∷ 55 ∷ 48 ∷ 69 ∷ 83 ∷ []

abbrev pub PrintedStamps : Type 0
PrintedStamps =
    (reading morning ≡ record { number = 0; second = 230641200 })
    × (reading leap_day2000 ≡ record { number = 0; second = 5097600 })
    × (reading misprint ≡ refusal)
    × (stamp_of 230641200 1 ≡ morning)
    × (stamp_of 5097600 0 ≡ leap_day2000)

-- 20070423070000ED
abbrev pub daylight : List ℕ
daylight = 50 ∷ 48 ∷ 48 ∷ 55 ∷ 48 ∷ 52 ∷ 50 ∷ 51 ∷ 48 ∷ 55 ∷ 48 ∷ 48 ∷ 48 ∷ 48 ∷ 69 ∷ 68 ∷ []

-- 20000101000000PD
abbrev pub first_pacific : List ℕ
first_pacific = 50 ∷ 48 ∷ 48 ∷ 48 ∷ 48 ∷ 49 ∷ 48 ∷ 49 ∷ 48 ∷ 48 ∷ 48 ∷ 48 ∷ 48 ∷ 48 ∷ 80 ∷ 68 ∷ []

-- 20000101000000UT
abbrev pub first_universal : List ℕ
first_universal = 50 ∷ 48 ∷ 48 ∷ 48 ∷ 48 ∷ 49 ∷ 48 ∷ 49 ∷ 48 ∷ 48 ∷ 48 ∷ 48 ∷ 48 ∷ 48 ∷ 85 ∷ 84 ∷ []

-- one second in two zones; two seconds with the same digits; a stamp and what is none, both ways round
abbrev pub ComparedStamps : Type 0
ComparedStamps =
    (comparison (reading morning) (reading daylight) ≡ record { number = 0; order = same })
    × (comparison (reading first_pacific) (reading first_universal) ≡ record { number = 0; order = later })
    × (comparison (reading morning) (reading misprint) ≡ incomparable)
    × (comparison (reading misprint) (reading morning) ≡ incomparable)
