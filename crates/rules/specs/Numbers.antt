-- The numbers of document 01, each named once.
use Rattle.std.specs.Prelude.{Bool, ℕ, ◌+◌}
use Rattle.rules.specs.Pick.{◌is_from◌to◌}

-- sizes in words: the head; a row before its profiles, of which so many are in use; profiles of a row
abbrev pub head_words : ℕ
head_words = 8

abbrev pub row_words : ℕ
row_words = 16

abbrev pub used_words : ℕ
used_words = 12

abbrev pub profiles : ℕ
profiles = 5

-- greatest values; the year 2099 ends with end_hour and end_second
abbrev pub most_rows : ℕ
most_rows = 1024

abbrev pub most_hours : ℕ
most_hours = 744

abbrev pub most_entity : ℕ
most_entity = 65535

abbrev pub most_window : ℕ
most_window = 2592000

abbrev pub most_price : ℕ
most_price = 99999999

abbrev pub most_megawatts : ℕ
most_megawatts = 100000

abbrev pub most_kind : ℕ
most_kind = 8

abbrev pub most_type : ℕ
most_type = 8

abbrev pub most_status : ℕ
most_status = 17

abbrev pub most_path : ℕ
most_path = 64

abbrev pub most_flags : ℕ
most_flags = 63

abbrev pub end_hour : ℕ
end_hour = 876600

abbrev pub end_second : ℕ
end_second = 3155760000

abbrev pub end_limit : ℕ
end_limit = end_second + most_window

unfoldable pub entity : ℕ → Bool
entity e = e is_from 1 to most_entity

-- flags
abbrev pub preconfirmed : ℕ
preconfirmed = 1

abbrev pub coordinated : ℕ
coordinated = 2

abbrev pub approved : ℕ
approved = 4

abbrev pub granted_given : ℕ
granted_given = 8

abbrev pub offer_given : ℕ
offer_given = 16

-- the row was ever at 6 or 7
abbrev pub countered : ℕ
countered = 32

-- profiles of a row, in order
abbrev pub requested_part : ℕ
requested_part = 0

abbrev pub granted_part : ℕ
granted_part = 1

abbrev pub available_part : ℕ
available_part = 2

abbrev pub displaced_part : ℕ
displaced_part = 3

abbrev pub reduced_part : ℕ
reduced_part = 4

-- statuses that rules name alone; DISPLACED the status and displaced the profile are two things
abbrev pub QUEUED : ℕ
QUEUED = 1

abbrev pub ACCEPTED : ℕ
ACCEPTED = 10

abbrev pub CR_ACCEPTED : ℕ
CR_ACCEPTED = 11

abbrev pub CONFIRMED : ℕ
CONFIRMED = 13

abbrev pub DISPLACED : ℕ
DISPLACED = 15

abbrev pub ANNULLED : ℕ
ANNULLED = 16

abbrev pub RETRACTED : ℕ
RETRACTED = 17

-- types that rules name alone
abbrev pub RESALE : ℕ
RESALE = 3

abbrev pub NONFIRM_REDIRECT : ℕ
NONFIRM_REDIRECT = 5

abbrev pub FULL_TRANSFER : ℕ
FULL_TRANSFER = 7

abbrev pub RELINQUISH : ℕ
RELINQUISH = 8
