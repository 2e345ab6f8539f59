-- Checks that several kinds of action share.
use Rattle.std.specs.Prelude.{Bool, ◌&&◌, ◌||◌, not, List, ℕ, ◌+◌, eqb, leb, ltb, length}
use Rattle.words.specs.Lists.{part, within, zeros}
use Rattle.rules.specs.Pick.{◌is_from◌to◌}
use Rattle.rules.specs.Numbers.{most_price, most_megawatts, most_status, most_path, preconfirmed}
use Rattle.rules.specs.Layout.{provider, issued, row_of, row, status, span_hours, has}
use Rattle.rules.specs.Megawatts.{in_force}
use Rattle.rules.specs.Confirming.{confirm_number}
use Rattle.rules.specs.declared.Action.{Action}

-- the row that the action's reference names
abbrev pub named : Action → ℕ
named a = row_of a.reference

abbrev pub named_row : ℕ → List ℕ → Action → List ℕ
named_row H l a = row H l (named a)

-- the action's profile; whether one comes
unfoldable pub profile : List ℕ → Action → List ℕ
profile w a = part w a.offset a.length

unfoldable pub comes : Action → Bool
comes a = not (eqb a.length 0)

-- 7: profile outside its slice, length not n, or a word over 100,000
unfoldable pub bad_words : List ℕ → Action → ℕ → Bool
bad_words w a n =
    ltb (length w) (a.offset + a.length) || (not (eqb a.length n)
    || not (within most_megawatts (profile w a)))

-- 7: such a profile, or all 0
unfoldable pub bad_profile : List ℕ → Action → ℕ → Bool
bad_profile w a n = bad_words w a n || zeros (profile w a)

-- 7, unless length 0
unfoldable pub bad_if_comes : List ℕ → Action → List ℕ → Bool
bad_if_comes w a r = comes a && bad_profile w a (span_hours r)

-- 6: not start < stop ≤ H
unfoldable pub bad_span : ℕ → Action → Bool
bad_span H a = not (ltb a.start a.stop && leb a.stop H)

-- 21: path not 1 to 64
unfoldable pub unknown_path : Action → Bool
unknown_path a = not (a.path is_from 1 to most_path)

-- 12: price too high
unfoldable pub bad_price : Action → Bool
bad_price a = ltb most_price a.price

-- 4: no such reference
unfoldable pub no_reference : List ℕ → Action → Bool
no_reference l a = not (issued l a.reference)

-- 2: status not 1 to 17
unfoldable pub bad_status : Action → Bool
bad_status a = not (a.status is_from 1 to most_status)

-- 3: actor not the provider
unfoldable pub not_provider : List ℕ → Action → Bool
not_provider l a = not (eqb a.actor (provider l))

-- a preconfirmed row at this status; it confirms with the profile in force
unfoldable pub waits_at : ℕ → List ℕ → Bool
waits_at s r = has preconfirmed r && eqb (status r) s

unfoldable pub waiting_number : ℕ → List ℕ → Action → Bool → ℕ
waiting_number H l a isApproved = confirm_number H l (named a) (in_force H (named_row H l a)) isApproved
