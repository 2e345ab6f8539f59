-- What moves megawatts, apart from confirming. s is the first hour, mw a word for each hour from there on.
use Rattle.std.specs.Prelude.{Bool, ◌&&◌, not, List, ℕ}
use Rattle.words.specs.Lists.{all_below, within}
use Rattle.rules.specs.Pick.{pick, ◌then◌, when}
use Rattle.rules.specs.Numbers.{most_megawatts, granted_given, granted_part, available_part, displaced_part, reduced_part, DISPLACED, ANNULLED}
use Rattle.rules.specs.Layout.{used, row, on_row, reqtype, start, span_hours, related_row, has, set_status, raise, requested, granted, available, displaced, reduced, set_hours, add_hours, less_hours, clear_hours}
use Rattle.rules.specs.Sound.{original}
use Rattle.rules.specs.Moves.{is_confirmed}

-- Profile in force: granted once given, requested before
unfoldable pub in_force : ℕ → List ℕ → List ℕ
in_force H r = pick (has granted_given r) (granted H r) (requested H r)

-- granted is given
unfoldable pub grant : ℕ → ℕ → List ℕ → List ℕ → List ℕ
grant H s mw r = r then set_hours H granted_part s mw then raise granted_given

-- megawatts are taken from a row's available
unfoldable pub take_from : ℕ → ℕ → List ℕ → List ℕ → List ℕ
take_from H s mw r = less_hours H available_part s mw r

-- Giving back adds to available where that row is CONFIRMED, otherwise to its displaced
unfoldable pub returns_to : List ℕ → ℕ
returns_to r = pick (is_confirmed r) available_part displaced_part

unfoldable pub give_back : ℕ → ℕ → List ℕ → List ℕ → List ℕ
give_back H s mw r = add_hours H (returns_to r) s mw r

-- Displacing adds all available to displaced and leaves available 0
unfoldable pub displaced_row : ℕ → List ℕ → List ℕ
displaced_row H r =
    r then add_hours H displaced_part (start r) (available H r)
    then clear_hours H available_part (start r) (span_hours r)
    then set_status DISPLACED

unfoldable pub displace : ℕ → ℕ → List ℕ → List ℕ
displace H n l = l then on_row H n (displaced_row H)

-- Annulling a confirmed row sets available to 0 and, for types 3 to 7, gives granted back
unfoldable pub annulled_row : ℕ → List ℕ → List ℕ
annulled_row H r = r then clear_hours H available_part (start r) (span_hours r) then set_status ANNULLED

unfoldable pub annul : ℕ → ℕ → List ℕ → List ℕ
annul H n l =
    let r = row H l n in
    l then when (not (original (reqtype r))) (on_row H (related_row H l n) (give_back H (start r) (granted H r)))
    then on_row H n (annulled_row H)

-- Reducing subtracts a profile from available and adds it to reduced
unfoldable pub reduced_row : ℕ → ℕ → List ℕ → List ℕ → List ℕ
reduced_row H s mw r = r then take_from H s mw then add_hours H reduced_part s mw

unfoldable pub reduce : ℕ → ℕ → List ℕ → List ℕ → List ℕ
reduce H n mw l = l then on_row H n (reduced_row H (start (row H l n)) mw)

-- the available, displaced and reduced words of row r are at most 100,000
unfoldable pub megawatts_within : ℕ → List ℕ → Bool
megawatts_within H r =
    within most_megawatts (available H r) && (within most_megawatts (displaced H r) && within most_megawatts (reduced H r))

-- an available, displaced or reduced word over 100,000
unfoldable pub carries_over : ℕ → List ℕ → Bool
carries_over H l = not (all_below (used l) (λ n. megawatts_within H (row H l n)))
