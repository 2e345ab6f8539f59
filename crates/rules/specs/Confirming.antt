-- Confirming row n with the megawatts mw granted. The seller's 10, the customer's 13, approval and lapse confirm.
use Rattle.std.specs.Prelude.{Bool, ◌&&◌, not, List, ℕ, eqb, length}
use Rattle.words.specs.Lists.{covered, equal}
use Rattle.rules.specs.Pick.{pick, ◌gives◌else◌, ◌then◌}
use Rattle.rules.specs.Numbers.{available_part, CONFIRMED, FULL_TRANSFER, RELINQUISH}
use Rattle.rules.specs.Layout.{row, on_row, reqtype, start, stop, related_row, set_status, hours_of, set_hours, clear_hours}
use Rattle.rules.specs.Sound.{original, transfer}
use Rattle.rules.specs.Moves.{is_confirmed}
use Rattle.rules.specs.Megawatts.{grant, take_from, give_back}

-- the row is CONFIRMED with granted; its available is granted, or 0
unfoldable pub held : ℕ → ℕ → List ℕ → List ℕ → List ℕ
held H s mw r = r then set_hours H available_part s mw then grant H s mw then set_status CONFIRMED

unfoldable pub emptied : ℕ → ℕ → List ℕ → List ℕ → List ℕ
emptied H s mw r = r then clear_hours H available_part s (length mw) then grant H s mw then set_status CONFIRMED

-- Types 1, 2 set available = granted
unfoldable pub confirm_original : ℕ → ℕ → List ℕ → List ℕ → List ℕ
confirm_original H n mw l = l then on_row H n (held H (start (row H l n)) mw)

-- Types 3 to 7 take granted from the related row's available and set their own available to it
unfoldable pub confirm_derived : ℕ → ℕ → List ℕ → List ℕ → List ℕ
confirm_derived H n mw l =
    let s = start (row H l n) in
    l then on_row H (related_row H l n) (take_from H s mw)
    then on_row H n (held H s mw)

-- Type 8 takes granted from the related redirect's available and gives it back to that redirect's related row; its own available is 0
unfoldable pub confirm_relinquish : ℕ → ℕ → List ℕ → List ℕ → List ℕ
confirm_relinquish H n mw l =
    let s = start (row H l n) in
    let redirect = related_row H l n in
    l then on_row H redirect (take_from H s mw)
    then on_row H (related_row H l redirect) (give_back H s mw)
    then on_row H n (emptied H s mw)

unfoldable pub confirm : ℕ → ℕ → List ℕ → List ℕ → List ℕ
confirm H n mw l =
    pick (original (reqtype (row H l n))) (confirm_original H n mw l) (
    pick (eqb (reqtype (row H l n)) RELINQUISH) (confirm_relinquish H n mw l)
    (confirm_derived H n mw l))

-- 13: types 6, 7 unapproved
unfoldable pub unapproved : ℕ → List ℕ → ℕ → Bool → Bool
unapproved H l n isApproved = transfer (reqtype (row H l n)) && not isApproved

-- 9: related row not CONFIRMED
unfoldable pub unconfirmed : ℕ → List ℕ → ℕ → Bool
unconfirmed H l n = not (original (reqtype (row H l n))) && not (is_confirmed (row H l (related_row H l n)))

-- the related row's available in the hours of row n
unfoldable pub drawn_from : ℕ → List ℕ → ℕ → ℕ → List ℕ
drawn_from H l n count = hours_of H available_part (start (row H l n)) count (row H l (related_row H l n))

-- 14: available short in an hour
unfoldable pub short : ℕ → List ℕ → ℕ → List ℕ → Bool
short H l n mw = not (original (reqtype (row H l n))) && not (covered mw (drawn_from H l n (length mw)))

-- 14: for type 7 span not the related row's or granted not its available in an hour
unfoldable pub same_span : List ℕ → List ℕ → Bool
same_span r q = eqb (start r) (start q) && eqb (stop r) (stop q)

unfoldable pub partial : ℕ → List ℕ → ℕ → List ℕ → Bool
partial H l n mw =
    eqb (reqtype (row H l n)) FULL_TRANSFER
    && not (same_span (row H l n) (row H l (related_row H l n)) && equal mw (drawn_from H l n (length mw)))

unfoldable pub confirm_number : ℕ → List ℕ → ℕ → List ℕ → Bool → ℕ
confirm_number H l n mw isApproved =
    unapproved H l n isApproved gives 13 else
    unconfirmed H l n gives 9 else
    short H l n mw gives 14 else
    partial H l n mw gives 14 else
    0
