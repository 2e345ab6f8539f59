-- 2 Seller status. r is the row that the action names, mw what is granted after the move.
use Rattle.std.specs.Prelude.{Bool, ◌&&◌, ◌||◌, not, List, [], ◌∷◌, ℕ, ◌+◌, eqb}
use Rattle.words.specs.Lists.{covered, equal}
use Rattle.rules.specs.Pick.{pick, ◌gives◌else◌, ◌only_if◌, ◌or_else◌, ◌then◌, when, ◌among◌}
use Rattle.rules.specs.Numbers.{preconfirmed, approved, offer_given, countered, ACCEPTED, DISPLACED, ANNULLED, RESALE}
use Rattle.rules.specs.Layout.{provider, window, clock, on_row, reqtype, seller, start, bid, has, raise, set_status, set_offer, set_limit, requested, granted, available}
use Rattle.rules.specs.Sound.{transfer}
use Rattle.rules.specs.Moves.{is_confirmed, seller_may}
use Rattle.rules.specs.Megawatts.{in_force, grant, displace, annul}
use Rattle.rules.specs.Confirming.{confirm, confirm_number}
use Rattle.rules.specs.Checks.{named, named_row, profile, comes, bad_if_comes, bad_price, no_reference, bad_status}
use Rattle.rules.specs.declared.Action.{Action}

-- 3: actor not the row's seller (the provider may also annul type 3)
unfoldable pub not_seller : List ℕ → Action → List ℕ → Bool
not_seller l a r =
    not (eqb a.actor (seller r))
    && not (eqb a.actor (provider l) && (eqb a.status ANNULLED && eqb (reqtype r) RESALE))

-- 11: move
unfoldable pub no_seller_move : Action → List ℕ → Bool
no_seller_move a r = not (seller_may r a.status)

-- 6, 7; 10, 11; any of them
unfoldable pub counters : Action → Bool
counters a = a.status among (6 ∷ 7 ∷ [])

unfoldable pub accepts : Action → Bool
accepts a = a.status among (10 ∷ 11 ∷ [])

unfoldable pub offers : Action → Bool
offers a = counters a || accepts a

-- granted after the move: the profile that comes, else the profile in force
unfoldable pub granted_after : ℕ → List ℕ → Action → List ℕ → List ℕ
granted_after H w a r = pick (comes a) (profile w a) (in_force H r)

-- 12: granted over requested in an hour (6, 7), or offer or granted unequal to bid or requested (10, 11)
unfoldable pub unfit_offer : ℕ → Action → List ℕ → List ℕ → Bool
unfit_offer H a mw r =
    pick (counters a) (not (covered mw (requested H r)))
    (not (eqb a.price (bid r) && equal mw (requested H r)))

-- a preconfirmed row moved to 10 goes on to 13; types 6 and 7 stay at 10 until approved
unfoldable pub goes_on : Action → List ℕ → Bool
goes_on a r = eqb a.status ACCEPTED && (has preconfirmed r && (not (transfer (reqtype r)) || has approved r))

-- 12; then, if it confirms, as confirming
unfoldable pub fit_number : ℕ → List ℕ → Action → List ℕ → ℕ
fit_number H l a mw =
    unfit_offer H a mw (named_row H l a) gives 12 else
    (confirm_number H l (named a) mw (has approved (named_row H l a)) only_if goes_on a (named_row H l a))

unfoldable pub offer_number : ℕ → List ℕ → List ℕ → Action → ℕ
offer_number H l w a =
    bad_if_comes w a (named_row H l a) gives 7 else
    bad_price a gives 12 else
    fit_number H l a (granted_after H w a (named_row H l a))

-- 15: annulling a confirmed row whose available differs from granted
unfoldable pub annuls_confirmed : Action → List ℕ → Bool
annuls_confirmed a r = eqb a.status ANNULLED && is_confirmed r

unfoldable pub partly_used : ℕ → Action → List ℕ → Bool
partly_used H a r = annuls_confirmed a r && not (equal (available H r) (granted H r))

unfoldable pub seller_number : ℕ → List ℕ → List ℕ → Action → ℕ
seller_number H l w a =
    no_reference l a gives 4 else
    bad_status a gives 2 else
    not_seller l a (named_row H l a) gives 3 else
    no_seller_move a (named_row H l a) gives 11 else
    (offer_number H l w a only_if offers a) or_else
    partly_used H a (named_row H l a) gives 15 else
    0

-- the row enters a status; a counteroffer marks it as countered in the same write
unfoldable pub entered : Bool → ℕ → List ℕ → List ℕ
entered counteroffer s r = r then when counteroffer (raise countered) then set_status s

-- Moves to 6, 7, 10, 11 set offer, replace granted if a profile comes, and set limit = now + window; to 10, 11 with
-- granted never given copies requested into it
unfoldable pub offered : ℕ → ℕ → Action → List ℕ → List ℕ → List ℕ
offered H expires a mw r =
    r then set_offer a.price then raise offer_given
    then when (comes a || accepts a) (grant H (start r) mw)
    then set_limit expires
    then entered (counters a) a.status

unfoldable pub offer_after : ℕ → List ℕ → Action → List ℕ → List ℕ
offer_after H l a mw =
    l then on_row H (named a) (offered H (clock l + window l) a mw)
    then when (goes_on a (named_row H l a)) (confirm H (named a) mw)

unfoldable pub other_after : ℕ → List ℕ → Action → List ℕ
other_after H l a =
    pick (eqb a.status DISPLACED) (displace H (named a) l) (
    pick (annuls_confirmed a (named_row H l a)) (annul H (named a) l)
    (on_row H (named a) (set_status a.status) l))

unfoldable pub seller_after : ℕ → List ℕ → List ℕ → Action → List ℕ
seller_after H l w a = pick (offers a) (offer_after H l a (granted_after H w a (named_row H l a))) (other_after H l a)
