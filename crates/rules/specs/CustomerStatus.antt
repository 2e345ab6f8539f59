-- 3 Customer status. r is the row that the action names.
use Rattle.std.specs.Prelude.{Bool, ◌&&◌, not, List, [], ◌∷◌, ℕ, eqb}
use Rattle.words.specs.Lists.{equal}
use Rattle.rules.specs.Pick.{pick, ◌gives◌else◌, ◌only_if◌, ◌then◌, when, ◌among◌}
use Rattle.rules.specs.Numbers.{approved, requested_part, CONFIRMED}
use Rattle.rules.specs.Layout.{on_row, customer, start, offer, has, set_status, set_bid, requested, set_hours}
use Rattle.rules.specs.Moves.{customer_may}
use Rattle.rules.specs.Megawatts.{in_force}
use Rattle.rules.specs.Confirming.{confirm, confirm_number}
use Rattle.rules.specs.Checks.{named, named_row, profile, comes, bad_if_comes, bad_price, no_reference, bad_status}
use Rattle.rules.specs.declared.Action.{Action}

-- 3: not the customer
unfoldable pub not_customer : Action → List ℕ → Bool
not_customer a r = not (eqb a.actor (customer r))

-- 11
unfoldable pub no_customer_move : Action → List ℕ → Bool
no_customer_move a r = not (customer_may r a.status)

unfoldable pub bids : Action → Bool
bids a = a.status among (8 ∷ 13 ∷ [])

unfoldable pub confirms : Action → Bool
confirms a = eqb a.status CONFIRMED

unfoldable pub requested_after : ℕ → List ℕ → Action → List ℕ → List ℕ
requested_after H w a r = pick (comes a) (profile w a) (requested H r)

-- 12, for 13 any inequality: bid and offer, requested and granted; a granted never given counts as the requested before the action
unfoldable pub unfit_bid : ℕ → List ℕ → Action → List ℕ → Bool
unfit_bid H w a r = not (eqb a.price (offer r) && equal (requested_after H w a r) (in_force H r))

unfoldable pub bid_confirm_number : ℕ → List ℕ → List ℕ → Action → ℕ
bid_confirm_number H l w a =
    unfit_bid H w a (named_row H l a) gives 12 else
    confirm_number H l (named a) (in_force H (named_row H l a)) (has approved (named_row H l a))

unfoldable pub bid_number : ℕ → List ℕ → List ℕ → Action → ℕ
bid_number H l w a =
    bad_if_comes w a (named_row H l a) gives 7 else
    bad_price a gives 12 else
    (bid_confirm_number H l w a only_if confirms a)

unfoldable pub customer_number : ℕ → List ℕ → List ℕ → Action → ℕ
customer_number H l w a =
    no_reference l a gives 4 else
    bad_status a gives 2 else
    not_customer a (named_row H l a) gives 3 else
    no_customer_move a (named_row H l a) gives 11 else
    (bid_number H l w a only_if bids a)

-- The customer's own moves to 8 and 13 set bid and replace requested if a profile comes
unfoldable pub bidden : ℕ → List ℕ → Action → List ℕ → List ℕ
bidden H w a r = r then set_bid a.price then when (comes a) (set_hours H requested_part (start r) (profile w a))

-- 13 confirms with the profile in force before the action
unfoldable pub bid_after : ℕ → List ℕ → List ℕ → Action → List ℕ
bid_after H l w a =
    l then on_row H (named a) (bidden H w a)
    then pick (confirms a) (confirm H (named a) (in_force H (named_row H l a))) (on_row H (named a) (set_status a.status))

unfoldable pub customer_after : ℕ → List ℕ → List ℕ → Action → List ℕ
customer_after H l w a = pick (bids a) (bid_after H l w a) (on_row H (named a) (set_status a.status) l)
