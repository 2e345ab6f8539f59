-- For contracts inside this crate, no promise to the outside: when a move carries a word over 100,000, and what the functions ask of row n that is named.
use Rattle.std.specs.Prelude.{◌≡◌, Bool, true, false, ◌&&◌, List, ℕ, ◌+◌, ◌≤◌, eqb}
use Rattle.rules.specs.Pick.{pick}
use Rattle.rules.specs.Numbers.{most_price, DISPLACED}
use Rattle.rules.specs.Layout.{window, clock, row, on_row}
use Rattle.rules.specs.Megawatts.{in_force}
use Rattle.rules.specs.Confirming.{short}
use Rattle.rules.specs.Checks.{named}
use Rattle.rules.specs.SellerStatus.{granted_after, goes_on, annuls_confirmed, offered}
use Rattle.rules.specs.declared.Action.{Action}
use Rattle.rules.proofs.Over.{over_confirming, over_annulling, over_displacing}
use Rattle.layout.specs.Placed.{Placed}
use Rattle.checks.specs.Suits.{Suits}

-- row n is offered with mw granted, or moved otherwise
unfoldable pub over_offer : ℕ → List ℕ → ℕ → Action → List ℕ → Bool
over_offer H l n a mw = goes_on a (row H l n) && over_confirming H l n mw

unfoldable pub over_other : ℕ → List ℕ → ℕ → Action → Bool
over_other H l n a =
    pick (eqb a.status DISPLACED) (over_displacing H (row H l n)) (
    pick (annuls_confirmed a (row H l n)) (over_annulling H l n)
    false)

-- mw is in force in row n, which may be confirmed with it
pub record Confirms (l : List ℕ) (R H n : ℕ) (mw : List ℕ) : Type 0 where
  pub placed : Placed l R H n
  pub force : in_force H (row H l n) ≡ mw
  pub short : short H l n mw ≡ false
  pub over : over_confirming H l n mw ≡ false

-- row n may be offered, and confirmed then if it goes on
pub record Offering (l w : List ℕ) (R H n : ℕ) (a : Action) : Type 0 where
  pub placed : Placed l R H n
  pub named : n ≡ named a
  pub suits : Suits w a (row H l n)
  pub price : a.price ≤ most_price
  pub confirms : goes_on a (row H l n) ≡ true → Confirms (on_row H n (offered H (clock l + window l) a (granted_after H w a (row H l n))) l) R H n (granted_after H w a (row H l n))
