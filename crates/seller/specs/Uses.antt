-- For contracts inside the crate: 22 of a seller's move, as rules.proofs.KindPaths.seller_use says it. No promise to
-- the outside names these.
use Rattle.std.specs.Prelude.{Bool, ◌&&◌, List, ℕ}
use Rattle.rules.specs.Pick.{pick}
use Rattle.rules.specs.Checks.{named, named_row}
use Rattle.rules.specs.SellerStatus.{offers, goes_on, annuls_confirmed, granted_after}
use Rattle.rules.specs.declared.Action.{Action}
use Rattle.rules.proofs.After.{use_confirming, use_annulling}
use Rattle.rules.proofs.OverPaths.{exceeds_at}

-- a row that goes on to 13, with granted after the action; a row that is annulled from 13
unfoldable pub offer_uses : ℕ → List ℕ → List ℕ → Action → List ℕ → Bool
offer_uses H l w a ps = goes_on a (named_row H l a) && exceeds_at H l (named a) ps (λ x h. use_confirming H l (named a) (granted_after H w a (named_row H l a)) x h)

unfoldable pub seller_uses : ℕ → List ℕ → List ℕ → Action → List ℕ → Bool
seller_uses H l w a ps =
    pick (offers a) (offer_uses H l w a ps)
    (annuls_confirmed a (named_row H l a) && exceeds_at H l (named a) ps (λ x h. use_annulling H l (named a) x h))
