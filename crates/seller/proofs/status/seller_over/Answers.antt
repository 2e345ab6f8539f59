use Rattle.std.proofs.Common.{sym, ◌∙◌}
use Rattle.seller.proofs.Laws.{passed_suits}
use Rattle.seller.proofs.status.seller_over.Goals as goal

pub over_offer-requires : goal.over_offer-requires
over_offer-requires c =
    let e = c.reservation-r.ensures in passed_suits c.args.ledger.sound_at _ _ c.requires c.named.ensures (sym c.offers.ensures ∙ c.if-offers.true) (cc (e.words, e.n))
