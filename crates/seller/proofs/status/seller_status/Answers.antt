use Rattle.std.proofs.Common.{sym, ◌∙◌}
use Rattle.seller.proofs.Laws.{offering_at}
use Rattle.seller.proofs.status.seller_status.Goals as goal

pub offer-requires : goal.offer-requires
offer-requires c = offering_at c.requires.sound_at _ _ c.requires.accepted c.named-n.ensures (sym c.offers.ensures ∙ c.if-offers.true) c.requires.not_over
