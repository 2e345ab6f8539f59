use Rattle.seller.proofs.Laws.{passed_suits}
use Rattle.seller.proofs.status.offer_uses.Goals as goal

pub granted_after-requires : goal.granted_after-requires
granted_after-requires c =
    let e = c.reservation-r.ensures in passed_suits c.args.posted.ledger.sound_at _ _ c.requires.accepted c.named-n.ensures c.requires.offered (cc (e.words, e.n))
