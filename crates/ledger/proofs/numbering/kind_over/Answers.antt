use Rattle.ledger.proofs.Laws.{coded, carries_none, seller_none, customer_none, reduce_none, lapse_none, seller_over, customer_over, reduce_over, lapse_over, over_none}
use Rattle.ledger.proofs.numbering.kind_over.Goals as goal

pub seller_over-requires : goal.seller_over-requires
seller_over-requires c = seller_none _ _ _ _ c.requires (coded c.args.known c.in-SellerStatus.is)

pub returns-in-SellerStatus : goal.returns-in-SellerStatus
returns-in-SellerStatus c = seller_over _ _ _ _ (coded c.args.known c.in-SellerStatus.is) c.seller_over.ensures

pub customer_over-requires : goal.customer_over-requires
customer_over-requires c = customer_none _ _ _ _ c.requires (coded c.args.known c.in-CustomerStatus.is)

pub returns-in-CustomerStatus : goal.returns-in-CustomerStatus
returns-in-CustomerStatus c = customer_over _ _ _ _ (coded c.args.known c.in-CustomerStatus.is) c.customer_over.ensures

pub reduce_over-requires : goal.reduce_over-requires
reduce_over-requires c = reduce_none _ _ _ _ c.requires (coded c.args.known c.in-Reduce.is)

pub returns-in-Reduce : goal.returns-in-Reduce
returns-in-Reduce c = reduce_over _ _ _ _ (coded c.args.known c.in-Reduce.is) c.reduce_over.ensures

pub lapse_over-requires : goal.lapse_over-requires
lapse_over-requires c = lapse_none _ _ _ _ c.requires (coded c.args.known c.in-Lapse.is)

pub returns-in-Lapse : goal.returns-in-Lapse
returns-in-Lapse c = lapse_over _ _ _ _ (coded c.args.known c.in-Lapse.is) c.lapse_over.ensures

pub returns-in-Submit : goal.returns-in-Submit
returns-in-Submit c =
    let none = over_none c.args.ledger.sound_at c.args.known.request.words.now c.args.known.request.action c.requires in
    let n = carries_none c.args.known c.in-Submit.is in
    none n.0 n.1 n.2 n.3
