use Rattle.ledger.proofs.Laws.{coded, uses_none, seller_none, customer_none, approve_waits, lapse_waits, post_asks}
use Rattle.ledger.proofs.Uses.{seller_uses_lem, customer_uses, approve_uses, lapse_uses, post_uses, rest_uses}
use Rattle.ledger.proofs.numbering.kind_uses.Goals as goal

pub seller_uses-requires : goal.seller_uses-requires
seller_uses-requires c = seller_none _ _ _ _ c.requires (coded c.args.known c.in-SellerStatus.is)

pub customer_uses-requires : goal.customer_uses-requires
customer_uses-requires c = customer_none _ _ _ _ c.requires (coded c.args.known c.in-CustomerStatus.is)

pub waiting_uses-requires : goal.waiting_uses-requires
waiting_uses-requires c = approve_waits _ _ _ _ c.requires (coded c.args.known c.in-Approve.is)

pub waiting_uses-requires-in-Lapse : goal.waiting_uses-requires-in-Lapse
waiting_uses-requires-in-Lapse c = lapse_waits _ _ _ _ c.requires (coded c.args.known c.in-Lapse.is)

pub post_uses-requires : goal.post_uses-requires
post_uses-requires c = post_asks _ _ _ _ c.requires (coded c.args.known c.in-Post.is)

pub returns-in-SellerStatus : goal.returns-in-SellerStatus
returns-in-SellerStatus c = seller_uses_lem c.args.posted.ledger.sound_at _ _ _ c.requires (coded c.args.known c.in-SellerStatus.is) c.seller_uses.ensures

pub returns-in-CustomerStatus : goal.returns-in-CustomerStatus
returns-in-CustomerStatus c = customer_uses c.args.posted.ledger.sound_at _ _ _ c.requires (coded c.args.known c.in-CustomerStatus.is) c.customer_uses.ensures

pub returns-in-Approve : goal.returns-in-Approve
returns-in-Approve c = approve_uses c.args.posted.ledger.sound_at _ _ _ c.requires (coded c.args.known c.in-Approve.is) c.waiting_uses.ensures

pub returns-in-Lapse : goal.returns-in-Lapse
returns-in-Lapse c = lapse_uses c.args.posted.ledger.sound_at _ _ _ c.requires (coded c.args.known c.in-Lapse.is) c.waiting_uses-in-Lapse.ensures

pub returns-in-Post : goal.returns-in-Post
returns-in-Post c = post_uses c.args.posted.ledger.sound_at _ _ _ c.requires (coded c.args.known c.in-Post.is) c.post_uses.ensures

pub returns-in-Submit : goal.returns-in-Submit
returns-in-Submit c =
    let none = rest_uses c.args.posted.ledger.sound_at c.args.known.request.words.now c.args.posted.postings.now c.args.known.request.action c.requires in
    let n = uses_none c.args.known c.in-Submit.is in
    none n.0 n.1 n.2 n.3 n.4
