use Rattle.std.proofs.Common.{◌∙◌}
use Rattle.layout.proofs.SoundAt.{head_fits}
use Rattle.ledger.proofs.Laws.{coded, submit_none, seller_none, customer_none, approve_none, reduce_none, lapse_none, seller_last, customer_last, reduce_last, lapse_last, after_is}
use Rattle.ledger.proofs.applying.apply.Goals as goal

pub clock-requires : goal.clock-requires
clock-requires c = head_fits c.requires.sound_at

pub submit-requires-clause-accepted : goal.submit-requires-clause-accepted
submit-requires-clause-accepted c = submit_none _ _ _ _ c.requires.a_value (coded c.args.known c.in-Submit.is)

pub returns-in-Submit : goal.returns-in-Submit
returns-in-Submit c = c.submit.ensures ∙ after_is _ _ _ _ (coded c.args.known c.in-Submit.is)

pub seller_status-requires-clause-accepted : goal.seller_status-requires-clause-accepted
seller_status-requires-clause-accepted c = seller_none _ _ _ _ c.requires.a_value (coded c.args.known c.in-SellerStatus.is)

pub seller_status-requires-clause-not_over : goal.seller_status-requires-clause-not_over
seller_status-requires-clause-not_over c = seller_last _ _ _ _ c.requires.a_value_2 (coded c.args.known c.in-SellerStatus.is)

pub returns-in-SellerStatus : goal.returns-in-SellerStatus
returns-in-SellerStatus c = c.seller_status.ensures ∙ after_is _ _ _ _ (coded c.args.known c.in-SellerStatus.is)

pub customer_status-requires-clause-accepted : goal.customer_status-requires-clause-accepted
customer_status-requires-clause-accepted c = customer_none _ _ _ _ c.requires.a_value (coded c.args.known c.in-CustomerStatus.is)

pub customer_status-requires-clause-not_over : goal.customer_status-requires-clause-not_over
customer_status-requires-clause-not_over c = customer_last _ _ _ _ c.requires.a_value_2 (coded c.args.known c.in-CustomerStatus.is)

pub returns-in-CustomerStatus : goal.returns-in-CustomerStatus
returns-in-CustomerStatus c = c.customer_status.ensures ∙ after_is _ _ _ _ (coded c.args.known c.in-CustomerStatus.is)

pub approve-requires-clause-a_value : goal.approve-requires-clause-a_value
approve-requires-clause-a_value c = approve_none _ _ _ _ c.requires.a_value (coded c.args.known c.in-Approve.is)

pub returns-in-Approve : goal.returns-in-Approve
returns-in-Approve c = c.approve.ensures ∙ after_is _ _ _ _ (coded c.args.known c.in-Approve.is)

pub reduce-requires-clause-a_value : goal.reduce-requires-clause-a_value
reduce-requires-clause-a_value c = reduce_none _ _ _ _ c.requires.a_value (coded c.args.known c.in-Reduce.is)

pub reduce-requires-clause-a_value_2 : goal.reduce-requires-clause-a_value_2
reduce-requires-clause-a_value_2 c = reduce_last _ _ _ _ c.requires.a_value_2 (coded c.args.known c.in-Reduce.is)

pub returns-in-Reduce : goal.returns-in-Reduce
returns-in-Reduce c = c.reduce.ensures ∙ after_is _ _ _ _ (coded c.args.known c.in-Reduce.is)

pub lapse-requires-clause-a_value : goal.lapse-requires-clause-a_value
lapse-requires-clause-a_value c = lapse_none _ _ _ _ c.requires.a_value (coded c.args.known c.in-Lapse.is)

pub lapse-requires-clause-a_value_2 : goal.lapse-requires-clause-a_value_2
lapse-requires-clause-a_value_2 c = lapse_last _ _ _ _ c.requires.a_value_2 (coded c.args.known c.in-Lapse.is)

pub returns-in-Lapse : goal.returns-in-Lapse
returns-in-Lapse c = c.lapse.ensures ∙ after_is _ _ _ _ (coded c.args.known c.in-Lapse.is)

pub returns-in-Clock : goal.returns-in-Clock
returns-in-Clock c = c.clock.ensures ∙ after_is _ _ _ _ (coded c.args.known c.in-Clock.is)

pub returns-in-Post : goal.returns-in-Post
returns-in-Post c = after_is _ _ _ _ (coded c.args.known c.in-Post.is)
