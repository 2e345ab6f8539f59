use Rattle.std.proofs.Common.{◌∙◌}
use Rattle.layout.proofs.SoundAt.{head_fits}
use Rattle.ledger.proofs.Laws.{coded, number_is}
use Rattle.ledger.proofs.numbering.check_kind.Goals as goal

pub check_clock-requires : goal.check_clock-requires
check_clock-requires c = head_fits c.args.ledger.sound_at

pub check_post-requires : goal.check_post-requires
check_post-requires c = head_fits c.args.ledger.sound_at

pub returns-in-Submit : goal.returns-in-Submit
returns-in-Submit c = c.check_submit.ensures ∙ number_is _ _ _ _ (coded c.args.known c.in-Submit.is)

pub returns-in-SellerStatus : goal.returns-in-SellerStatus
returns-in-SellerStatus c = c.check_seller_status.ensures ∙ number_is _ _ _ _ (coded c.args.known c.in-SellerStatus.is)

pub returns-in-CustomerStatus : goal.returns-in-CustomerStatus
returns-in-CustomerStatus c = c.check_customer_status.ensures ∙ number_is _ _ _ _ (coded c.args.known c.in-CustomerStatus.is)

pub returns-in-Approve : goal.returns-in-Approve
returns-in-Approve c = c.check_approve.ensures ∙ number_is _ _ _ _ (coded c.args.known c.in-Approve.is)

pub returns-in-Reduce : goal.returns-in-Reduce
returns-in-Reduce c = c.check_reduce.ensures ∙ number_is _ _ _ _ (coded c.args.known c.in-Reduce.is)

pub returns-in-Lapse : goal.returns-in-Lapse
returns-in-Lapse c = c.check_lapse.ensures ∙ number_is _ _ _ _ (coded c.args.known c.in-Lapse.is)

pub returns-in-Clock : goal.returns-in-Clock
returns-in-Clock c = c.check_clock.ensures ∙ number_is _ _ _ _ (coded c.args.known c.in-Clock.is)

pub returns-in-Post : goal.returns-in-Post
returns-in-Post c = c.check_post.ensures ∙ number_is _ _ _ _ (coded c.args.known c.in-Post.is)
