use Rattle.std.proofs.Common.{sym, ◌∙◌}
use Rattle.customer.proofs.Laws.{suiting, after_rebid, after_other}
use Rattle.customer.proofs.customer_status.Goals as goal
use Rattle.customer.proofs.customer_status.Goals.{then-is_bid, else-is_bid}

pub confirm_bid-requires-clause-suits : goal.confirm_bid-requires-clause-suits
confirm_bid-requires-clause-suits c = search suiting

pub bid-requires-clause-suits : goal.bid-requires-clause-suits
bid-requires-clause-suits c = search suiting

pub returns : goal.returns
returns c =
    let rests = sym c.is_confirming.ensures ∙ c.if-is_confirming.false in
    elim c.if-is_bid.branch [
      | then-is_bid w ↦ c.set_word.ensures ∙ cc (w.l-is, w.bid.ensures, c.named-n.ensures, after_rebid c.args.size.hours c.args.l.now c.args.request.words.now c.args.request.action (sym c.is_bid.ensures ∙ w.if-is_bid.true) rests)
      | else-is_bid w ↦ c.set_word.ensures ∙ cc (w.l-is, c.named-n.ensures, after_other c.args.size.hours c.args.l.now c.args.request.words.now c.args.request.action (sym c.is_bid.ensures ∙ w.if-is_bid.false))
    ]
