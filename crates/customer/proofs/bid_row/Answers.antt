use Rattle.customer.proofs.Laws.{bidding}
use Rattle.customer.proofs.bid_row.Goals as goal

pub set_hours-requires : goal.set_hours-requires
set_hours-requires c = search bidding
