use Rattle.customer.proofs.Laws.{placed_after}
use Rattle.customer.proofs.confirm_bid.Goals as goal

pub confirm_own-requires-clause-placed : goal.confirm_own-requires-clause-placed
confirm_own-requires-clause-placed c = search placed_after
