use Rattle.opening.proofs.Added.{held_added}
use Rattle.opening.proofs.sums.add_held.Goals as goal

pub returns : goal.returns
returns c =
    held_added c.args.entry.ledger.size.hours c.args.entry.ledger.words.now c.args.entry.n c.add_profile.ensures c.add_profile-2.ensures c.add_profile-3.ensures
