use Rattle.provider.proofs.Laws.{marked_placed}
use Rattle.provider.proofs.approve.approve.Goals as goal

pub confirm_own-requires-clause-placed : goal.confirm_own-requires-clause-placed
confirm_own-requires-clause-placed c = marked_placed c.requires.sound_at c.args.a c.requires.a_value c.named-n.ensures c.mark_approved.ensures
