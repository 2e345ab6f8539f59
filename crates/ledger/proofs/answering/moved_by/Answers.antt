use Rattle.std.proofs.Common.{◌∙◌, eq-eqb}
use borrow.Author.Tests.{ne_eqb}
use Rattle.rules.specs.Act.{moved_by}
use Rattle.rules.proofs.Picks.{hit_by, skip}
use Rattle.ledger.proofs.Laws.{coded, is_reduce}
use Rattle.ledger.proofs.answering.moved_by.Goals as goal

pub returns-in-Reduce : goal.returns-in-Reduce
unfolding moved_by
returns-in-Reduce c = hit_by _ _ _ _ (eq-eqb _ _ (coded c.args.known c.in-Reduce.is)) c.profile_total.ensures

pub returns-in_default : goal.returns-in_default
unfolding moved_by
returns-in_default c = skip _ _ _ _ (ne_eqb _ _ (λ q. c.in_default.not-Reduce (is_reduce _ (c.args.known.code ∙ q)))) c.moved.ensures
