use Rattle.std.proofs.Common.{ap, ◌∙◌, arith}
use Rattle.words.specs.Lists.{noughts}
use Rattle.opening.proofs.Added.{sums_wider}
use Rattle.unwinding.proofs.Counted.{in_use}
use Rattle.unwinding.proofs.GivenBack.{backing_start, backing_turn, backing_sums, backing_done}
use Rattle.unwinding.proofs.rows.Rows.sum_back.Goals as goal

pub loop-j-init : goal.loop-j-init
loop-j-init c = backing_start _ _ _ _ (c.clear.ensures ∙ ap noughts c.requires)

pub add_gave-requires-clause-sums : goal.add_gave-requires-clause-sums
add_gave-requires-clause-sums c = sums_wider (omega arith) (backing_sums c.loop-j.invariant c.args.self.ledger.sound_at)

pub loop-j-preserved : goal.loop-j-preserved
loop-j-preserved c =
    backing_turn c.loop-j.invariant (in_use c.args.self (omega arith)) c.add_gave.ensures

pub returns : goal.returns
returns c = backing_done c.loop-j.invariant (omega (arith, c.args.self.used_value))
