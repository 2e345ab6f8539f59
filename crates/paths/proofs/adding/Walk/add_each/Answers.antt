use native.Mathlib.Omega.{arith}
use Rattle.paths.proofs.Walk.{walking_start, walking_turn, walking_sums, walking_done}
use Rattle.paths.proofs.adding.Walk.add_each.Goals as goal

pub loop-m-init : goal.loop-m-init
loop-m-init c = walking_start _ _ _ _ _ c.requires

pub add_counted-requires-clause-sums : goal.add_counted-requires-clause-sums
add_counted-requires-clause-sums c =
    walking_sums c.loop-m.invariant c.args.self.ledger.sound_at c.args.self.changing (omega (arith, c.used-m-end.ensures))

pub loop-m-preserved : goal.loop-m-preserved
loop-m-preserved c = walking_turn c.loop-m.invariant (omega (arith, c.used-m-end.ensures)) c.add_counted.ensures

pub returns : goal.returns
returns c = walking_done c.loop-m.invariant (omega (arith, c.used-m-end.ensures))
