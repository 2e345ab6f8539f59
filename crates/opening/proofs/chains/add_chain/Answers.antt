use Prim.Native.Nat.{◌-◌}
use native.Mathlib.Omega.{arith}
use Rattle.opening.proofs.Added.{few, walking_turn, walking_room, walking_done}
use Rattle.opening.proofs.chains.add_chain.Goals as goal

pub add_share-requires : goal.add_share-requires
add_share-requires g c =
    walking_room c.loop-m.invariant (few c.args.ledger.sound_at) c.requires.last_bound c.requires.sums

pub loop-m-smaller : goal.loop-m-smaller
loop-m-smaller g c =
    let low = c.requires.falling.falls (c.loop-m.m - 1) (omega (arith, c.loop-m-test.true, c.loop-m.invariant.below)) in
    omega (arith, low, c.loop-m-test.true)

pub loop-m-preserved : goal.loop-m-preserved
loop-m-preserved g c = walking_turn c.loop-m.invariant c.requires.falling c.loop-m-test.true c.add_share.ensures.sums c.add_share.ensures.most

pub returns : goal.returns
returns g c = walking_done c.loop-m.invariant c.loop-m-test.false c.requires.sums.long
