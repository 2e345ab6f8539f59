use Rattle.std.proofs.Common.{arith}
use Rattle.opening.proofs.Added.{few}
use Rattle.unwinding.proofs.Movable.{moving_start, moving_fails, moving_row, moving_turn}
use Rattle.unwinding.proofs.Movable.{moving_done, moving_marks, moving_late}
use Rattle.unwinding.proofs.rows.Rows.note_all.Goals as goal

pub loop-r-init : goal.loop-r-init
loop-r-init c = moving_start _ _ _ c.requires.gone c.requires.late

pub returns-then-not-movable : goal.returns-then-not-movable
returns-then-not-movable c = moving_fails c.loop-r.invariant (omega arith) c.movable.ensures c.if-not-movable.true

pub mark_late-requires : goal.mark_late-requires
mark_late-requires c =
    omega (
      arith,
      moving_row c.loop-r.invariant (omega arith) c.movable.ensures c.if-not-movable.false c.row_of-n.ensures,
      c.args.self.used_value,
    )

pub add-requires : goal.add-requires
add-requires c =
    omega (
      arith,
      moving_row c.loop-r.invariant (omega arith) c.movable.ensures c.if-not-movable.false c.row_of-n.ensures,
      few c.args.self.ledger.sound_at,
    )

pub loop-r-preserved : goal.loop-r-preserved
loop-r-preserved c =
    moving_turn c.loop-r.invariant (omega arith) c.movable.ensures c.if-not-movable.false c.row_of-n.ensures
    c.add.ensures c.mark_late.ensures

pub returns : goal.returns
returns c = (
  moving_done c.loop-r.invariant (omega arith),
  moving_marks c.loop-r.invariant (omega arith),
  moving_late c.loop-r.invariant (omega arith),
)
