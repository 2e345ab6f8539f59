use Rattle.std.proofs.Common.{◌∙◌, sym, arith}
use Rattle.unwinding.proofs.Marked.{marks_start}
use Rattle.unwinding.proofs.Carried.{row_in, goes_marked, following_start, following_told}
use Rattle.unwinding.proofs.Carried.{following_fails, following_turn, following_done}
use Rattle.unwinding.proofs.carrying.Carrying.follow.Goals as goal

pub loop-r-init : goal.loop-r-init
loop-r-init c = following_start _ _ _ _ _ (marks_start c.args.self.refs.now c.none-marks.ensures) c.requires

pub unwind_row-requires-clause-going : goal.unwind_row-requires-clause-going
unwind_row-requires-clause-going c =
    goes_marked c.args.self c.loop-r.r-index (omega arith) c.row_of-n.ensures c.loop-r.invariant.gone

pub is_carried-requires-clause-n_bound : goal.is_carried-requires-clause-n_bound
is_carried-requires-clause-n_bound c = row_in c.args.self c.loop-r.r-index (omega arith) c.row_of-n.ensures

pub returns-then-not-is_carried : goal.returns-then-not-is_carried
returns-then-not-is_carried c =
    let told = following_told c.loop-r.invariant c.row_of-n.ensures c.unwind_row.ensures.sums c.is_carried.ensures in
    following_fails c.loop-r.invariant c.row_of-n.ensures c.unwind_row.ensures.sums (omega arith)
    (sym told ∙ c.if-not-is_carried.true)

pub loop-r-preserved : goal.loop-r-preserved
loop-r-preserved c =
    let told = following_told c.loop-r.invariant c.row_of-n.ensures c.unwind_row.ensures.sums c.is_carried.ensures in
    following_turn c.loop-r.invariant c.row_of-n.ensures c.unwind_row.ensures.sums (omega arith)
    c.unwind_row.ensures.marks (sym told ∙ c.if-not-is_carried.false)

pub returns : goal.returns
returns c = following_done c.loop-r.invariant (omega arith)
