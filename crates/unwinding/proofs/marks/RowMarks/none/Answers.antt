use Rattle.unwinding.proofs.Marked.{none_marked}
use Rattle.unwinding.proofs.marks.RowMarks.none.Goals as goal

pub returns : goal.returns
returns c = none_marked
