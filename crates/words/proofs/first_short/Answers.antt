use Rattle.std.proofs.Common.{arith}
use borrow.Author.Tests.{lt-ltb}
use Rattle.words.specs.Lists.{first_short}
use Rattle.words.proofs.Laws.{searching_found, searching_done}
use Rattle.words.proofs.first_short.Goals as goal

pub returns-then-i-a : goal.returns-then-i-a
unfolding first_short
returns-then-i-a c = searching_done c.loop-i.invariant (omega arith)

pub returns-then-a-i : goal.returns-then-a-i
unfolding first_short
returns-then-a-i c = searching_found c.loop-i.invariant (omega arith) (lt-ltb _ _ c.if-a-i.true)
