use Rattle.std.proofs.Common.{arith}
use Rattle.rules.specs.Layout.{rows, hours}
use Rattle.rules.proofs.Rows.{row_least}
use Rattle.rules.proofs.SoundFacts.{head_facts}
use Rattle.layout.proofs.sound.head_size.Goals as goal

pub bounds-l-0 : goal.bounds-l-0
bounds-l-0 c = let k = head_facts _ c.requires in omega (arith, k.long, row_least (hours c.args.l.now) (rows c.args.l.now))

pub bounds-l-1 : goal.bounds-l-1
bounds-l-1 c = let k = head_facts _ c.requires in omega (arith, k.long, row_least (hours c.args.l.now) (rows c.args.l.now))

pub invariant_of-result : goal.invariant_of-result
invariant_of-result c = let k = head_facts _ c.requires in record { in_range = (omega (arith, k), omega (arith, k)) }
