use Rattle.std.proofs.Common.{rules}
use lib.Dec.{eqb}
use Rattle.words.specs.Lists.{equal}
use Rattle.words.proofs.all_equal.Goals as goal

pub returns : goal.returns
unfolding equal
returns c = c.every_pair.ensures eqb (λ x y r e. search rules)
