use Rattle.std.proofs.Common.{rules}
use lib.Dec.{leb}
use Rattle.words.specs.Lists.{covered}
use Rattle.words.proofs.all_covered.Goals as goal

pub returns : goal.returns
unfolding covered
returns c = c.every_pair.ensures leb (λ x y r e. search rules)
