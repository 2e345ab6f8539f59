use Rattle.std.proofs.Common.{◌+◌, rules}
use lib.Dec.{leb}
use Rattle.words.specs.Lists.{roomy}
use Rattle.words.proofs.Laws.{leb_add}
use Rattle.words.proofs.all_roomy.Goals as goal

pub returns : goal.returns
unfolding roomy
returns c = c.every_pair.ensures (λ x y. leb (x + y) c.args.bound) (λ x y r e. search (rules, leb_add))
