use Rattle.std.proofs.Common.{◌&&◌, true, ◌∙◌, ◌+◌, rules}
use lib.Dec.{leb}
use Rattle.std.proofs.lemmas.Iterator.{YieldsList-from_zip, YieldsList-from_slice}
use Rattle.std.proofs.lemmas.Iterator.Consumers.{fold_from_yields_List}
use Rattle.words.proofs.Laws.{fold_pairs}
use Rattle.rules.specs.Numbers.{most_megawatts}
use Rattle.unwinding.proofs.fitting.within_beyond.Goals as goal

pub returns : goal.returns
returns c =
    fold_from_yields_List _ (λ ok x. ok && leb x.0 (most_megawatts + x.1)) true _ c.fold.ensures.ran
    (YieldsList-from_zip (YieldsList-from_slice c.args.sums.now cc) (YieldsList-from_slice c.args.v.now cc))
    (λ ok x b q k. search rules)
    ∙ fold_pairs (λ x y. leb x (most_megawatts + y)) c.args.sums.now c.args.v.now c.requires
