use Rattle.std.proofs.Common.{◌&&◌, true, ◌∙◌, rules}
use Rattle.std.proofs.lemmas.Iterator.{YieldsList-from_zip, YieldsList-from_slice}
use Rattle.std.proofs.lemmas.Iterator.Consumers.{fold_from_yields_List}
use Rattle.words.proofs.Laws.{fold_pairs}
use Rattle.words.proofs.every_pair.Goals as goal

pub returns : goal.returns
returns g c =
    λ p law.
    fold_from_yields_List _ (λ ok x. ok && p x.0 x.1) true _ c.fold.ensures.ran (YieldsList-from_zip (YieldsList-from_slice c.args.a.now cc) (YieldsList-from_slice c.args.b.now cc)) (λ ok x b q k. search (rules, law))
    ∙ fold_pairs p c.args.a.now c.args.b.now c.requires.b_len
