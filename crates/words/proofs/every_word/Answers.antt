use Rattle.std.proofs.Common.{◌&&◌, true, ◌∙◌, rules}
use Rattle.std.proofs.lemmas.Iterator.{YieldsList-from_slice}
use Rattle.std.proofs.lemmas.Iterator.Consumers.{fold_from_yields_List}
use Rattle.words.proofs.Laws.{fold_every}
use Rattle.words.proofs.every_word.Goals as goal

pub returns : goal.returns
returns g c =
    λ p law.
    fold_from_yields_List _ (λ ok x. ok && p x) true _ c.fold.ensures.ran (YieldsList-from_slice c.args.a.now cc) (λ ok x b q k. search (rules, law))
    ∙ fold_every p c.args.a.now
