use Rattle.std.proofs.Common.{◌∙◌, ℕ, Bool, refl, arith, rules}
use Rattle.std.proofs.lemmas.Iterator.{YieldsList-from_range}
use Rattle.std.proofs.lemmas.Iterator.Search.{all_from_yields_List}
use Rattle.words.proofs.Every.{all_numbers}
use Rattle.rules.specs.Sound.{sound_row}
use Rattle.layout.proofs.sound.sound_rows.Goals as goal

pub returns : goal.returns
returns c =
    let test : ℕ → Bool = λ n. sound_row c.args.size.hours c.args.l.now n in
    all_from_yields_List test _ _ _ c.all.ensures.ran
    (YieldsList-from_range 0 c.args.used c.args.used refl (omega arith)) (λ x b q k. search rules)
    ∙ all_numbers test c.args.used
