use Rattle.std.proofs.Common.{◌∙◌, not, ◌||◌, ℕ, Bool, refl, arith, rules}
use Rattle.std.proofs.lemmas.Iterator.{YieldsList-from_range}
use Rattle.std.proofs.lemmas.Iterator.Search.{all_from_yields_List}
use Rattle.words.specs.Lists.{all_below}
use Rattle.rules.proofs.Unwound.{fits_in}
use Rattle.unwinding.specs.Marks.{marked}
use Rattle.words.proofs.Every.{all_numbers}
use Rattle.unwinding.proofs.Fitted.{fits_told}
use Rattle.unwinding.proofs.rows.Rows.all_fit.Goals as goal

pub returns : goal.returns
returns c =
    let H : ℕ = c.args.self.ledger.size.hours in
    let late : ℕ → Bool = λ p. marked c.args.moved.now.late p in
    let fits : ℕ → Bool = λ p. not (late p)
    || all_below H (λ h. fits_in H c.args.self.ledger.words.now (marked c.args.moved.now.gone) p h) in
    fits_told H c.args.self.ledger.words.now late c.args.self.used_value c.requires
    (all_from_yields_List fits _ _ _ c.all.ensures.ran
    (YieldsList-from_range 0 c.args.self.used c.args.self.used refl (omega arith)) (λ x b q k. search rules)
    ∙ all_numbers fits c.args.self.used)
