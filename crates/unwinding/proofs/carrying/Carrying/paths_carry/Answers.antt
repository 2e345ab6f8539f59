use Rattle.std.proofs.Common.{◌+◌, ◌∙◌, ap, add-one, suc, ℕ, Bool, refl, rules}
use Rattle.std.proofs.lemmas.Iterator.{YieldsList-from_range}
use Rattle.std.proofs.lemmas.Iterator.Search.{all_from_yields_List}
use Rattle.words.proofs.Laws.{all_cong}
use Rattle.words.proofs.Every.{all_numbers}
use Rattle.unwinding.specs.Order.{carries_all, paths_carry}
use Rattle.unwinding.proofs.carrying.Carrying.paths_carry.Goals as goal

pub returns : goal.returns
unfolding paths_carry
returns c =
    let d = c.args.self in
    let carries : ℕ → Bool = λ x. carries_all d.rows.ledger.size.hours d.rows.ledger.words.now d.postings.now d.refs.now x in
    all_from_yields_List (λ x. carries (x + 1)) _ _ _ c.all.ensures.ran (YieldsList-from_range 0 64 64 refl refl)
    (λ x b q k. search rules)
    ∙ all_numbers (λ x. carries (x + 1)) 64
    ∙ all_cong (λ x. carries (x + 1)) (λ x. carries (suc x)) 64 (λ x _. ap carries (add-one x))
