use Rattle.std.proofs.Common.{◌≡◌, ℕ, not, ap, sym, ◌∙◌, refl, true}
use Rattle.std.proofs.lemmas.Result.{err_from_is_err_and}
use Rattle.rules.specs.Pick.{◌is_from◌to◌}
use Rattle.rules.specs.Numbers.{most_kind}
use Rattle.rules.specs.Act.{common_number}
use Rattle.rules.proofs.Picks.{hit, skip}
use Rattle.ledger.proofs.Laws.{code_in}
use Rattle.ledger.proofs.numbering.check_common.Goals as goal

pub returns-then-not-sound-clause-number : goal.returns-then-not-sound-clause-number
unfolding common_number
returns-then-not-sound-clause-number c = hit _ _ _ (ap not c.if-not-sound.true)

pub returns-in_err-kind-clause-number : goal.returns-in_err-kind-clause-number
unfolding common_number
returns-in_err-kind-clause-number c =
    let p = err_from_is_err_and c.from_residual.result c.from_residual.ensures.1 in
    rw (p.1, p.2) (skip _ _ _ _ (ap not c.if-not-sound.false) (hit _ _ _ (ap not c.in_err-kind.ensures.1)))

pub returns-then-not-is_entity-clause-number : goal.returns-then-not-is_entity-clause-number
unfolding common_number
returns-then-not-is_entity-clause-number c =
    let k : (c.args.a.kind is_from 1 to most_kind) ≡ true = ap (λ (x : ℕ). x is_from 1 to most_kind) (sym c.in_ok-kind.ensures) ∙ code_in c.in_ok-kind.kind in
    skip _ _ _ _ (ap not c.if-not-sound.false) (skip _ _ _ _ (ap not k) (hit _ _ _ (ap not (sym c.is_entity.ensures ∙ c.if-not-is_entity.true))))

pub returns-clause-number : goal.returns-clause-number
unfolding common_number
returns-clause-number c =
    let k : (c.args.a.kind is_from 1 to most_kind) ≡ true = ap (λ (x : ℕ). x is_from 1 to most_kind) (sym c.in_ok-kind.ensures) ∙ code_in c.in_ok-kind.kind in
    skip _ _ _ _ (ap not c.if-not-sound.false) (skip _ _ _ _ (ap not k) (skip _ _ _ _ (ap not (sym c.is_entity.ensures ∙ c.if-not-is_entity.false)) refl))
