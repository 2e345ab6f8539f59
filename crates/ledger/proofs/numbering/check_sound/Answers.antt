use Rattle.std.proofs.Common.{refl, sym, ◌∙◌}
use Rattle.rules.specs.Act.{sound_number, use_number, last_number}
use Rattle.rules.specs.declared.refusal.Refusal.TheVariants.{OverPosted}
use Rattle.rules.proofs.Picks.{hit, skip}
use Rattle.rules.proofs.Refused.{refused_by, passed_by}
use Rattle.ledger.proofs.Laws.{passed_on}
use Rattle.ledger.proofs.numbering.check_sound.Goals as goal

pub returns-in_err-check_kind : goal.returns-in_err-check_kind
unfolding sound_number
returns-in_err-check_kind c =
    passed_on _ _ c.from_residual.ensures.1 (refused_by _ _ _ c.in_err-check_kind.ensures)

pub returns-then-kind_uses : goal.returns-then-kind_uses
unfolding sound_number use_number
returns-then-kind_uses c =
    passed_by _ _ c.in_ok-check_kind.ensures (refused_by OverPosted _ _ (hit _ _ _ (sym c.kind_uses.ensures ∙ c.if-kind_uses.true)))

pub returns-then-kind_over : goal.returns-then-kind_over
unfolding sound_number use_number last_number
returns-then-kind_over c =
    passed_by _ _ c.in_ok-check_kind.ensures
    (passed_by _ _ (skip _ _ _ _ (sym c.kind_uses.ensures ∙ c.if-kind_uses.false) refl) (hit _ _ _ (sym c.kind_over.ensures ∙ c.if-kind_over.true)))

pub returns : goal.returns
unfolding sound_number use_number last_number
returns c =
    passed_by _ _ c.in_ok-check_kind.ensures
    (passed_by _ _ (skip _ _ _ _ (sym c.kind_uses.ensures ∙ c.if-kind_uses.false) refl) (skip _ _ _ _ (sym c.kind_over.ensures ∙ c.if-kind_over.false) refl))
