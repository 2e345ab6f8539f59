use Rattle.std.proofs.Common.{refl, sym, ◌∙◌, arith}
use Rattle.rules.specs.Contest.{contest_checks}
use Rattle.rules.proofs.Picks.{hit, skip}
use Rattle.rules.proofs.Refused.{refused_by}
use Rattle.contest.proofs.Laws.{row_issued, seller_says, firm_fails, firm_passes}
use Rattle.ledger.proofs.Laws.{passed_on}
use Rattle.contest.proofs.number.check_sound.Goals as goal

pub returns-in_err-check_seller_status : goal.returns-in_err-check_seller_status
unfolding contest_checks
returns-in_err-check_seller_status c =
    passed_on _ _ c.from_residual.ensures.1
    (refused_by _ _ _ (seller_says _ _ c.args.k c.in_err-check_seller_status.ensures c.displacing.ensures))

pub invariant_of-row : goal.invariant_of-row
invariant_of-row c =
    let i = row_issued _ _ c.args.k (sym (seller_says _ _ c.args.k c.in_ok-check_seller_status.ensures c.displacing.ensures)) in
    record { in_use = omega (arith, i.0, i.1, c.row_of.ensures) }

pub returns-then-not_firm : goal.returns-then-not_firm
returns-then-not_firm c =
    firm_fails c.args.k c.in_ok-check_seller_status.ensures c.displacing.ensures
    refl c.row.ensures.words c.row.ensures.size c.row.ensures.n c.row_of.ensures (sym c.not_firm.ensures ∙ c.if-not_firm.true)

pub returns-then-bad_greatest : goal.returns-then-bad_greatest
returns-then-bad_greatest c =
    firm_passes c.args.k c.in_ok-check_seller_status.ensures c.displacing.ensures
    refl c.row.ensures.words c.row.ensures.size c.row.ensures.n c.row_of.ensures (sym c.not_firm.ensures ∙ c.if-not_firm.false)
    (hit _ _ _ (sym c.bad_greatest.ensures ∙ c.if-bad_greatest.true))

pub returns : goal.returns
returns c =
    firm_passes c.args.k c.in_ok-check_seller_status.ensures c.displacing.ensures
    refl c.row.ensures.words c.row.ensures.size c.row.ensures.n c.row_of.ensures (sym c.not_firm.ensures ∙ c.if-not_firm.false)
    (skip _ _ _ _ (sym c.bad_greatest.ensures ∙ c.if-bad_greatest.false) refl)
