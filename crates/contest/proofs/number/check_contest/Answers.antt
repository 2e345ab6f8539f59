use Rattle.std.proofs.Common.{ℕ, sym, ap, ◌∙◌}
use Rattle.rules.specs.Contest.{contest_number, contest_checks}
use Rattle.rules.proofs.Refused.{refused_by, passed_by}
use Rattle.rules.proofs.Soundness.{common_sound, both_facts}
use Rattle.contest.proofs.Laws.{common_says}
use Rattle.ledger.proofs.Laws.{passed_on}
use Rattle.contest.proofs.number.check_contest.Goals as goal

pub returns-in_err-check_common : goal.returns-in_err-check_common
unfolding contest_number
returns-in_err-check_common c =
    passed_on _ _ c.from_residual.ensures.1
    (refused_by _ _ _ (common_says _ _ c.args.k c.in_err-check_common.ensures.number c.sound_both.ensures c.displacing.ensures))

pub size_of-requires : goal.size_of-requires
size_of-requires c =
    let t = common_sound c.sound_both.result c.displacing.result (sym c.in_ok-check_common.ensures.number) in
    (both_facts c.args.l.now c.args.postings.now (sym c.sound_both.ensures ∙ t)).0

pub returns : goal.returns
unfolding contest_number
returns c =
    passed_by _ _ (common_says _ _ c.args.k c.in_ok-check_common.ensures.number c.sound_both.ensures c.displacing.ensures)
    (c.check_sound.ensures ∙ ap (λ (h : ℕ). contest_checks h c.args.l.now c.args.k) c.size_of.ensures.hours)
