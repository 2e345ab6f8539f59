use Rattle.std.proofs.Common.{ℕ, refl, sym, subst, ap, ◌∙◌}
use Rattle.rules.specs.Act.{number, sound_number}
use Rattle.rules.proofs.Refused.{refused_by, passed_by}
use Rattle.rules.proofs.Soundness.{common_sound, both_facts}
use Rattle.paths.specs.Exceeding.{Postings}
use Rattle.ledger.proofs.Laws.{passed_on, none_posted}
use Rattle.ledger.proofs.numbering.check.Goals as goal

pub returns-in_err-kind-clause-number : goal.returns-in_err-kind-clause-number
unfolding number
returns-in_err-kind-clause-number c =
    passed_on _ _ c.from_residual.ensures.1
    (refused_by _ _ _ c.in_err-kind.ensures.number)

pub size_of-requires : goal.size_of-requires
size_of-requires c =
    let t = common_sound c.args.sound c.args.a (sym c.in_ok-kind.ensures.number) in
    (both_facts c.args.l.now c.args.postings.now (sym c.requires ∙ t)).0

pub invariant_of-check_sound-2 : goal.invariant_of-check_sound-2
invariant_of-check_sound-2 c = record {
  postings_value =
      subst (λ (h : ℕ). Postings h c.args.postings.now) (sym c.size_of.ensures.hours)
      (none_posted c.args.l.now c.args.postings.now c.args.a c.in_ok-kind.ensures.number refl c.requires);
}

pub returns-in_err-check_sound-clause-number : goal.returns-in_err-check_sound-clause-number
unfolding number
returns-in_err-check_sound-clause-number c =
    passed_on _ _ c.from_residual-in_err-check_sound.ensures.1
    (passed_by _ _ c.in_ok-kind.ensures.number
    (c.in_err-check_sound.ensures ∙ ap (λ (h : ℕ). sound_number h c.args.l.now c.args.postings.now c.args.words.now c.args.a) c.size_of.ensures.hours))

pub returns-clause-number : goal.returns-clause-number
unfolding number
returns-clause-number c =
    passed_by _ _ c.in_ok-kind.ensures.number
    (c.in_ok-check_sound.ensures ∙ ap (λ (h : ℕ). sound_number h c.args.l.now c.args.postings.now c.args.words.now c.args.a) c.size_of.ensures.hours)
