use Rattle.std.proofs.Common.{◌∙◌, sym, arith}
use Rattle.std.proofs.lemmas.Grind.{common_steps}
use Rattle.rules.proofs.Listed.{longer_is_no}
use Rattle.unwinding.proofs.Judged.{none_listed, unsound_not, no_head, sound_one}
use Rattle.unwinding.proofs.annuls_in_order.Goals as goal

pub returns-then-is_empty : goal.returns-then-is_empty
returns-then-is_empty c = none_listed _ _ _ (sym c.is_empty.ensures ∙ c.if-is_empty.true)

pub returns-in_default : goal.returns-in_default
returns-in_default c =
    no_head _ _ _ (sym c.is_empty.ensures ∙ c.if-is_empty.false) (grind (arith, c.in_default.ensures.lookup.0))

pub returns-then-used-refs : goal.returns-then-used-refs
returns-then-used-refs c = sym (longer_is_no _ _ _ (grind (arith, common_steps, c.in-Some.ensures.lookup.1, c.in-Some.ensures.lookup.0)))

pub returns-then-not-sound_both : goal.returns-then-not-sound_both
returns-then-not-sound_both c =
    unsound_not _ _ _ (sym c.is_empty.ensures ∙ c.if-is_empty.false) (sym c.sound_both.ensures ∙ c.if-not-sound_both.true)

pub size_of-requires : goal.size_of-requires
size_of-requires c = sound_one _ _ (sym c.sound_both.ensures ∙ c.if-not-sound_both.false)
