use Rattle.std.proofs.Common.{ℕ, ap, not, ltb}
use Rattle.rules.specs.Contest.{bad_greatest}
use Rattle.contest.proofs.Laws.{left_first, kept_first}
use Rattle.contest.proofs.number.bad_greatest.Goals as goal

pub returns-then-not-is_from : goal.returns-then-not-is_from
unfolding bad_greatest
returns-then-not-is_from c = left_first _ _ c.is_from.ensures (ap not c.if-not-is_from.true)

pub returns-then-not-is_from-2 : goal.returns-then-not-is_from-2
unfolding bad_greatest
returns-then-not-is_from-2 c =
    kept_first _ _ _ c.is_from.ensures (ap not c.if-not-is_from.false) (left_first _ _ c.is_from-else-not-is_from.ensures (ap not c.if-not-is_from-2.true))

pub returns-else-not-is_from-2 : goal.returns-else-not-is_from-2
unfolding bad_greatest
returns-else-not-is_from-2 c =
    kept_first _ _ _ c.is_from.ensures (ap not c.if-not-is_from.false)
    (kept_first _ _ _ c.is_from-else-not-is_from.ensures (ap not c.if-not-is_from-2.false)
    (ap (λ (x : ℕ). ltb c.args.c.contest.holder x) c.present_term-present.ensures))
