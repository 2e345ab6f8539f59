use Rattle.std.proofs.Common.{ℕ, ◌∙◌, ap, drop, arith}
use Rattle.words.specs.Lists.{zeros}
use Rattle.rules.proofs.SoundFacts.{row_after}
use Rattle.layout.proofs.Fresh.{rest}
use Rattle.layout.proofs.sound.unused_zero.Goals as goal

pub slice_bounds-all_zero-count : goal.slice_bounds-all_zero-count
slice_bounds-all_zero-count c = omega (arith, c.end_at-at.ensures.is, c.requires.sized.long, row_after c.args.size.hours c.requires.used_le_rows)

pub slice_bounds-all_zero-start : goal.slice_bounds-all_zero-start
slice_bounds-all_zero-start c = omega (arith, c.end_at-at.ensures.is, c.requires.sized.long, row_after c.args.size.hours c.requires.used_le_rows)

pub returns : goal.returns
returns c =
    c.all_zero.ensures ∙ ap zeros (rest c.args.l.now c.end_at-at.result) ∙ ap (λ (a : ℕ). zeros (drop a c.args.l.now)) c.end_at-at.ensures.is
