use mathlib.Core.Path.{refl, sym, ◌∙◌}
use Prim.Native.Nat.{zero-le}
use Rattle.words.specs.Lists.{all_below}
use Rattle.words.proofs.Laws.{passing_turn, passing_fails}
use Rattle.opening.proofs.chains.Chains.balanced.Goals as goal

pub loop-n-init : goal.loop-n-init
unfolding all_below
loop-n-init g c = record { ended = c.used-n-end.ensures; below = zero-le; all = refl }

pub returns-then-not-row_balanced : goal.returns-then-not-row_balanced
returns-then-not-row_balanced g c =
    passing_fails c.loop-n.invariant c.loop-n-test.true (sym c.row_balanced.ensures ∙ c.if-not-row_balanced.true)

pub loop-n-preserved : goal.loop-n-preserved
loop-n-preserved g c =
    passing_turn c.loop-n.invariant c.loop-n-test.true (sym c.row_balanced.ensures ∙ c.if-not-row_balanced.false)
