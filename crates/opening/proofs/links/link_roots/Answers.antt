use mathlib.Core.Path.{◌≡◌, ap, sym, ◌∙◌}
use mathlib.Core.List.{List}
use Prim.Native.Nat.{ℕ, ◌-◌, ◌<◌}
use native.Mathlib.Omega.{arith}
use lib.ListN.{get_or}
use Rattle.words.proofs.Laws.{filling_start, filling_turn, filled_before}
use Rattle.rules.specs.Layout.{used, row, related}
use Rattle.opening.specs.Chains.{root_link}
use Rattle.opening.proofs.Linked.{relations_at, related_low, root_top, root_up}
use Rattle.opening.proofs.links.link_roots.Goals as goal
use Rattle.opening.proofs.links.link_roots.Goals.{then-related-eq0, else-related-eq0}

pub loop-n-init : goal.loop-n-init
loop-n-init c = filling_start _ _

-- a related row is an earlier one
pub bounds-links-related : goal.bounds-links-related
bounds-links-related c =
    let s = c.args.ledger.sound_at in
    let e : c.word-related.result ≡ related (row c.args.ledger.size.hours c.args.ledger.words.now c.loop-n.n) = c.word-related.ensures ∙ cc (c.reservation.ensures.words, c.reservation.ensures.n) in
    omega (arith, e, related_low (relations_at s) c.loop-n.n (omega (arith, c.loop-n-test.true, c.requires)), c.loop-n-test.true, c.loop-n.invariant.long)

pub loop-n-preserved : goal.loop-n-preserved
loop-n-preserved c =
    let H : ℕ = c.args.ledger.size.hours in
    let l : List ℕ = c.args.ledger.words.now in
    let n : ℕ = c.loop-n.n in
    let k : ℕ = c.word-related.result in
    let rel = relations_at c.args.ledger.sound_at in
    let e : k ≡ related (row H l n) = c.word-related.ensures ∙ cc (c.reservation.ensures.words, c.reservation.ensures.n) in
    filling_turn c.loop-n.invariant c.loop-n-test.true _
    (elim c.if-related-eq0.branch [
      | then-related-eq0 w ↦ w.links-is ∙ sym (root_top rel n (sym e ∙ w.if-related-eq0.true))
      | else-related-eq0 w ↦
          let in_use : n < used l = omega (arith, c.loop-n-test.true, c.requires) in
          w.links-is
          ∙ ap (λ (x : List ℕ). get_or x (k - 1) 0) c.loop-n.invariant.is
          ∙ filled_before c.args.links.now (λ j. root_link H l j) n (k - 1) (omega (arith, e, related_low rel n in_use, w.if-related-eq0.false))
          ∙ ap (λ (j : ℕ). root_link H l (j - 1)) e
          ∙ sym (root_up rel n in_use (λ z. w.if-related-eq0.false (e ∙ z)))
    ])
