use Rattle.std.proofs.Common.{◌≡◌, List, ℕ, ap, ◌∙◌, arith}
use Rattle.rules.specs.Layout.{row, status}
use Rattle.rules.specs.Act.{answered}
use Rattle.ledger.proofs.Laws.{passes_named, passes_next, passes_used, passes_small, named_answer}
use Rattle.ledger.proofs.answering.accept_named.Goals as goal

pub invariant_of-was-2 : goal.invariant_of-was-2
invariant_of-was-2 c =
    let k = c.requires.kind in
    record { in_use = omega (arith, passes_named c.requires.passes k.0 k.1 k.2, c.named-n.ensures) }

pub invariant_of-is : goal.invariant_of-is
invariant_of-is c = record { sound_at = passes_next c.requires.passes c.apply.ensures }

pub invariant_of-is-2 : goal.invariant_of-is-2
invariant_of-is-2 c =
    let k = c.requires.kind in
    record {
      in_use = omega (arith, passes_named c.requires.passes k.0 k.1 k.2, c.named-n.ensures, passes_used c.requires.passes c.apply.ensures);
    }

pub moved_by-requires : goal.moved_by-requires
moved_by-requires c = λ k. passes_small c.requires.passes k

pub returns-clause-answer : goal.returns-clause-answer
returns-clause-answer c =
    let k = c.requires.kind in
    let H : ℕ = c.args.size.hours in
    let n : ℕ = c.named-n.result.0 in
    let was : c.word-before.result ≡ status (row H c.args.l.now n) = cc (c.word-before.ensures, c.row.ensures.words, c.row.ensures.size, c.row.ensures.n) in
    let is : c.word-after.result ≡ status (row H c.apply.new.l n) = cc (c.word-after.ensures, c.row-2.ensures.words, c.row-2.ensures.size, c.row-2.ensures.n) in
    named_answer H c.args.l.now c.args.known.request.words.now c.args.known.request.action _ k.0 k.1 k.2 c.named-n.ensures was c.held_at-held.ensures is c.moved_by.ensures
    ∙ ap (λ (x : List ℕ). answered H c.args.l.now c.args.known.request.words.now c.args.known.request.action x) c.apply.ensures
