use Rattle.std.proofs.Common.{sym, refl, ap, ◌∙◌, arith}
use Rattle.rules.specs.Act.{refusal}
use Rattle.contest.proofs.Laws.{passed_sound, sound_passed, ended_by, lost_leaves, kept_leaves, unfinished_leaves, bad_leaves}
use Rattle.contest.proofs.play_out.Goals as goal

pub size_of-size-requires : goal.size_of-size-requires
size_of-size-requires c = sound_passed c.args.l.now c.args.postings.now c.args.k c.args.moves.now c.args.replies.now (sym c.requires) refl

pub invariant_of-row-2 : goal.invariant_of-row-2
invariant_of-row-2 c =
    let i = (passed_sound c.args.l.now c.args.postings.now c.args.k c.args.moves.now c.args.replies.now (sym c.requires) refl).1 in
    record { in_use = omega (arith, i.0, i.1, c.row_of.ensures) }

pub lose-requires-clause-le_reference : goal.lose-requires-clause-le_reference
lose-requires-clause-le_reference c = (passed_sound c.args.l.now c.args.postings.now c.args.k c.args.moves.now c.args.replies.now (sym c.requires) refl).1

pub returns-in-Kept : goal.returns-in-Kept
returns-in-Kept c =
    let p = kept_leaves _ _ _ (ended_by _ _ _ _ _ (sym c.requires) refl c.size_of-size.ensures.hours c.contest_ending.ensures c.in-Kept.is) c.row_kept.ensures in
    record { answer = p.0; ledger = p.1 }

pub returns-in-Lost : goal.returns-in-Lost
returns-in-Lost c =
    let o = rw c.size_of-size.ensures.hours at c.lose.ensures in
    let p = lost_leaves _ _ _ _ _ (sym c.requires) refl (ended_by _ _ _ _ _ (sym c.requires) refl c.size_of-size.ensures.hours c.contest_ending.ensures c.in-Lost.is) o.answer o.ledger in
    record { answer = p.0; ledger = p.1 }

pub returns-in-Unfinished : goal.returns-in-Unfinished
returns-in-Unfinished c =
    let p = unfinished_leaves _ _ _ (ended_by _ _ _ _ _ (sym c.requires) refl c.size_of-size.ensures.hours c.contest_ending.ensures c.in-Unfinished.is) c.row_kept-in-Unfinished.ensures in
    record { answer = p.0; ledger = p.1 }

pub returns-in-Refused : goal.returns-in-Refused
returns-in-Refused c =
    let p = bad_leaves _ _ _ (ended_by _ _ _ _ _ (sym c.requires) refl c.size_of-size.ensures.hours c.contest_ending.ensures c.in-Refused.is) (c.refused.ensures ∙ ap refusal c.from.ensures) in
    record { answer = p.0; ledger = p.1 }
