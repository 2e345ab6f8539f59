use Rattle.rules.proofs.Refused.{no_zero}
use Rattle.std.proofs.Common.{ap, ◌∙◌}
use Rattle.rules.specs.Act.{refusal}
use Rattle.contest.proofs.Laws.{refused_leaves}
use Rattle.contest.proofs.run_contest.Goals as goal

pub returns-in-Err : goal.returns-in-Err
returns-in-Err c =
    let p = refused_leaves c.args.l.now c.args.postings.now c.args.k c.args.moves.now c.args.replies.now c.in-Err.ensures (no_zero _) (c.refused.ensures ∙ ap refusal c.from.ensures) in
    record { answer = p.0; ledger = p.1 }
