use Rattle.std.proofs.Common.{◌≡◌, ap, ◌∙◌}
use Rattle.rules.specs.Layout.{row}
use Rattle.rules.specs.Act.{refusal}
use Rattle.rules.proofs.Over.{over_displacing}
use Rattle.contest.proofs.Laws.{over_lost, displaced_lost}
use Rattle.contest.proofs.lose.Goals as goal

pub returns-then-over_displacing : goal.returns-then-over_displacing
returns-then-over_displacing c =
    let H = c.args.size.hours in
    let r = c.reservation.ensures in
    let over : c.over_displacing.result ≡ over_displacing H (row H c.args.l.now c.row_of-n.result.0) = cc (c.over_displacing.ensures, r.words, r.size, r.n) in
    let p = over_lost _ _ _ c.row_of-n.ensures over c.if-over_displacing.true (c.refused.ensures ∙ ap refusal c.from.ensures) in
    record { answer = p.0; ledger = p.1 }

pub returns : goal.returns
returns c =
    let H = c.args.size.hours in
    let r = c.reservation.ensures in
    let over : c.over_displacing.result ≡ over_displacing H (row H c.args.l.now c.row_of-n.result.0) = cc (c.over_displacing.ensures, r.words, r.size, r.n) in
    let p = displaced_lost _ _ _ c.row_of-n.ensures over c.if-over_displacing.false c.span_total-held.ensures c.displace.ensures in
    record { answer = p.0; ledger = p.1 }
