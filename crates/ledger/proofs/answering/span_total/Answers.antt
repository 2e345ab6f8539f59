use Rattle.std.proofs.Common.{◌≡◌, arith}
use Rattle.words.specs.Lists.{total}
use Rattle.rules.specs.Layout.{span}
use Rattle.layout.specs.Profiles.{part_of}
use Rattle.layout.specs.Rows.{own_of}
use Rattle.layout.proofs.Profiles.{part_below}
use Rattle.ledger.proofs.Laws.{span_small}
use Rattle.ledger.proofs.answering.span_total.Goals as goal

pub overflow_cast-result : goal.overflow_cast-result
overflow_cast-result c =
    let e = c.args.entry in
    let r = c.reservation.ensures in
    let is : c.total.result ≡ total (span e.ledger.size.hours (part_of c.args.p) (own_of e)) = cc (c.total.ensures, r.words, r.size, r.n) in
    omega (arith, is, span_small e.ledger.sound_at e.in_use _ (part_below c.args.p))
