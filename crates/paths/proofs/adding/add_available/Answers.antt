use mathlib.Core.Path.{◌≡◌}
use Rattle.rules.specs.Numbers.{available_part}
use Rattle.rules.specs.Layout.{start, span}
use Rattle.layout.specs.Rows.{own_of}
use Rattle.paths.proofs.Hourly.{spanned_at, hours_at, available_room, available_added}
use Rattle.paths.proofs.adding.add_available.Goals as goal

pub add_at-requires : goal.add_at-requires
add_at-requires c =
    let e = c.args.entry in
    let r = c.reservation-r.ensures in
    let s : c.start.result ≡ start (own_of e) = cc (c.start.ensures, r.words, r.n) in
    let v : c.span.result.now ≡ span e.ledger.size.hours available_part (own_of e) = cc (c.span.ensures.is, r.words, r.n) in
    available_room (spanned_at e.ledger.sound_at e.in_use) (hours_at e.ledger.sound_at e.in_use) s v c.requires

pub returns : goal.returns
returns c =
    let e = c.args.entry in
    let r = c.reservation-r.ensures in
    let s : c.start.result ≡ start (own_of e) = cc (c.start.ensures, r.words, r.n) in
    let v : c.span.result.now ≡ span e.ledger.size.hours available_part (own_of e) = cc (c.span.ensures.is, r.words, r.n) in
    available_added (spanned_at e.ledger.sound_at e.in_use) (hours_at e.ledger.sound_at e.in_use) s v c.requires
    c.add_at.ensures
