use Rattle.std.proofs.Common.{sym, ◌∙◌, arith}
use Rattle.rules.specs.Layout.{rows, hours}
use Rattle.rules.specs.Sound.{unused_zero, sound}
use Rattle.rules.proofs.Rows.{row_least}
use Rattle.rules.proofs.SoundFacts.{head_facts}
use Rattle.rules.proofs.Picks.{and_stops, stops, goes}
use Rattle.layout.proofs.Soundness.{head_sized_at}
use Rattle.layout.proofs.sound.sound.Goals as goal

pub returns-then-not-sound_head : goal.returns-then-not-sound_head
unfolding sound
returns-then-not-sound_head c = and_stops _ _ (sym c.sound_head.ensures ∙ c.if-not-sound_head.true)

pub bounds-l-6 : goal.bounds-l-6
bounds-l-6 c =
    let k = head_facts _ (sym c.sound_head.ensures ∙ c.if-not-sound_head.false) in
    omega (arith, k.long, row_least (hours c.args.l.now) (rows c.args.l.now))

pub sound_rows-requires : goal.sound_rows-requires
sound_rows-requires c =
    let k = head_facts _ (sym c.sound_head.ensures ∙ c.if-not-sound_head.false) in
    record { sized = head_sized_at k c.head_size-size.ensures.rows c.head_size-size.ensures.hours; used_le_rows = omega (arith, k.used, c.head_size-size.ensures.rows) }

pub unused_zero-requires : goal.unused_zero-requires
unused_zero-requires c =
    let k = head_facts _ (sym c.sound_head.ensures ∙ c.if-not-sound_head.false) in
    record { sized = head_sized_at k c.head_size-size.ensures.rows c.head_size-size.ensures.hours; used_le_rows = omega (arith, k.used, c.head_size-size.ensures.rows) }

pub returns-then-sound_rows : goal.returns-then-sound_rows
unfolding sound unused_zero
returns-then-sound_rows c =
    goes _ c.sound_head.ensures c.if-not-sound_head.false
    (rw (← c.head_size-size.ensures.hours) (goes _ c.sound_rows.ensures c.if-sound_rows.true c.unused_zero.ensures))

pub returns-else-sound_rows : goal.returns-else-sound_rows
unfolding sound unused_zero
returns-else-sound_rows c =
    goes _ c.sound_head.ensures c.if-not-sound_head.false
    (rw (← c.head_size-size.ensures.hours) (stops _ c.sound_rows.ensures c.if-sound_rows.false))
