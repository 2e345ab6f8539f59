use Rattle.std.proofs.Common.{ap, ◌∙◌}
use Rattle.rules.specs.Megawatts.{returns_to}
use Rattle.megawatts.proofs.Laws.{hours_as, granted_apart, granted_room, granted_given_lem}
use Rattle.megawatts.proofs.giving.give_granted.Goals as goal

pub add_part-requires-clause-apart : goal.add_part-requires-clause-apart
add_part-requires-clause-apart c =
    granted_apart c.requires.placed c.requires.m_lt_rows.0 c.start-start.ensures c.count-count.ensures.is c.span_at-from.ensures
    (hours_as (c.returns_to.ensures ∙ ap returns_to c.own.ensures.is) c.hours_in-to.ensures) c.requires.m_lt_rows.1

pub add_part-requires-clause-count_value : goal.add_part-requires-clause-count_value
add_part-requires-clause-count_value c =
    granted_room c.requires.placed c.requires.m_lt_rows.0 c.start-start.ensures c.count-count.ensures.is c.span_at-from.ensures
    (hours_as (c.returns_to.ensures ∙ ap returns_to c.own.ensures.is) c.hours_in-to.ensures) c.requires.m_value

pub returns : goal.returns
returns c =
    c.add_part.ensures
    ∙ granted_given_lem c.requires.placed c.requires.m_lt_rows.0 c.start-start.ensures c.count-count.ensures.is c.span_at-from.ensures
    (hours_as (c.returns_to.ensures ∙ ap returns_to c.own.ensures.is) c.hours_in-to.ensures)
