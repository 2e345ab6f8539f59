use mathlib.Core.Path.{sym, ◌∙◌}
use Rattle.rules.proofs.Picks.{and_stops, and_goes}
use Rattle.opening.proofs.Tests.{rows_told, trees_told}
use Rattle.opening.proofs.balanced.Goals as goal

pub returns-then-rows_hold : goal.returns-then-rows_hold
returns-then-rows_hold c =
    let s = c.args.ledger.sound_at in
    and_goes _ _ _ (sym (rows_told s c.rows_hold.ensures) ∙ c.if-rows_hold.true) (trees_told s c.rows_hold-then-rows_hold.ensures)

pub returns-else-rows_hold : goal.returns-else-rows_hold
returns-else-rows_hold c =
    c.if-rows_hold.false ∙ and_stops _ _ (sym (rows_told c.args.ledger.sound_at c.rows_hold.ensures) ∙ c.if-rows_hold.false)
