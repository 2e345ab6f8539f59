use Rattle.std.proofs.Common.{◌∙◌}
use Rattle.readout.proofs.Laws.{shown_some, shown_none}
use Rattle.readout.proofs.profile_in_force.Goals as goal

pub returns-in-Ok : goal.returns-in-Ok
returns-in-Ok c =
    let a = c.in-Ok.ensures in
    c.in_force.ensures.is ∙ shown_some _ _ a.sound a.issued a.hours a.is

pub returns-in-Err : goal.returns-in-Err
returns-in-Err c = shown_none _ _ c.in-Err.ensures.none
