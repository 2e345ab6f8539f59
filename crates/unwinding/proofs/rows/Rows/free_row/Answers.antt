use Rattle.std.proofs.Common.{◌∙◌, sym}
use Rattle.unwinding.proofs.Counted.{in_use}
use Rattle.unwinding.proofs.Followed.{freeing_skip, freeing_holds, freeing_less}
use Rattle.unwinding.proofs.rows.Rows.free_row.Goals as goal

pub less_hours-requires-clause-holding : goal.less_hours-requires-clause-holding
less_hours-requires-clause-holding c =
    freeing_holds c.requires.freeing (in_use c.args.self c.requires.m_bound) (sym c.freed.ensures ∙ c.if-freed.true)

pub returns-then-freed : goal.returns-then-freed
returns-then-freed c =
    freeing_less c.requires.freeing (in_use c.args.self c.requires.m_bound) (sym c.freed.ensures ∙ c.if-freed.true)
    c.less_hours.ensures

pub returns-else-freed : goal.returns-else-freed
returns-else-freed c = freeing_skip c.requires.freeing (sym c.freed.ensures ∙ c.if-freed.false)
