use Rattle.std.proofs.Common.{◌∙◌}
use Rattle.unwinding.proofs.Fitted.{granted_long, granted_lent}
use Rattle.unwinding.proofs.rows.Rows.within_granted.Goals as goal

pub within_beyond-requires : goal.within_beyond-requires
within_beyond-requires c =
    granted_long c.args.self c.requires.p_bound c.hours.ensures c.args.sums.now c.requires.sums_len

pub returns : goal.returns
returns c =
    c.within_beyond.ensures
    ∙ granted_lent c.args.self c.requires.p_bound c.hours.ensures c.args.sums.now c.requires.sums_len
