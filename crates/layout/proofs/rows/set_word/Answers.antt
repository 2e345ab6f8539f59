use Rattle.layout.proofs.Lent.{stored}
use Rattle.layout.proofs.rows.set_word.Goals as goal

pub returns : goal.returns
returns c = stored c.requires.sized c.requires.n_lt_rows.0 c.row_at-at.ensures.is c.args.k c.args.v c.requires.n_lt_rows.1
