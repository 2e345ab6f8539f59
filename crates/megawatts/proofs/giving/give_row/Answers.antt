use Rattle.rules.specs.Megawatts.{give_back}
use Rattle.megawatts.proofs.Laws.{not_full}
use Rattle.megawatts.proofs.giving.give_row.Goals as goal

pub add_hours-requires-clause-r_value : goal.add_hours-requires-clause-r_value
add_hours-requires-clause-r_value c =
    cc (not_full c.args.size.hours c.args.start c.args.mw.now c.args.r.now c.requires.r_value, c.returns_to-p.ensures)

pub returns : goal.returns
unfolding give_back
returns c = cc (c.add_hours.ensures, c.returns_to-p.ensures)
