use Rattle.std.proofs.Common.{List, ℕ, ap, ◌∙◌, length}
use Rattle.words.specs.Lists.{covered}
use Rattle.rules.specs.Numbers.{available_part}
use Rattle.rules.specs.Layout.{hours_of}
use Rattle.rules.specs.Megawatts.{take_from}
use Rattle.layout.proofs.Lent.{row_lent, row_back}
use Rattle.megawatts.proofs.giving.take_from.Goals as goal

pub less_hours-requires-clause-r_value : goal.less_hours-requires-clause-r_value
less_hours-requires-clause-r_value c =
    ap (λ (r : List ℕ). covered c.args.mw.now (hours_of c.args.size.hours available_part c.args.start (length c.args.mw.now) r)) (row_lent c.requires.sized c.row_at-at.ensures c.row_words.ensures)
    ∙ c.requires.n_value

pub returns : goal.returns
unfolding take_from
returns c =
    row_back c.requires.sized c.row_at-at.ensures c.row_words.ensures (take_from c.args.size.hours c.args.start c.args.mw.now) c.less_hours.new.r c.less_hours.auto.r c.less_hours.ensures
