use Rattle.std.proofs.Common.{List, ℕ, ap, ◌∙◌}
use Rattle.rules.specs.Megawatts.{give_back}
use Rattle.rules.proofs.Over.{full}
use Rattle.layout.proofs.Lent.{row_lent, row_back}
use Rattle.megawatts.proofs.giving.give_back.Goals as goal

pub give_row-requires-clause-r_value : goal.give_row-requires-clause-r_value
give_row-requires-clause-r_value c =
    ap (λ (r : List ℕ). full c.args.size.hours c.args.start c.args.mw.now r) (row_lent c.requires.sized c.row_at-at.ensures c.row_words.ensures)
    ∙ c.requires.n_value

pub returns : goal.returns
returns c =
    row_back c.requires.sized c.row_at-at.ensures c.row_words.ensures (give_back c.args.size.hours c.args.start c.args.mw.now) c.give_row.new.r c.give_row.auto.r c.give_row.ensures
