use Rattle.layout.proofs.Lent.{row_lent, row_lent_length}
use Rattle.layout.proofs.row.Row.own.Goals as goal

pub returns : goal.returns
returns c = record {
  is = row_lent c.args.self.sized c.row_at-at.ensures c.row_words.ensures;
  long = row_lent_length c.args.self.sized c.row_at-at.ensures c.row_words.ensures;
}
