use Rattle.std.proofs.Common.{ℕ, ◌+◌, ◌∙◌, sym, ap, get_or, arith}
use Rattle.rules.proofs.Rows.{word_is}
use Rattle.layout.proofs.row.Row.word.Goals as goal

pub returns : goal.returns
returns c =
    ap (λ (a : ℕ). get_or c.args.self.words.now (a + c.args.k) 0) c.row_at.ensures.is
    ∙ sym (word_is c.args.self.sized c.args.self.n_lt_rows c.args.k (omega arith))
