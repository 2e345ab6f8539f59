use Rattle.std.proofs.Common.{◌≡◌, ℕ, ◌+◌, ◌*◌, ap, arith}
use Rattle.rules.specs.Layout.{row_base}
use Rattle.rules.proofs.Rows.{row_apart, row_most}
use Rattle.layout.proofs.size.Size.row_at.Goals as goal

pub returns : goal.returns
unfolding row_base
returns c =
    let e : 8 + c.args.n * c.row_words.result ≡ row_base c.args.self.hours c.args.n = ap (λ (x : ℕ). 8 + c.args.n * x) c.row_words.ensures in
    record {
      is = e;
      fits = omega (arith, e, row_apart c.args.self.hours c.requires);
      small = row_most c.args.self.in_range.1 c.args.self.in_range.0;
    }
