use Rattle.std.proofs.Common.{◌≡◌, ℕ, ◌+◌, ◌*◌, ap, arith}
use Rattle.rules.specs.Layout.{row_base}
use Rattle.rules.proofs.Rows.{row_least, row_most}
use Rattle.layout.proofs.size.Size.end_at.Goals as goal

pub returns : goal.returns
unfolding row_base
returns c =
    let e : 8 + c.args.n * c.row_words.result ≡ row_base c.args.self.hours c.args.n = ap (λ (x : ℕ). 8 + c.args.n * x) c.row_words.ensures in
    record {
      is = e;
      least = omega (arith, e, row_least c.args.self.hours c.args.n);
      small = omega (arith, e, row_most c.args.self.in_range.1 c.requires);
    }
