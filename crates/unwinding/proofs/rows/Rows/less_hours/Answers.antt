use Rattle.std.proofs.Common.{◌-◌, ◌∙◌, ap, length, List, ℕ}
use Rattle.words.specs.Lists.{zip2, covered}
use Rattle.unwinding.proofs.Followed.{hours_fit, hours_held, hours_taken}
use Rattle.unwinding.proofs.rows.Rows.less_hours.Goals as goal

pub subtract-requires-clause-src_len : goal.subtract-requires-clause-src_len
subtract-requires-clause-src_len c =
    ap length c.hours.ensures ∙ hours_fit c.args.self c.args.n c.args.p c.requires.n_bound c.requires.holding

pub subtract-requires-clause-dst_value : goal.subtract-requires-clause-dst_value
subtract-requires-clause-dst_value c =
    ap (λ (v : List ℕ). covered v c.args.sums.now) c.hours.ensures
    ∙ hours_held c.args.self c.args.n c.args.p c.requires.n_bound c.requires.holding

pub returns : goal.returns
returns c =
    hours_taken c.args.self c.args.n c.args.p c.requires.n_bound c.requires.holding
    (c.subtract.ensures ∙ ap (λ (v : List ℕ). zip2 ◌-◌ c.args.sums.now v) c.hours.ensures)
