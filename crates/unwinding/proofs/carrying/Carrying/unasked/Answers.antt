use Rattle.std.proofs.Common.{◌<◌, ◌∙◌, not, ℕ, Bool, rules}
use Rattle.std.proofs.lemmas.Iterator.{YieldsList-from_slice}
use Rattle.std.proofs.lemmas.Iterator.Adapters.{serves_from_places}
use Rattle.std.proofs.lemmas.Iterator.Search.{all_from_yields_List}
use Rattle.rules.specs.Layout.{row_of}
use Rattle.unwinding.specs.Order.{asks}
use Rattle.unwinding.proofs.Carried.{row_listed}
use Rattle.words.proofs.Every.{all_listed}
use Rattle.unwinding.proofs.carrying.Carrying.unasked.Goals as goal

pub all-requires-clause-callable : goal.all-requires-clause-callable
all-requires-clause-callable c =
    serves_from_places (YieldsList-from_slice c.args.self.refs.now cc) (λ x q r. search rules)
    (λ x k lt e. let h : row_of x.now < c.args.self.rows.used = row_listed c.args.self k lt e in search (rules, h))

pub returns : goal.returns
returns c =
    let H : ℕ = c.args.self.rows.ledger.size.hours in
    let unasked : ℕ → Bool = λ r. not (asks H c.args.self.rows.ledger.words.now c.args.x (row_of r)) in
    all_from_yields_List unasked _ _ _ c.all.ensures.ran
    (YieldsList-from_slice c.args.self.refs.now cc) (λ x b q k. search rules)
    ∙ all_listed unasked c.args.self.refs.now
