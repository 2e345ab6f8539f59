use mathlib.Core.Path.{refl, ap, ◌∙◌}
use mathlib.Core.List.{List}
use Prim.Native.Nat.{ℕ, ◌-◌}
use lib.ListN.{length}
use Rattle.words.specs.Lists.{zip2, covered}
use Rattle.words.proofs.Laws.{lent, lent_back}
use Rattle.paths.proofs.Hourly.{taken, taking_enough}
use Rattle.paths.proofs.adding.less_at.Goals as goal

pub subtract-requires-clause-dst_value : goal.subtract-requires-clause-dst_value
subtract-requires-clause-dst_value c =
    ap (λ (x : List ℕ). covered c.args.v.now x) (lent c.args.sums.now c.args.start c.args.start (length c.args.v.now) refl c.requires.fits) ∙ taking_enough c.requires

pub returns : goal.returns
returns c =
    taken c.args.start c.args.v.now c.args.sums.now c.requires.fits _
    (lent_back c.args.sums.now c.args.start c.args.start (length c.args.v.now) refl c.requires.fits c.subtract.new.dst _ c.subtract.auto.dst
    (c.subtract.ensures ∙ ap (λ (x : List ℕ). zip2 ◌-◌ x c.args.v.now) (lent c.args.sums.now c.args.start c.args.start (length c.args.v.now) refl c.requires.fits)))
