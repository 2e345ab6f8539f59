use mathlib.Core.Path.{refl}
use native.Mathlib.Omega.{arith}
use Rattle.rules.specs.Paths.{posting_at}
use Rattle.paths.proofs.Posted.{path_fits}
use Rattle.paths.proofs.exceeding.posting_at.Goals as goal

pub returns : goal.returns
unfolding posting_at
returns c = record { is = refl; fits = omega (arith, path_fits c.args.size.hours c.args.path.in_range, c.requires) }
