-- For contracts inside the crates: a profile that comes is one for the hours of the row r.
use Rattle.std.specs.Prelude.{◌≡◌, true, List, ℕ}
use Rattle.rules.specs.Layout.{span_hours}
use Rattle.rules.specs.Checks.{comes}
use Rattle.rules.specs.declared.Action.{Action}
use Rattle.rules.proofs.Passed.{ProfilePassed}

pub record Suits (w : List ℕ) (a : Action) (r : List ℕ) : Type 0 where
  pub profile : comes a ≡ true → ProfilePassed w a (span_hours r)
