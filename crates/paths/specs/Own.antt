-- For contracts inside the crates: 22 where row n is confirmed with its profile in force. No promise to the outside
-- names this.
use Rattle.std.specs.Prelude.{Bool, List, ℕ}
use Rattle.rules.specs.Layout.{row}
use Rattle.rules.specs.Megawatts.{in_force}
use Rattle.rules.proofs.After.{use_confirming}
use Rattle.rules.proofs.OverPaths.{exceeds_at}

abbrev pub exceeds_own : ℕ → List ℕ → ℕ → List ℕ → Bool
exceeds_own H l n ps = exceeds_at H l n ps (λ x h. use_confirming H l n (in_force H (row H l n)) x h)
