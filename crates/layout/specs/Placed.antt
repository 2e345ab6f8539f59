-- For contracts inside the crates: a row in use.
use Rattle.std.specs.Prelude.{◌≡◌, List, ℕ, ◌<◌}
use Rattle.rules.specs.Layout.{rows, hours, used}
use Rattle.rules.proofs.Formed.{Formed}

-- row n is in use, in a formed ledger of R rows and H hours
pub record Placed (l : List ℕ) (R H n : ℕ) : Type 0 where
  pub formed : Formed l
  pub rows : R ≡ rows l
  pub hours : H ≡ hours l
  pub row : n < used l
