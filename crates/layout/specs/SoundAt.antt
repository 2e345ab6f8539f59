-- For contracts inside the crates: a sound ledger of R rows and H hours.
use Rattle.std.specs.Prelude.{◌≡◌, List, ℕ}
use Rattle.rules.specs.Layout.{rows, hours}
use Rattle.rules.proofs.SoundFacts.{SoundLedger}

pub record SoundAt (l : List ℕ) (R H : ℕ) : Type 0 where
  pub sound : SoundLedger l
  pub rows : R ≡ rows l
  pub hours : H ≡ hours l
