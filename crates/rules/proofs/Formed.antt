-- A ledger that is formed: sound but for the bound on its available, displaced and reduced words. The last check of an
-- action asks for that bound alone.
use mathlib.Core.Path.{◌≡◌}
use mathlib.Core.Logic.{◌⊎◌}
use mathlib.Core.List.{List}
use Prim.Native.Nat.{ℕ, ◌≤◌, ◌<◌}
use native.Mathlib.Omega.{arith}
use lib.ListN.{get_or}
use Rattle.rules.specs.Numbers.{profiles, most_megawatts, available_part}
use Rattle.rules.specs.Layout.{rows, hours, used, row, start, stop, hour_at, Sized}
use Rattle.rules.proofs.SoundFacts.{SoundHead, SoundWords, SoundRelation, SoundLedger}

pub record FormedHours (H : ℕ) (r : List ℕ) : Type 0 where
  pub most : (p h : ℕ) → p < available_part → h < H → get_or r (hour_at H p h) 0 ≤ most_megawatts
  pub outside : (p h : ℕ) → p < profiles → h < H → (h < start r) ⊎ (stop r ≤ h) → get_or r (hour_at H p h) 0 ≡ 0

pub record Formed (l : List ℕ) : Type 0 where
  pub head : SoundHead l
  pub words : (n : ℕ) → n < used l → SoundWords (hours l) (row (hours l) l n)
  pub profiles : (n : ℕ) → n < used l → FormedHours (hours l) (row (hours l) l n)
  pub relations : (n : ℕ) → n < used l → SoundRelation (hours l) l n
  pub unused : (n : ℕ) → used l ≤ n → (k : ℕ) → get_or (row (hours l) l n) k 0 ≡ 0

pub formed_sized : {l : List ℕ} → Formed l → Sized l (rows l) (hours l)
formed_sized f = record { long = f.head.long; rows = f.head.rows_most; hours = f.head.hours_most }

pub formed : {l : List ℕ} → SoundLedger l → Formed l
formed s = record {
  head = s.head;
  words = s.words;
  profiles = λ n lt. record { most = λ p h plt hlt. (s.profiles n lt).most p h (omega arith) hlt; outside = (s.profiles n lt).outside };
  relations = s.relations;
  unused = s.unused;
}
