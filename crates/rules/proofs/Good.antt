-- What every list of calls from a fresh ledger keeps, of the ledger and the tally.
use mathlib.Core.Path.{◌≡◌}
use mathlib.Core.Logic.{◌⊎◌}
use mathlib.Core.Bool.{true, false}
use mathlib.Core.List.{List, []}
use Prim.Native.Nat.{ℕ, suc, ◌<◌}
use lib.ListN.{get_or}
use Rattle.words.specs.Lists.{zeros}
use Rattle.column.specs.Column.{Col}
use Rattle.column.specs.Use.{Within}
use Rattle.column.proofs.Flow.{Inv, Shape}
use Rattle.rules.specs.Pick.{pick}
use Rattle.rules.specs.Numbers.{granted_part, granted_given}
use Rattle.rules.specs.Layout.{hours, used, row, reqtype, status, related, start, has, requested, granted, hour_at}
use Rattle.rules.specs.Tally.{Entry, Tally}
use Rattle.rules.proofs.SoundFacts.{SoundLedger}
use Rattle.rules.proofs.View.{view_of}

-- the entry e is as the row r. A given granted is not all 0, one never given is; a row at 10, 11 or 13 has been given one
pub record Agrees (H : ℕ) (r : List ℕ) (e : Entry) : Type 0 where
  pub same_type : e.reqtype ≡ reqtype r
  pub same_status : e.status ≡ status r
  pub same_related : e.related ≡ related r
  pub same_start : e.start ≡ start r
  pub same_requested : e.requested ≡ requested H r
  pub same_granted : e.granted ≡ pick (has granted_given r) (granted H r) []
  pub asked : zeros (requested H r) ≡ false
  pub given : has granted_given r ≡ true → zeros (granted H r) ≡ false
  pub ungiven : has granted_given r ≡ false → (h : ℕ) → h < H → get_or r (hour_at H granted_part h) 0 ≡ 0
  pub settled : (status r ≡ 10) ⊎ ((status r ≡ 11) ⊎ (status r ≡ 13)) → has granted_given r ≡ true

-- a column in order: it balances, and use is within what is posted, B x for path x
pub record Ordered (B : ℕ → ℕ) (S : Col) : Type 0 where
  pub shape : Shape S
  pub inv : Inv S
  pub within : Within B S

-- of the rows at H hours; B h x is what is posted in hour h for path x
pub record GoodAt (B : ℕ → ℕ → ℕ) (H : ℕ) (l : List ℕ) (t : Tally) : Type 0 where
  pub entries : (n : ℕ) → n < used l → Agrees H (row H l n) (t (suc n))
  pub others : (r : ℕ) → (r ≡ 0) ⊎ (used l < r) → (t r).reqtype ≡ 0
  pub columns : (h : ℕ) → h < H → Ordered (B h) (view_of H h l t)

pub record Good (B : ℕ → ℕ → ℕ) (l : List ℕ) (t : Tally) : Type 0 where
  pub sound : SoundLedger l
  pub good : GoodAt B (hours l) l t
