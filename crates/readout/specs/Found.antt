-- For contracts inside the crate: the row of a reference.
use Rattle.std.specs.Prelude.{◌≡◌, ◌&&◌, true, false, List, ℕ, Result, MatchResult}
use Rattle.rules.specs.Layout.{hours, row, issued, row_of}
use Rattle.rules.specs.Sound.{sound}
use Rattle.rules.specs.ReadOut.{charge_number}
use Rattle.rules.specs.Refusals.{refusal_number}
use Rattle.rules.specs.declared.refusal.Refusal.{Refusal}
use Rattle.layout.specs.Rows.{own}
use Rattle.layout.specs.declared.reservation.Reservation.{Reservation}

-- f is the row of reference r of a sound ledger
pub record At (l : List ℕ) (r : ℕ) (f : Reservation) : Type 0 where
  pub sound : sound l ≡ true
  pub issued : issued l r ≡ true
  pub is : own f.row ≡ row (hours l) l (row_of r)
  pub hours : f.row.size.hours ≡ hours l

-- e is why there is none
pub record Missing (l : List ℕ) (r : ℕ) (e : Refusal) : Type 0 where
  pub none : (sound l && issued l r) ≡ false
  pub number : refusal_number e ≡ charge_number l r

abbrev pub Finds : List ℕ → ℕ → Result Reservation Refusal → Type 0
Finds l r result = MatchResult result (At l r) (Missing l r)
