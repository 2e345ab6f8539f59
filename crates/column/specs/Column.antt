-- One hour of a ledger and its tally, as functions of the row: a column.
use Rattle.std.specs.Prelude.{◌≢◌, Bool, true, false, ℕ, suc, ◌≤◌, eqb, ℤ}
use Rattle.column.specs.Sum.{gate, choose}

pub record Col : Type 0 where
  pub used : ℕ
  pub ty : ℕ → ℕ
  pub st : ℕ → ℕ
  pub ref : ℕ → ℕ
  pub path : ℕ → ℕ
  pub g : ℕ → ℕ
  pub a : ℕ → ℕ
  pub d : ℕ → ℕ
  -- the reduced word of the row
  pub r : ℕ → ℕ
  -- the tally: part k (0 resold, 1 redirected, 2 transferred, 3 relinquished) of row n, and reduced
  pub out : ℕ → ℕ → ℤ
  pub red : ℕ → ℤ

-- the part of the tally that a row of this type counts in
abbrev pub either : Bool → Bool → Bool
either true b = true
either false b = b

unfoldable pub part : ℕ → ℕ
part t = choose (eqb t 3) 0 (choose (either (eqb t 4) (eqb t 5)) 1 (choose (either (eqb t 6) (eqb t 7)) 2 3))

-- x where the row n is the one that r refers to, else 0
abbrev pub hit : ℕ → ℕ → ℕ → ℕ
hit r n x = gate (eqb r (suc n)) x

-- what a row of type t that refers to r adds to part k of row n
abbrev pub share : ℕ → ℕ → ℕ → ℕ → ℕ → ℕ
share k t r n x = gate (eqb (part t) k) (hit r n x)

-- neither CONFIRMED nor DISPLACED; one of the two
abbrev pub Off : ℕ → Type 0
Off s = (s ≢ 13) × (s ≢ 15)

abbrev pub On : ℕ → Type 0
On s = (13 ≤ s) × (s ≤ 15) × (s ≢ 14)
