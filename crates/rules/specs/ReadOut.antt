-- Reading out: the profile in force, and the charge of a row.
use Rattle.std.specs.Prelude.{◌&&◌, not, List, [], ℕ, ◌+◌, ◌*◌, ◌/◌, eqb}
use Rattle.rules.specs.Pick.{pick, ◌gives◌else◌}
use Rattle.words.specs.Lists.{total}
use Rattle.rules.specs.Layout.{hours, issued, row_of, row, bid, granted}
use Rattle.rules.specs.Sound.{sound}
use Rattle.rules.specs.Moves.{is_confirmed}
use Rattle.rules.specs.Megawatts.{in_force}

-- that part of the ledger, the span only; empty where 1 or 4 applies
unfoldable pub shown : List ℕ → ℕ → List ℕ
shown l r = pick (sound l && issued l r) (in_force (hours l) (row (hours l) l (row_of r))) []

-- MW-hours × cents per MW-day ÷ 24, a half up
unfoldable pub cents : ℕ → ℕ → ℕ
cents megawatt_hours price = (megawatt_hours * price + 12) / 24

pub record Charge : Type 0 where
  pub number : ℕ
  pub amount : ℕ

unfoldable pub charge_number : List ℕ → ℕ → ℕ
charge_number l r =
    not (sound l) gives 1 else
    not (issued l r) gives 4 else
    not (is_confirmed (row (hours l) l (row_of r))) gives 11 else
    0

unfoldable pub charge : List ℕ → ℕ → Charge
charge l r =
    let own = row (hours l) l (row_of r) in
    record { number = charge_number l r; amount = pick (eqb (charge_number l r) 0) (cents (total (granted (hours l) own)) (bid own)) 0 }
