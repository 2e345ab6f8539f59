-- Statuses and moves. The lists of moves stand for the state diagram that WEQ-013-2 refers to.
use Rattle.std.specs.Prelude.{Bool, true, false, ◌&&◌, ◌||◌, not, List, [], ◌∷◌, ℕ, eqb}
use Rattle.rules.specs.Pick.{◌among◌}
use Rattle.rules.specs.Numbers.{preconfirmed, coordinated, countered, CONFIRMED, ANNULLED, RELINQUISH}
use Rattle.rules.specs.Layout.{reqtype, status, has}

abbrev pub opens : List ℕ
opens = 1 ∷ 3 ∷ 4 ∷ 6 ∷ 7 ∷ 8 ∷ 10 ∷ 11 ∷ []

unfoldable pub is_open : List ℕ → Bool
is_open r = status r among opens

unfoldable pub is_confirmed : List ℕ → Bool
is_confirmed r = eqb (status r) CONFIRMED

-- a row that goes from the status old to new is confirmed, or annulled from 13
unfoldable pub confirmed_or_annulled : ℕ → ℕ → Bool
confirmed_or_annulled old new = not (eqb old CONFIRMED) && eqb new CONFIRMED || eqb old CONFIRMED && eqb new ANNULLED

-- `to these from these if this holds`
pub record Move : Type 0 where
  pub goes : List ℕ
  pub comes : List ℕ
  pub holds : Bool

infix 40 to◌from◌if◌
abbrev pub to◌from◌if◌ : List ℕ → List ℕ → Bool → Move
to gs from cs if b = record { goes = gs; comes = cs; holds = b }

unfoldable pub allowed : List Move → ℕ → ℕ → Bool
allowed [] new old = false
allowed (m ∷ ms) new old = new among m.goes && (old among m.comes && m.holds) || allowed ms new old

-- of a row that is preconfirmed, coordinated, a relinquish record, or not
unfoldable pub seller_moves : Bool → Bool → Bool → List Move
seller_moves pre coord relinquish =
    (to 3 ∷ [] from 1 ∷ [] if true)
    ∷ (to 4 ∷ [] from 1 ∷ 3 ∷ [] if true)
    ∷ (to 2 ∷ [] from 1 ∷ 3 ∷ 4 ∷ [] if true)
    ∷ (to 5 ∷ 12 ∷ [] from 1 ∷ 3 ∷ 4 ∷ 8 ∷ [] if true)
    ∷ (to 9 ∷ [] from opens if true)
    ∷ (to 6 ∷ [] from 1 ∷ 3 ∷ 4 ∷ 8 ∷ 10 ∷ 11 ∷ [] if not coord)
    ∷ (to 7 ∷ [] from 1 ∷ 3 ∷ 4 ∷ 8 ∷ 10 ∷ 11 ∷ [] if coord)
    ∷ (to 10 ∷ [] from 1 ∷ 3 ∷ 4 ∷ 8 ∷ [] if not coord)
    ∷ (to 11 ∷ [] from 1 ∷ 3 ∷ 4 ∷ 8 ∷ [] if coord)
    ∷ (to 15 ∷ 16 ∷ [] from 13 ∷ [] if not relinquish)
    ∷ (to 16 ∷ [] from opens if pre)
    ∷ []

-- of a row that is preconfirmed, was ever countered, or not
unfoldable pub customer_moves : Bool → Bool → List Move
customer_moves pre ever =
    (to 8 ∷ [] from 6 ∷ 7 ∷ [] if true)
    ∷ (to 13 ∷ [] from 6 ∷ 7 ∷ 10 ∷ 11 ∷ [] if true)
    ∷ (to 14 ∷ [] from opens if (not pre || ever))
    ∷ (to 14 ∷ [] from 6 ∷ 7 ∷ 11 ∷ [] if pre)
    ∷ []

-- the seller, the customer of row r may move it to a new status
unfoldable pub seller_may : List ℕ → ℕ → Bool
seller_may r new = allowed (seller_moves (has preconfirmed r) (has coordinated r) (eqb (reqtype r) RELINQUISH)) new (status r)

unfoldable pub customer_may : List ℕ → ℕ → Bool
customer_may r new = allowed (customer_moves (has preconfirmed r) (has countered r)) new (status r)
