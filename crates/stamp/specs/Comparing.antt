-- What comparing comes to.
use Rattle.std.specs.Prelude.{◌≡◌, List, ℕ, ◌-◌}
use Rattle.stamp.specs.Stamp.{reading, comparison, order_of, same, later, write_number, written, Reading, Comparison}

-- d is the comparison c the other way round: refused as c is, or earlier and later, 0 and 2, have changed places
abbrev pub Reversed : Comparison → Comparison → Type 0
Reversed c d = (d.number ≡ c.number) × (c.number ≡ 0 → d.order ≡ later - c.order)

-- whichever reading comes first
abbrev pub OtherWayRound : Type 0
OtherWayRound = (a b : Reading) → Reversed (comparison a b) (comparison b a)

-- an accepted stamp is the same as itself
abbrev pub SameAsItself : Type 0
SameAsItself =
    (stamp : List ℕ)
    → (reading stamp).number ≡ 0
    → comparison (reading stamp) (reading stamp) ≡ record { number = 0; order = same }

-- stamps written of two seconds, into any slices and in any zones, are in the order of the seconds
abbrev pub WrittenInOrder : Type 0
WrittenInOrder =
    (here there : List ℕ) (s t y z : ℕ)
    → write_number here s y ≡ 0
    → write_number there t z ≡ 0
    → comparison (reading (written here s y)) (reading (written there t z)) ≡ record { number = 0; order = order_of s t }
