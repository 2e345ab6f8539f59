-- Reading and writing are inverse to each other.
use Rattle.std.specs.Prelude.{◌≡◌, Bool, true, ◌&&◌, List, [], ◌∷◌, ℕ, ltb, length}
use Rattle.stamp.specs.Stamp.{reading, stamp_zone, write_number, written, stamp_length}

-- numbers that bytes hold
unfoldable pub are_bytes : List ℕ → Bool
are_bytes [] = true
are_bytes (b ∷ bs) = ltb b 256 && are_bytes bs

-- a second that is written, into any slice and in any zone, is read back
abbrev pub WrittenIsRead : Type 0
WrittenIsRead =
    (slice : List ℕ) (s z : ℕ)
    → write_number slice s z ≡ 0
    → reading (written slice s z) ≡ record { number = 0; second = s }

-- a stamp that is read is written back, into any slice of 16 bytes, from its second and its own zone
abbrev pub ReadIsWritten : Type 0
ReadIsWritten =
    (stamp slice : List ℕ)
    → are_bytes stamp ≡ true
    → (reading stamp).number ≡ 0
    → length slice ≡ stamp_length
    → (write_number slice (reading stamp).second (stamp_zone stamp) ≡ 0) × (written slice (reading stamp).second (stamp_zone stamp) ≡ stamp)
