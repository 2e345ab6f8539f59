-- Sets of statuses, held as words: they serve contracts inside this crate alone.
use Rattle.std.specs.Prelude.{Bool, List, [], ◌∷◌, ℕ, zero, suc, ◌/◌, ◌^◌, eqb}
use Rattle.std.specs.Int.Bits.{bit_and}
use Rattle.rules.specs.Pick.{pick}
use Rattle.rules.specs.Numbers.{most_status}

-- bit s of the word w
abbrev pub bit : ℕ → ℕ → Bool
bit w s = eqb (bit_and (w / 2 ^ s) 1) 1

-- the numbers below n whose bits are set in w, and after them l
unfoldable pub held : ℕ → ℕ → List ℕ → List ℕ
held zero w l = l
held (suc n) w l = held n w (pick (bit w n) (n ∷ l) l)

-- the statuses whose bits are set in w
abbrev pub members : ℕ → List ℕ
members w = held (suc most_status) w []
