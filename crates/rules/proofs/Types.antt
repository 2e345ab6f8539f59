-- Types 1 and 2, and the others.
use mathlib.Core.Path.{◌≡◌, sym, ap, ◌∙◌}
use mathlib.Core.Bool.{Bool, true, false, ◌&&◌}
use Prim.Native.Nat.{ℕ, ◌≤◌}
use native.Mathlib.Omega.{arith}
use lib.Dec.{leb}
use borrow.Author.Tests.{leb-true, leb-false, le-leb, lt-leb}
use Rattle.words.proofs.Laws.{and_left, and_right}
use Rattle.rules.specs.Sound.{original}

pub original_type : (t : ℕ) → 1 ≤ t → t ≤ 2 → original t ≡ true
unfolding original
original_type t least most = simp (le-leb 1 t least) (le-leb t 2 most)

pub derived_type : (t : ℕ) → 3 ≤ t → original t ≡ false
unfolding original
derived_type t least = let one : 1 ≤ t = omega arith in simp (le-leb 1 t one) (lt-leb t 2 least)

pub original_range : (t : ℕ) → original t ≡ true → (1 ≤ t) × (t ≤ 2)
unfolding original
original_range t e = (leb-true 1 t (and_left (leb 1 t) (leb t 2) e), leb-true t 2 (and_right (leb 1 t) (leb t 2) e))

pub derived_least : (t : ℕ) → 1 ≤ t → original t ≡ false → 3 ≤ t
unfolding original
derived_least t least e = leb-false t 2 (sym (ap (λ (b : Bool). b && leb t 2) (le-leb 1 t least)) ∙ e)
