-- The members of a set are the statuses whose bits are set.
use mathlib.Core.Path.{◌≡◌, refl, sym, ap, ◌∙◌}
use mathlib.Core.Bool.{Bool, true, false, ◌&&◌, ◌||◌, and-true, and-false, or-false, or_assoc, and-or_distrib_right}
use mathlib.Core.List.{List, [], ◌∷◌}
use mathlib.Core.Logic.{⊎_elim}
use Prim.Native.Nat.{ℕ, zero, suc}
use native.Mathlib.Nat.{eq-or-lt_of_le}
use native.Mathlib.Omega.{arith}
use lib.Dec.{eqb, leb, ltb, leb-suc-suc}
use borrow.Author.Tests.{eqb-true, lt-ltb, le-ltb, eq-eqb, ne_eqb}
use Rattle.words.proofs.Laws.{lt_or_le}
use Rattle.rules.specs.Pick.{pick, ◌among◌}
use Rattle.rules.specs.Numbers.{most_status}
use Rattle.checks.specs.Sets.{bit, held, members}

-- n is put before l, or not
among_pick : (b : Bool) (s n : ℕ) (l : List ℕ) → (s among pick b (n ∷ l) l) ≡ (eqb s n && b || s among l)
among_pick true s n l = simp and-true
among_pick false s n l = simp and-false

same_bit : (w s n : ℕ) (b : Bool) → eqb s n ≡ b → (b && bit w n) ≡ (b && bit w s)
same_bit w s n true e = ap (λ (k : ℕ). bit w k) (sym (eqb-true s n e))
same_bit w s n false e = refl

below_suc : (s n : ℕ) → ltb s (suc n) ≡ (ltb s n || eqb s n)
below_suc s n =
    ⊎_elim
    (λ h. simp (lt-ltb s n h, lt-ltb s (suc n) (omega arith)))
    (λ h. ⊎_elim
    (λ e. simp (le-ltb s n h, eq-eqb s n (sym e), lt-ltb s (suc n) (omega arith)))
    (λ k. simp (le-ltb s n h, ne_eqb s n (λ q. omega arith), le-ltb s (suc n) (omega arith)))
    (eq-or-lt_of_le h))
    (lt_or_le s n)

in_held : (w s n : ℕ) (l : List ℕ) → (s among held n w l) ≡ (ltb s n && bit w s || s among l)
unfolding held
in_held w s zero l = simp (le-ltb s 0 (omega arith))
in_held w s (suc n) l =
    in_held w s n (pick (bit w n) (n ∷ l) l)
    ∙ simp (among_pick, same_bit w s n (eqb s n) refl, below_suc s n, and-or_distrib_right, or_assoc)

pub in_members : (w s : ℕ) → (s among members w) ≡ (leb s most_status && bit w s)
in_members w s = in_held w s (suc most_status) [] ∙ simp (or-false, leb-suc-suc s most_status)
