-- Whether a row is firm: `firm_step` is the rule of document 01, with no fuel.
use mathlib.Core.Path.{◌≡◌, refl, sym, ap, ◌∙◌}
use mathlib.Core.Bool.{Bool, true, false, ◌&&◌, ◌||◌}
use mathlib.Core.List.{List, [], ◌∷◌}
use Prim.Native.Nat.{ℕ, zero, suc, ◌<◌}
use native.Mathlib.Nat.{not-suc-le-zero}
use native.Mathlib.Omega.{arith}
use Rattle.rules.specs.Pick.{◌is_from◌to◌, ◌among◌}
use Rattle.rules.specs.Layout.{row_of, row, reqtype, related, related_row}
use Rattle.rules.specs.Sound.{resold, upward, firm_within, firm}
use Rattle.rules.proofs.SoundFacts.{upward_facts}

-- a related reference falls
related_falls : (H : ℕ) (l : List ℕ) (n : ℕ) → upward H l n ≡ true → related_row H l n < n
unfolding related_row
related_falls H l n e = omega (arith, upward_facts H l n e)

-- what stands behind a test counts only where the test holds
behind : (b x y : Bool) → (b ≡ true → x ≡ y) → (b && x) ≡ (b && y)
behind true x y h = h refl
behind false x y h = refl

-- the rule, where f says which rows are firm
abbrev firm_by : (ℕ → Bool) → ℕ → List ℕ → ℕ → Bool
firm_by f H l n =
    reqtype (row H l n) among (1 ∷ 4 ∷ []) || resold (reqtype (row H l n)) && (upward H l n && f (related_row H l n))

by_cong : (f g : ℕ → Bool) (H : ℕ) (l : List ℕ) (n : ℕ) → ((j : ℕ) → j < n → f j ≡ g j) → firm_by f H l n ≡ firm_by g H l n
by_cong f g H l n same =
    ap (λ (x : Bool). reqtype (row H l n) among (1 ∷ 4 ∷ []) || resold (reqtype (row H l n)) && x)
    (behind (upward H l n) (f (related_row H l n)) (g (related_row H l n)) (λ e. same (related_row H l n) (related_falls H l n e)))

enough : (m k H : ℕ) (l : List ℕ) (n : ℕ) → n < m → n < k → firm_within m H l n ≡ firm_within k H l n
unfolding firm_within
enough zero k H l n p q = absurd (not-suc-le-zero p)
enough (suc m) zero H l n p q = absurd (not-suc-le-zero q)
enough (suc m) (suc k) H l n p q = by_cong (firm_within m H l) (firm_within k H l) H l n (λ j h. enough m k H l j (omega arith) (omega arith))

pub firm_step : (H : ℕ) (l : List ℕ) (n : ℕ)
    → firm H l n ≡ (reqtype (row H l n) among (1 ∷ 4 ∷ []) || resold (reqtype (row H l n)) && (upward H l n && firm H l (related_row H l n)))
unfolding firm firm_within
firm_step H l n = by_cong (firm_within n H l) (firm H l) H l n (λ j h. enough n (suc j) H l j (omega arith) (omega arith))

-- the same, way by way, for row n with the type t and the related reference u
module _ (H : ℕ) (l : List ℕ) (n t : ℕ) (is : t ≡ reqtype (row H l n)) where
  pub firm_type : (t among (1 ∷ 4 ∷ [])) ≡ true → true ≡ firm H l n
  firm_type e = sym (firm_step H l n ∙ simp (sym is, e))

  pub firm_none : (t among (1 ∷ 4 ∷ [])) ≡ false → resold t ≡ false → false ≡ firm H l n
  firm_none e f = sym (firm_step H l n ∙ simp (sym is, e, f))

  module _ (u : ℕ) (from : u ≡ related (row H l n)) (e : (t among (1 ∷ 4 ∷ [])) ≡ false) (f : resold t ≡ true) where
    pub firm_loose : (u is_from 1 to n) ≡ false → false ≡ firm H l n
    unfolding upward
    firm_loose g = sym (firm_step H l n ∙ simp (sym is, e, f, sym from, g))

    pub firm_up : (u is_from 1 to n) ≡ true → firm H l (row_of u) ≡ firm H l n
    unfolding upward related_row
    firm_up g = sym (firm_step H l n ∙ simp (sym is, e, f, sym from, g))
