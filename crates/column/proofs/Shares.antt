-- A tally that changes at one part of one row changes by a share: for a tally that is given by its entries.
use mathlib.Core.Path.{◌≡◌, refl, sym, ap, ◌∙◌, subst}
use mathlib.Core.Logic.{◌≢◌, ◌⊎◌, inl, inr}
use Prim.Native.Nat.{ℕ, suc}
use native.Mathlib.Decide.{ℕ_discrete}
use native.Mathlib.Omega.{arith}
use lib.Dec.{eqb}
use lib.IntN.{ℤ, pos, neg_ℤ, ◌+ℤ◌, +ℤ_idr}
use Rattle.column.specs.Sum.{gate}
use Rattle.column.specs.Column.{part, share, hit}
use Rattle.column.proofs.Sums.{eqb_same, eqb_other, gate_zero}
use Rattle.column.proofs.Flow.{hit_same, hit_other}

pub share_same : {k r n : ℕ} (t x : ℕ) → part t ≡ k → r ≡ suc n → share k t r n x ≡ x
share_same {k} t x e q = ap (gate (eqb (part t) k)) (hit_same x q) ∙ ap (λ b. gate b x) (ap (eqb (part t)) (sym e) ∙ eqb_same (part t))

pub share_part : {k : ℕ} (t r n x : ℕ) → part t ≢ k → share k t r n x ≡ 0
share_part t r n x e = ap (λ b. gate b (hit r n x)) (eqb_other e)

pub share_row : (k t r n x : ℕ) → r ≢ suc n → share k t r n x ≡ 0
share_row k t r n x e = ap (gate (eqb (part t) k)) (hit_other r n x e) ∙ gate_zero (eqb (part t) k)

-- f' is f with the change y ↦ s y at part t of row p
module _ (s : ℕ → ℤ) (s-zero : s 0 ≡ pos 0) (f f' : ℕ → ℕ → ℤ) (t p x : ℕ)
    (at : f' (part t) p ≡ f (part t) p +ℤ s x)
    (else : (k n : ℕ) → (k ≢ part t) ⊎ (n ≢ p) → f' k n ≡ f k n) where
  nothing : (k n y : ℕ) → y ≡ 0 → f' k n ≡ f k n → f' k n ≡ f k n +ℤ s y
  nothing k n y e h = h ∙ sym (ap (λ z. f k n +ℤ s z) e ∙ ap (λ z. f k n +ℤ z) s-zero ∙ +ℤ_idr (f k n))

  pub share_all : (k n : ℕ) → f' k n ≡ f k n +ℤ s (share k t (suc p) n x)
  share_all k n = go (ℕ_discrete (part t) k) (ℕ_discrete p n)
    where
      go : Dec (part t ≡ k) → Dec (p ≡ n) → f' k n ≡ f k n +ℤ s (share k t (suc p) n x)
      go (no e) q = nothing k n _ (share_part t (suc p) n x e) (else k n (inl (λ u. e (sym u))))
      go (yes e) (no q) = nothing k n _ (share_row k t (suc p) n x (omega arith)) (else k n (inr (λ u. q (sym u))))
      go (yes e) (yes q) =
          subst (λ k. f' k n ≡ f k n +ℤ s x) e (subst (λ n. f' (part t) n ≡ f (part t) n +ℤ s x) q at)
          ∙ ap (λ z. f k n +ℤ s z) (sym (share_same t x e (ap suc q)))

pub share_add : (f f' : ℕ → ℕ → ℤ) (t p x : ℕ) → f' (part t) p ≡ f (part t) p +ℤ pos x → ((k n : ℕ) → (k ≢ part t) ⊎ (n ≢ p) → f' k n ≡ f k n) → (k n : ℕ) → f' k n ≡ f k n +ℤ pos (share k t (suc p) n x)
share_add f f' t p x at else = share_all pos refl f f' t p x at else

pub share_sub : (f f' : ℕ → ℕ → ℤ) (t p x : ℕ) → f' (part t) p ≡ f (part t) p +ℤ neg_ℤ (pos x) → ((k n : ℕ) → (k ≢ part t) ⊎ (n ≢ p) → f' k n ≡ f k n) → (k n : ℕ) → f' k n ≡ f k n +ℤ neg_ℤ (pos (share k t (suc p) n x))
share_sub f f' t p x at else = share_all (λ y. neg_ℤ (pos y)) refl f f' t p x at else
