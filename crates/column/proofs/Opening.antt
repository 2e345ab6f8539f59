-- A column in order opens: the equation of each live row but relinquish records, from the rows alone.
use mathlib.Core.Path.{◌≡◌, refl, sym, ap, ◌∙◌}
use mathlib.Core.Logic.{◌≢◌, inl, inr}
use mathlib.Core.Bool.{Bool, true, false, ◌&&◌, ◌||◌}
use Prim.Native.Nat.{ℕ, suc, ◌+◌}
use native.Mathlib.Decide.{ℕ_discrete}
use native.Mathlib.Omega.{arith}
use lib.Dec.{eqb}
use Rattle.column.specs.Sum.{gate}
use Rattle.column.specs.Column.{Col, hit, Off, On}
use Rattle.column.specs.Demand.{Live}
use Rattle.column.specs.Open.{stands, draws_on, redirect, redirect_on, relinquish_on, drawn, relinquished, taken_off, RowSum}
use Rattle.column.proofs.Sums.{eqb_same, eqb_other, gate_zero, sum_ext, sum_zero, sum_add}
use Rattle.column.proofs.Fits.{Fit, off, gone, bent, held, fit_sum}
use Rattle.column.proofs.Flow.{flow, all, hit_same, hit_other, Inv, Shape}

-- ---- the tests
test_true : {i j : ℕ} → i ≡ j → eqb i j ≡ true
test_true {i} e = ap (eqb i) (sym e) ∙ eqb_same i

and_false : (b : Bool) → (b && false) ≡ false
and_false true = refl
and_false false = refl

module _ (S : Col) (n c : ℕ) where
  off_stands : Off (S.st c) → stands S c ≡ false
  off_stands o = ap (λ b. b || (eqb (S.st c) 15 || false)) (eqb_other o.0) ∙ ap (λ b. b || false) (eqb_other o.1)

  on_stands : On (S.st c) → stands S c ≡ true
  on_stands o = go (ℕ_discrete (S.st c) 13)
    where
      go : Dec (S.st c ≡ 13) → stands S c ≡ true
      go (yes e) = ap (λ b. b || (eqb (S.st c) 15 || false)) (test_true e)
      go (no e) =
          ap (λ b. b || (eqb (S.st c) 15 || false)) (eqb_other e)
          ∙ ap (λ b. b || false) (let q : S.st c ≡ 15 = omega (arith, o, e) in test_true q)

  -- row c does not draw on row n, or does
  draws_other : S.ref c ≢ suc n → draws_on S n c ≡ false
  draws_other q = ap (λ b. stands S c && b) (eqb_other q) ∙ and_false (stands S c)

  draws_off : Off (S.st c) → draws_on S n c ≡ false
  draws_off u = ap (λ b. b && eqb (S.ref c) (suc n)) (off_stands u)

  draws_on_lem : On (S.st c) → S.ref c ≡ suc n → draws_on S n c ≡ true
  draws_on_lem u q = ap (λ b. b && eqb (S.ref c) (suc n)) (on_stands u) ∙ test_true q

module _ {S : Col} (H : Shape S) (I : Inv S) where
  abbrev w : ℕ → ℕ
  w = I.w

  -- what the relinquish records of a type 5 were granted is what is drawn on it
  record_term : (c : ℕ) → S.ty c ≡ 5 → (e : ℕ) → gate (relinquish_on S c e) (S.g e) ≡ hit (S.ref e) c (w e)
  record_term c five e = go (ℕ_discrete (S.ref e) (suc c)) (ℕ_discrete (S.ty e) 8) (I.fit e)
    where
      go : Dec (S.ref e ≡ suc c) → Dec (S.ty e ≡ 8) → Fit (S.ty e) (S.st e) (S.g e) (S.a e) (S.d e) (S.r e) (w e) (flow all S w e) → gate (relinquish_on S c e) (S.g e) ≡ hit (S.ref e) c (w e)
      go (no q) t f =
          ap (λ b. gate (b && eqb (S.ty e) 8) (S.g e)) (draws_other S c e q) ∙ sym (hit_other (S.ref e) c (w e) q)
      go (yes q) (no t) f = absurd ((H.under e c q t).0 five)
      go (yes q) (yes t) (off u y) =
          ap (λ b. gate (b && eqb (S.ty e) 8) (S.g e)) (draws_off S c e u)
          ∙ omega (arith, hit_same {r = S.ref e} {n = c} (w e) q)
      go (yes q) (yes t) (gone u z y) =
          ap (λ b. gate (b && eqb (S.ty e) 8) (S.g e)) (draws_on_lem S c e u q)
          ∙ ap (λ b. gate b (S.g e)) (test_true t)
          ∙ omega (arith, hit_same {r = S.ref e} {n = c} (w e) q)
      go (yes q) (yes t) (bent u z y) = absurd (omega (arith, t, z))
      go (yes q) (yes t) (held u z y) = absurd (omega (arith, t, z))

  records_five : (c : ℕ) → S.ty c ≡ 5 → relinquished S c ≡ flow all S w c
  unfolding relinquished flow
  records_five c five = sum_ext S.used _ _ (λ e l. record_term c five e)

  -- others have none
  records_none : (c : ℕ) → S.ty c ≢ 5 → relinquished S c ≡ 0
  unfolding relinquished
  records_none c other = sum_zero S.used _ (λ e l. go e (ℕ_discrete (S.ref e) (suc c)) (ℕ_discrete (S.ty e) 8))
    where
      go : (e : ℕ) → Dec (S.ref e ≡ suc c) → Dec (S.ty e ≡ 8) → gate (relinquish_on S c e) (S.g e) ≡ 0
      go e (no q) t = ap (λ b. gate (b && eqb (S.ty e) 8) (S.g e)) (draws_other S c e q)
      go e (yes q) (no t) =
          ap (λ b. gate (draws_on S c e && b) (S.g e)) (eqb_other t) ∙ ap (λ b. gate b (S.g e)) (and_false (draws_on S c e))
      go e (yes q) (yes t) = absurd (other (H.under5 e c q t))

  -- what a row draws, and what its relinquish records took off, is its granted
  draw_term : (n c : ℕ) → hit (S.ref c) n (w c) + gate (redirect_on S n c) (relinquished S c) ≡ gate (draws_on S n c) (S.g c)
  draw_term n c = go (ℕ_discrete (S.ref c) (suc n)) (I.fit c)
    where
      -- where it does not draw; where it does and nothing was taken off
      none : draws_on S n c ≡ false → hit (S.ref c) n (w c) ≡ 0 → hit (S.ref c) n (w c) + gate (redirect_on S n c) (relinquished S c) ≡ gate (draws_on S n c) (S.g c)
      none e z = omega (arith, z, ap (λ b. gate (b && redirect (S.ty c)) (relinquished S c)) e, ap (λ b. gate b (S.g c)) e)

      plain : On (S.st c) → S.ref c ≡ suc n → S.ty c ≢ 5 → w c ≡ S.g c → hit (S.ref c) n (w c) + gate (redirect_on S n c) (relinquished S c) ≡ gate (draws_on S n c) (S.g c)
      plain u q t e =
          omega (
            arith,
            hit_same {r = S.ref c} {n = n} (w c) q,
            ap (gate (redirect_on S n c)) (records_none c t) ∙ gate_zero (redirect_on S n c),
            ap (λ b. gate b (S.g c)) (draws_on_lem S n c u q),
            e,
          )

      go : Dec (S.ref c ≡ suc n) → Fit (S.ty c) (S.st c) (S.g c) (S.a c) (S.d c) (S.r c) (w c) (flow all S w c) → hit (S.ref c) n (w c) + gate (redirect_on S n c) (relinquished S c) ≡ gate (draws_on S n c) (S.g c)
      go (no q) f = none (draws_other S n c q) (hit_other (S.ref c) n (w c) q)
      go (yes q) (off u y) = none (draws_off S n c u) (omega (arith, hit_same {r = S.ref c} {n = n} (w c) q, y))
      go (yes q) (gone u z y) = plain u q (omega (arith, z)) (omega (arith, y))
      go (yes q) (held u z y) = plain u q z.0 y.1
      go (yes q) (bent u z y) =
          omega (
            arith,
            hit_same {r = S.ref c} {n = n} (w c) q,
            ap (λ b. gate (b && redirect (S.ty c)) (relinquished S c)) (draws_on_lem S n c u q)
                ∙ ap (λ t. gate (redirect t) (relinquished S c)) z,
            ap (λ b. gate b (S.g c)) (draws_on_lem S n c u q),
            records_five c z,
            y,
          )

  draws : (n : ℕ) → flow all S w n + taken_off S n ≡ drawn S n
  unfolding flow taken_off drawn
  draws n =
      sym (sum_add S.used (λ c. hit (S.ref c) n (w c)) (λ c. gate (redirect_on S n c) (relinquished S c)))
      ∙ sum_ext S.used _ _ (λ c l. draw_term n c)

  pub row_sum : (n : ℕ) → Live (S.st n) → S.ty n ≢ 8 → RowSum S n
  row_sum n l t = omega (arith, fit_sum (I.fit n) (on l) t, draws n)
    where
      on : {s : ℕ} → Live s → On s
      on (inl e) = omega arith
      on (inr e) = omega arith
