-- What is read out, where the ledger is sound or not, and the reference issued or not.
use mathlib.Core.Path.{◌≡◌, refl, sym, ap, ◌∙◌}
use mathlib.Core.Bool.{Bool, true, false, ◌&&◌}
use mathlib.Core.List.{List, []}
use Prim.Native.Nat.{ℕ, ◌+◌, ◌*◌, ◌≤◌}
use native.Mathlib.Omega.{arith}
use lib.Dec.{lit<}
use lib.ListN.{length, get_or, take}
use native.Mathlib.Nat.{mul-le-mul_right}
use Rattle.words.specs.Lists.{within, total}
use Rattle.words.proofs.Laws.{within_all, total_most, part_at}
use Rattle.rules.specs.Pick.{pick}
use Rattle.rules.specs.Numbers.{most_hours, most_megawatts, granted_part}
use Rattle.rules.specs.Layout.{hours, row_of, row, start, span_hours, hour_at, issued, bid, span, granted}
use Rattle.rules.specs.Sound.{sound}
use Rattle.rules.specs.Moves.{is_confirmed}
use Rattle.rules.specs.Megawatts.{in_force}
use Rattle.rules.specs.ReadOut.{shown, cents, charge_number, charge}
use Rattle.rules.specs.Refusals.{refusal_number}
use Rattle.rules.specs.declared.refusal.Refusal.{Refusal}
use Rattle.rules.proofs.Refused.{is_refused}
use Rattle.layout.specs.Placed.{Placed}
use Rattle.layout.proofs.Placed.{own_words, own_hours, sized, own_length, span_length}

-- ---- the profile in force
pub shown_none : (l : List ℕ) (r : ℕ) → (sound l && issued l r) ≡ false → take 0 l ≡ shown l r
unfolding shown
shown_none l r e = sym (ap (λ (b : Bool). pick b (in_force (hours l) (row (hours l) l (row_of r))) []) e)

pub unsound_none : (l : List ℕ) (r : ℕ) → sound l ≡ false → (sound l && issued l r) ≡ false
unsound_none l r e = ap (λ (b : Bool). b && issued l r) e

pub unissued_none : (l : List ℕ) (r : ℕ) → sound l ≡ true → issued l r ≡ false → (sound l && issued l r) ≡ false
unissued_none l r s e = ap (λ (b : Bool). b && issued l r) s ∙ e

pub shown_some : (l : List ℕ) (r : ℕ) {H : ℕ} {w : List ℕ} → sound l ≡ true → issued l r ≡ true → H ≡ hours l → w ≡ row (hours l) l (row_of r) → in_force H w ≡ shown l r
unfolding shown
shown_some l r {H} {w} s i eh ew =
    let e : in_force H w ≡ in_force (hours l) (row (hours l) l (row_of r)) = cc in
    e ∙ sym (ap (λ (b : Bool). pick b (in_force (hours l) (row (hours l) l (row_of r))) []) (ap (λ (b : Bool). b && issued l r) s ∙ i))

-- ---- no such row
pub missing_unsound : (l : List ℕ) (r : ℕ) → sound l ≡ false → 1 ≡ charge_number l r
unfolding charge_number
missing_unsound l r s = simp s

pub missing_unissued : (l : List ℕ) (r : ℕ) → sound l ≡ true → issued l r ≡ false → 4 ≡ charge_number l r
unfolding charge_number
missing_unissued l r s i = simp (s, i)

-- ---- the charge
pub charge_refused : (l : List ℕ) (r : ℕ) (e : Refusal) → refusal_number e ≡ charge_number l r → (refusal_number e ≡ (charge l r).number) × (0 ≡ (charge l r).amount)
unfolding charge
charge_refused l r e q = (q, simp (is_refused e q))

module _ (l : List ℕ) (r : ℕ) {H : ℕ} {w : List ℕ} (s : sound l ≡ true) (i : issued l r ≡ true) (eh : H ≡ hours l) (ew : w ≡ row (hours l) l (row_of r)) where
  pub charge_unconfirmed : is_confirmed w ≡ false → (11 ≡ (charge l r).number) × (0 ≡ (charge l r).amount)
  unfolding charge charge_number
  charge_unconfirmed c =
      let d : is_confirmed (row (hours l) l (row_of r)) ≡ false = cc in
      simp (s, i, d) (refl, refl)

  pub charge_is : is_confirmed w ≡ true → (0 ≡ (charge l r).number) × (cents (total (granted H w)) (bid w) ≡ (charge l r).amount)
  unfolding charge charge_number
  charge_is c =
      let d : is_confirmed (row (hours l) l (row_of r)) ≡ true = cc in
      let f : cents (total (granted H w)) (bid w) ≡ cents (total (granted (hours l) (row (hours l) l (row_of r)))) (bid (row (hours l) l (row_of r))) = cc in
      simp (s, i, d) (refl, f)

-- MW-hours granted of a row
granted_within : {l : List ℕ} {R H n : ℕ} → Placed l R H n → within most_megawatts (granted H (row H l n)) ≡ true
unfolding span
granted_within {l} {R} {H} {n} p =
    within_all most_megawatts (granted H (row H l n))
    (λ k lt.
    let e = span_length p granted_part (lit< tt) in
    let W = own_words p in
    let i : hour_at H granted_part (start (row H l n)) + k ≡ hour_at H granted_part (start (row H l n) + k) = omega arith in
    omega (
      arith,
      part_at (row H l n) (hour_at H granted_part (start (row H l n))) (span_hours (row H l n)) (omega (arith, own_length p, W.stops, W.starts)) k (omega (arith, lt, e)),
      ap (λ (j : ℕ). get_or (row H l n) j 0) i,
      (own_hours p).most granted_part (start (row H l n) + k) (lit< tt) (omega (arith, lt, e, W.starts, W.stops)),
    ))

pub granted_most : {l : List ℕ} {R H n : ℕ} → Placed l R H n → total (granted H (row H l n)) ≤ most_hours * most_megawatts
granted_most {l} {R} {H} {n} p =
    let e = span_length p granted_part (lit< tt) in
    let W = own_words p in
    omega (arith, total_most most_megawatts (granted H (row H l n)) (granted_within p), mul-le-mul_right {m = length (granted H (row H l n))} {n = most_hours} most_megawatts (omega (arith, e, W.stops, (sized p).hours)))
