-- Laws of digits and of zones. Assumes nothing.
use mathlib.Core.Path.{◌≡◌, refl, sym, ap, ◌∙◌}
use mathlib.Core.Bool.{true, false}
use mathlib.Core.List.{List, [], ◌∷◌}
use Prim.Native.Nat.{ℕ, suc, ◌+◌, ◌-◌, ◌*◌, ◌/◌, ◌%◌, ◌≤◌, ◌<◌}
use native.Mathlib.Omega.{arith}
use native.Mathlib.Nat.{zero-add, sub-zero}
use borrow.Author.Tests.{ltb-false, le-ltb, ne_eqb, eqb-true}
use lib.Dec.{eqb, ltb}
use lib.ListN.{get_or, length}
use Rattle.words.specs.Pick.{pick}
use Rattle.stamp.specs.Stamp.{no_digit, two_digits, digit0, digit9, place_from, zone_of, zone_letters, zones, zone_count, letters, no_number, C, D, E, M, P, S, T, U}
use Rattle.stamp.proofs.Picks.{by_test, or_left, or_right, hit, skip}
use Rattle.stamp.proofs.Lists.{each_at}

pub record IsDigit (b : ℕ) : Type 0 where
  pub low : digit0 ≤ b
  pub high : b ≤ digit9

pub is_digit : (b : ℕ) → no_digit b ≡ false → IsDigit b
unfolding no_digit
is_digit b h =
    record { low = ltb-false b digit0 (or_left (ltb b digit0) (ltb digit9 b) h); high = ltb-false digit9 b (or_right (ltb b digit0) (ltb digit9 b) h) }

no_digit_not : (b : ℕ) → IsDigit b → no_digit b ≡ false
unfolding no_digit
no_digit_not b d = simp (le-ltb _ _ d.low, le-ltb _ _ d.high)

-- two digits give their number
digits_give : (a b : ℕ) → IsDigit a → IsDigit b → two_digits a b ≡ 10 * (a - digit0) + (b - digit0)
unfolding two_digits
digits_give a b p q = simp (no_digit_not a p, no_digit_not b q)

pub both_digits : (a b : ℕ) → digit0 ≤ a → a ≤ digit9 → digit0 ≤ b → b ≤ digit9 → two_digits a b ≡ 10 * (a - digit0) + (b - digit0)
both_digits a b p q r s = digits_give a b (record { low = p; high = q }) (record { low = r; high = s })

-- a byte that is none of the ten digits
not_digit : (b : ℕ) → (digit0 ≤ b → b ≤ digit9 → ⊥) → no_digit b ≡ true
unfolding no_digit
not_digit b h =
    by_test (ltb b digit0)
    (λ p. simp p)
    (λ p. by_test (ltb digit9 b) (λ q. simp (p, q)) (λ q. absurd (h (ltb-false b digit0 p) (ltb-false digit9 b q))))

pub no_tens : (a b : ℕ) → (digit0 ≤ a → a ≤ digit9 → ⊥) → no_number ≡ two_digits a b
unfolding two_digits
no_tens a b h = simp (not_digit a h)

pub no_units : (a b : ℕ) → (digit0 ≤ b → b ≤ digit9 → ⊥) → no_number ≡ two_digits a b
unfolding two_digits
no_units a b h = by_test (no_digit a) (λ p. simp p) (λ p. simp (p, not_digit b h))

-- two digits that are written are read back
pub digits_read : (n : ℕ) → n < no_number → two_digits (digit0 + n / 10) (digit0 + n % 10) ≡ n
digits_read n h =
    digits_give (digit0 + n / 10) (digit0 + n % 10) (record { low = omega arith; high = omega arith }) (record { low = omega arith; high = omega arith }) ∙ omega arith

-- a number that is read comes from two digits
pub from_digits : (a b : ℕ) → two_digits a b < no_number → IsDigit a × IsDigit b
unfolding two_digits
from_digits a b h =
    by_test (no_digit a)
    (λ p. absurd (omega (arith, hit (no_digit a) no_number no_number (pick (no_digit b) no_number (10 * (a - digit0) + (b - digit0))) p refl)))
    (λ p. by_test (no_digit b)
    (λ q. absurd (omega (arith, skip (no_digit a) no_number no_number (pick (no_digit b) no_number (10 * (a - digit0) + (b - digit0))) p (hit (no_digit b) no_number no_number (10 * (a - digit0) + (b - digit0)) q refl))))
    (λ q. (is_digit a p, is_digit b q)))

-- two digits that are read are written back
pub digits_written : (a b : ℕ) → two_digits a b < no_number → (digit0 + two_digits a b / 10 ≡ a) × (digit0 + two_digits a b % 10 ≡ b)
digits_written a b h =
    let d : IsDigit a × IsDigit b = from_digits a b h in
    (omega (arith, digits_give a b d.0 d.1), omega (arith, digits_give a b d.0 d.1))

code_back : (z : ℕ) → z < zone_count → zone_of (zone_letters z) ≡ z
unfolding zone_of zone_letters
code_back z h = eqb-true (zone_of (zone_letters z)) z (ap (λ (k : ℕ). eqb (zone_of (zone_letters z)) k) (sym (zero-add z)) ∙ each_at (λ (k w : ℕ). eqb (place_from 0 w zones) k) zones 0 refl z h)

-- the letters of a zone give its code
pub zone_read : (z : ℕ) → z < zone_count → zone_of (letters (zone_letters z / 256) (zone_letters z % 256)) ≡ z
zone_read z h =
    let e : letters (zone_letters z / 256) (zone_letters z % 256) ≡ zone_letters z = omega arith in
    ap zone_of e ∙ code_back z h

-- a place is not before the first
place_from_lem : (w : ℕ) (xs : List ℕ) (k : ℕ) → k ≤ place_from k w xs
place_from_lem w [] k = omega arith
place_from_lem w (x ∷ xs) k =
    by_test (eqb w x)
    (λ p. omega (arith, hit (eqb w x) k k (place_from (suc k) w xs) p refl))
    (λ p. omega (arith, place_from_lem w xs (suc k), skip (eqb w x) (place_from (suc k) w xs) k (place_from (suc k) w xs) p refl))

-- letters that give a code are those of the zone
found_at : (w : ℕ) (xs : List ℕ) (k : ℕ) → place_from k w xs < k + length xs → get_or xs (place_from k w xs - k) 0 ≡ w
found_at w [] k h = absurd (omega arith)
found_at w (x ∷ xs) k h =
    by_test (eqb w x)
    (λ p.
    let e : k ≡ place_from k w (x ∷ xs) = hit (eqb w x) k k (place_from (suc k) w xs) p refl in
    let z : place_from k w (x ∷ xs) - k ≡ 0 = omega arith in
    ap (λ (j : ℕ). get_or (x ∷ xs) j 0) z ∙ sym (eqb-true w x p))
    (λ p.
    let e : place_from (suc k) w xs ≡ place_from k w (x ∷ xs) = skip (eqb w x) (place_from (suc k) w xs) k (place_from (suc k) w xs) p refl in
    let z : place_from k w (x ∷ xs) - k ≡ suc (place_from (suc k) w xs - suc k) = omega (arith, place_from_lem w xs (suc k)) in
    ap (λ (j : ℕ). get_or (x ∷ xs) j 0) z ∙ found_at w xs (suc k) (omega arith))

pub zone_written : (w : ℕ) → zone_of w < zone_count → zone_letters (zone_of w) ≡ w
unfolding zone_of zone_letters
zone_written w h = ap (λ (j : ℕ). get_or zones j 0) (sym (sub-zero (zone_of w))) ∙ found_at w zones 0 h

-- letters that a zone has, and letters that none has
pub zones_read : (w : ℕ)
    → (w ≡ letters U T → zone_of w ≡ 0) × (w ≡ letters E S → zone_of w ≡ 1) × (w ≡ letters E D → zone_of w ≡ 2)
    × (w ≡ letters C S → zone_of w ≡ 3) × (w ≡ letters C D → zone_of w ≡ 4) × (w ≡ letters M S → zone_of w ≡ 5)
    × (w ≡ letters M D → zone_of w ≡ 6) × (w ≡ letters P S → zone_of w ≡ 7) × (w ≡ letters P D → zone_of w ≡ 8)
unfolding zone_of
zones_read w = (ap zone_of, ap zone_of, ap zone_of, ap zone_of, ap zone_of, ap zone_of, ap zone_of, ap zone_of, ap zone_of)

pub none_read : (w : ℕ)
    → (w ≡ letters U T → ⊥) → (w ≡ letters E S → ⊥) → (w ≡ letters E D → ⊥) → (w ≡ letters C S → ⊥) → (w ≡ letters C D → ⊥)
    → (w ≡ letters M S → ⊥) → (w ≡ letters M D → ⊥) → (w ≡ letters P S → ⊥) → (w ≡ letters P D → ⊥)
    → zone_count ≡ zone_of w
unfolding zone_of
none_read w n0 n1 n2 n3 n4 n5 n6 n7 n8 =
    simp (ne_eqb _ _ n0, ne_eqb _ _ n1, ne_eqb _ _ n2, ne_eqb _ _ n3, ne_eqb _ _ n4, ne_eqb _ _ n5, ne_eqb _ _ n6, ne_eqb _ _ n7, ne_eqb _ _ n8)

-- for the code's returns
pub ruleset digits_by_code = (no_tens, no_units, both_digits)

pub ruleset zones_by_code = (zones_read, none_read)
