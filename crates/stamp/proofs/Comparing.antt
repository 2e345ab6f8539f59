-- When a comparison is refused and when it is accepted, and what it comes to: the three theorems are at the end.
-- Assumes nothing.
use mathlib.Core.Path.{◌≡◌, refl, sym, ap, subst, ◌∙◌}
use Rattle.std.proofs.Common.{Bool, true, false, cond, Ordering, Less, Equal, Greater, nat_cmp}
use Rattle.words.specs.Pick.{◌gives◌else◌}
use Rattle.std.specs.Ordering.{ordering_index}
use Prim.Native.Nat.{ℕ, ◌-◌, ◌<◌}
use native.Mathlib.Omega.{arith}
use borrow.Author.Tests.{ltb-true, ltb-false, eqb-true, eqb-false, lt-ltb, le-ltb, eq-eqb, ne_eqb}
use lib.Dec.{eqb, ltb}
use Rattle.stamp.specs.Stamp.{reading, order_of, comparison, incomparable, earlier, same, later, Reading, Comparison}
use Rattle.stamp.specs.Comparing.{Reversed, OtherWayRound, SameAsItself, WrittenInOrder}
use Rattle.stamp.proofs.Outcomes.{not_compared_lem}
use Rattle.stamp.proofs.Picks.{by_test, hit, skip, both, no_left, no_right}
use Rattle.stamp.proofs.RoundTrips.{written_is_read}

-- The order of two seconds.
module _ (s t : ℕ) where
  is_earlier : s < t → order_of s t ≡ earlier
  unfolding order_of
  is_earlier h = simp (lt-ltb s t h)

  is_same : s ≡ t → order_of s t ≡ same
  unfolding order_of
  is_same e = simp (le-ltb s t (omega arith), eq-eqb s t e)

  is_later : t < s → order_of s t ≡ later
  unfolding order_of
  is_later h = simp (le-ltb s t (omega arith), ne_eqb s t (λ e. omega arith))

order_reversed : (s t : ℕ) → order_of t s ≡ later - order_of s t
order_reversed s t =
    by_test (ltb s t)
    (λ p. let h : s < t = ltb-true s t p in omega (arith, is_earlier s t h, is_later t s h))
    (λ p. by_test (eqb s t)
    (λ q. let e : s ≡ t = eqb-true s t q in omega (arith, is_same s t e, is_same t s (sym e)))
    (λ q. let h : t < s = omega (arith, ltb-false s t p, eqb-false s t q) in omega (arith, is_later s t h, is_earlier t s h)))

-- as std compares numbers
chosen : (less equal : Bool) → ordering_index (cond less Less (cond equal Equal Greater)) ≡ (less gives earlier else equal gives same else later)
chosen true equal = refl
chosen false true = refl
chosen false false = refl

order_is : (s t : ℕ) → ordering_index (nat_cmp s t) ≡ order_of s t
unfolding order_of
order_is s t = chosen (ltb s t) (eqb s t)

-- The comparison of two readings.
module _ (a b : Reading) where
  pub refuses_first : (c : Comparison) → c ≡ incomparable → (a.number ≡ 0 → ⊥) → c ≡ comparison a b
  unfolding comparison
  refuses_first c e h = skip _ c _ _ (no_left _ (eqb b.number 0) (ne_eqb _ _ h)) e

  pub refuses_second : (c : Comparison) → c ≡ incomparable → (b.number ≡ 0 → ⊥) → c ≡ comparison a b
  unfolding comparison
  refuses_second c e h = skip _ c _ _ (no_right (eqb a.number 0) _ (ne_eqb _ _ h)) e

  pub compares : (o : ℕ) → o ≡ order_of a.second b.second → a.number ≡ 0 → b.number ≡ 0 → record { number = 0; order = o } ≡ comparison a b
  unfolding comparison
  compares o e p q = hit _ _ _ _ (both _ _ (eq-eqb _ _ p) (eq-eqb _ _ q)) (λ i. record { number = 0; order = e i })

pub compared_lem : (a b : Reading) (s t : ℕ) (o : Ordering) → o ≡ nat_cmp s t → record { number = 0; second = s } ≡ a → record { number = 0; second = t } ≡ b → record { number = 0; order = ordering_index o } ≡ comparison a b
compared_lem a b s t o e p q =
    compares a b (ordering_index o) (ap ordering_index e ∙ order_is s t ∙ (λ i. order_of (p i).second (q i).second)) (λ i. (sym p i).number) (λ i. (sym q i).number)

-- for the code's returns
pub ruleset comparisons = (refuses_first, refuses_second, compared_lem, not_compared_lem)

-- equal comparisons are reversed alike
reversed_by : {c d m n : Comparison} → c ≡ m → d ≡ n → Reversed c d → Reversed m n
reversed_by {c} {d} {m} {n} p q h = subst (λ (x : Comparison). Reversed x n) p (subst (λ (x : Comparison). Reversed c x) q h)

refused_alike : Reversed incomparable incomparable
refused_alike = (refl, λ h. absurd (omega arith))

-- The three theorems.
pub other_way_round : OtherWayRound
other_way_round a b =
    by_test (eqb a.number 0)
    (λ p. by_test (eqb b.number 0)
    (λ q. reversed_by (compares a b _ refl (eqb-true _ _ p) (eqb-true _ _ q)) (compares b a _ refl (eqb-true _ _ q) (eqb-true _ _ p)) (refl, λ h. order_reversed a.second b.second))
    (λ q. reversed_by (refuses_second a b _ refl (eqb-false _ _ q)) (refuses_first b a _ refl (eqb-false _ _ q)) refused_alike))
    (λ p. reversed_by (refuses_first a b _ refl (eqb-false _ _ p)) (refuses_second b a _ refl (eqb-false _ _ p)) refused_alike)

pub same_as_itself : SameAsItself
same_as_itself stamp h =
    let r : Reading = reading stamp in
    sym (compares r r same (sym (is_same r.second r.second refl)) h h)

pub written_in_order : WrittenInOrder
unfolding comparison
written_in_order here there s t y z p q =
    λ i. comparison (written_is_read here s y p i) (written_is_read there t z q i)
