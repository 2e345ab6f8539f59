-- A tree's sum: what the root draws is the sum, over all that descends from it, of what each row keeps for itself.
use mathlib.Core.Path.{◌≡◌, refl, sym, ap, ◌∙◌}
use mathlib.Core.Bool.{Bool, true, false}
use Prim.Native.Nat.{ℕ, zero, suc, ◌+◌, ◌≤◌, ◌<◌}
use native.Mathlib.Omega.{arith}
use lib.Dec.{eqb}
use Rattle.column.specs.Sum.{gate, sum_to}
use Rattle.column.specs.Column.{hit, either}
use Rattle.column.specs.Demand.{up, within, inside}
use Rattle.column.proofs.Sums.{eqb_same, eqb_other, gate_zero, gate_add, sum_ext, sum_add, sum_gate, sum_zero, sum_point, sum_single, sum_swap}
use Rattle.column.proofs.Flow.{hit_same, hit_other}

-- b holds of o, and of what refers to a row of which it holds
abbrev pub Closed : (ℕ → ℕ) → ℕ → (ℕ → Bool) → Type 0
Closed ref o b = (n : ℕ) → b n ≡ either (eqb n o) (up b (ref n))

module _ (m o : ℕ) (ref : ℕ → ℕ) (b : ℕ → Bool) (v x : ℕ → ℕ) where
  -- what row c, which draws v c, adds to the rows of which b holds
  one_row : (c : ℕ) → c < m → ref c ≤ c → sum_to m (λ n. gate (b n) (hit (ref c) n (v c))) ≡ gate (up b (ref c)) (v c)
  one_row c l low = go (ref c) low
    where
      go : (r : ℕ) → r ≤ c → sum_to m (λ n. gate (b n) (hit r n (v c))) ≡ gate (up b r) (v c)
      go zero h = sum_zero m _ (λ n k. ap (gate (b n)) (hit_other 0 n (v c) (omega arith)) ∙ gate_zero (b n))
      go (suc p) h =
          sum_single m p (λ n. gate (b n) (hit (suc p) n (v c))) (omega arith)
          (λ n k. ap (gate (b n)) (hit_other (suc p) n (v c) (omega arith)) ∙ gate_zero (b n))
          ∙ ap (gate (b p)) (hit_same {r = suc p} {n = p} (v c) refl)

  pub tree_sum : ((n : ℕ) → v n ≡ x n + sum_to m (λ c. hit (ref c) n (v c))) → ((n : ℕ) → ref n ≤ n) → ref o ≡ 0 → o < m → Closed ref o b → v o ≡ sum_to m (λ n. gate (b n) (x n))
  tree_sum local low root l closed = omega (arith, split, joined, point, at_o, not_o)
    where
      f : ℕ → ℕ
      f c = gate (up b (ref c)) (v c)

      h : ℕ → ℕ
      h c = gate (b c) (v c)

      split : sum_to m h ≡ sum_to m (λ n. gate (b n) (x n)) + sum_to m (λ n. gate (b n) (sum_to m (λ c. hit (ref c) n (v c))))
      split =
          sum_ext m h (λ n. gate (b n) (x n) + gate (b n) (sum_to m (λ c. hit (ref c) n (v c))))
          (λ n k. ap (gate (b n)) (local n) ∙ gate_add (b n) (x n) (sum_to m (λ c. hit (ref c) n (v c))))
          ∙ sum_add m (λ n. gate (b n) (x n)) (λ n. gate (b n) (sum_to m (λ c. hit (ref c) n (v c))))

      joined : sum_to m (λ n. gate (b n) (sum_to m (λ c. hit (ref c) n (v c)))) ≡ sum_to m f
      joined =
          sum_ext m _ _ (λ n k. sym (sum_gate m (b n) (λ c. hit (ref c) n (v c))))
          ∙ sum_swap m m (λ n c. gate (b n) (hit (ref c) n (v c)))
          ∙ sum_ext m _ _ (λ c k. one_row c k (low c))

      at_o : h o ≡ v o
      at_o = ap (λ z. gate z (v o)) (closed o ∙ ap (λ z. either z (up b (ref o))) (eqb_same o))

      not_o : f o ≡ 0
      not_o = ap (λ r. gate (up b r) (v o)) root

      point : sum_to m h + f o ≡ sum_to m f + h o
      point = sum_point m o f h l (λ i k. ap (λ z. gate z (v i)) (closed i ∙ ap (λ z. either z (up b (ref i))) (eqb_other k)))

-- the test of descent
pub up_ext : (f h : ℕ → Bool) (r : ℕ) → ((p : ℕ) → r ≡ suc p → f p ≡ h p) → up f r ≡ up h r
up_ext f h zero e = refl
up_ext f h (suc p) e = e p refl

pub either_false : (b : Bool) → either b false ≡ b
either_false true = refl
either_false false = refl

module _ (ref : ℕ → ℕ) (o : ℕ) (low : (n : ℕ) → ref n ≤ n) where
  at_zero : (f : ℕ → Bool) (n : ℕ) → n ≤ 0 → either (eqb n o) (up f (ref n)) ≡ eqb n o
  at_zero f n h = let e : ref n ≡ 0 = omega (arith, low n) in ap (λ r. either (eqb n o) (up f r)) e ∙ either_false (eqb n o)

  -- enough steps are enough
  fuel : (k j n : ℕ) → n ≤ k → n ≤ j → within ref k o n ≡ within ref j o n
  unfolding within
  fuel zero zero n h i = refl
  fuel zero (suc j) n h i = sym (at_zero (λ p. within ref j o p) n h)
  fuel (suc k) zero n h i = at_zero (λ p. within ref k o p) n i
  fuel (suc k) (suc j) n h i =
      ap (either (eqb n o)) (up_ext (λ p. within ref k o p) (λ p. within ref j o p) (ref n) (λ p e. fuel k j p (omega (arith, low n)) (omega (arith, low n))))

  pub inside_closed : Closed ref o (inside ref o)
  unfolding within
  inside_closed zero = sym (at_zero (inside ref o) 0 (omega arith))
  inside_closed (suc k) =
      ap (either (eqb (suc k) o)) (up_ext (λ p. within ref k o p) (inside ref o) (ref (suc k)) (λ p e. fuel k p p (omega (arith, low (suc k))) (omega arith)))
