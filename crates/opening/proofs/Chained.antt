-- Chains: a sum over a chain is the sum over all rows with its link.
use mathlib.Core.Path.{◌≡◌, refl, sym, ap, ◌∙◌}
use mathlib.Core.Logic.{◌≢◌, ◌⊎◌, ⊎_elim}
use mathlib.Core.Bool.{Bool, true, false}
use mathlib.Core.List.{List}
use Prim.Native.Nat.{ℕ, zero, suc, ◌+◌, ◌-◌, ◌≤◌, ◌<◌, zero-le}
use native.Mathlib.Decide.{ℕ_discrete}
use native.Mathlib.Nat.{eq-or-lt_of_le}
use native.Mathlib.Numerals.{add-one}
use native.Mathlib.Omega.{arith}
use lib.Dec.{eqb}
use lib.ListN.{length, get_or, set, length-set}
use lib.Seq.{get_or-set_same, get_or-set_other}
use borrow.Author.Tests.{eq-eqb, ne_eqb}
use Rattle.words.specs.Lists.{word_at, sum_below, noughts}
use Rattle.words.proofs.Laws.{noughts_at}
use Rattle.rules.specs.Pick.{pick}
use Rattle.opening.specs.Chains.{last_linked, Chained, Unchained, Falling, chain_within, chain_sum}

-- ---- the last row with a link
pub last_falls : (link : ℕ → ℕ) (k m : ℕ) → last_linked link k m ≤ m
unfolding last_linked
last_falls link k zero = zero-le
last_falls link k (suc m) = go (eqb (link m) k) (last_falls link k m)
  where
    go : (b : Bool) → last_linked link k m ≤ m → pick b (suc m) (last_linked link k m) ≤ suc m
    go true f = omega arith
    go false f = omega (arith, f)

last_cong : (link link' : ℕ → ℕ) (k m : ℕ) → ((n : ℕ) → n < m → link n ≡ link' n) → last_linked link k m ≡ last_linked link' k m
unfolding last_linked
last_cong link link' k zero same = refl
last_cong link link' k (suc m) same =
    ap (λ (x : ℕ). pick (eqb x k) (suc m) (last_linked link k m)) (same m (omega arith))
    ∙ ap (λ (x : ℕ). pick (eqb (link' m) k) (suc m) x) (last_cong link link' k m (λ n lt. same n (omega arith)))

-- by links that are the same
pub chained_as : {link link' : ℕ → ℕ} {N : ℕ} {lasts befores : List ℕ} → ((n : ℕ) → n < N → link n ≡ link' n) → Chained link N lasts befores → Chained link' N lasts befores
chained_as {link} {link'} {N} same c = record {
  lasts_long = c.lasts_long;
  befores_long = c.befores_long;
  last = λ k le. c.last k le ∙ last_cong link link' k N same;
  before = λ m lt. c.before m lt ∙ ap (λ (k : ℕ). last_linked link k m) (same m lt) ∙ last_cong link link' (link' m) m (λ n nlt. same n (omega (arith, nlt, lt)));
}

pub chained_falls : {link : ℕ → ℕ} {N : ℕ} {lasts befores : List ℕ} → Chained link N lasts befores → Falling N befores
chained_falls {link} c = record { long = c.befores_long; falls = λ m lt. omega (arith, c.before m lt, last_falls link (link m) m) }

-- ---- the sum over a chain
pub chain_none : (befores : List ℕ) (f : ℕ → ℕ) → chain_sum befores f 0 ≡ 0
unfolding chain_sum chain_within
chain_none befores f = refl

module _ {N : ℕ} {befores : List ℕ} (F : Falling N befores) (f : ℕ → ℕ) where
  -- more steps make no difference
  steps : (k j m : ℕ) → m ≤ k → m ≤ j → m ≤ N → chain_within k befores f m ≡ chain_within j befores f m
  unfolding chain_within
  steps zero zero m a b c = refl
  steps zero (suc j) m a b c = sym (ap (λ (t : Bool). pick t 0 (f (m - 1) + chain_within j befores f (word_at befores (m - 1)))) (eq-eqb m 0 (omega (arith, a))))
  steps (suc k) zero m a b c = ap (λ (t : Bool). pick t 0 (f (m - 1) + chain_within k befores f (word_at befores (m - 1)))) (eq-eqb m 0 (omega (arith, b)))
  steps (suc k) (suc j) zero a b c = refl
  steps (suc k) (suc j) (suc p) a b c =
      let e : suc p - 1 ≡ p = omega arith in
      let low = F.falls p (omega (arith, c)) in
      let q : word_at befores (suc p - 1) ≤ p = omega (arith, low, ap (λ (i : ℕ). word_at befores i) e) in
      ap (λ (x : ℕ). pick (eqb (suc p) 0) 0 (f (suc p - 1) + x)) (steps k j (word_at befores (suc p - 1)) (omega (arith, q, a)) (omega (arith, q, b)) (omega (arith, q, c)))

  -- its first row, and the rest
  pub chain_next : (m : ℕ) → m ≢ 0 → m ≤ N → chain_sum befores f m ≡ f (m - 1) + chain_sum befores f (word_at befores (m - 1))
  unfolding chain_sum chain_within
  chain_next zero ne le = absurd (ne refl)
  chain_next (suc p) ne le =
      let e : suc p - 1 ≡ p = omega arith in
      let low = F.falls p (omega (arith, le)) in
      let q : word_at befores (suc p - 1) ≤ p = omega (arith, low, ap (λ (i : ℕ). word_at befores i) e) in
      ap (λ (t : Bool). pick t 0 (f (suc p - 1) + chain_within p befores f (word_at befores (suc p - 1)))) (ne_eqb (suc p) 0 ne)
      ∙ ap (λ (x : ℕ). f (suc p - 1) + x) (steps p (word_at befores (suc p - 1)) (word_at befores (suc p - 1)) q (omega arith) (omega (arith, q, le)))

-- the rows of a link's chain are the rows with that link
module _ {link : ℕ → ℕ} {N : ℕ} {lasts befores : List ℕ} (C : Chained link N lasts befores) (f : ℕ → ℕ) where
  pub chain_linked : (k m : ℕ) → m ≤ N → chain_sum befores f (last_linked link k m) ≡ sum_below m (λ c. pick (eqb (link c) k) (f c) 0)
  unfolding last_linked sum_below
  chain_linked k zero le = chain_none befores f
  chain_linked k (suc m) le = go (ℕ_discrete (link m) k) (chain_linked k m (omega (arith, le)))
    where
      go : Dec (link m ≡ k) → chain_sum befores f (last_linked link k m) ≡ sum_below m (λ c. pick (eqb (link c) k) (f c) 0) → chain_sum befores f (pick (eqb (link m) k) (suc m) (last_linked link k m)) ≡ sum_below m (λ c. pick (eqb (link c) k) (f c) 0) + pick (eqb (link m) k) (f m) 0
      go (yes e) rest =
          let z : suc m - 1 ≡ m = omega arith in
          ap (λ (t : Bool). chain_sum befores f (pick t (suc m) (last_linked link k m))) (eq-eqb (link m) k e)
          ∙ chain_next (chained_falls C) f (suc m) (λ q. omega (arith, q)) le
          ∙ ap (λ (i : ℕ). f i + chain_sum befores f (word_at befores i)) z
          ∙ ap (λ (x : ℕ). f m + chain_sum befores f x) (C.before m (omega (arith, le)) ∙ ap (λ (j : ℕ). last_linked link j m) e)
          ∙ omega (arith, rest, ap (λ (t : Bool). pick t (f m) 0) (eq-eqb (link m) k e))
      go (no e) rest =
          ap (λ (t : Bool). chain_sum befores f (pick t (suc m) (last_linked link k m))) (ne_eqb (link m) k e)
          ∙ omega (arith, rest, ap (λ (t : Bool). pick t (f m) 0) (ne_eqb (link m) k e))

  pub chain_last : (k : ℕ) → k ≤ N → chain_sum befores f (word_at lasts k) ≡ sum_below N (λ c. pick (eqb (link c) k) (f c) 0)
  chain_last k le = ap (chain_sum befores f) (C.last k le) ∙ chain_linked k N (omega arith)

-- ---- rows are chained: after m of them
pub record Chaining (links lasts befores : List ℕ) (m : ℕ) : Type 0 where
  pub below : m ≤ length links
  pub lasts_long : length lasts ≡ length links + 1
  pub befores_long : length befores ≡ length links
  pub last : (k : ℕ) → k ≤ length links → get_or lasts k 0 ≡ last_linked (λ n. word_at links n) k m
  pub before : (n : ℕ) → n < m → get_or befores n 0 ≡ last_linked (λ n. word_at links n) (word_at links n) n

pub chaining_start : {links lasts befores : List ℕ} → Unchained links lasts befores → lasts ≡ noughts (length lasts) → Chaining links lasts befores 0
unfolding last_linked
chaining_start {links} {lasts} u none = record {
  below = zero-le;
  lasts_long = u.lasts_long;
  befores_long = u.befores_long;
  last = λ k le. ap (λ (v : List ℕ). get_or v k 0) none ∙ noughts_at (length lasts) k;
  before = λ n lt. absurd (omega (arith, lt));
}

module _ {links lasts befores : List ℕ} {m : ℕ} (i : Chaining links lasts befores m) where
  abbrev link : ℕ → ℕ
  link n = word_at links n

  -- what is stored: the row that was last before row m, and row m
  pub chaining_turn : m < length links → word_at links m ≤ length links → {v w : ℕ} → v ≡ get_or lasts (word_at links m) 0 → w ≡ m + 1 → Chaining links (set lasts (word_at links m) w) (set befores m v) (m + 1)
  unfolding last_linked
  chaining_turn lt low {v} {w} ve we = record {
    below = omega (arith, lt);
    lasts_long = length-set lasts (word_at links m) w ∙ i.lasts_long;
    befores_long = length-set befores m v ∙ i.befores_long;
    last = λ k le. last_at k le (ℕ_discrete (word_at links m) k) ∙ ap (λ (j : ℕ). last_linked (λ n. word_at links n) k j) (sym (add-one m));
    before = λ n nlt. before_at n (eq-or-lt_of_le (let le : n ≤ m = omega (arith, nlt) in le));
  }
    where
      last_at : (k : ℕ) → k ≤ length links → Dec (word_at links m ≡ k) → get_or (set lasts (word_at links m) w) k 0 ≡ pick (eqb (word_at links m) k) (suc m) (last_linked (λ n. word_at links n) k m)
      last_at k le (yes e) =
          ap (λ (j : ℕ). get_or (set lasts j w) k 0) e
          ∙ get_or-set_same lasts k w 0 (omega (arith, le, i.lasts_long))
          ∙ we ∙ add-one m
          ∙ sym (ap (λ (t : Bool). pick t (suc m) (last_linked (λ n. word_at links n) k m)) (eq-eqb (word_at links m) k e))
      last_at k le (no e) =
          get_or-set_other lasts (word_at links m) k w 0 (λ q. e (sym q))
          ∙ i.last k le
          ∙ sym (ap (λ (t : Bool). pick t (suc m) (last_linked (λ n. word_at links n) k m)) (ne_eqb (word_at links m) k e))

      before_at : (n : ℕ) → (n ≡ m) ⊎ (n < m) → get_or (set befores m v) n 0 ≡ last_linked (λ n. word_at links n) (word_at links n) n
      before_at n =
          ⊎_elim
          (λ e.
          ap (λ (j : ℕ). get_or (set befores m v) j 0) e
          ∙ get_or-set_same befores m v 0 (omega (arith, lt, i.befores_long))
          ∙ ve ∙ i.last (word_at links m) low
          ∙ ap (λ (j : ℕ). last_linked (λ n. word_at links n) (word_at links j) j) (sym e))
          (λ l. get_or-set_other befores m n v 0 (λ q. omega (arith, q, l)) ∙ i.before n l)
