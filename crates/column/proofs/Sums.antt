-- The laws of sums over rows.
use mathlib.Core.Path.{◌≡◌, refl, sym, ap, ◌∙◌}
use mathlib.Core.Logic.{◌≢◌}
use mathlib.Core.Bool.{Bool, true, false}
use Prim.Native.Nat.{ℕ, zero, suc, ◌+◌, ◌≤◌, ◌<◌}
use native.Mathlib.Decide.{ℕ_discrete}
use native.Mathlib.Omega.{arith}
use lib.Dec.{T, eqb, eqb→eq, eqb_refl}
use Rattle.column.specs.Sum.{gate, choose, upd, sum_to}

-- ---- tests of numbers

pub eqb_same : (i : ℕ) → eqb i i ≡ true
eqb_same i = go (eqb i i) (eqb_refl i)
  where
    go : (b : Bool) → T b → b ≡ true
    go true t = refl
    go false t = absurd t

pub eqb_other : {i j : ℕ} → i ≢ j → eqb i j ≡ false
eqb_other {i} {j} h = go (eqb i j) (eqb→eq i j)
  where
    go : (b : Bool) → (T b → i ≡ j) → b ≡ false
    go true t = absurd (h (t tt))
    go false t = refl

pub gate_zero : (b : Bool) → gate b 0 ≡ 0
gate_zero true = refl
gate_zero false = refl

pub gate_add : (b : Bool) (x y : ℕ) → gate b (x + y) ≡ gate b x + gate b y
gate_add true x y = refl
gate_add false x y = refl

pub gate_le : (b : Bool) (x : ℕ) → gate b x ≤ x
gate_le true x = omega arith
gate_le false x = omega arith

pub gate_swap : (b c : Bool) (x : ℕ) → gate b (gate c x) ≡ gate c (gate b x)
gate_swap true c x = refl
gate_swap false true x = refl
gate_swap false false x = refl

-- ---- a function changed at one point

pub upd_same : (f : ℕ → ℕ) (c v : ℕ) → upd f c v c ≡ v
unfolding upd
upd_same f c v = ap (λ b. choose b v (f c)) (eqb_same c)

pub upd_other : (f : ℕ → ℕ) (c v : ℕ) (i : ℕ) → i ≢ c → upd f c v i ≡ f i
unfolding upd
upd_other f c v i h = ap (λ b. choose b v (f i)) (eqb_other h)

-- ---- sums

-- equal terms give equal sums
pub sum_ext : (m : ℕ) (f h : ℕ → ℕ) → ((i : ℕ) → i < m → f i ≡ h i) → sum_to m f ≡ sum_to m h
unfolding sum_to
sum_ext zero f h e = refl
sum_ext (suc m) f h e = omega (arith, sum_ext m f h (λ i l. e i (omega arith)), e m (omega arith))

pub sum_le : (m : ℕ) (f h : ℕ → ℕ) → ((i : ℕ) → i < m → f i ≤ h i) → sum_to m f ≤ sum_to m h
unfolding sum_to
sum_le zero f h e = omega arith
sum_le (suc m) f h e = omega (arith, sum_le m f h (λ i l. e i (omega arith)), e m (omega arith))

pub sum_zero : (m : ℕ) (f : ℕ → ℕ) → ((i : ℕ) → i < m → f i ≡ 0) → sum_to m f ≡ 0
unfolding sum_to
sum_zero zero f e = refl
sum_zero (suc m) f e = omega (arith, sum_zero m f (λ i l. e i (omega arith)), e m (omega arith))

pub sum_add : (m : ℕ) (f h : ℕ → ℕ) → sum_to m (λ i. f i + h i) ≡ sum_to m f + sum_to m h
unfolding sum_to
sum_add zero f h = refl
sum_add (suc m) f h = omega (arith, sum_add m f h)

-- one more row
pub sum_suc : (m : ℕ) (f : ℕ → ℕ) → sum_to (suc m) f ≡ sum_to m f + f m
unfolding sum_to
sum_suc m f = refl

pub sum_gate : (m : ℕ) (b : Bool) (f : ℕ → ℕ) → sum_to m (λ i. gate b (f i)) ≡ gate b (sum_to m f)
sum_gate m true f = refl
sum_gate m false f = sum_zero m (λ i. 0) (λ i l. refl)

-- one term changes
pub sum_point : (m c : ℕ) (f h : ℕ → ℕ) → c < m → ((i : ℕ) → i ≢ c → h i ≡ f i) → sum_to m h + f c ≡ sum_to m f + h c
unfolding sum_to
sum_point zero c f h l e = omega arith
sum_point (suc m) c f h l e = go (ℕ_discrete c m) (λ k. sum_point m c f h k e)
  where
    go : Dec (c ≡ m) → (c < m → sum_to m h + f c ≡ sum_to m f + h c) → sum_to (suc m) h + f c ≡ sum_to (suc m) f + h c
    go (yes q) r = omega (arith, sum_ext m h f (λ i k. e i (omega arith)), ap f q, ap h q)
    go (no q) r = omega (arith, r (omega arith), e m (λ x. q (sym x)))

-- two terms change
pub sum_two : (m c q : ℕ) (f h : ℕ → ℕ) → c < m → q < m → c ≢ q → ((i : ℕ) → i ≢ c → i ≢ q → h i ≡ f i) → sum_to m h + f c + f q ≡ sum_to m f + h c + h q
sum_two m c q f h lc lq n e =
    omega (
      arith,
      sum_point m c f (upd f c (h c)) lc (upd_other f c (h c)),
      sum_point m q (upd f c (h c)) h lq two,
      upd_same f c (h c),
      upd_other f c (h c) q (λ x. n (sym x)),
    )
  where
    two : (i : ℕ) → i ≢ q → h i ≡ upd f c (h c) i
    two i k = go (ℕ_discrete i c)
      where
        go : Dec (i ≡ c) → h i ≡ upd f c (h c) i
        go (yes p) = rw p (sym (upd_same f c (h c)))
        go (no p) = e i p k ∙ sym (upd_other f c (h c) i p)

-- no term rises but two, which together do not
pub sum_le_two : (m c q : ℕ) (f h : ℕ → ℕ) → c < m → q < m → c ≢ q → ((i : ℕ) → i ≢ c → i ≢ q → h i ≤ f i) → h c + h q ≤ f c + f q → sum_to m h ≤ sum_to m f
sum_le_two m c q f h lc lq n e t =
    omega (
      arith,
      sum_le m h g (λ i l. below i),
      sum_two m c q f g lc lq n other,
      at_c,
      at_q,
    )
  where
    g : ℕ → ℕ
    g = upd (upd f c (h c)) q (h q)

    at_q : g q ≡ h q
    at_q = upd_same (upd f c (h c)) q (h q)

    at_c : g c ≡ h c
    at_c = upd_other (upd f c (h c)) q (h q) c n ∙ upd_same f c (h c)

    other : (i : ℕ) → i ≢ c → i ≢ q → g i ≡ f i
    other i x y = upd_other (upd f c (h c)) q (h q) i y ∙ upd_other f c (h c) i x

    below : (i : ℕ) → h i ≤ g i
    below i = go (ℕ_discrete i c) (ℕ_discrete i q)
      where
        go : Dec (i ≡ c) → Dec (i ≡ q) → h i ≤ g i
        go (yes x) d = omega (arith, ap h x, ap g x, at_c)
        go (no x) (yes y) = omega (arith, ap h y, ap g y, at_q)
        go (no x) (no y) = omega (arith, other i x y, e i x y)

-- a term is at most the sum: so a sum of 0 has only terms 0
pub sum_term : (m c : ℕ) (f : ℕ → ℕ) → c < m → f c ≤ sum_to m f
unfolding sum_to
sum_term zero c f l = omega arith
sum_term (suc m) c f l = go (ℕ_discrete c m) (λ k. sum_term m c f k)
  where
    go : Dec (c ≡ m) → (c < m → f c ≤ sum_to m f) → f c ≤ sum_to (suc m) f
    go (yes q) r = omega (arith, ap f q)
    go (no q) r = omega (arith, r (omega arith))

-- only one term counts
pub sum_single : (m c : ℕ) (f : ℕ → ℕ) → c < m → ((i : ℕ) → i ≢ c → f i ≡ 0) → sum_to m f ≡ f c
sum_single m c f l e = omega (arith, sum_point m c (λ i. 0) f l e, sum_zero m (λ i. 0) (λ i k. refl))

-- two sums change places
pub sum_swap : (m k : ℕ) (f : ℕ → ℕ → ℕ) → sum_to m (λ i. sum_to k (λ j. f i j)) ≡ sum_to k (λ j. sum_to m (λ i. f i j))
unfolding sum_to
sum_swap zero k f = sym (sum_zero k (λ j. 0) (λ i l. refl))
sum_swap (suc m) k f = omega (arith, sum_swap m k f, sum_add k (λ j. sum_to m (λ i. f i j)) (λ j. f m j))
