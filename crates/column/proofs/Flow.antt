-- What a row's children draw on it, and the invariant.
use mathlib.Core.Path.{◌≡◌, sym, ap, ◌∙◌, subst}
use mathlib.Core.Logic.{◌≢◌}
use mathlib.Core.Bool.{Bool, true}
use Prim.Native.Nat.{ℕ, suc, ◌+◌, ◌≤◌, ◌<◌}
use native.Mathlib.Decide.{ℕ_discrete}
use native.Mathlib.Omega.{arith}
use lib.Dec.{eqb}
use lib.IntN.{ℤ, pos, neg_ℤ, ◌+ℤ◌, +ℤ-neg_ℤ_cancel}
use Rattle.column.specs.Sum.{gate, sum_to}
use Rattle.column.specs.Column.{Col, part, hit, Off}
use Rattle.column.specs.Step.{Keeps, Submit}
use Rattle.column.proofs.Sums.{eqb_same, eqb_other, gate_zero, gate_add, sum_ext, sum_suc, sum_point, sum_two}
use Rattle.column.proofs.Fits.{Fit}

-- what a row of type t that refers to r, and draws x, adds to the draws on n, of the types that b selects
abbrev pub into : (ℕ → Bool) → ℕ → ℕ → ℕ → ℕ → ℕ
into b t r n x = gate (b t) (hit r n x)

unfoldable pub flow : (ℕ → Bool) → Col → (ℕ → ℕ) → ℕ → ℕ
flow b S w n = sum_to S.used (λ c. into b (S.ty c) (S.ref c) n (w c))

abbrev pub all : ℕ → Bool
all t = true

abbrev pub of : ℕ → ℕ → Bool
of k t = eqb (part t) k

pub into_zero : (b : ℕ → Bool) (t r n : ℕ) → into b t r n 0 ≡ 0
into_zero b t r n = ap (gate (b t)) (gate_zero (eqb r (suc n))) ∙ gate_zero (b t)

pub into_add : (b : ℕ → Bool) (t r n x y : ℕ) → into b t r n (x + y) ≡ into b t r n x + into b t r n y
into_add b t r n x y = ap (gate (b t)) (gate_add (eqb r (suc n)) x y) ∙ gate_add (b t) (hit r n x) (hit r n y)

pub hit_same : {r n : ℕ} (x : ℕ) → r ≡ suc n → hit r n x ≡ x
hit_same {r} {n} x e = ap (λ m. gate (eqb m (suc n)) x) e ∙ ap (λ b. gate b x) (eqb_same (suc n))

pub hit_other : (r n x : ℕ) → r ≢ suc n → hit r n x ≡ 0
hit_other r n x e = ap (λ b. gate b x) (eqb_other e)

pub into_none : (b : ℕ → Bool) (t r n x : ℕ) → r ≢ suc n → into b t r n x ≡ 0
into_none b t r n x e = ap (gate (b t)) (hit_other r n x e) ∙ gate_zero (b t)

module _ (b : ℕ → Bool) where
  pub flow_keeps : {S S' : Col} → Keeps S S' → (w : ℕ → ℕ) (n : ℕ) → flow b S' w n ≡ flow b S w n
  unfolding flow
  flow_keeps {S} {S'} K w n =
      ap (λ m. sum_to m (λ c. into b (S'.ty c) (S'.ref c) n (w c))) K.used
      ∙ sum_ext S.used _ _ (λ c l. ap (λ t. into b t (S'.ref c) n (w c)) (K.ty c) ∙ ap (λ r. into b (S.ty c) r n (w c)) (K.ref c))

  -- a new row that draws nothing
  pub flow_submit : {S S' : Col} → Submit S S' → (w : ℕ → ℕ) (n : ℕ) → w S.used ≡ 0 → flow b S' w n ≡ flow b S w n
  unfolding flow
  flow_submit {S} {S'} N w n e =
      omega (
        arith,
        ap (λ m. sum_to m term) N.used,
        sum_suc S.used term,
        ap (into b (S'.ty S.used) (S'.ref S.used) n) e,
        into_zero b (S'.ty S.used) (S'.ref S.used) n,
        sum_ext S.used term (λ c. into b (S.ty c) (S.ref c) n (w c))
            (λ c l. ap (λ t. into b t (S'.ref c) n (w c)) (N.ty c (omega arith)) ∙ ap (λ r. into b (S.ty c) r n (w c)) (N.ref c (omega arith))),
      )
    where
      term : ℕ → ℕ
      term c = into b (S'.ty c) (S'.ref c) n (w c)

  -- one row draws otherwise
  pub flow_one : (S : Col) (w w' : ℕ → ℕ) (c n : ℕ) → c < S.used → ((i : ℕ) → i ≢ c → w' i ≡ w i) → flow b S w' n + into b (S.ty c) (S.ref c) n (w c) ≡ flow b S w n + into b (S.ty c) (S.ref c) n (w' c)
  unfolding flow
  flow_one S w w' c n l e =
      sum_point S.used c (λ i. into b (S.ty i) (S.ref i) n (w i)) (λ i. into b (S.ty i) (S.ref i) n (w' i)) l
      (λ i k. ap (into b (S.ty i) (S.ref i) n) (e i k))

  pub flow_two : (S : Col) (w w' : ℕ → ℕ) (c q n : ℕ) → c < S.used → q < S.used → c ≢ q → ((i : ℕ) → i ≢ c → i ≢ q → w' i ≡ w i) → flow b S w' n + into b (S.ty c) (S.ref c) n (w c) + into b (S.ty q) (S.ref q) n (w q) ≡ flow b S w n + into b (S.ty c) (S.ref c) n (w' c) + into b (S.ty q) (S.ref q) n (w' q)
  unfolding flow
  flow_two S w w' c q n l l' ne e =
      sum_two S.used c q (λ i. into b (S.ty i) (S.ref i) n (w i)) (λ i. into b (S.ty i) (S.ref i) n (w' i)) l l' ne
      (λ i k k'. ap (into b (S.ty i) (S.ref i) n) (e i k k'))

-- the invariant
abbrev pub FitAt : Col → (ℕ → ℕ) → ℕ → Type 0
FitAt S w n = Fit (S.ty n) (S.st n) (S.g n) (S.a n) (S.d n) (S.r n) (w n) (flow all S w n)

pub record Inv (S : Col) : Type 0 where
  pub w : ℕ → ℕ
  pub fit : (n : ℕ) → FitAt S w n
  pub out_is : (k n : ℕ) → S.out k n ≡ pos (flow (of k) S w n)
  pub red_is : (n : ℕ) → S.red n ≡ pos (S.r n)

-- what never changes once a row is there
pub record Shape (S : Col) : Type 0 where
  pub fresh : (n : ℕ) → S.used ≤ n → Off (S.st n) × (S.ref n ≡ 0)
  pub lower : (n : ℕ) → S.ref n ≤ n
  pub top : (n : ℕ) → S.ty n ≤ 2 → S.ref n ≡ 0
  pub under5 : (n p : ℕ) → S.ref n ≡ suc p → S.ty n ≡ 8 → S.ty p ≡ 5
  pub under : (n p : ℕ) → S.ref n ≡ suc p → S.ty n ≢ 8 → (S.ty p ≢ 5) × (S.ty p ≢ 8)

-- by one, two or three rows, and the rest
pub by_one : (P : ℕ → Type 0) (c : ℕ) → P c → ((n : ℕ) → n ≢ c → P n) → (n : ℕ) → P n
by_one P c x f n = go (ℕ_discrete n c)
  where
    go : Dec (n ≡ c) → P n
    go (yes e) = subst P (sym e) x
    go (no e) = f n e

-- the signed numbers of the tally
pub int_add : {u u' : ℤ} {z z' : ℕ} (y : ℕ) → u' ≡ u +ℤ pos y → u ≡ pos z → z' ≡ z + y → u' ≡ pos z'
int_add y e h q = e ∙ ap (λ v. v +ℤ pos y) h ∙ ap pos (sym q)

pub int_sub : {u u' : ℤ} {z z' : ℕ} (y : ℕ) → u' ≡ u +ℤ neg_ℤ (pos y) → u ≡ pos z → z' + y ≡ z → u' ≡ pos z'
int_sub {z' = z'} y e h q = e ∙ ap (λ v. v +ℤ neg_ℤ (pos y)) (h ∙ ap pos (sym q)) ∙ +ℤ-neg_ℤ_cancel (pos z') (pos y)

pub int_both : {u u' : ℤ} {z z' : ℕ} (x y : ℕ) → u' ≡ u +ℤ pos x +ℤ neg_ℤ (pos y) → u ≡ pos z → z' + y ≡ z + x → u' ≡ pos z'
int_both {z' = z'} x y e h q = e ∙ ap (λ v. v +ℤ pos x +ℤ neg_ℤ (pos y)) h ∙ ap (λ v. pos v +ℤ neg_ℤ (pos y)) (sym q) ∙ +ℤ-neg_ℤ_cancel (pos z') (pos y)
