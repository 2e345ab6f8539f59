-- Demand 3, from the invariant; and of any list of steps from a column with no rows.
use mathlib.Core.Path.{◌≡◌, refl, sym, ap, ◌∙◌, subst}
use mathlib.Core.Logic.{◌≢◌, ◌⊎◌, inl, inr}
use mathlib.Core.Bool.{Bool, true, false, not}
use Prim.Native.Nat.{ℕ, zero, suc, ◌+◌, ◌≤◌, ◌<◌}
use native.Mathlib.Decide.{ℕ_discrete, dec_lt}
use native.Mathlib.Omega.{arith}
use lib.Dec.{eqb}
use lib.IntN.{ℤ, pos, ◌+ℤ◌}
use Rattle.column.specs.Sum.{gate, choose, sum_to}
use Rattle.column.specs.Column.{Col, part, either, hit, On}
use Rattle.column.specs.Step.{Fresh, Run, fresh, next, post}
use Rattle.column.specs.Use.{Within}
use Rattle.column.specs.Demand.{Live, NotNegative, Whole, Five, inside, gateℤ, sumℤ, Tree, StoredTree, Demand3}
use Rattle.column.proofs.Sums.{eqb_other, gate_le, gate_swap, sum_ext, sum_le, sum_zero, sum_add}
use Rattle.column.proofs.Fits.{Fit, off, gone, bent, held, fit_sum, fit_w_held, fit_r_off}
use Rattle.column.proofs.Flow.{flow, into, all, of, into_zero, into_none, hit_other, Inv, Shape}
use Rattle.column.proofs.Kept.{step_kept}
use Rattle.column.proofs.Shapes.{step_shape, fresh_shape}
use Rattle.column.proofs.Uses.{step_within, fresh_within, post_within}
use Rattle.column.proofs.Trees.{tree_sum, inside_closed}

on : {s : ℕ} → Live s → On s
on (inl e) = omega arith
on (inr e) = omega arith

-- ---- the four parts make the whole

four : (m x : ℕ) → m ≤ 3 → gate (eqb m 0) x + gate (eqb m 1) x + gate (eqb m 2) x + gate (eqb m 3) x ≡ x
four zero x h = omega arith
four (suc zero) x h = omega arith
four (suc (suc zero)) x h = omega arith
four (suc (suc (suc zero))) x h = omega arith
four (suc (suc (suc (suc m)))) x h = absurd (omega arith)

choose_le : (b : Bool) {x y : ℕ} → x ≤ 3 → y ≤ 3 → choose b x y ≤ 3
choose_le true p q = p
choose_le false p q = q

part_le : (t : ℕ) → part t ≤ 3
unfolding part
part_le t = choose_le (eqb t 3) (omega arith) (choose_le (either (eqb t 4) (eqb t 5)) (omega arith) (choose_le (either (eqb t 6) (eqb t 7)) (omega arith) (omega arith)))

flows : (S : Col) (w : ℕ → ℕ) (n : ℕ) → flow all S w n ≡ flow (of 0) S w n + flow (of 1) S w n + flow (of 2) S w n + flow (of 3) S w n
unfolding flow
flows S w n =
    sum_ext S.used _ (λ c. term 0 c + term 1 c + term 2 c + term 3 c) (λ c l. sym (four (part (S.ty c)) (hit (S.ref c) n (w c)) (part_le (S.ty c))))
    ∙ omega (arith, sum_add S.used (λ c. term 0 c + term 1 c + term 2 c) (term 3), sum_add S.used (λ c. term 0 c + term 1 c) (term 2), sum_add S.used (term 0) (term 1))
  where
    term : ℕ → ℕ → ℕ
    term k c = into (of k) (S.ty c) (S.ref c) n (w c)

not_negative : {z : ℤ} {n : ℕ} → z ≡ pos n → NotNegative z
not_negative e = subst NotNegative (sym e) tt

whole_of : {S : Col} → Inv S → (n : ℕ) → Live (S.st n) → S.ty n ≢ 8 → Whole S n
whole_of {S} I n l t =
    rw (I.out_is 0 n, I.out_is 1 n, I.out_is 2 n, I.out_is 3 n, I.red_is n) (ap pos (omega (arith, fit_sum (I.fit n) (on l) t, flows S I.w n)))

five_of : {S : Col} → Inv S → (n : ℕ) → Five S n
five_of {S} I n = record {
  resold = not_negative (I.out_is 0 n);
  redirected = not_negative (I.out_is 1 n);
  transferred = not_negative (I.out_is 2 n);
  relinquished = not_negative (I.out_is 3 n);
  reduced = not_negative (I.red_is n);
}

-- ---- the tree

non8 : ℕ → Bool
non8 t = not (eqb t 8)

is_8 : {t : ℕ} → t ≡ 8 → non8 t ≡ false
unfolding non8
is_8 e = ap non8 e

not_8 : {t : ℕ} → t ≢ 8 → non8 t ≡ true
unfolding non8
not_8 e = ap not (eqb_other e)

-- the children of a row of type 5 are relinquish records, and those of the others are not
module _ {S : Col} (H : Shape S) (w : ℕ → ℕ) (n : ℕ) where
  term : (ℕ → Bool) → ℕ → ℕ
  term b c = into b (S.ty c) (S.ref c) n (w c)

  some_le : flow non8 S w n ≤ flow all S w n
  unfolding flow term
  some_le = sum_le S.used (λ c. term non8 c) (λ c. term all c) (λ c l. gate_le (non8 (S.ty c)) (hit (S.ref c) n (w c)))

  under_five : S.ty n ≡ 5 → flow non8 S w n ≡ 0
  unfolding flow term
  under_five e = sum_zero S.used (λ c. term non8 c) (λ c l. go c (ℕ_discrete (S.ref c) (suc n)) (ℕ_discrete (S.ty c) 8))
    where
      go : (c : ℕ) → Dec (S.ref c ≡ suc n) → Dec (S.ty c ≡ 8) → term non8 c ≡ 0
      go c (no q) u = into_none non8 (S.ty c) (S.ref c) n (w c) q
      go c (yes q) (yes u) = ap (λ b. gate b (hit (S.ref c) n (w c))) (is_8 u)
      go c (yes q) (no u) = absurd ((H.under c n q u).0 e)

  under_other : S.ty n ≢ 5 → flow non8 S w n ≡ flow all S w n
  unfolding flow term
  under_other e = sum_ext S.used (λ c. term non8 c) (λ c. term all c) (λ c l. go c (ℕ_discrete (S.ref c) (suc n)) (ℕ_discrete (S.ty c) 8))
    where
      go : (c : ℕ) → Dec (S.ref c ≡ suc n) → Dec (S.ty c ≡ 8) → term non8 c ≡ term all c
      go c (no q) u = into_none non8 (S.ty c) (S.ref c) n (w c) q ∙ sym (hit_other (S.ref c) n (w c) q)
      go c (yes q) (yes u) = absurd (e (H.under5 c n q u))
      go c (yes q) (no u) = ap (λ b. gate b (hit (S.ref c) n (w c))) (not_8 u)

module _ {S : Col} (H : Shape S) (I : Inv S) where
  -- what a row draws, but for relinquish records; what it keeps for itself
  v : ℕ → ℕ
  v n = gate (non8 (S.ty n)) (I.w n)

  x : ℕ → ℕ
  x n = S.a n + S.d n + S.r n

  local : (n : ℕ) → v n ≡ x n + flow non8 S I.w n
  unfolding v x
  local n = go (I.fit n)
    where
      w_le : v n ≤ I.w n
      w_le = gate_le (non8 (S.ty n)) (I.w n)

      w_8 : S.ty n ≡ 8 → v n ≡ 0
      w_8 e = ap (λ b. gate b (I.w n)) (is_8 e)

      w_not : S.ty n ≢ 8 → v n ≡ I.w n
      w_not e = ap (λ b. gate b (I.w n)) (not_8 e)

      go : Fit (S.ty n) (S.st n) (S.g n) (S.a n) (S.d n) (S.r n) (I.w n) (flow all S I.w n) → v n ≡ x n + flow non8 S I.w n
      go (off u y) = omega (arith, w_le, some_le H I.w n)
      go (gone u z y) = omega (arith, w_8 z, some_le H I.w n)
      go (bent u z y) = omega (arith, w_not (omega arith), under_five H I.w n z)
      go (held u z y) = omega (arith, w_not z.1, under_other H I.w n z.0)

  flow_v : (n : ℕ) → flow non8 S I.w n ≡ sum_to S.used (λ c. hit (S.ref c) n (v c))
  unfolding flow v
  flow_v n = sum_ext S.used _ _ (λ c l. gate_swap (non8 (S.ty c)) (eqb (S.ref c) (suc n)) (I.w c))

  tree_nat : (o : ℕ) → S.ref o ≡ 0 → o < S.used → v o ≡ sum_to S.used (λ n. gate (inside S.ref o n) (x n))
  tree_nat o root l =
      tree_sum S.used o S.ref (inside S.ref o) v x (λ n. local n ∙ ap (λ z. x n + z) (flow_v n)) H.lower root l
      (inside_closed S.ref o H.lower)

sum_pos : (m : ℕ) (f : ℕ → ℤ) (h : ℕ → ℕ) → ((n : ℕ) → f n ≡ pos (h n)) → sumℤ m f ≡ pos (sum_to m h)
unfolding sumℤ sum_to
sum_pos zero f h e = refl
sum_pos (suc m) f h e = rw (sum_pos m f h e, e m)

gate_pos : (b : Bool) {z : ℤ} {n : ℕ} → z ≡ pos n → gateℤ b z ≡ pos (gate b n)
gate_pos true e = e
gate_pos false e = refl

stored_tree_of : {S : Col} → Shape S → Inv S → (o : ℕ) → Live (S.st o) → S.ty o ≤ 2 → StoredTree S o
unfolding v x
stored_tree_of {S} H I o l t = sym drawn ∙ tree_nat H I o (H.top o t) used
  where
    used : o < S.used
    used = go (dec_lt o S.used)
      where
        go : Dec (o < S.used) → o < S.used
        go (yes p) = p
        go (no p) = absurd (omega (arith, on l, (H.fresh o (omega arith)).0))

    drawn : v H I o ≡ S.g o
    drawn = ap (λ b. gate b (I.w o)) (not_8 (omega arith)) ∙ fit_w_held (I.fit o) (on l) (omega arith) (omega arith)

tree_of : {S : Col} → Shape S → Inv S → (o : ℕ) → Live (S.st o) → S.ty o ≤ 2 → Tree S o
tree_of {S} H I o l t =
    ap pos (stored_tree_of H I o l t)
    ∙ sym (sum_pos S.used _ (λ n. gate (inside S.ref o n) (S.a n + S.d n + S.r n)) (λ n. gate_pos (inside S.ref o n) (ap (λ z. pos (S.a n + S.d n) +ℤ z) (I.red_is n))))

pub demand3_of : {S : Col} → Shape S → Inv S → Demand3 S
demand3_of {S} H I = record {
  stored = I.red_is;
  five = five_of I;
  whole = whole_of I;
  tree = λ o l t. tree_of H I o l (go t);
  stored_tree = λ o l t. stored_tree_of H I o l (go t);
}
  where
    go : {t : ℕ} → (t ≡ 1) ⊎ (t ≡ 2) → t ≤ 2
    go (inl e) = omega arith
    go (inr e) = omega arith

-- nothing was counted for the first row that is not in use
pub unused_out : {S : Col} → Shape S → (I : Inv S) → (k : ℕ) → S.out k S.used ≡ pos 0
unfolding flow
unused_out {S} H I k =
    I.out_is k S.used
    ∙ ap pos (sum_zero S.used _ (λ c l. into_none (of k) (S.ty c) (S.ref c) S.used (I.w c) (λ e. omega (arith, e, H.lower c, l))))

pub unused_red : {S : Col} → Shape S → (I : Inv S) → S.red S.used ≡ pos 0
unused_red {S} H I = I.red_is S.used ∙ ap pos (fit_r_off (I.fit S.used) (H.fresh S.used (omega arith)).0)

-- ---- lists of steps

pub fresh_inv : {S : Col} → Fresh S → Inv S
unfolding flow
fresh_inv {S} F = record {
  w = λ n. 0;
  fit = λ n. off (omega (arith, F.st n)) (omega (arith, F.a n, F.d n, F.r n, none all n));
  out_is = λ k n. F.out k n ∙ ap pos (sym (none (of k) n));
  red_is = λ n. F.red n ∙ ap pos (sym (F.r n));
}
  where
    none : (b : ℕ → Bool) (n : ℕ) → flow b S (λ n. 0) n ≡ 0
    none b n = sum_zero S.used _ (λ c l. into_zero b (S.ty c) (S.ref c) n)

pub run_shape : {B : ℕ → ℕ} {S : Col} → Run B S → Shape S
run_shape (fresh F) = fresh_shape F
run_shape (next R s) = step_shape s (run_shape R)
run_shape (post x R e u) = run_shape R

pub run_inv : {B : ℕ → ℕ} {S : Col} → Run B S → Inv S
run_inv (fresh F) = fresh_inv F
run_inv (next R s) = step_kept s (run_shape R) (run_inv R)
run_inv (post x R e u) = run_inv R

-- DEMAND 3
pub demand3 : {B : ℕ → ℕ} {S : Col} → Run B S → Demand3 S
demand3 R = demand3_of (run_shape R) (run_inv R)

-- PATH LIMITS
pub path_limits : {B : ℕ → ℕ} {S : Col} → Run B S → Within B S
path_limits (fresh F) = fresh_within F
path_limits (next R s) = step_within s (run_shape R) (path_limits R)
path_limits (post x R e u) = post_within x e u (path_limits R)
