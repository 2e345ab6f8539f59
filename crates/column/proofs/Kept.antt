-- Each step keeps the invariant.
use mathlib.Core.Path.{◌≡◌, refl, sym, ap, ◌∙◌}
use mathlib.Core.Logic.{◌≢◌}
use mathlib.Core.Bool.{Bool}
use Prim.Native.Nat.{ℕ, ◌+◌, ◌-◌, ◌<◌}
use native.Mathlib.Omega.{arith}
use lib.IntN.{pos}
use Rattle.column.specs.Sum.{upd}
use Rattle.column.specs.Column.{Col, share, Off}
use Rattle.column.specs.Step.{Keeps, Still, OutStays, RedStays, Same, Submit, Quiet, Top, Child, Give, AnnulTop, AnnulChild, Displace, Reduce, Step, same, submit, quiet, top, child, give, annul_top, annul_child, displace, reduce}
use Rattle.column.proofs.Sums.{upd_same, upd_other}
use Rattle.column.proofs.Fits.{Fit, fit_same, fit_off, fit_start, fit_start8, fit_take, fit_back, fit_bend, fit_end, fit_move, fit_w_off, fit_w_bent, fit_w_whole}
use Rattle.column.proofs.Flow.{flow, into, all, of, into_zero, into_add, into_none, hit_same, hit_other, flow_keeps, flow_submit, flow_one, flow_two, FitAt, Inv, Shape, by_one, int_add, int_sub, int_both}

-- a row that nothing touches
still : {S S' : Col} {n w o w' o' : ℕ} → Keeps S S' → Still S S' n → Fit (S.ty n) (S.st n) (S.g n) (S.a n) (S.d n) (S.r n) w o → w' ≡ w → o' ≡ o → Fit (S'.ty n) (S'.st n) (S'.g n) (S'.a n) (S'.d n) (S'.r n) w' o'
still {n = n} K L F ew eo = fit_same F (K.ty n) L.st L.g L.a L.d L.r ew eo

-- where no draw changes
module _ {S S' : Col} (K : Keeps S S') (I : Inv S) where
  kept : (n : ℕ) → flow all S' I.w n ≡ flow all S I.w n
  kept = flow_keeps all K I.w

  out_kept : OutStays S S' → (k n : ℕ) → S'.out k n ≡ pos (flow (of k) S' I.w n)
  out_kept O k n = O.out k n ∙ I.out_is k n ∙ ap pos (sym (flow_keeps (of k) K I.w n))

-- where no reduced word changes
red_kept : {S S' : Col} → Inv S → RedStays S S' → ((n : ℕ) → S'.r n ≡ S.r n) → (n : ℕ) → S'.red n ≡ pos (S'.r n)
red_kept I R e n = R.red n ∙ I.red_is n ∙ ap pos (sym (e n))

-- it is the same in one row, or in two or three, and in the rest
abbrev Same-r : Col → Col → ℕ → Type 0
Same-r S S' n = S'.r n ≡ S.r n

but_one : {S S' : Col} (c : ℕ) → S'.r c ≡ S.r c → ((n : ℕ) → n ≢ c → Still S S' n) → (n : ℕ) → S'.r n ≡ S.r n
but_one {S} {S'} c x f = by_one (Same-r S S') c x (λ n e. (f n e).r)

but_two : {S S' : Col} (c p : ℕ) → S'.r c ≡ S.r c → S'.r p ≡ S.r p → ((n : ℕ) → n ≢ c → n ≢ p → Still S S' n) → (n : ℕ) → S'.r n ≡ S.r n
but_two {S} {S'} c p x y f = by_one (Same-r S S') c x (by_one (λ m. m ≢ c → Same-r S S' m) p (λ u. y) (λ m v u. (f m u v).r))

but_three : {S S' : Col} (c q p : ℕ) → S'.r c ≡ S.r c → S'.r q ≡ S.r q → S'.r p ≡ S.r p → ((n : ℕ) → n ≢ c → n ≢ q → n ≢ p → Still S S' n) → (n : ℕ) → S'.r n ≡ S.r n
but_three {S} {S'} c q p x y z f =
    by_one (Same-r S S') c x (by_one (λ m. m ≢ c → Same-r S S' m) q (λ u. y) (λ m v u. by_one (λ m. m ≢ c → m ≢ q → Same-r S S' m) p (λ _ _. z) (λ m t u v. (f m u v t).r) m u v))

pub quiet_kept : {S S' : Col} {c : ℕ} → Quiet S S' c → Inv S → Inv S'
quiet_kept {S} {S'} {c} Q I = record {
  w = I.w;
  fit = by_one (FitAt S' I.w) c
      (fit_off (I.fit c) Q.before Q.after Q.a Q.d Q.r refl (kept Q.keeps I c))
      (λ n e. still Q.keeps (Q.rest n e) (I.fit n) refl (kept Q.keeps I n));
  out_is = out_kept Q.keeps I Q.outs;
  red_is = red_kept I Q.reds (but_one c Q.r Q.rest);
}

-- the row c is confirmed and draws on p
pub child_kept : {S S' : Col} {c p : ℕ} → Child S S' c p → Shape S → Inv S → Inv S'
child_kept {S} {S'} {c} {p} C H I = record {
  w = w';
  fit = by_one (FitAt S' w') c
      (fit_start (I.fit c) C.before C.type (C.keeps.ty c) C.after C.a C.d C.r (upd_same w c x) (other c (omega (arith, below))))
      (λ n e. by_one (λ m. m ≢ c → FitAt S' w' m) p
      (λ e'. fit_take x (I.fit p) C.p_before (H.under c p C.parent C.type) (C.keeps.ty p) C.p_after C.p_g C.p_a C.p_d C.p_r (upd_other w c x p e') at_p)
      (λ m ep ec. still C.keeps (C.rest m ec ep) (I.fit m) (upd_other w c x m ec) (other m ep))
      n e);
  out_is = λ k n. int_add (share k (S.ty c) (S.ref c) n x) (C.outs k n) (I.out_is k n) (drawn (of k) n);
  red_is = red_kept I C.reds (but_two c p C.r C.p_r C.rest);
}
  where
    w : ℕ → ℕ
    w = I.w

    x : ℕ
    x = S'.g c

    w' : ℕ → ℕ
    w' = upd w c x

    below : p < c
    below = omega (arith, C.parent, H.lower c)

    drawn : (b : ℕ → Bool) (n : ℕ) → flow b S' w' n ≡ flow b S w n + into b (S.ty c) (S.ref c) n x
    drawn b n =
        omega (
          arith,
          flow_keeps b C.keeps w' n,
          flow_one b S w w' c n C.in_use (upd_other w c x),
          ap (into b (S.ty c) (S.ref c) n) (upd_same w c x),
          ap (into b (S.ty c) (S.ref c) n) (fit_w_off (I.fit c) C.before),
          into_zero b (S.ty c) (S.ref c) n,
        )

    at_p : flow all S' w' p ≡ flow all S w p + x
    at_p = omega (arith, drawn all p, hit_same x C.parent)

    other : (n : ℕ) → n ≢ p → flow all S' w' n ≡ flow all S w n
    other n e = omega (arith, drawn all n, hit_other (S.ref c) n x (omega (arith, C.parent)))

pub give_kept : {S S' : Col} {c q p : ℕ} → Give S S' c q p → Shape S → Inv S → Inv S'
give_kept {S} {S'} {c} {q} {p} G H I = record {
  w = w';
  fit = by_one (FitAt S' w') c
      (fit_start8 (I.fit c) G.before G.type (G.keeps.ty c) G.after (omega (arith, G.a)) G.d G.r w_c (other c (omega (arith, low_q)) (omega (arith, low_q, low_p))))
      (λ n e. by_one (λ m. m ≢ c → FitAt S' w' m) q
      (λ e'. fit_bend x (I.fit q) G.q_before bends (G.keeps.ty q) G.q_after G.q_g G.q_a G.q_d G.q_r w_q at_q)
      (λ m eq ec. by_one (λ m. m ≢ c → m ≢ q → FitAt S' w' m) p
      (λ ec' eq'. fit_back x (I.fit p) (H.under q p G.grand (omega (arith, bends))) (G.keeps.ty p) G.p_st G.p_g G.p_ad G.p_r (w_else p ec' eq') at_p)
      (λ m ep ec eq. still G.keeps (G.rest m ec eq ep) (I.fit m) (w_else m ec eq) (other m eq ep))
      m ec eq)
      n e);
  out_is = λ k n. int_both (share k (S.ty c) (S.ref c) n x) (share k (S.ty q) (S.ref q) n x) (G.outs k n) (I.out_is k n) (drawn (of k) n);
  red_is = red_kept I G.reds (but_three c q p G.r G.q_r G.p_r G.rest);
}
  where
    w : ℕ → ℕ
    w = I.w

    x : ℕ
    x = S'.g c

    w' : ℕ → ℕ
    w' = upd (upd w c x) q (w q - x)

    low_q : q < c
    low_q = omega (arith, G.parent, H.lower c)

    low_p : p < q
    low_p = omega (arith, G.grand, H.lower q)

    bends : S.ty q ≡ 5
    bends = H.under5 c q G.parent G.type

    w_c : w' c ≡ x
    w_c = upd_other (upd w c x) q (w q - x) c (omega (arith, low_q)) ∙ upd_same w c x

    w_q : w' q + x ≡ w q
    w_q = omega (arith, upd_same (upd w c x) q (w q - x), fit_w_bent (I.fit q) G.q_before bends, G.q_a)

    w_else : (n : ℕ) → n ≢ c → n ≢ q → w' n ≡ w n
    w_else n ec eq = upd_other (upd w c x) q (w q - x) n eq ∙ upd_other w c x n ec

    drawn : (b : ℕ → Bool) (n : ℕ) → flow b S' w' n + into b (S.ty q) (S.ref q) n x ≡ flow b S w n + into b (S.ty c) (S.ref c) n x
    drawn b n =
        omega (
          arith,
          flow_keeps b G.keeps w' n,
          flow_two b S w w' c q n G.in_use (omega (arith, low_q, G.in_use)) (omega (arith, low_q)) w_else,
          ap (into b (S.ty c) (S.ref c) n) w_c,
          ap (into b (S.ty c) (S.ref c) n) (fit_w_off (I.fit c) G.before),
          into_zero b (S.ty c) (S.ref c) n,
          ap (into b (S.ty q) (S.ref q) n) w_q,
          into_add b (S.ty q) (S.ref q) n (w' q) x,
        )

    other : (n : ℕ) → n ≢ q → n ≢ p → flow all S' w' n ≡ flow all S w n
    other n eq ep = omega (arith, drawn all n, hit_other (S.ref c) n x (omega (arith, G.parent)), hit_other (S.ref q) n x (omega (arith, G.grand)))

    at_q : flow all S' w' q ≡ flow all S w q + x
    at_q = omega (arith, drawn all q, hit_same x G.parent, hit_other (S.ref q) q x (omega (arith, G.grand, low_p)))

    at_p : flow all S' w' p + x ≡ flow all S w p
    at_p = omega (arith, drawn all p, hit_same x G.grand, hit_other (S.ref c) p x (omega (arith, G.parent, low_p)))

pub annul_child_kept : {S S' : Col} {c p : ℕ} → AnnulChild S S' c p → Shape S → Inv S → Inv S'
annul_child_kept {S} {S'} {c} {p} A H I = record {
  w = w';
  fit = by_one (FitAt S' w') c
      (fit_end (I.fit c) A.before A.type A.whole A.after A.a A.d A.r (upd_same w c 0) (other c (omega (arith, below))))
      (λ n e. by_one (λ m. m ≢ c → FitAt S' w' m) p
      (λ e'. fit_back x (I.fit p) (H.under c p A.parent A.type) (A.keeps.ty p) A.p_st A.p_g A.p_ad A.p_r (upd_other w c 0 p e') at_p)
      (λ m ep ec. still A.keeps (A.rest m ec ep) (I.fit m) (upd_other w c 0 m ec) (other m ep))
      n e);
  out_is = λ k n. int_sub (share k (S.ty c) (S.ref c) n x) (A.outs k n) (I.out_is k n) (drawn (of k) n);
  red_is = red_kept I A.reds (but_two c p A.r A.p_r A.rest);
}
  where
    w : ℕ → ℕ
    w = I.w

    x : ℕ
    x = S.g c

    w' : ℕ → ℕ
    w' = upd w c 0

    below : p < c
    below = omega (arith, A.parent, H.lower c)

    drawn : (b : ℕ → Bool) (n : ℕ) → flow b S' w' n + into b (S.ty c) (S.ref c) n x ≡ flow b S w n
    drawn b n =
        omega (
          arith,
          flow_keeps b A.keeps w' n,
          flow_one b S w w' c n A.in_use (upd_other w c 0),
          ap (into b (S.ty c) (S.ref c) n) (upd_same w c 0),
          into_zero b (S.ty c) (S.ref c) n,
          ap (into b (S.ty c) (S.ref c) n) (fit_w_whole (I.fit c) A.before A.type A.whole),
        )

    at_p : flow all S' w' p + x ≡ flow all S w p
    at_p = omega (arith, drawn all p, hit_same x A.parent)

    other : (n : ℕ) → n ≢ p → flow all S' w' n ≡ flow all S w n
    other n e = omega (arith, drawn all n, hit_other (S.ref c) n x (omega (arith, A.parent)))

-- a row that refers to none draws otherwise: nothing changes for the others
module _ {S S' : Col} (K : Keeps S S') (I : Inv S) (c v : ℕ) (in_use : c < S.used) (root : S.ref c ≡ 0) where
  rooted : (b : ℕ → Bool) (n : ℕ) → flow b S' (upd I.w c v) n ≡ flow b S I.w n
  rooted b n =
      omega (
        arith,
        flow_keeps b K (upd I.w c v) n,
        flow_one b S I.w (upd I.w c v) c n in_use (upd_other I.w c v),
        into_none b (S.ty c) (S.ref c) n (I.w c) (omega (arith, root)),
        into_none b (S.ty c) (S.ref c) n (upd I.w c v c) (omega (arith, root)),
      )

  out_rooted : OutStays S S' → (k n : ℕ) → S'.out k n ≡ pos (flow (of k) S' (upd I.w c v) n)
  out_rooted O k n = O.out k n ∙ I.out_is k n ∙ ap pos (sym (rooted (of k) n))

pub top_kept : {S S' : Col} {c : ℕ} → Top S S' c → Shape S → Inv S → Inv S'
top_kept {S} {S'} {c} C H I = record {
  w = upd I.w c (S'.g c);
  fit = by_one (FitAt S' (upd I.w c (S'.g c))) c
      (fit_start (I.fit c) C.before (omega (arith, C.type)) (C.keeps.ty c) C.after C.a C.d C.r (upd_same I.w c (S'.g c)) (same c))
      (λ n e. still C.keeps (C.rest n e) (I.fit n) (upd_other I.w c (S'.g c) n e) (same n));
  out_is = out_rooted C.keeps I c (S'.g c) C.in_use (H.top c C.type) C.outs;
  red_is = red_kept I C.reds (but_one c C.r C.rest);
}
  where
    same : (n : ℕ) → flow all S' (upd I.w c (S'.g c)) n ≡ flow all S I.w n
    same = rooted C.keeps I c (S'.g c) C.in_use (H.top c C.type) all

pub annul_top_kept : {S S' : Col} {c : ℕ} → AnnulTop S S' c → Shape S → Inv S → Inv S'
annul_top_kept {S} {S'} {c} A H I = record {
  w = upd I.w c 0;
  fit = by_one (FitAt S' (upd I.w c 0)) c
      (fit_end (I.fit c) A.before (omega (arith, A.type)) A.whole A.after A.a A.d A.r (upd_same I.w c 0) (same c))
      (λ n e. still A.keeps (A.rest n e) (I.fit n) (upd_other I.w c 0 n e) (same n));
  out_is = out_rooted A.keeps I c 0 A.in_use (H.top c A.type) A.outs;
  red_is = red_kept I A.reds (but_one c A.r A.rest);
}
  where
    same : (n : ℕ) → flow all S' (upd I.w c 0) n ≡ flow all S I.w n
    same = rooted A.keeps I c 0 A.in_use (H.top c A.type) all

pub displace_kept : {S S' : Col} {c : ℕ} → Displace S S' c → Inv S → Inv S'
displace_kept {S} {S'} {c} D I = record {
  w = I.w;
  fit = by_one (FitAt S' I.w) c
      (fit_move (I.fit c) D.before D.type (omega (arith, D.after)) (D.keeps.ty c) D.g (omega (arith, D.a, D.d, D.r)) refl (kept D.keeps I c))
      (λ n e. still D.keeps (D.rest n e) (I.fit n) refl (kept D.keeps I n));
  out_is = out_kept D.keeps I D.outs;
  red_is = red_kept I D.reds (but_one c D.r D.rest);
}

pub reduce_kept : {S S' : Col} {c x : ℕ} → Reduce S S' c x → Inv S → Inv S'
reduce_kept {S} {S'} {c} {x} D I = record {
  w = I.w;
  fit = by_one (FitAt S' I.w) c
      (fit_move (I.fit c) D.before D.type (omega (arith, D.after)) (D.keeps.ty c) D.g (omega (arith, D.a, D.d, D.r)) refl (kept D.keeps I c))
      (λ n e. still D.keeps (D.rest n e) (I.fit n) refl (kept D.keeps I n));
  out_is = out_kept D.keeps I D.outs;
  red_is = by_one (λ n. S'.red n ≡ pos (S'.r n)) c
      (int_add x D.red (I.red_is c) D.r)
      (λ n e. D.reds n e ∙ I.red_is n ∙ ap pos (sym (D.rest n e).r));
}

pub same_kept : {S S' : Col} → Same S S' → Inv S → Inv S'
same_kept {S} {S'} D I = record {
  w = I.w;
  fit = λ n. still D.keeps (D.rest n) (I.fit n) refl (kept D.keeps I n);
  out_is = out_kept D.keeps I D.outs;
  red_is = red_kept I D.reds (λ n. (D.rest n).r);
}

pub submit_kept : {S S' : Col} → Submit S S' → Shape S → Inv S → Inv S'
submit_kept {S} {S'} N H I = record {
  w = I.w;
  fit = by_one (FitAt S' I.w) S.used
      (fit_off (I.fit S.used) new N.st N.a N.d N.r refl (drawn all S.used))
      (λ n e. fit_same (I.fit n) (N.ty n e) (N.rest n e).st (N.rest n e).g (N.rest n e).a (N.rest n e).d (N.rest n e).r refl (drawn all n));
  out_is = λ k n. N.outs.out k n ∙ I.out_is k n ∙ ap pos (sym (drawn (of k) n));
  red_is = red_kept I N.reds (but_one S.used N.r N.rest);
}
  where
    new : Off (S.st S.used)
    new = (H.fresh S.used (omega arith)).0

    drawn : (b : ℕ → Bool) (n : ℕ) → flow b S' I.w n ≡ flow b S I.w n
    drawn b n = flow_submit b N I.w n (fit_w_off (I.fit S.used) new)

pub step_kept : {B : ℕ → ℕ} {S S' : Col} → Step B S S' → Shape S → Inv S → Inv S'
step_kept (same D) H I = same_kept D I
step_kept (submit N) H I = submit_kept N H I
step_kept (quiet c Q) H I = quiet_kept Q I
step_kept (top c C T) H I = top_kept C H I
step_kept (child c p C T) H I = child_kept C H I
step_kept (give c q p G T) H I = give_kept G H I
step_kept (annul_top c A) H I = annul_top_kept A H I
step_kept (annul_child c p A T) H I = annul_child_kept A H I
step_kept (displace c D) H I = displace_kept D I
step_kept (reduce c x D) H I = reduce_kept D I
