-- Where an action on a sound ledger can carry a word over 100,000: where megawatts are given back, and where a row is
-- displaced or reduced. There it is the last check of the action; elsewhere that check passes.
use mathlib.Core.Path.{◌≡◌, refl, sym, ap, subst, ◌∙◌}
use mathlib.Core.Logic.{◌⊎◌, inl, inr}
use mathlib.Core.Bool.{Bool, true, false, ◌&&◌, not}
use mathlib.Core.List.{List}
use Prim.Native.Nat.{ℕ, ◌+◌, ◌-◌, ◌≤◌, ◌<◌}
use native.Mathlib.Decide.{ℕ_discrete}
use native.Mathlib.Omega.{arith}
use lib.Dec.{eqb, lit<}
use lib.ListN.{length, get_or}
use lib.Seq.{get_or-set_same, get_or-set_other}
use borrow.Author.Tests.{not-false, eq-eqb, ne_eqb}
use Rattle.words.specs.Lists.{roomy, within}
use Rattle.words.proofs.Laws.{lt_or_le}
use Rattle.rules.specs.Numbers.{granted_part, most_megawatts, approved, RELINQUISH}
use Rattle.rules.specs.Layout.{rows, hours, used, row, on_row, row_size, reqtype, start, stop, related_row, span_hours, hours_of, granted, available, displaced, reduced, set_status, raise, Sized}
use Rattle.rules.specs.Sound.{original}
use Rattle.rules.specs.Megawatts.{take_from, returns_to, give_back, displaced_row, displace, annulled_row, annul, reduced_row, reduce, carries_over}
use Rattle.rules.specs.Confirming.{held, emptied, confirm_original, confirm_derived, confirm_relinquish, confirm}
use Rattle.rules.specs.Checks.{profile, comes}
use Rattle.rules.specs.Submit.{new_row, submit_after}
use Rattle.rules.specs.SellerStatus.{offered}
use Rattle.rules.specs.CustomerStatus.{bidden}
use Rattle.rules.specs.Clock.{clock_after}
use Rattle.rules.specs.declared.Action.{Action}
use Rattle.rules.proofs.Rows.{row_length, row_least, head_row}
use Rattle.rules.proofs.Turned.{Turned, turned}
use Rattle.rules.proofs.SoundFacts.{SoundLedger, sized}
use Rattle.rules.proofs.Types.{original_type, derived_type}
use Rattle.rules.proofs.Unmoved.{Unmoved, unmoved_turned, types_stay, starts_stay, stops_stay, related_stays, unmoved_status, unmoved_raise, unmoved_offered, unmoved_bidden}
use Rattle.rules.proofs.Effects.{reduced_length}
use Rattle.rules.proofs.Bounded.{Bounded, AllBounded, not_carries, carries_false, Ranged, taken_long, given_long, held_long, emptied_long, displaced_long, annulled_long, taken_bounded, given_bounded, bounded_given, held_bounded, emptied_bounded, displaced_bounded, bounded_displaced, annulled_bounded, reduced_bounded, bounded_reduced, span_length, unmoved_bounded, new_long, new_bounded}

-- mw given back to row r from hour s on
unfoldable pub full : ℕ → ℕ → List ℕ → List ℕ → Bool
full H s mw r = not (roomy most_megawatts mw (hours_of H (returns_to r) s (length mw) r))

-- row n is confirmed with mw: a relinquish record gives back
unfoldable pub over_confirming : ℕ → List ℕ → ℕ → List ℕ → Bool
over_confirming H l n mw =
    eqb (reqtype (row H l n)) RELINQUISH && full H (start (row H l n)) mw (row H l (related_row H l (related_row H l n)))

-- row n is annulled
unfoldable pub over_annulling : ℕ → List ℕ → ℕ → Bool
over_annulling H l n =
    not (original (reqtype (row H l n))) && full H (start (row H l n)) (granted H (row H l n)) (row H l (related_row H l n))

-- row r is displaced
unfoldable pub over_displacing : ℕ → List ℕ → Bool
over_displacing H r = not (roomy most_megawatts (available H r) (displaced H r))

-- row r is reduced by mw
unfoldable pub over_reducing : ℕ → List ℕ → List ℕ → Bool
over_reducing H mw r = not (roomy most_megawatts mw (reduced H r))

-- ---- what the last check rests on: words within the bound, and spans in the ledger's hours and in those of the rows above
pub record Carried (R H : ℕ) (l : List ℕ) : Type 0 where
  pub sized : Sized l R H
  pub most_used : used l ≤ R
  pub types : (m : ℕ) → m < used l → 1 ≤ reqtype (row H l m)
  pub starts : (m : ℕ) → m < used l → start (row H l m) < stop (row H l m)
  pub stops : (m : ℕ) → m < used l → stop (row H l m) ≤ H
  pub lower : (m : ℕ) → m < used l → 3 ≤ reqtype (row H l m) → related_row H l m < m
  pub inside : (m : ℕ) → m < used l → 3 ≤ reqtype (row H l m)
      → (start (row H l (related_row H l m)) ≤ start (row H l m)) × (stop (row H l m) ≤ stop (row H l (related_row H l m)))
  pub redirect : (m : ℕ) → m < used l → reqtype (row H l m) ≡ RELINQUISH → 3 ≤ reqtype (row H l (related_row H l m))
  pub bounded : AllBounded H l

-- a sound ledger is so
pub carried : {l : List ℕ} → SoundLedger l → Carried (rows l) (hours l) l
unfolding related_row
carried {l} s = record {
  sized = sized s;
  most_used = s.head.used;
  types = λ m lt. (s.words m lt).type_least;
  starts = λ m lt. (s.words m lt).starts;
  stops = λ m lt. (s.words m lt).stops;
  lower = λ m lt t. omega (arith, (s.relations m lt).up t);
  inside = λ m lt t. (s.relations m lt).span t;
  redirect = λ m lt e. omega (arith, (s.relations m lt).redirect e);
  bounded = λ m lt. record { most = λ p h low high least below. (s.profiles m lt).most p h high (omega (arith, below, (s.words m lt).stops)) };
}

-- and carries nothing over
pub sound_carries : {l : List ℕ} → SoundLedger l → carries_over (hours l) l ≡ false
sound_carries {l} s = not_carries (hours l) l (carried s).bounded

ranged : {R H : ℕ} {l : List ℕ} → Carried R H l → {m : ℕ} → m < used l → Ranged H (row H l m)
ranged c {m} lt = record { long = row_length c.sized (omega (arith, lt, c.most_used)); starts = c.starts m lt; stops = c.stops m lt }

-- a row within the bound is written
turned_bounded : {R H : ℕ} {l l' : List ℕ} {n : ℕ} {r : List ℕ} → Turned R H l l' n r → AllBounded H l → Bounded H r → AllBounded H l'
turned_bounded {R} {H} {l} {l'} {n} {r} t all own m lt = go (ℕ_discrete m n)
  where
    go : Dec (m ≡ n) → Bounded H (row H l' m)
    go (yes e) = subst (λ (x : List ℕ). Bounded H x) (sym (ap (λ (k : ℕ). row H l' k) e ∙ t.own)) own
    go (no ne) = subst (λ (x : List ℕ). Bounded H x) (sym (t.other m ne)) (all m (omega (arith, t.head 6 (lit< tt), lt)))

-- two tests that fail together are one
same_test : (x y : Bool) → (x ≡ false → y ≡ false) → (y ≡ false → x ≡ false) → x ≡ y
same_test true true f g = refl
same_test true false f g = g refl
same_test false true f g = sym (f refl)
same_test false false f g = refl

same_carries : (H : ℕ) (l : List ℕ) (b : Bool) → (AllBounded H l → b ≡ false) → (b ≡ false → AllBounded H l) → carries_over H l ≡ b
same_carries H l b f g = same_test (carries_over H l) b (λ e. f (carries_false H l e)) (λ e. not_carries H l (g e))

-- ---- row n of such a ledger
module _ {R H : ℕ} {l : List ℕ} {n : ℕ} (c : Carried R H l) (lt : n < used l) where
  own_row : n < R
  own_row = omega (arith, lt, c.most_used)

  above_used : 3 ≤ reqtype (row H l n) → related_row H l n < used l
  above_used t = omega (arith, c.lower n lt t, lt)

  pub displacing : carries_over H (displace H n l) ≡ over_displacing H (row H l n)
  unfolding displace over_displacing
  displacing =
      same_carries H (displace H n l) (over_displacing H (row H l n))
      (λ all. ap not (bounded_displaced (ranged c lt) (subst (λ (x : List ℕ). Bounded H x) T.own (all n (omega (arith, T.head 6 (lit< tt), lt))))))
      (λ e. turned_bounded T c.bounded (displaced_bounded (ranged c lt) (c.bounded n lt) (not-false _ e)))
    where
      T : Turned R H l (on_row H n (displaced_row H) l) n (displaced_row H (row H l n))
      T = turned c.sized own_row (displaced_row H) refl (displaced_long (ranged c lt))

  -- ---- row n is reduced, or confirmed, by a profile of its span
  module _ (mw : List ℕ) (long : length mw ≡ span_hours (row H l n)) where
    fits : start (row H l n) + length mw ≤ H
    fits = omega (arith, long, c.starts n lt, c.stops n lt)

    -- the megawatts are taken from a row's available
    taken_turned : {m : ℕ} → m < used l → Turned R H l (on_row H m (take_from H (start (row H l n)) mw) l) m (take_from H (start (row H l n)) mw (row H l m))
    taken_turned k = turned c.sized (omega (arith, k, c.most_used)) (take_from H (start (row H l n)) mw) refl (taken_long (ranged c k) (start (row H l n)) mw fits)

    reduced_turned : Turned R H l (on_row H n (reduced_row H (start (row H l n)) mw) l) n (reduced_row H (start (row H l n)) mw (row H l n))
    reduced_turned = turned c.sized own_row (reduced_row H (start (row H l n)) mw) refl (reduced_length (record { long = (ranged c lt).long; fits = fits }))

    taken_all : {m : ℕ} → m < used l → AllBounded H (on_row H m (take_from H (start (row H l n)) mw) l)
    taken_all {m} k = turned_bounded (taken_turned k) c.bounded (taken_bounded (ranged c k) (c.bounded m k) (start (row H l n)) mw fits)

    pub reducing : carries_over H (reduce H n mw l) ≡ over_reducing H mw (row H l n)
    unfolding reduce over_reducing
    reducing =
        same_carries H (reduce H n mw l) (over_reducing H mw (row H l n))
        (λ all. ap not (bounded_reduced (ranged c lt) mw long (subst (λ (x : List ℕ). Bounded H x) reduced_turned.own (all n (omega (arith, reduced_turned.head 6 (lit< tt), lt))))))
        (λ e. turned_bounded reduced_turned c.bounded (reduced_bounded (ranged c lt) mw long (c.bounded n lt) (not-false _ e)))

    original_all : within most_megawatts mw ≡ true → AllBounded H (confirm_original H n mw l)
    unfolding confirm_original
    original_all w =
        turned_bounded (turned c.sized own_row (held H (start (row H l n)) mw) refl (held_long (ranged c lt) mw long)) c.bounded
        (held_bounded (ranged c lt) mw long (c.bounded n lt) w)

    module _ (t : 3 ≤ reqtype (row H l n)) where
      own_kept : row H (on_row H (related_row H l n) (take_from H (start (row H l n)) mw) l) n ≡ row H l n
      own_kept = (taken_turned (above_used t)).other n (λ z. omega (arith, c.lower n lt t, z))

      derived_all : within most_megawatts mw ≡ true → AllBounded H (confirm_derived H n mw l)
      unfolding confirm_derived
      derived_all w =
          turned_bounded (turned (taken_turned (above_used t)).sized own_row (held H (start (row H l n)) mw) own_kept (held_long (ranged c lt) mw long)) (taken_all (above_used t))
          (held_bounded (ranged c lt) mw long (c.bounded n lt) w)

    -- a relinquish record: p is the redirect, q the row above it
    module _ (e : reqtype (row H l n) ≡ RELINQUISH) where
      abbrev p : ℕ
      p = related_row H l n

      abbrev q : ℕ
      q = related_row H l (related_row H l n)

      abbrev l1 : List ℕ
      l1 = on_row H p (take_from H (start (row H l n)) mw) l

      abbrev l2 : List ℕ
      l2 = on_row H q (give_back H (start (row H l n)) mw) l1

      t8 : 3 ≤ reqtype (row H l n)
      t8 = omega (arith, e)

      p_used : p < used l
      p_used = above_used t8

      q_lower : q < p
      q_lower = c.lower p p_used (c.redirect n lt e)

      q_used : q < used l
      q_used = omega (arith, q_lower, p_used)

      given_turned : Turned R H l1 l2 q (give_back H (start (row H l n)) mw (row H l q))
      given_turned =
          turned (taken_turned p_used).sized (omega (arith, q_used, c.most_used)) (give_back H (start (row H l n)) mw) ((taken_turned p_used).other q (λ z. omega (arith, q_lower, z)))
          (given_long (ranged c q_used) (start (row H l n)) mw fits)

      emptied_turned : Turned R H l2 (confirm_relinquish H n mw l) n (emptied H (start (row H l n)) mw (row H l n))
      unfolding confirm_relinquish
      emptied_turned =
          turned given_turned.sized own_row (emptied H (start (row H l n)) mw) (given_turned.other n (λ z. omega (arith, q_lower, c.lower n lt t8, z)) ∙ own_kept t8)
          (emptied_long (ranged c lt) mw long)

      over_is : row H (confirm_relinquish H n mw l) q ≡ give_back H (start (row H l n)) mw (row H l q)
      over_is = emptied_turned.other q (λ z. omega (arith, q_lower, c.lower n lt t8, z)) ∙ given_turned.own

      same_used : used (confirm_relinquish H n mw l) ≡ used l
      same_used = emptied_turned.head 6 (lit< tt) ∙ given_turned.head 6 (lit< tt) ∙ (taken_turned p_used).head 6 (lit< tt)

      relinquish_all : full H (start (row H l n)) mw (row H l q) ≡ false → AllBounded H (confirm_relinquish H n mw l)
      unfolding full
      relinquish_all f =
          turned_bounded emptied_turned
          (turned_bounded given_turned (taken_all p_used) (given_bounded (ranged c q_used) (start (row H l n)) mw (c.bounded q q_used) fits (not-false _ f)))
          (emptied_bounded (ranged c lt) mw long (c.bounded n lt))

      all_relinquish : AllBounded H (confirm_relinquish H n mw l) → full H (start (row H l n)) mw (row H l q) ≡ false
      unfolding full
      all_relinquish all =
          let a = c.inside n lt t8 in
          let b = c.inside p p_used (c.redirect n lt e) in
          ap not
          (bounded_given (ranged c q_used) (start (row H l n)) mw (omega (arith, a, b)) (omega (arith, a, b, long, c.starts n lt))
          (subst (λ (x : List ℕ). Bounded H x) over_is (all q (omega (arith, q_used, same_used)))))

    -- by the row's type
    pub confirming : within most_megawatts mw ≡ true → carries_over H (confirm H n mw l) ≡ over_confirming H l n mw
    unfolding confirm over_confirming
    confirming w = go (lt_or_le (reqtype (row H l n)) 3) (ℕ_discrete (reqtype (row H l n)) RELINQUISH)
      where
        go : (reqtype (row H l n) < 3) ⊎ (3 ≤ reqtype (row H l n)) → Dec (reqtype (row H l n) ≡ RELINQUISH) → carries_over H (confirm H n mw l) ≡ over_confirming H l n mw
        go (inl t) d =
            simp (original_type (reqtype (row H l n)) (c.types n lt) (omega (arith, t)), ne_eqb (reqtype (row H l n)) RELINQUISH (λ z. omega (arith, t, z)))
            (not_carries H (confirm_original H n mw l) (original_all w))
        go (inr t) (yes e) =
            simp (derived_type (reqtype (row H l n)) t, eq-eqb (reqtype (row H l n)) RELINQUISH e)
            (same_carries H (confirm_relinquish H n mw l) (full H (start (row H l n)) mw (row H l (related_row H l (related_row H l n)))) (all_relinquish e) (relinquish_all e))
        go (inr t) (no ne) =
            simp (derived_type (reqtype (row H l n)) t, ne_eqb (reqtype (row H l n)) RELINQUISH ne)
            (not_carries H (confirm_derived H n mw l) (derived_all t w))

  -- ---- row n is annulled, and its granted given back
  module _ where
    granted_fits : start (row H l n) + length (granted H (row H l n)) ≤ H
    granted_fits = fits (granted H (row H l n)) (span_length (ranged c lt) granted_part (lit< tt))

    annulled_turned : {l' : List ℕ} → Sized l' R H → row H l' n ≡ row H l n → Turned R H l' (on_row H n (annulled_row H) l') n (annulled_row H (row H l n))
    annulled_turned z e = turned z own_row (annulled_row H) e (annulled_long (ranged c lt))

    annulled_own : Bounded H (annulled_row H (row H l n))
    annulled_own = annulled_bounded (ranged c lt) (c.bounded n lt)

    module _ (t : 3 ≤ reqtype (row H l n)) where
      abbrev back : List ℕ
      back = on_row H (related_row H l n) (give_back H (start (row H l n)) (granted H (row H l n))) l

      back_turned : Turned R H l back (related_row H l n) (give_back H (start (row H l n)) (granted H (row H l n)) (row H l (related_row H l n)))
      back_turned =
          turned c.sized (omega (arith, above_used t, c.most_used)) (give_back H (start (row H l n)) (granted H (row H l n))) refl
          (given_long (ranged c (above_used t)) (start (row H l n)) (granted H (row H l n)) granted_fits)

      last_turned : Turned R H back (on_row H n (annulled_row H) back) n (annulled_row H (row H l n))
      last_turned = annulled_turned back_turned.sized (back_turned.other n (λ z. omega (arith, c.lower n lt t, z)))

      above_is : row H (on_row H n (annulled_row H) back) (related_row H l n) ≡ give_back H (start (row H l n)) (granted H (row H l n)) (row H l (related_row H l n))
      above_is = last_turned.other (related_row H l n) (λ z. omega (arith, c.lower n lt t, z)) ∙ back_turned.own

      back_all : full H (start (row H l n)) (granted H (row H l n)) (row H l (related_row H l n)) ≡ false → AllBounded H (on_row H n (annulled_row H) back)
      unfolding full
      back_all f =
          turned_bounded last_turned
          (turned_bounded back_turned c.bounded
          (given_bounded (ranged c (above_used t)) (start (row H l n)) (granted H (row H l n)) (c.bounded (related_row H l n) (above_used t)) granted_fits (not-false _ f)))
          annulled_own

      all_back : AllBounded H (on_row H n (annulled_row H) back) → full H (start (row H l n)) (granted H (row H l n)) (row H l (related_row H l n)) ≡ false
      unfolding full
      all_back all =
          let a = c.inside n lt t in
          let e = span_length (ranged c lt) granted_part (lit< tt) in
          ap not
          (bounded_given (ranged c (above_used t)) (start (row H l n)) (granted H (row H l n)) (omega (arith, a)) (omega (arith, a, e, c.starts n lt))
          (subst (λ (x : List ℕ). Bounded H x) above_is (all (related_row H l n) (omega (arith, above_used t, last_turned.head 6 (lit< tt), back_turned.head 6 (lit< tt))))))

    pub annulling : carries_over H (annul H n l) ≡ over_annulling H l n
    unfolding annul over_annulling
    annulling = go (lt_or_le (reqtype (row H l n)) 3)
      where
        go : (reqtype (row H l n) < 3) ⊎ (3 ≤ reqtype (row H l n)) → carries_over H (annul H n l) ≡ over_annulling H l n
        go (inl t) =
            simp (original_type (reqtype (row H l n)) (c.types n lt) (omega (arith, t)))
            (not_carries H (on_row H n (annulled_row H) l) (turned_bounded (annulled_turned c.sized refl) c.bounded annulled_own))
        go (inr t) =
            simp (derived_type (reqtype (row H l n)) t)
            (same_carries H (on_row H n (annulled_row H) (back t)) (full H (start (row H l n)) (granted H (row H l n)) (row H l (related_row H l n))) (all_back t) (back_all t))

  -- ---- a write in row n that moves no megawatts
  module _ (f : List ℕ → List ℕ) (q : Unmoved H (row H l n) (f (row H l n))) where
    written : Turned R H l (on_row H n f l) n (f (row H l n))
    written = unmoved_turned c.sized own_row f q

    still_used : {m : ℕ} → m < used (on_row H n f l) → m < used l
    still_used k = omega (arith, k, written.head 6 (lit< tt))

    still_type : (m : ℕ) → reqtype (row H (on_row H n f l) m) ≡ reqtype (row H l m)
    still_type = types_stay c.sized own_row f q

    still_start : (m : ℕ) → start (row H (on_row H n f l) m) ≡ start (row H l m)
    still_start = starts_stay c.sized own_row f q

    still_stop : (m : ℕ) → stop (row H (on_row H n f l) m) ≡ stop (row H l m)
    still_stop = stops_stay c.sized own_row f q

    still_related : (m : ℕ) → related_row H (on_row H n f l) m ≡ related_row H l m
    still_related = related_stays c.sized own_row f q

    still_inside : (m : ℕ) → m < used l → 3 ≤ reqtype (row H l m)
        → (start (row H (on_row H n f l) (related_row H l m)) ≤ start (row H (on_row H n f l) m)) × (stop (row H (on_row H n f l) m) ≤ stop (row H (on_row H n f l) (related_row H l m)))
    still_inside m k t =
        let i = c.inside m k t in
        (omega (arith, i, still_start m, still_start (related_row H l m)), omega (arith, i, still_stop m, still_stop (related_row H l m)))

    unmoved_all : AllBounded H (on_row H n f l)
    unmoved_all = turned_bounded written c.bounded (unmoved_bounded q (c.bounded n lt))

    pub unmoved_carried : Carried R H (on_row H n f l)
    unmoved_carried = record {
      sized = written.sized;
      most_used = omega (arith, written.head 6 (lit< tt), c.most_used);
      types = λ m k. omega (arith, still_type m, c.types m (still_used k));
      starts = λ m k. omega (arith, still_start m, still_stop m, c.starts m (still_used k));
      stops = λ m k. omega (arith, still_stop m, c.stops m (still_used k));
      lower = λ m k t. omega (arith, still_related m, c.lower m (still_used k) (omega (arith, still_type m, t)));
      inside = λ m k t.
          subst
          (λ (j : ℕ). (start (row H (on_row H n f l) j) ≤ start (row H (on_row H n f l) m)) × (stop (row H (on_row H n f l) m) ≤ stop (row H (on_row H n f l) j)))
          (sym (still_related m)) (still_inside m (still_used k) (omega (arith, still_type m, t)));
      redirect = λ m k e.
          subst (λ (j : ℕ). 3 ≤ reqtype (row H (on_row H n f l) j)) (sym (still_related m))
          (omega (arith, still_type (related_row H l m), c.redirect m (still_used k) (sym (still_type m) ∙ e)));
      bounded = unmoved_all;
    }

    pub writing : carries_over H (on_row H n f l) ≡ false
    writing = not_carries H (on_row H n f l) unmoved_all

-- ---- a new row
module _ {R H : ℕ} {l : List ℕ} (c : Carried R H l) (lt : used l < R) (zero : (k : ℕ) → get_or (row H l (used l)) k 0 ≡ 0)
    (w : List ℕ) (a : Action) (fit : a.start + length (profile w a) ≤ H) where
  new_row_long : length (new_row H w a (row H l (used l))) ≡ row_size H
  new_row_long = new_long H (row H l (used l)) (row_length c.sized lt) w a fit

  new_turned : Turned R H l (on_row H (used l) (new_row H w a) l) (used l) (new_row H w a (row H l (used l)))
  new_turned = turned c.sized lt (new_row H w a) refl new_row_long

  new_used : used (submit_after H l w a) ≡ used l + 1
  unfolding submit_after
  new_used = get_or-set_same (on_row H (used l) (new_row H w a) l) 6 (used l + 1) 0 (omega (arith, new_turned.sized.long, row_least H R))

  new_all : AllBounded H (submit_after H l w a)
  unfolding submit_after
  new_all m k = subst (λ (x : List ℕ). Bounded H x) (sym (head_row H (on_row H (used l) (new_row H w a) l) 6 (used l + 1) m (lit< tt))) (go (ℕ_discrete m (used l)))
    where
      go : Dec (m ≡ used l) → Bounded H (row H (on_row H (used l) (new_row H w a) l) m)
      go (yes e) =
          subst (λ (x : List ℕ). Bounded H x) (sym (ap (λ (i : ℕ). row H (on_row H (used l) (new_row H w a) l) i) e ∙ new_turned.own))
          (new_bounded H (row H l (used l)) (row_length c.sized lt) w a fit zero)
      go (no n) = subst (λ (x : List ℕ). Bounded H x) (sym (new_turned.other m n)) (c.bounded m (omega (arith, k, new_used, n)))

  pub submitting : carries_over H (submit_after H l w a) ≡ false
  submitting = not_carries H (submit_after H l w a) new_all

-- ---- the clock
pub clocking : {R H : ℕ} {l : List ℕ} → Carried R H l → (a : Action) → carries_over H (clock_after l a) ≡ false
unfolding clock_after
clocking {R} {H} {l} c a =
    not_carries H (clock_after l a)
    (λ m k.
    subst (λ (x : List ℕ). Bounded H x) (sym (head_row H l 5 a.time m (lit< tt)))
    (c.bounded m (omega (arith, k, get_or-set_other l 5 6 a.time 0 (λ z. omega (arith, z))))))

-- ---- the last check of each effect on a sound ledger
module _ {l : List ℕ} (s : SoundLedger l) where
  pub over_confirming_lem : {n : ℕ} → n < used l → (mw : List ℕ) → length mw ≡ span_hours (row (hours l) l n) → within most_megawatts mw ≡ true
      → carries_over (hours l) (confirm (hours l) n mw l) ≡ over_confirming (hours l) l n mw
  over_confirming_lem lt mw long w = confirming (carried s) lt mw long w

  pub over_annulling_lem : {n : ℕ} → n < used l → carries_over (hours l) (annul (hours l) n l) ≡ over_annulling (hours l) l n
  over_annulling_lem lt = annulling (carried s) lt

  pub over_displacing_lem : {n : ℕ} → n < used l → carries_over (hours l) (displace (hours l) n l) ≡ over_displacing (hours l) (row (hours l) l n)
  over_displacing_lem lt = displacing (carried s) lt

  pub over_reducing_lem : {n : ℕ} → n < used l → (mw : List ℕ) → length mw ≡ span_hours (row (hours l) l n) → carries_over (hours l) (reduce (hours l) n mw l) ≡ over_reducing (hours l) mw (row (hours l) l n)
  over_reducing_lem lt mw long = reducing (carried s) lt mw long

  pub over_quiet : {n : ℕ} → n < used l → (f : List ℕ → List ℕ) → Unmoved (hours l) (row (hours l) l n) (f (row (hours l) l n)) → carries_over (hours l) (on_row (hours l) n f l) ≡ false
  over_quiet lt f q = writing (carried s) lt f q

  pub over_submitting : used l < rows l → (w : List ℕ) (a : Action) → a.start < a.stop → a.stop ≤ hours l → length (profile w a) ≡ a.stop - a.start
      → carries_over (hours l) (submit_after (hours l) l w a) ≡ false
  over_submitting lt w a starts stops e = submitting (carried s) lt (s.unused (used l) (omega arith)) w a (omega (arith, starts, stops, e))

  -- a posting leaves the ledger as it is
  pub over_posting : carries_over (hours l) l ≡ false
  over_posting = not_carries (hours l) l (λ m k. (carried s).bounded m k)

  pub over_clock : (a : Action) → carries_over (hours l) (clock_after l a) ≡ false
  over_clock a = clocking (carried s) a

  -- row n as it is written by the rules
  module _ {n : ℕ} (lt : n < used l) where
    row_long : length (row (hours l) l n) ≡ row_size (hours l)
    row_long = row_length (sized s) (omega (arith, lt, s.head.used))

    span_fits : (v : List ℕ) → length v ≡ span_hours (row (hours l) l n) → start (row (hours l) l n) + length v ≤ hours l
    span_fits v e = omega (arith, e, (s.words n lt).starts, (s.words n lt).stops)

    pub own_status : (v : ℕ) → Unmoved (hours l) (row (hours l) l n) (set_status v (row (hours l) l n))
    own_status v = unmoved_status row_long v

    pub own_approved : Unmoved (hours l) (row (hours l) l n) (raise approved (row (hours l) l n))
    own_approved = unmoved_raise row_long approved

    pub own_offered : (expires : ℕ) (a : Action) (mw : List ℕ) → length mw ≡ span_hours (row (hours l) l n)
        → Unmoved (hours l) (row (hours l) l n) (offered (hours l) expires a mw (row (hours l) l n))
    own_offered expires a mw e = unmoved_offered row_long expires a mw (span_fits mw e)

    pub own_bidden : (w : List ℕ) (a : Action) → (comes a ≡ true → length (profile w a) ≡ span_hours (row (hours l) l n))
        → Unmoved (hours l) (row (hours l) l n) (bidden (hours l) w a (row (hours l) l n))
    own_bidden w a e = unmoved_bidden row_long w a (λ z. span_fits (profile w a) (e z))

    pub over_status : (v : ℕ) → carries_over (hours l) (on_row (hours l) n (set_status v) l) ≡ false
    over_status v = over_quiet lt (set_status v) (own_status v)

    pub over_approved : carries_over (hours l) (on_row (hours l) n (raise approved) l) ≡ false
    over_approved = over_quiet lt (raise approved) own_approved

    pub over_offered : (expires : ℕ) (a : Action) (mw : List ℕ) → length mw ≡ span_hours (row (hours l) l n)
        → carries_over (hours l) (on_row (hours l) n (offered (hours l) expires a mw) l) ≡ false
    over_offered expires a mw e = over_quiet lt (offered (hours l) expires a mw) (own_offered expires a mw e)
