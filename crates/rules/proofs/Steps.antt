-- Confirming is a step of the column of every hour.
use mathlib.Core.Path.{◌≡◌, refl, sym, ap, subst, ◌∙◌}
use mathlib.Core.Logic.{◌≢◌, ◌⊎◌, inl, inr}
use mathlib.Core.Bool.{Bool, true, false, ◌&&◌, not}
use mathlib.Core.List.{List}
use Prim.Native.Nat.{ℕ, ◌+◌, ◌-◌, ◌≤◌, ◌<◌}
use native.Mathlib.Decide.{ℕ_discrete}
use native.Mathlib.Omega.{arith}
use lib.Dec.{eqb, lit<}
use lib.ListN.{length}
use lib.IntN.{ℤ, pos, neg_ℤ, ◌+ℤ◌}
use borrow.Author.Tests.{not-false, eqb-true, eq-eqb, ne_eqb}
use Rattle.words.specs.Lists.{covered}
use Rattle.words.proofs.Laws.{lt_or_le}
use Rattle.rules.specs.Pick.{pick}
use Rattle.rules.specs.Numbers.{granted_part, available_part, displaced_part, reduced_part, RELINQUISH}
use Rattle.rules.specs.Layout.{row, on_row, reqtype, status, related, start, related_row, span_hours, hours_of, standing}
use Rattle.rules.specs.Sound.{original}
use Rattle.rules.specs.Moves.{is_confirmed}
use Rattle.rules.specs.Megawatts.{take_from, returns_to, give_back}
use Rattle.rules.specs.Confirming.{held, emptied, confirm_original, confirm_derived, confirm_relinquish, confirm, unconfirmed, drawn_from, short}
use Rattle.column.specs.Column.{Col, share, Off}
use Rattle.column.specs.Use.{Tested}
use Rattle.column.specs.Step.{OutStays, RedStays, Top, Child, Give, Step, top, child, give}
use Rattle.rules.proofs.Seen.{Seen, at}
use Rattle.rules.proofs.Writes.{words, megawatts, seen_taken, seen_given, seen_held, seen_emptied, covered_hour, returned, returned_available, returned_other, word_of, hour_of}
use Rattle.rules.proofs.Turned.{Turned, turned, kept_word, still}
use Rattle.rules.proofs.View.{view}
use Rattle.rules.proofs.Types.{original_type, derived_type}
use Rattle.rules.proofs.Placed.{Placed, above_row, over_row, room_for, zero_for}

-- ---- by the row's type
module _ (H n : ℕ) (mw l : List ℕ) where
  pub is_top : 1 ≤ reqtype (row H l n) → reqtype (row H l n) ≤ 2 → confirm_original H n mw l ≡ confirm H n mw l
  unfolding confirm
  is_top a b = sym (ap (λ (x : Bool). pick x (confirm_original H n mw l) (pick (eqb (reqtype (row H l n)) RELINQUISH) (confirm_relinquish H n mw l) (confirm_derived H n mw l))) (original_type (reqtype (row H l n)) a b))

  type_past : 3 ≤ reqtype (row H l n) → pick (eqb (reqtype (row H l n)) RELINQUISH) (confirm_relinquish H n mw l) (confirm_derived H n mw l) ≡ confirm H n mw l
  unfolding confirm
  type_past t = sym (ap (λ (x : Bool). pick x (confirm_original H n mw l) (pick (eqb (reqtype (row H l n)) RELINQUISH) (confirm_relinquish H n mw l) (confirm_derived H n mw l))) (derived_type (reqtype (row H l n)) t))

  pub is_child : 3 ≤ reqtype (row H l n) → reqtype (row H l n) ≢ RELINQUISH → confirm_derived H n mw l ≡ confirm H n mw l
  is_child t ne =
      sym (ap (λ (x : Bool). pick x (confirm_relinquish H n mw l) (confirm_derived H n mw l)) (ne_eqb (reqtype (row H l n)) RELINQUISH ne)) ∙ type_past t

  pub is_give : reqtype (row H l n) ≡ RELINQUISH → confirm_relinquish H n mw l ≡ confirm H n mw l
  is_give e =
      sym (ap (λ (x : Bool). pick x (confirm_relinquish H n mw l) (confirm_derived H n mw l)) (eq-eqb (reqtype (row H l n)) RELINQUISH e)) ∙ type_past (omega (arith, e))

-- ---- the checks that did not apply
others_pass : (b c : Bool) → b ≡ false → (not b && not c) ≡ false → c ≡ true
others_pass b c h e = not-false c (sym (ap (λ (x : Bool). not x && not c) h) ∙ e)

confirms : (H : ℕ) (l : List ℕ) (n : ℕ) → unconfirmed H l n ≡ false → 3 ≤ reqtype (row H l n) → status (row H l (related_row H l n)) ≡ 13
unfolding unconfirmed is_confirmed
confirms H l n e t = eqb-true _ _ (others_pass (original (reqtype (row H l n))) _ (derived_type (reqtype (row H l n)) t) e)

covers : (H : ℕ) (l : List ℕ) (n : ℕ) (mw : List ℕ) → short H l n mw ≡ false → 3 ≤ reqtype (row H l n) → covered mw (hours_of H available_part (start (row H l n)) (length mw) (row H l (related_row H l n))) ≡ true
unfolding short drawn_from
covers H l n mw e t = others_pass (original (reqtype (row H l n))) _ (derived_type (reqtype (row H l n)) t) e

-- ---- the three ways to confirm
module _ {R H : ℕ} {l : List ℕ} {n : ℕ} (o : Placed R H l n) (mw : List ℕ) (long : length mw ≡ span_hours (row H l n)) {h : ℕ} (hlt : h < H) where
  abbrev s : ℕ
  s = start (row H l n)

  abbrev y : ℕ
  y = standing (start (row H l n)) mw h

  holds : (f : ℕ) × Seen H h (held H s mw (row H l n)) (at (at (words (row H l n)) 7 f) 1 13) (at (at (megawatts H h (row H l n)) available_part y) granted_part y)
  holds = seen_held hlt (room_for o long o.own) (zero_for o hlt mw long)

  empties : (f : ℕ) × Seen H h (emptied H s mw (row H l n)) (at (at (words (row H l n)) 7 f) 1 13) (at (at (megawatts H h (row H l n)) available_part 0) granted_part y)
  empties = seen_emptied hlt (room_for o long o.own) (zero_for o hlt mw long)

  top_turned : Turned R H l (confirm_original H n mw l) n (held H s mw (row H l n))
  unfolding confirm_original
  top_turned = turned o.sized o.own (held H s mw) refl holds.1.long

  -- the row above
  abbrev p : ℕ
  p = related_row H l n

  abbrev l1 : List ℕ
  l1 = on_row H p (take_from H s mw) l

  module _ (t : 3 ≤ reqtype (row H l n)) where
    takes : Seen H h (take_from H s mw (row H l p)) (words (row H l p)) (at (megawatts H h (row H l p)) available_part (megawatts H h (row H l p) available_part - y))
    takes = seen_taken hlt (room_for o long (above_row o t))

    own_not_above : n ≢ p
    own_not_above e = omega (arith, o.lower t, e)

    above_not_own : p ≢ n
    above_not_own e = omega (arith, o.lower t, e)

    taken_turned : Turned R H l l1 p (take_from H s mw (row H l p))
    taken_turned = turned o.sized (above_row o t) (take_from H s mw) refl takes.long

    child_turned : Turned R H l1 (confirm_derived H n mw l) n (held H s mw (row H l n))
    unfolding confirm_derived
    child_turned = turned taken_turned.sized o.own (held H s mw) (taken_turned.other n own_not_above) holds.1.long

    enough : short H l n mw ≡ false → y ≤ megawatts H h (row H l p) available_part
    enough e = covered_hour hlt (room_for o long (above_row o t)) available_part (lit< tt) (covers H l n mw e t)

  -- the row above the redirect
  abbrev q : ℕ
  q = related_row H l (related_row H l n)

  abbrev l2 : List ℕ
  l2 = on_row H q (give_back H s mw) l1

  module _ (e8 : reqtype (row H l n) ≡ RELINQUISH) where
    t8 : 3 ≤ reqtype (row H l n)
    t8 = omega (arith, e8)

    gives : Seen H h (give_back H s mw (row H l q)) (words (row H l q)) (at (megawatts H h (row H l q)) (returns_to (row H l q)) (megawatts H h (row H l q) (returns_to (row H l q)) + y))
    gives = seen_given hlt (room_for o long (over_row o e8))

    over_kept : row H l1 q ≡ row H l q
    over_kept = (taken_turned t8).other q (λ z. omega (arith, o.lowest e8, z))

    given_turned : Turned R H l1 l2 q (give_back H s mw (row H l q))
    given_turned = turned (taken_turned t8).sized (over_row o e8) (give_back H s mw) over_kept gives.long

    own_kept : row H l2 n ≡ row H l n
    own_kept = given_turned.other n (λ z. omega (arith, o.lower t8, o.lowest e8, z)) ∙ (taken_turned t8).other n (own_not_above t8)

    give_turned : Turned R H l2 (confirm_relinquish H n mw l) n (emptied H s mw (row H l n))
    unfolding confirm_relinquish
    give_turned = turned given_turned.sized o.own (emptied H s mw) own_kept empties.1.long

    redirect_is : row H (confirm_relinquish H n mw l) p ≡ take_from H s mw (row H l p)
    redirect_is = give_turned.other p (above_not_own t8) ∙ given_turned.other p (λ z. omega (arith, o.lowest e8, z)) ∙ (taken_turned t8).own

    over_is : row H (confirm_relinquish H n mw l) q ≡ give_back H s mw (row H l q)
    over_is = give_turned.other q (λ z. omega (arith, o.lower t8, o.lowest e8, z)) ∙ given_turned.own

  -- what is then granted in hour h
  pub top_granted : megawatts H h (row H (confirm_original H n mw l) n) granted_part ≡ y
  top_granted = hour_of top_turned.own holds.1 granted_part (lit< tt)

  pub child_granted : 3 ≤ reqtype (row H l n) → megawatts H h (row H (confirm_derived H n mw l) n) granted_part ≡ y
  child_granted t = hour_of (child_turned t).own holds.1 granted_part (lit< tt)

  pub give_granted : reqtype (row H l n) ≡ RELINQUISH → megawatts H h (row H (confirm_relinquish H n mw l) n) granted_part ≡ y
  give_granted e = hour_of (give_turned e).own empties.1 granted_part (lit< tt)

  module _ (out out' : ℕ → ℕ → ℤ) (red red' : ℕ → ℤ) (before : Off (status (row H l n))) where
    pub top_of : reqtype (row H l n) ≤ 2
        → OutStays (view H h l out red) (view H h (confirm_original H n mw l) out' red')
        → RedStays (view H h l out red) (view H h (confirm_original H n mw l) out' red')
        → Top (view H h l out red) (view H h (confirm_original H n mw l) out' red') n
    top_of t outs reds =
        let T = top_turned in
        let K = holds.1 in
        record {
          keeps = record { used = T.head 6 (lit< tt); ty = kept_word T refl 0 (K.field 0 (lit< tt)); ref = kept_word T refl 4 (K.field 4 (lit< tt)); path = kept_word T refl 11 (K.field 11 (lit< tt)) };
          in_use = o.in_use;
          type = t;
          before = before;
          after = word_of T.own K 1 (lit< tt);
          a = hour_of T.own K available_part (lit< tt) ∙ sym (hour_of T.own K granted_part (lit< tt));
          d = hour_of T.own K displaced_part (lit< tt);
          r = hour_of T.own K reduced_part (lit< tt);
          rest = λ m ne. still H h l (confirm_original H n mw l) out out' red red' m (T.other m ne);
          outs = outs;
          reds = reds;
        }

    module _ (ok : unconfirmed H l n ≡ false) (ample : short H l n mw ≡ false) where
      pub child_of : (t : 3 ≤ reqtype (row H l n)) → reqtype (row H l n) ≢ RELINQUISH
          → ((k m : ℕ) → out' k m ≡ out k m +ℤ pos (share k (reqtype (row H l n)) (related (row H l n)) m (megawatts H h (row H (confirm_derived H n mw l) n) granted_part)))
          → RedStays (view H h l out red) (view H h (confirm_derived H n mw l) out' red')
          → Child (view H h l out red) (view H h (confirm_derived H n mw l) out' red') n p
      child_of t ne outs reds =
          let T1 = taken_turned t in
          let T2 = child_turned t in
          let E = T1.other n (own_not_above t) in
          let K = holds.1 in
          let P = T2.other p (above_not_own t) ∙ T1.own in
          record {
            keeps = record {
              used = T2.head 6 (lit< tt) ∙ T1.head 6 (lit< tt);
              ty = λ m. kept_word T2 E 0 (K.field 0 (lit< tt)) m ∙ kept_word T1 refl 0 ((takes t).field 0 (lit< tt)) m;
              ref = λ m. kept_word T2 E 4 (K.field 4 (lit< tt)) m ∙ kept_word T1 refl 4 ((takes t).field 4 (lit< tt)) m;
              path = λ m. kept_word T2 E 11 (K.field 11 (lit< tt)) m ∙ kept_word T1 refl 11 ((takes t).field 11 (lit< tt)) m;
            };
            in_use = o.in_use;
            parent = o.above t;
            type = ne;
            before = before;
            after = word_of T2.own K 1 (lit< tt);
            a = hour_of T2.own K available_part (lit< tt) ∙ sym (hour_of T2.own K granted_part (lit< tt));
            d = hour_of T2.own K displaced_part (lit< tt);
            r = hour_of T2.own K reduced_part (lit< tt);
            p_before = confirms H l n ok t;
            p_after = word_of P (takes t) 1 (lit< tt) ∙ confirms H l n ok t;
            p_g = hour_of P (takes t) granted_part (lit< tt);
            p_a = omega (arith, hour_of P (takes t) available_part (lit< tt), hour_of T2.own K granted_part (lit< tt), enough t ample);
            p_d = hour_of P (takes t) displaced_part (lit< tt);
            p_r = hour_of P (takes t) reduced_part (lit< tt);
            rest = λ m e e'. still H h l (confirm_derived H n mw l) out out' red red' m (T2.other m e ∙ T1.other m e');
            outs = outs;
            reds = reds;
          }

      pub give_of : (e : reqtype (row H l n) ≡ RELINQUISH)
          → ((k m : ℕ) → out' k m ≡ out k m +ℤ pos (share k (reqtype (row H l n)) (related (row H l n)) m (megawatts H h (row H (confirm_relinquish H n mw l) n) granted_part)) +ℤ neg_ℤ (pos (share k (reqtype (row H l p)) (related (row H l p)) m (megawatts H h (row H (confirm_relinquish H n mw l) n) granted_part))))
          → RedStays (view H h l out red) (view H h (confirm_relinquish H n mw l) out' red')
          → Give (view H h l out red) (view H h (confirm_relinquish H n mw l) out' red') n p q
      give_of e outs reds =
          let t : 3 ≤ reqtype (row H l n) = t8 e in
          let T1 = taken_turned t in
          let T2 = given_turned e in
          let T3 = give_turned e in
          let K = empties.1 in
          let G = gives e in
          let P = redirect_is e in
          let Q = over_is e in
          let own : megawatts H h (row H (confirm_relinquish H n mw l) n) granted_part ≡ y = hour_of T3.own K granted_part (lit< tt) in
          record {
            keeps = record {
              used = T3.head 6 (lit< tt) ∙ T2.head 6 (lit< tt) ∙ T1.head 6 (lit< tt);
              ty = λ m. kept_word T3 (own_kept e) 0 (K.field 0 (lit< tt)) m ∙ kept_word T2 (over_kept e) 0 (G.field 0 (lit< tt)) m ∙ kept_word T1 refl 0 ((takes t).field 0 (lit< tt)) m;
              ref = λ m. kept_word T3 (own_kept e) 4 (K.field 4 (lit< tt)) m ∙ kept_word T2 (over_kept e) 4 (G.field 4 (lit< tt)) m ∙ kept_word T1 refl 4 ((takes t).field 4 (lit< tt)) m;
              path = λ m. kept_word T3 (own_kept e) 11 (K.field 11 (lit< tt)) m ∙ kept_word T2 (over_kept e) 11 (G.field 11 (lit< tt)) m ∙ kept_word T1 refl 11 ((takes t).field 11 (lit< tt)) m;
            };
            in_use = o.in_use;
            parent = o.above t;
            grand = o.over e;
            type = e;
            before = before;
            after = word_of T3.own K 1 (lit< tt);
            a = omega (arith, hour_of T3.own K available_part (lit< tt));
            d = hour_of T3.own K displaced_part (lit< tt);
            r = hour_of T3.own K reduced_part (lit< tt);
            q_before = confirms H l n ok t;
            q_after = word_of P (takes t) 1 (lit< tt) ∙ confirms H l n ok t;
            q_g = hour_of P (takes t) granted_part (lit< tt);
            q_a = omega (arith, hour_of P (takes t) available_part (lit< tt), own, enough t ample);
            q_d = hour_of P (takes t) displaced_part (lit< tt);
            q_r = hour_of P (takes t) reduced_part (lit< tt);
            p_st = word_of Q G 1 (lit< tt);
            p_a = λ z. hour_of Q G available_part (lit< tt) ∙ returned_available (megawatts H h (row H l q)) y (row H l q) z ∙ ap (λ (x : ℕ). megawatts H h (row H l q) available_part + x) (sym own);
            p_g = hour_of Q G granted_part (lit< tt) ∙ returned_other (megawatts H h (row H l q)) _ (row H l q) granted_part (λ e. omega (arith, e)) (λ e. omega (arith, e));
            p_r = hour_of Q G reduced_part (lit< tt) ∙ returned_other (megawatts H h (row H l q)) _ (row H l q) reduced_part (λ e. omega (arith, e)) (λ e. omega (arith, e));
            p_ad = omega (arith, hour_of Q G available_part (lit< tt), hour_of Q G displaced_part (lit< tt), own, returned (megawatts H h (row H l q)) y (row H l q));
            rest = λ m nn np nq. still H h l (confirm_relinquish H n mw l) out out' red red' m (T3.other m nn ∙ T2.other m nq ∙ T1.other m np);
            outs = outs;
            reds = reds;
          }

-- what is tested of the paths at a confirmation of row n, whose related row is p, and what the tally does: nothing for
-- types 1 and 2; for others granted is added, and type 8 takes it off what the redirect was counted in
pub record Tallied (B : ℕ → ℕ) (S S' : Col) (n p : ℕ) : Type 0 where
  pub paths : Tested B S S' n
  pub tops : S.ty n ≤ 2 → OutStays S S'
  pub children : 3 ≤ S.ty n → S.ty n ≢ RELINQUISH → (k m : ℕ) → S'.out k m ≡ S.out k m +ℤ pos (share k (S.ty n) (S.ref n) m (S'.g n))
  pub givers : S.ty n ≡ RELINQUISH → (k m : ℕ) → S'.out k m ≡ S.out k m +ℤ pos (share k (S.ty n) (S.ref n) m (S'.g n)) +ℤ neg_ℤ (pos (share k (S.ty p) (S.ref p) m (S'.g n)))
  pub reds : RedStays S S'

module _ {R H : ℕ} {l : List ℕ} {n : ℕ} (o : Placed R H l n) (before : Off (status (row H l n))) (mw : List ℕ) (long : length mw ≡ span_hours (row H l n))
    (ok : unconfirmed H l n ≡ false) (ample : short H l n mw ≡ false) {h : ℕ} (hlt : h < H) {B : ℕ → ℕ} where
  -- confirming is a step of every hour's column
  pub confirm_at : (out out' : ℕ → ℕ → ℤ) (red red' : ℕ → ℤ)
      → Tallied B (view H h l out red) (view H h (confirm H n mw l) out' red') n (related_row H l n)
      → Step B (view H h l out red) (view H h (confirm H n mw l) out' red')
  confirm_at out out' red red' = go (lt_or_le (reqtype (row H l n)) 3) (ℕ_discrete (reqtype (row H l n)) RELINQUISH)
    where
      -- by the ledger that the row's type gives
      Goal : List ℕ → Type 0
      Goal m = Tallied B (view H h l out red) (view H h m out' red') n (related_row H l n) → Step B (view H h l out red) (view H h m out' red')

      go : (reqtype (row H l n) < 3) ⊎ (3 ≤ reqtype (row H l n)) → Dec (reqtype (row H l n) ≡ RELINQUISH) → Goal (confirm H n mw l)
      go (inl t) d =
          let low : reqtype (row H l n) ≤ 2 = omega (arith, t) in
          subst Goal (is_top H n mw l o.type_least low) (λ a. top n (top_of o mw long hlt out out' red red' before low (a.tops low) a.reds) a.paths)
      go (inr t) (yes e) =
          subst Goal (is_give H n mw l e) (λ a. give n (related_row H l n) (related_row H l (related_row H l n)) (give_of o mw long hlt out out' red red' before ok ample e (a.givers e) a.reds) a.paths)
      go (inr t) (no ne) =
          subst Goal (is_child H n mw l t ne) (λ a. child n (related_row H l n) (child_of o mw long hlt out out' red red' before ok ample t ne (a.children t ne) a.reds) a.paths)
