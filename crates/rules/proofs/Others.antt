-- Reducing, displacing and annulling are steps of the column of every hour.
use mathlib.Core.Path.{◌≡◌, refl, sym, ap, subst, ◌∙◌}
use mathlib.Core.Logic.{◌≢◌, ◌⊎◌, inl, inr}
use mathlib.Core.Bool.{Bool, true, not}
use mathlib.Core.List.{List}
use Prim.Native.Nat.{ℕ, ◌+◌, ◌≤◌, ◌<◌}
use native.Mathlib.Omega.{arith}
use lib.Dec.{lit<}
use lib.ListN.{length}
use lib.IntN.{ℤ, pos, neg_ℤ, ◌+ℤ◌}
use Rattle.words.specs.Lists.{covered, equal}
use Rattle.words.proofs.Laws.{lt_or_le}
use Rattle.rules.specs.Pick.{pick}
use Rattle.rules.specs.Numbers.{granted_part, available_part, displaced_part, reduced_part, RELINQUISH}
use Rattle.rules.specs.Layout.{hours, used, row, on_row, reqtype, status, related, start, related_row, span_hours, hours_of, span, granted, available, standing}
use Rattle.rules.specs.Megawatts.{returns_to, give_back, displaced_row, displace, annulled_row, annul, reduced_row, reduce}
use Rattle.column.specs.Column.{share}
use Rattle.column.specs.Use.{Tested}
use Rattle.column.specs.Step.{OutStays, RedStays, AnnulTop, AnnulChild, Displace, Reduce, Step, annul_top, annul_child, displace as displacing, reduce as reducing}
use Rattle.rules.proofs.Seen.{Seen, at, seen_self, seen_set, seen_add, seen_clear}
use Rattle.rules.proofs.Writes.{words, megawatts, seen_reduced, seen_given, covered_hour, returned, returned_available, returned_other, word_of, hour_of}
use Rattle.rules.proofs.Turned.{Turned, turned, kept_word, still}
use Rattle.rules.proofs.View.{view}
use Rattle.rules.proofs.Formed.{Formed}
use Rattle.rules.proofs.Types.{original_type, derived_type}
use Rattle.rules.proofs.Placed.{Placed, placed, own_long, above_row, room_for, span_fits, zero_span, span_length, span_standing, equal_hour}

-- ---- annulling, by the row's type
module _ (H n : ℕ) (l : List ℕ) where
  -- what a row of types 3 to 7 gives back stands in the ledger
  abbrev pub returned_to : List ℕ
  returned_to = on_row H (related_row H l n) (give_back H (start (row H l n)) (granted H (row H l n))) l

  pub is_annul_top : 1 ≤ reqtype (row H l n) → reqtype (row H l n) ≤ 2 → on_row H n (annulled_row H) l ≡ annul H n l
  unfolding annul
  is_annul_top a b = sym (ap (λ (x : Bool). on_row H n (annulled_row H) (pick (not x) returned_to l)) (original_type (reqtype (row H l n)) a b))

  pub is_annul_child : 3 ≤ reqtype (row H l n) → on_row H n (annulled_row H) returned_to ≡ annul H n l
  unfolding annul
  is_annul_child t = sym (ap (λ (x : Bool). on_row H n (annulled_row H) (pick (not x) returned_to l)) (derived_type (reqtype (row H l n)) t))

module _ {R H : ℕ} {l : List ℕ} {n : ℕ} (o : Placed R H l n) {h : ℕ} (hlt : h < H) where
  abbrev s : ℕ
  s = start (row H l n)

  -- ---- reducing
  covers : (mw : List ℕ) → length mw ≡ span_hours (row H l n) → covered mw (available H (row H l n)) ≡ true → standing s mw h ≤ megawatts H h (row H l n) available_part
  unfolding span
  covers mw long e =
      covered_hour hlt (room_for o long o.own) available_part (lit< tt)
      (ap (λ (k : ℕ). covered mw (hours_of H available_part s k (row H l n))) long ∙ e)

  reduced : (mw : List ℕ) → length mw ≡ span_hours (row H l n) → Turned R H l (reduce H n mw l) n (reduced_row H s mw (row H l n))
  unfolding reduce
  reduced mw long = turned o.sized o.own (reduced_row H s mw) refl (seen_reduced hlt (room_for o long o.own)).long

  -- ---- displacing
  displaces : Seen H h (displaced_row H (row H l n)) (at (words (row H l n)) 1 15) (at (at (megawatts H h (row H l n)) displaced_part (megawatts H h (row H l n) displaced_part + standing s (available H (row H l n)) h)) available_part 0)
  unfolding displaced_row
  displaces =
      let e : length (available H (row H l n)) ≡ span_hours (row H l n) = span_length o available_part (lit< tt) in
      let A = seen_add (seen_self H h (row H l n) (own_long o)) hlt displaced_part s (available H (row H l n)) (lit< tt) (omega (arith, e, span_fits o)) in
      seen_set (seen_clear A hlt available_part s (span_hours (row H l n)) (lit< tt) (span_fits o) (zero_span o hlt available_part (lit< tt))) 1 15 (lit< tt)

  displaced_turned : Turned R H l (displace H n l) n (displaced_row H (row H l n))
  unfolding displace
  displaced_turned = turned o.sized o.own (displaced_row H) refl displaces.long

  -- ---- annulling
  pub annuls : Seen H h (annulled_row H (row H l n)) (at (words (row H l n)) 1 16) (at (megawatts H h (row H l n)) available_part 0)
  unfolding annulled_row
  annuls =
      seen_set
      (seen_clear (seen_self H h (row H l n) (own_long o)) hlt available_part s (span_hours (row H l n)) (lit< tt) (span_fits o) (zero_span o hlt available_part (lit< tt)))
      1 16 (lit< tt)

  pub annulled_turned : Turned R H l (on_row H n (annulled_row H) l) n (annulled_row H (row H l n))
  annulled_turned = turned o.sized o.own (annulled_row H) refl annuls.long

  module _ (t : 3 ≤ reqtype (row H l n)) where
    -- the row above
    abbrev p : ℕ
    p = related_row H l n

    pub gives : Seen H h (give_back H s (granted H (row H l n)) (row H l p)) (words (row H l p)) (at (megawatts H h (row H l p)) (returns_to (row H l p)) (megawatts H h (row H l p) (returns_to (row H l p)) + standing s (granted H (row H l n)) h))
    gives = seen_given hlt (room_for o (span_length o granted_part (lit< tt)) (above_row o t))

    pub given_turned : Turned R H l (returned_to H n l) p (give_back H s (granted H (row H l n)) (row H l p))
    given_turned = turned o.sized (above_row o t) (give_back H s (granted H (row H l n))) refl gives.long

    pub own_kept : row H (returned_to H n l) n ≡ row H l n
    own_kept = given_turned.other n (λ z. omega (arith, o.lower t, z))

    pub child_turned : Turned R H (returned_to H n l) (on_row H n (annulled_row H) (returned_to H n l)) n (annulled_row H (row H l n))
    child_turned = turned given_turned.sized o.own (annulled_row H) own_kept annuls.long

    pub above_is : row H (on_row H n (annulled_row H) (returned_to H n l)) p ≡ give_back H s (granted H (row H l n)) (row H l p)
    above_is = child_turned.other p (λ z. omega (arith, o.lower t, z)) ∙ given_turned.own

  module _ (out out' : ℕ → ℕ → ℤ) (red red' : ℕ → ℤ) (type : reqtype (row H l n) ≢ RELINQUISH) (before : status (row H l n) ≡ 13) where
    reduce_of : (mw : List ℕ) → length mw ≡ span_hours (row H l n) → covered mw (available H (row H l n)) ≡ true
        → OutStays (view H h l out red) (view H h (reduce H n mw l) out' red')
        → red' n ≡ red n +ℤ pos (standing s mw h)
        → ((m : ℕ) → m ≢ n → red' m ≡ red m)
        → Reduce (view H h l out red) (view H h (reduce H n mw l) out' red') n (standing s mw h)
    reduce_of mw long ok outs one others =
        let K = seen_reduced hlt (room_for o long o.own) in
        let T = reduced mw long in
        record {
          keeps = record { used = T.head 6 (lit< tt); ty = kept_word T refl 0 (K.field 0 (lit< tt)); ref = kept_word T refl 4 (K.field 4 (lit< tt)); path = kept_word T refl 11 (K.field 11 (lit< tt)) };
          type = type;
          before = before;
          after = word_of T.own K 1 (lit< tt) ∙ before;
          g = hour_of T.own K granted_part (lit< tt);
          a = omega (arith, hour_of T.own K available_part (lit< tt), covers mw long ok);
          d = hour_of T.own K displaced_part (lit< tt);
          r = hour_of T.own K reduced_part (lit< tt);
          rest = λ m ne. still H h l (reduce H n mw l) out out' red red' m (T.other m ne);
          outs = outs;
          red = one;
          reds = others;
        }

    displace_of :
        OutStays (view H h l out red) (view H h (displace H n l) out' red')
        → RedStays (view H h l out red) (view H h (displace H n l) out' red')
        → Displace (view H h l out red) (view H h (displace H n l) out' red') n
    displace_of outs reds =
        let K = displaces in
        let T = displaced_turned in
        record {
          keeps = record { used = T.head 6 (lit< tt); ty = kept_word T refl 0 (K.field 0 (lit< tt)); ref = kept_word T refl 4 (K.field 4 (lit< tt)); path = kept_word T refl 11 (K.field 11 (lit< tt)) };
          type = type;
          before = before;
          after = word_of T.own K 1 (lit< tt);
          g = hour_of T.own K granted_part (lit< tt);
          a = hour_of T.own K available_part (lit< tt);
          d = hour_of T.own K displaced_part (lit< tt) ∙ ap (λ (z : ℕ). megawatts H h (row H l n) displaced_part + z) (span_standing o hlt available_part (lit< tt));
          r = hour_of T.own K reduced_part (lit< tt);
          rest = λ m ne. still H h l (displace H n l) out out' red red' m (T.other m ne);
          outs = outs;
          reds = reds;
        }

    module _ (whole : equal (available H (row H l n)) (granted H (row H l n)) ≡ true) where
      pub annul_top_of : reqtype (row H l n) ≤ 2
          → OutStays (view H h l out red) (view H h (on_row H n (annulled_row H) l) out' red')
          → RedStays (view H h l out red) (view H h (on_row H n (annulled_row H) l) out' red')
          → AnnulTop (view H h l out red) (view H h (on_row H n (annulled_row H) l) out' red') n
      annul_top_of t outs reds =
          let K = annuls in
          let T = annulled_turned in
          let E : status (row H (on_row H n (annulled_row H) l) n) ≡ 16 = word_of T.own K 1 (lit< tt) in
          record {
            keeps = record { used = T.head 6 (lit< tt); ty = kept_word T refl 0 (K.field 0 (lit< tt)); ref = kept_word T refl 4 (K.field 4 (lit< tt)); path = kept_word T refl 11 (K.field 11 (lit< tt)) };
            type = t;
            in_use = o.in_use;
            before = before;
            whole = equal_hour o hlt available_part granted_part (lit< tt) (lit< tt) whole;
            after = ((λ e. omega (arith, e, E)), (λ e. omega (arith, e, E)));
            a = hour_of T.own K available_part (lit< tt);
            d = hour_of T.own K displaced_part (lit< tt);
            r = hour_of T.own K reduced_part (lit< tt);
            rest = λ m ne. still H h l (on_row H n (annulled_row H) l) out out' red red' m (T.other m ne);
            outs = outs;
            reds = reds;
          }

      pub annul_child_of : (t : 3 ≤ reqtype (row H l n))
          → ((k m : ℕ) → out' k m ≡ out k m +ℤ neg_ℤ (pos (share k (reqtype (row H l n)) (related (row H l n)) m (megawatts H h (row H l n) granted_part))))
          → RedStays (view H h l out red) (view H h (on_row H n (annulled_row H) (returned_to H n l)) out' red')
          → AnnulChild (view H h l out red) (view H h (on_row H n (annulled_row H) (returned_to H n l)) out' red') n (related_row H l n)
      annul_child_of t outs reds =
          let l2 : List ℕ = on_row H n (annulled_row H) (returned_to H n l) in
          let K = annuls in
          let G = gives t in
          let T1 = given_turned t in
          let T2 = child_turned t in
          let P = above_is t in
          let E : status (row H l2 n) ≡ 16 = word_of T2.own K 1 (lit< tt) in
          record {
            keeps = record {
              used = T2.head 6 (lit< tt) ∙ T1.head 6 (lit< tt);
              ty = λ m. kept_word T2 (own_kept t) 0 (K.field 0 (lit< tt)) m ∙ kept_word T1 refl 0 (G.field 0 (lit< tt)) m;
              ref = λ m. kept_word T2 (own_kept t) 4 (K.field 4 (lit< tt)) m ∙ kept_word T1 refl 4 (G.field 4 (lit< tt)) m;
              path = λ m. kept_word T2 (own_kept t) 11 (K.field 11 (lit< tt)) m ∙ kept_word T1 refl 11 (G.field 11 (lit< tt)) m;
            };
            in_use = o.in_use;
            parent = o.above t;
            type = type;
            before = before;
            whole = equal_hour o hlt available_part granted_part (lit< tt) (lit< tt) whole;
            after = ((λ e. omega (arith, e, E)), (λ e. omega (arith, e, E)));
            a = hour_of T2.own K available_part (lit< tt);
            d = hour_of T2.own K displaced_part (lit< tt);
            r = hour_of T2.own K reduced_part (lit< tt);
            p_st = word_of P G 1 (lit< tt);
            p_a = λ e. hour_of P G available_part (lit< tt) ∙ returned_available (megawatts H h (row H l (related_row H l n))) (standing s (granted H (row H l n)) h) (row H l (related_row H l n)) e ∙ ap (λ (z : ℕ). megawatts H h (row H l (related_row H l n)) available_part + z) (span_standing o hlt granted_part (lit< tt));
            p_g = hour_of P G granted_part (lit< tt) ∙ returned_other (megawatts H h (row H l (related_row H l n))) _ (row H l (related_row H l n)) granted_part (λ e. omega (arith, e)) (λ e. omega (arith, e));
            p_r = hour_of P G reduced_part (lit< tt) ∙ returned_other (megawatts H h (row H l (related_row H l n))) _ (row H l (related_row H l n)) reduced_part (λ e. omega (arith, e)) (λ e. omega (arith, e));
            p_ad = omega (arith, hour_of P G available_part (lit< tt), hour_of P G displaced_part (lit< tt), span_standing o hlt granted_part (lit< tt), returned (megawatts H h (row H l (related_row H l n))) (standing s (granted H (row H l n)) h) (row H l (related_row H l n)));
            rest = λ m e e'. still H h l l2 out out' red red' m (T2.other m e ∙ T1.other m e');
            outs = outs;
            reds = reds;
          }

    -- annulling is a step of every hour's column, whatever the type
    annul_of : {B : ℕ → ℕ} → equal (available H (row H l n)) (granted H (row H l n)) ≡ true
        → (reqtype (row H l n) ≤ 2 → OutStays (view H h l out red) (view H h (annul H n l) out' red'))
        → (3 ≤ reqtype (row H l n) → (k m : ℕ) → out' k m ≡ out k m +ℤ neg_ℤ (pos (share k (reqtype (row H l n)) (related (row H l n)) m (megawatts H h (row H l n) granted_part))))
        → RedStays (view H h l out red) (view H h (annul H n l) out' red')
        → Tested B (view H h l out red) (view H h (annul H n l) out' red') n
        → Step B (view H h l out red) (view H h (annul H n l) out' red')
    annul_of {B} whole tops children = go (lt_or_le (reqtype (row H l n)) 3) tops
      where
        Goal : List ℕ → Type 0
        Goal m = (reqtype (row H l n) ≤ 2 → OutStays (view H h l out red) (view H h m out' red')) → RedStays (view H h l out red) (view H h m out' red') → Tested B (view H h l out red) (view H h m out' red') n → Step B (view H h l out red) (view H h m out' red')

        go : (reqtype (row H l n) < 3) ⊎ (3 ≤ reqtype (row H l n)) → Goal (annul H n l)
        go (inl t) =
            let low : reqtype (row H l n) ≤ 2 = omega (arith, t) in
            subst Goal (is_annul_top H n l o.type_least low) (λ a b _. annul_top n (annul_top_of whole low (a low) b))
        go (inr t) =
            subst Goal (is_annul_child H n l t) (λ a b c. annul_child n (related_row H l n) (annul_child_of whole t (children t) b) c)

-- ---- of a formed ledger
module _ {l : List ℕ} {n : ℕ} (f : Formed l) (lt : n < used l) (type : reqtype (row (hours l) l n) ≢ RELINQUISH) (before : status (row (hours l) l n) ≡ 13) {h : ℕ} (hlt : h < hours l) (out out' : ℕ → ℕ → ℤ) (red red' : ℕ → ℤ) {B : ℕ → ℕ} where
  pub reduce_step : (mw : List ℕ) → length mw ≡ span_hours (row (hours l) l n) → covered mw (available (hours l) (row (hours l) l n)) ≡ true
      → OutStays (view (hours l) h l out red) (view (hours l) h (reduce (hours l) n mw l) out' red')
      → red' n ≡ red n +ℤ pos (standing (start (row (hours l) l n)) mw h)
      → ((m : ℕ) → m ≢ n → red' m ≡ red m)
      → Step B (view (hours l) h l out red) (view (hours l) h (reduce (hours l) n mw l) out' red')
  reduce_step mw long ok outs one others =
      reducing n (standing (start (row (hours l) l n)) mw h) (reduce_of (placed f lt) hlt out out' red red' type before mw long ok outs one others)

  pub displace_step : OutStays (view (hours l) h l out red) (view (hours l) h (displace (hours l) n l) out' red')
      → RedStays (view (hours l) h l out red) (view (hours l) h (displace (hours l) n l) out' red')
      → Step B (view (hours l) h l out red) (view (hours l) h (displace (hours l) n l) out' red')
  displace_step outs reds = displacing n (displace_of (placed f lt) hlt out out' red red' type before outs reds)

  pub annul_step : equal (available (hours l) (row (hours l) l n)) (granted (hours l) (row (hours l) l n)) ≡ true
      → (reqtype (row (hours l) l n) ≤ 2 → OutStays (view (hours l) h l out red) (view (hours l) h (annul (hours l) n l) out' red'))
      → (3 ≤ reqtype (row (hours l) l n) → (k m : ℕ) → out' k m ≡ out k m +ℤ neg_ℤ (pos (share k (reqtype (row (hours l) l n)) (related (row (hours l) l n)) m (megawatts (hours l) h (row (hours l) l n) granted_part))))
      → RedStays (view (hours l) h l out red) (view (hours l) h (annul (hours l) n l) out' red')
      → Tested B (view (hours l) h l out red) (view (hours l) h (annul (hours l) n l) out' red') n
      → Step B (view (hours l) h l out red) (view (hours l) h (annul (hours l) n l) out' red')
  annul_step = annul_of (placed f lt) hlt out out' red red' type before
