-- What the invariant says of ledger and tally: that they balance.
use mathlib.Core.Path.{◌≡◌, refl, sym, ap, subst, ◌∙◌}
use mathlib.Core.Logic.{◌≢◌, ◌⊎◌, inl, inr, ⊎_elim}
use mathlib.Core.Bool.{Bool, true, false, ◌&&◌, ◌||◌, not, or-false}
use mathlib.Core.List.{List, []}
use Prim.Native.Nat.{ℕ, zero, suc, ◌+◌, ◌-◌, ◌≤◌, ◌<◌}
use native.Mathlib.Decide.{ℕ_discrete}
use native.Mathlib.Omega.{arith}
use borrow.Author.Tests.{eq-eqb, ne_eqb}
use lib.Dec.{eqb, lit<}
use lib.IntN.{ℤ, pos, negsuc, ◌+ℤ◌}
use lib.ListN.{length, get_or}
use Rattle.words.proofs.Laws.{lt_or_le, part_length, part_at}
use Rattle.column.specs.Column.{either}
use Rattle.column.specs.Demand as Column
use Rattle.column.specs.Demand.{Live, up, within, inside, gateℤ, sumℤ}
use Rattle.column.proofs.Final.{demand3_of}
use Rattle.rules.specs.Pick.{pick}
use Rattle.rules.specs.Numbers.{profiles, granted_part, available_part, displaced_part, reduced_part, granted_given, RELINQUISH}
use Rattle.rules.specs.Layout.{hours, used, row_size, row, reqtype, status, related, start, stop, has, granted, hour_at, hours_of, span, standing}
use Rattle.rules.specs.Sound.{original}
use Rattle.rules.specs.Tally.{Tally, granted_in, resold_sum, redirected_sum, transferred_sum, relinquished_sum, reduced_sum}
use Rattle.rules.specs.Balance.{row_in, NotNegative, live, descends_within, descends, sum_to, tallied, stored, holding, SameEntry, Whole, Five, Tree, Balanced}
use Rattle.rules.proofs.Types.{original_range}
use Rattle.rules.proofs.Rows.{row_length}
use Rattle.rules.proofs.Seen.{hour_in, standing_in, standing_off}
use Rattle.rules.proofs.SoundFacts.{SoundWords, sized}
use Rattle.rules.proofs.View.{view_of}
use Rattle.rules.proofs.Good.{Agrees, Good}

-- ---- descent by references is descent by rows
same_number : (n o : ℕ) → eqb (suc n) (suc o) ≡ eqb n o
same_number n o = go (ℕ_discrete n o)
  where
    go : Dec (n ≡ o) → eqb (suc n) (suc o) ≡ eqb n o
    go (yes e) = eq-eqb (suc n) (suc o) (ap suc e) ∙ sym (eq-eqb n o e)
    go (no e) = ne_eqb (suc n) (suc o) (λ q. omega arith) ∙ sym (ne_eqb n o e)

or_either : (b c : Bool) → (b || c) ≡ either b c
or_either true c = refl
or_either false c = refl

module _ (rel ref : ℕ → ℕ) (u o : ℕ) (same : (n : ℕ) → n < u → rel (suc n) ≡ ref n) (lower : (n : ℕ) → ref n ≤ n) where
  pub descent : (k n : ℕ) → n ≤ k → n < u → descends_within (suc k) rel (suc o) (suc n) ≡ within ref k o n
  unfolding descends_within within
  descent zero n le lt =
      let z : ref n ≡ 0 = omega (arith, lower n) in
      ap (λ (x : ℕ). eqb (suc n) (suc o) || (not (eqb x 0) && false)) (same n lt ∙ z) ∙ or-false (eqb (suc n) (suc o)) ∙ same_number n o
  descent (suc k) n le lt =
      ap (λ (x : ℕ). eqb (suc n) (suc o) || (not (eqb x 0) && descends_within (suc k) rel (suc o) x)) (same n lt)
      ∙ ap (λ (b : Bool). b || (not (eqb (ref n) 0) && descends_within (suc k) rel (suc o) (ref n))) (same_number n o)
      ∙ or_either (eqb n o) _
      ∙ ap (either (eqb n o)) (above (ref n) (λ p e. descent k p (omega (arith, lower n)) (omega (arith, lower n))))
    where
      above : (m : ℕ) → ((p : ℕ) → m ≡ suc p → descends_within (suc k) rel (suc o) (suc p) ≡ within ref k o p) → (not (eqb m 0) && descends_within (suc k) rel (suc o) m) ≡ up (λ p. within ref k o p) m
      above zero f = refl
      above (suc p) f =
          ap (λ (b : Bool). not b && descends_within (suc k) rel (suc o) (suc p)) (ne_eqb (suc p) 0 (λ q. omega arith))
          ∙ f p refl

  -- one step more is as good
  pub descent_more : (k n : ℕ) → n ≤ k → n < u → within ref (suc k) o n ≡ within ref k o n
  unfolding within
  descent_more zero n le lt = ap (λ (x : ℕ). either (eqb n o) (up (λ p. within ref 0 o p) x)) (let z : ref n ≡ 0 = omega (arith, lower n) in z) ∙ sym (or_either (eqb n o) false) ∙ or-false (eqb n o)
  descent_more (suc k) n le lt = ap (either (eqb n o)) (above (ref n) (λ p e. descent_more k p (omega (arith, lower n)) (omega (arith, lower n))))
    where
      above : (m : ℕ) → ((p : ℕ) → m ≡ suc p → within ref (suc k) o p ≡ within ref k o p) → up (λ p. within ref (suc k) o p) m ≡ up (λ p. within ref k o p) m
      above zero f = refl
      above (suc p) f = f p refl

  pub enough : (n : ℕ) → n < u → descends_within (suc (suc n)) rel (suc o) (suc n) ≡ within ref n o n
  enough n lt = descent (suc n) n (omega arith) lt ∙ descent_more n n (omega arith) lt

-- ---- a sum over references is a sum over rows
sum_rows : (u : ℕ) (f : ℕ → ℤ) (g : ℕ → ℤ) → ((n : ℕ) → n < u → f (suc n) ≡ g n) → sum_to u f ≡ sumℤ u g
unfolding sum_to sumℤ
sum_rows zero f g e = refl
sum_rows (suc u) f g e =
    ap (λ (z : ℤ). z +ℤ f (suc u)) (sum_rows u f g (λ n lt. e n (omega arith))) ∙ ap (λ (z : ℤ). sumℤ u g +ℤ z) (e u (omega arith))

gate_pick : (b : Bool) (x : ℤ) → pick b x (pos 0) ≡ gateℤ b x
gate_pick true x = refl
gate_pick false x = refl

not_negative : (z : ℤ) → Column.NotNegative z → NotNegative z
not_negative (pos n) h = tt
not_negative (negsuc n) h = h

-- ---- tests as facts
pub live_is : (s : ℕ) → live s ≡ true → Live s
unfolding live
live_is s e = go (ℕ_discrete s 13) (ℕ_discrete s 15)
  where
    go : Dec (s ≡ 13) → Dec (s ≡ 15) → Live s
    go (yes q) d = inl q
    go (no n) (yes q) = inr q
    go (no n) (no m) =
        let z : ◌≡◌ {A = Bool} false true = sym (ap (λ (b : Bool). b || (eqb s 15 || false)) (ne_eqb s 13 n) ∙ ap (λ (b : Bool). b || false) (ne_eqb s 15 m)) ∙ e in
        let o : ◌≡◌ {A = ℕ} 0 1 = cc in
        absurd (omega arith)

pub original_is : (t : ℕ) → original t ≡ true → (t ≡ 1) ⊎ (t ≡ 2)
original_is t e = go (ℕ_discrete t 1)
  where
    go : Dec (t ≡ 1) → (t ≡ 1) ⊎ (t ≡ 2)
    go (yes q) = inl q
    go (no n) = inr (omega (arith, original_range t e))

-- ---- a row's own profile, standing at an hour
pub stands_own : {H : ℕ} (r : List ℕ) (p h : ℕ) → p < profiles → h < H → length r ≡ row_size H → start r < stop r → stop r ≤ H
    → ((h < start r) ⊎ (stop r ≤ h) → get_or r (hour_at H p h) 0 ≡ 0) → standing (start r) (span H p r) h ≡ get_or r (hour_at H p h) 0
unfolding span
stands_own {H} r p h plt hlt long starts stops none =
    let s : ℕ = start r in
    let n : ℕ = stop r - start r in
    let inside : hour_at H p s + n ≤ length r = omega (arith, hour_in H plt, long, stops, starts) in
    let len : length (hours_of H p s n r) ≡ n = part_length r (hour_at H p s) n inside in
    ⊎_elim
    (λ u. standing_off s (hours_of H p s n r) (inl u) ∙ sym (none (inl u)))
    (λ u.
    ⊎_elim
    (λ v.
    let k : h ≡ s + (h - s) = omega (arith, u) in
    let i : hour_at H p s + (h - s) ≡ hour_at H p h = omega (arith, u) in
    let lt : h - s < n = omega (arith, u, v) in
    standing_in s (hours_of H p s n r) (h - s) k ∙ part_at r (hour_at H p s) n inside (h - s) lt ∙ ap (λ (j : ℕ). get_or r j 0) i)
    (λ v. standing_off s (hours_of H p s n r) (inr (omega (arith, v, len, starts))) ∙ sym (none (inr v)))
    (lt_or_le h (stop r)))
    (lt_or_le h (start r))

standing_none : (s h : ℕ) → standing s [] h ≡ 0
standing_none s h = ⊎_elim (λ u. standing_off s [] (inl u)) (λ u. standing_off s [] (inr (omega (arith, u)))) (lt_or_le h s)

-- ---- an invariant of ledger and tally, and that they balance
module _ {B : ℕ → ℕ → ℕ} {l : List ℕ} {t : Tally} (G : Good B l t) where
  -- reference suc n is row n
  own : (n : ℕ) → row_in l (suc n) ≡ row (hours l) l n
  own n = let e : suc n - 1 ≡ n = omega arith in ap (λ (m : ℕ). row (hours l) l m) e

  granted_is : (n h : ℕ) → n < used l → h < hours l → granted_in (t (suc n)) h ≡ get_or (row (hours l) l n) (hour_at (hours l) granted_part h) 0
  unfolding granted_in
  granted_is n h lt hlt = go (has granted_given (row (hours l) l n)) refl
    where
      E : Agrees (hours l) (row (hours l) l n) (t (suc n))
      E = G.good.entries n lt

      W : SoundWords (hours l) (row (hours l) l n)
      W = G.sound.words n lt

      long : length (row (hours l) l n) ≡ row_size (hours l)
      long = row_length (sized G.sound) (omega (arith, G.sound.head.used))

      go : (b : Bool) → has granted_given (row (hours l) l n) ≡ b → standing (t (suc n)).start (t (suc n)).granted h ≡ get_or (row (hours l) l n) (hour_at (hours l) granted_part h) 0
      go true e =
          ap (λ (s : ℕ). standing s (t (suc n)).granted h) E.same_start
          ∙ ap (λ (v : List ℕ). standing (start (row (hours l) l n)) v h) (E.same_granted ∙ ap (λ (b : Bool). pick b (granted (hours l) (row (hours l) l n)) []) e)
          ∙ stands_own (row (hours l) l n) granted_part h (lit< tt) hlt long W.starts W.stops ((G.sound.profiles n lt).outside granted_part h (lit< tt) hlt)
      go false e =
          ap (λ (s : ℕ). standing s (t (suc n)).granted h) E.same_start
          ∙ ap (λ (v : List ℕ). standing (start (row (hours l) l n)) v h) (E.same_granted ∙ ap (λ (b : Bool). pick b (granted (hours l) (row (hours l) l n)) []) e)
          ∙ standing_none (start (row (hours l) l n)) h
          ∙ sym (E.ungiven e h hlt)

  module _ (n : ℕ) (lt : n < used l) where
    E : Agrees (hours l) (row (hours l) l n) (t (suc n))
    E = G.good.entries n lt

    same_entry : SameEntry l t (suc n)
    same_entry = record {
      types = E.same_type ∙ sym (ap reqtype (own n));
      statuses = E.same_status ∙ sym (ap status (own n));
      relations = E.same_related ∙ sym (ap related (own n));
      grants = λ h hlt. granted_is n h lt hlt ∙ sym (ap (λ (r : List ℕ). get_or r (hour_at (hours l) granted_part h) 0) (own n));
    }

  module _ (h : ℕ) (hlt : h < hours l) where
    D : Column.Demand3 (view_of (hours l) h l t)
    D = demand3_of (G.good.columns h hlt).shape (G.good.columns h hlt).inv

    stored_entry : (n : ℕ) → stored l (suc n) h ≡ tallied t (suc n) h
    unfolding stored tallied
    stored_entry n = ap (λ (r : List ℕ). pos (get_or r (hour_at (hours l) reduced_part h) 0)) (own n) ∙ sym (D.stored n)

    five_entry : (n : ℕ) → Five t (suc n) h
    five_entry n = record {
      resold = not_negative ((t (suc n)).sum resold_sum h) (D.five n).resold;
      redirected = not_negative ((t (suc n)).sum redirected_sum h) (D.five n).redirected;
      transferred = not_negative ((t (suc n)).sum transferred_sum h) (D.five n).transferred;
      relinquished = not_negative ((t (suc n)).sum relinquished_sum h) (D.five n).relinquished;
      reduced = not_negative ((t (suc n)).sum reduced_sum h) (D.five n).reduced;
    }

    -- what row r has available and displaced; that with the sums of entry n, where z is reduced
    abbrev unreduced : List ℕ → ℤ
    unreduced r = pos (get_or r (hour_at (hours l) available_part h) 0) +ℤ pos (get_or r (hour_at (hours l) displaced_part h) 0)

    abbrev with_sums : ℕ → ℤ → ℤ → ℤ
    with_sums n x z = x +ℤ (t (suc n)).sum resold_sum h +ℤ (t (suc n)).sum redirected_sum h +ℤ (t (suc n)).sum transferred_sum h +ℤ (t (suc n)).sum relinquished_sum h +ℤ z

    module _ (n : ℕ) (lt : n < used l) (on : live (t (suc n)).status ≡ true) where
      is_live : Live (status (row (hours l) l n))
      is_live = subst Live (E n lt).same_status (live_is (t (suc n)).status on)

      -- with what the tally has as reduced, or any that is the same
      module _ (reduced : ℕ → ℕ → ℤ) (same : (m : ℕ) → reduced (suc m) h ≡ tallied t (suc m) h) where
        whole_entry : (t (suc n)).reqtype ≢ RELINQUISH → Whole l t reduced (suc n) h
        unfolding Whole tallied
        whole_entry ne =
            ap pos (granted_is n h lt hlt)
            ∙ D.whole n is_live (λ q. ne ((E n lt).same_type ∙ q))
            ∙ sym (ap (λ (r : List ℕ). with_sums n (unreduced r) (reduced (suc n) h)) (own n) ∙ ap (with_sums n (unreduced (row (hours l) l n))) (same n))

        held_in : (m : ℕ) → m < used l → holding l reduced h (suc m) ≡ unreduced (row (hours l) l m) +ℤ (t (suc m)).sum reduced_sum h
        unfolding holding tallied
        held_in m mlt = ap (λ (r : List ℕ). unreduced r +ℤ reduced (suc m) h) (own m) ∙ ap (λ (z : ℤ). unreduced (row (hours l) l m) +ℤ z) (same m)

        tree_entry : original (t (suc n)).reqtype ≡ true → Tree l t reduced (suc n) h
        unfolding Tree descends
        tree_entry o =
            let ty : (reqtype (row (hours l) l n) ≡ 1) ⊎ (reqtype (row (hours l) l n) ≡ 2) = original_is _ (ap original (sym (E n lt).same_type) ∙ o) in
            ap pos (granted_is n h lt hlt)
            ∙ D.tree n is_live ty
            ∙ sym (sum_rows (used l) _ _ (λ m mlt.
            gate_pick (descends_within (suc (suc m)) (λ q. (t q).related) (suc n) (suc m)) (holding l reduced h (suc m))
            ∙ ap (λ (b : Bool). gateℤ b (holding l reduced h (suc m))) (deeper m mlt)
            ∙ ap (gateℤ (inside (λ i. related (row (hours l) l i)) n m)) (held_in m mlt)))
          where
            relates : (i : ℕ) → i < used l → (t (suc i)).related ≡ related (row (hours l) l i)
            relates i ilt = (G.good.entries i ilt).same_related

            deeper : (m : ℕ) → m < used l → descends_within (suc (suc m)) (λ q. (t q).related) (suc n) (suc m) ≡ inside (λ i. related (row (hours l) l i)) n m
            deeper m mlt =
                enough (λ q. (t q).related) (λ i. related (row (hours l) l i)) (used l) n relates (G.good.columns h hlt).shape.lower m mlt

  pub balanced : Balanced l t
  balanced = record {
    entries = λ r low high. go r low high;
    others = G.good.others;
    reductions = λ r h low high hlt. by_row (λ r. stored l r h ≡ tallied t r h) (λ n lt. stored_entry h hlt n) r low high;
    fives = λ r h low high hlt. by_row (λ r. Five t r h) (λ n lt. five_entry h hlt n) r low high;
    whole = λ r h low high hlt on ne.
        by_row (λ r. live (t r).status ≡ true → (t r).reqtype ≢ RELINQUISH → Whole l t (tallied t) r h × Whole l t (stored l) r h)
        (λ n lt on ne. (whole_entry h hlt n lt on (tallied t) (λ m. refl) ne, whole_entry h hlt n lt on (stored l) (stored_entry h hlt) ne)) r low high on ne;
    trees = λ r h low high hlt on o.
        by_row (λ r. live (t r).status ≡ true → original (t r).reqtype ≡ true → Tree l t (tallied t) r h × Tree l t (stored l) r h)
        (λ n lt on o. (tree_entry h hlt n lt on (tallied t) (λ m. refl) o, tree_entry h hlt n lt on (stored l) (stored_entry h hlt) o)) r low high on o;
  }
    where
      by_row : (P : ℕ → Type 0) → ((n : ℕ) → n < used l → P (suc n)) → (r : ℕ) → 1 ≤ r → r ≤ used l → P r
      by_row P f zero low high = absurd (omega arith)
      by_row P f (suc n) low high = f n high

      go : (r : ℕ) → 1 ≤ r → r ≤ used l → SameEntry l t r
      go r low high = by_row (λ r. SameEntry l t r) same_entry r low high
