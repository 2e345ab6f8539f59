-- Use of a path after a confirmation or an annulment, from the ledger before it: row by row, so that one walk over the
-- rows adds it up.
use mathlib.Core.Path.{◌≡◌, refl, sym, ap, ◌∙◌}
use mathlib.Core.Logic.{◌≢◌, ◌⊎◌, inl, inr}
use mathlib.Core.Bool.{Bool, true, false, ◌&&◌, ◌||◌, not}
use mathlib.Core.List.{List}
use Prim.Native.Nat.{ℕ, ◌+◌, ◌-◌, ◌≤◌, ◌<◌}
use native.Mathlib.Decide.{ℕ_discrete}
use native.Mathlib.Omega.{arith}
use borrow.Author.Tests.{eqb-true, eq-eqb, ne_eqb}
use lib.Dec.{eqb}
use lib.ListN.{length}
use lib.IntN.{ℤ, pos, neg_ℤ, ◌+ℤ◌}
use Rattle.words.specs.Lists.{word_at, sum_below, equal}
use Rattle.words.proofs.Laws.{lt_or_le}
use Rattle.column.specs.Sum.{gate, sum_to}
use Rattle.column.specs.Column.{Off, share}
use Rattle.column.specs.Use.{counts_by as counts_in}
use Rattle.column.proofs.Flow.{by_one}
use Rattle.column.proofs.Uses.{child_statuses, annul_child_statuses, give_statuses, confirmed_now, annulled_now, use_after}
use Rattle.rules.specs.Pick.{pick}
use Rattle.rules.specs.Numbers.{granted_part, available_part, NONFIRM_REDIRECT, RELINQUISH}
use Rattle.rules.specs.Layout.{used, row, on_row, reqtype, status, related, path, start, related_row, span_hours, hour_at, granted, available, standing}
use Rattle.rules.specs.Sound.{original}
use Rattle.rules.specs.Moves.{is_confirmed}
use Rattle.rules.specs.Megawatts.{annul, annulled_row}
use Rattle.rules.specs.Confirming.{confirm_original, confirm_derived, confirm_relinquish, confirm, unconfirmed, short}
use Rattle.rules.specs.Paths.{use_of}
use Rattle.rules.proofs.View.{view}
use Rattle.rules.proofs.Types.{original_type, derived_type}
use Rattle.rules.proofs.Writes.{megawatts}
use Rattle.rules.proofs.Placed.{Placed}
use Rattle.rules.proofs.Steps.{is_top, is_child, is_give, top_of, child_of, give_of, top_granted, child_granted, give_granted}
use Rattle.rules.proofs.Others.{returned_to, is_annul_top, is_annul_child, annul_top_of, annul_child_of}
use Rattle.rules.proofs.Tests.{sums, picked, use_column}

-- ---- the definitions that code goes by
-- row m counts in the use of path x, where the rows that confirmed names are CONFIRMED
unfoldable pub counts_by : ℕ → List ℕ → (ℕ → Bool) → ℕ → ℕ → Bool
counts_by H l confirmed x m =
    confirmed m
    && (eqb (path (row H l m)) x
    || eqb (reqtype (row H l m)) NONFIRM_REDIRECT && (confirmed (related_row H l m) && eqb (path (row H l (related_row H l m))) x))

-- the rows that are CONFIRMED once row n is, and once it no longer is
unfoldable pub confirmed_with : ℕ → List ℕ → ℕ → ℕ → Bool
confirmed_with H l n m = eqb m n || is_confirmed (row H l m)

unfoldable pub confirmed_but : ℕ → List ℕ → ℕ → ℕ → Bool
confirmed_but H l n m = not (eqb m n) && is_confirmed (row H l m)

-- available of row m in hour h once row n is confirmed with the megawatts mw: row n has them, its related row has given
-- them; from a relinquish record they went on to the row above
unfoldable pub held_confirming : ℕ → List ℕ → ℕ → List ℕ → ℕ → ℕ → ℕ
held_confirming H l n mw h m =
    let t = reqtype (row H l n) in
    let y = standing (start (row H l n)) mw h in
    let held = word_at (row H l m) (hour_at H available_part h) in
    pick (eqb m n) (pick (eqb t RELINQUISH) 0 y) (
    pick (not (original t) && eqb m (related_row H l n)) (held - y) (
    pick (eqb t RELINQUISH && eqb m (related_row H l (related_row H l n))) (held + y)
    held))

-- once row n is annulled: its related row has its granted again
unfoldable pub held_annulling : ℕ → List ℕ → ℕ → ℕ → ℕ → ℕ
held_annulling H l n h m =
    let held = word_at (row H l m) (hour_at H available_part h) in
    pick (not (original (reqtype (row H l n))) && eqb m (related_row H l n)) (held + word_at (row H l n) (hour_at H granted_part h))
    held

-- use of path x in hour h, then
unfoldable pub use_confirming : ℕ → List ℕ → ℕ → List ℕ → ℕ → ℕ → ℕ
use_confirming H l n mw x h = sum_below (used l) (λ m. pick (counts_by H l (confirmed_with H l n) x m) (held_confirming H l n mw h m) 0)

unfoldable pub use_annulling : ℕ → List ℕ → ℕ → ℕ → ℕ → ℕ
use_annulling H l n x h = sum_below (used l) (λ m. pick (counts_by H l (confirmed_but H l n) x m) (held_annulling H l n h m) 0)

-- ---- a column's sum is that of the rules
from_column : (H h : ℕ) (l : List ℕ) (out : ℕ → ℕ → ℤ) (red : ℕ → ℤ) (confirmed : ℕ → Bool) (x : ℕ) (held : ℕ → ℕ) {u : ℕ} → u ≡ sum_to (used l) (λ m. gate (counts_in (view H h l out red) confirmed x m) (held m))
    → u ≡ sum_below (used l) (λ m. pick (counts_by H l confirmed x m) (held m) 0)
unfolding counts_by related_row
from_column H h l out red confirmed x held e = e ∙ sym (sums (used l) _ _ (λ m. picked (counts_in (view H h l out red) confirmed x m) (held m)))

-- at a row, and at another
here : (m : ℕ) (u v : ℕ) → pick (eqb m m) u v ≡ u
here m u v = ap (λ (b : Bool). pick b u v) (eq-eqb m m refl)

there : {m c : ℕ} (u v : ℕ) → m ≢ c → pick (eqb m c) u v ≡ v
there {m} {c} u v ne = ap (λ (b : Bool). pick b u v) (ne_eqb m c ne)

-- a tally for the columns: of use it is not asked
abbrev none : ℕ → ℕ → ℤ
none k m = pos 0

abbrev nought : ℕ → ℤ
nought m = pos 0

module _ {R H : ℕ} {l : List ℕ} {n : ℕ} (o : Placed R H l n) {h : ℕ} (hlt : h < H) where
  abbrev t : ℕ
  t = reqtype (row H l n)

  abbrev p : ℕ
  p = related_row H l n

  abbrev q : ℕ
  q = related_row H l (related_row H l n)

  abbrev a : ℕ → ℕ
  a m = megawatts H h (row H l m) available_part

  -- another row that is then CONFIRMED is so now
  with_now : (m : ℕ) → m ≢ n → confirmed_with H l n m ≡ true → status (row H l m) ≡ 13
  unfolding confirmed_with is_confirmed
  with_now m ne e = eqb-true _ _ (sym (ap (λ (b : Bool). b || eqb (status (row H l m)) 13) (ne_eqb m n ne)) ∙ e)

  but_now : (m : ℕ) → m ≢ n → confirmed_but H l n m ≡ true → status (row H l m) ≡ 13
  unfolding confirmed_but is_confirmed
  but_now m ne e = eqb-true _ _ (sym (ap (λ (b : Bool). not b && eqb (status (row H l m)) 13) (ne_eqb m n ne)) ∙ e)

  but_own : confirmed_but H l n n ≡ false
  unfolding confirmed_but
  but_own = ap (λ (b : Bool). not b && is_confirmed (row H l n)) (eq-eqb n n refl)

  -- ---- confirming
  module _ (before : Off (status (row H l n))) (mw : List ℕ) (long : length mw ≡ span_hours (row H l n)) where
    abbrev y : ℕ
    y = standing (start (row H l n)) mw h

    -- available after, by the row's type
    held_top : reqtype (row H l n) ≤ 2 → (m : ℕ) → held_confirming H l n mw h m ≡ pick (eqb m n) y (a m)
    unfolding held_confirming
    held_top low m =
        ap (λ (b : Bool). pick (eqb m n) (pick b 0 y) (pick (not (original t) && eqb m p) (a m - y) (pick (b && eqb m q) (a m + y) (a m)))) (ne_eqb t RELINQUISH (λ z. omega (arith, z, low)))
        ∙ ap (λ (b : Bool). pick (eqb m n) y (pick (not b && eqb m p) (a m - y) (a m))) (original_type t o.type_least low)

    held_child : 3 ≤ reqtype (row H l n) → reqtype (row H l n) ≢ RELINQUISH → (m : ℕ) → held_confirming H l n mw h m ≡ pick (eqb m n) y (pick (eqb m p) (a m - y) (a m))
    unfolding held_confirming
    held_child least ne m =
        ap (λ (b : Bool). pick (eqb m n) (pick b 0 y) (pick (not (original t) && eqb m p) (a m - y) (pick (b && eqb m q) (a m + y) (a m)))) (ne_eqb t RELINQUISH ne)
        ∙ ap (λ (b : Bool). pick (eqb m n) y (pick (not b && eqb m p) (a m - y) (a m))) (derived_type t least)

    held_give : reqtype (row H l n) ≡ RELINQUISH → (m : ℕ) → held_confirming H l n mw h m ≡ pick (eqb m n) 0 (pick (eqb m p) (a m - y) (pick (eqb m q) (a m + y) (a m)))
    unfolding held_confirming
    held_give e m =
        ap (λ (b : Bool). pick (eqb m n) (pick b 0 y) (pick (not (original t) && eqb m p) (a m - y) (pick (b && eqb m q) (a m + y) (a m)))) (eq-eqb t RELINQUISH e)
        ∙ ap (λ (b : Bool). pick (eqb m n) 0 (pick (not b && eqb m p) (a m - y) (pick (eqb m q) (a m + y) (a m)))) (derived_type t (omega (arith, e)))

    use_top : reqtype (row H l n) ≤ 2 → (x : ℕ) → use_of H (confirm_original H n mw l) x h ≡ use_confirming H l n mw x h
    unfolding use_confirming confirmed_with is_confirmed
    use_top low x =
        let l' : List ℕ = confirm_original H n mw l in
        let C = top_of o mw long hlt none none nought nought before low (record { out = λ k m. refl }) (record { red = λ m. refl }) in
        from_column H h l none nought (confirmed_with H l n) x (held_confirming H l n mw h)
        (use_column H h l' none nought x
        ∙ use_after C.keeps (confirmed_with H l n) (confirmed_now (view H h l none nought) (view H h l' none nought) n (λ m ne. (C.rest m ne).st) C.after) (held_confirming H l n mw h)
        (by_one (λ m. confirmed_with H l n m ≡ true → megawatts H h (row H l' m) available_part ≡ held_confirming H l n mw h m) n
        (λ _. C.a ∙ top_granted o mw long hlt ∙ sym (held_top low n ∙ here n y (a n)))
        (λ m ne _. (C.rest m ne).a ∙ sym (held_top low m ∙ there y (a m) ne))) x)

    module _ (ok : unconfirmed H l n ≡ false) (ample : short H l n mw ≡ false) where
      use_child : 3 ≤ reqtype (row H l n) → reqtype (row H l n) ≢ RELINQUISH → (x : ℕ) → use_of H (confirm_derived H n mw l) x h ≡ use_confirming H l n mw x h
      unfolding use_confirming confirmed_with is_confirmed
      use_child least ne x =
          let l' : List ℕ = confirm_derived H n mw l in
          let g = child_granted o mw long hlt least in
          let apart : p ≢ n = λ z. omega (arith, z, o.lower least) in
          let C = child_of o mw long hlt none drawn nought nought before ok ample least ne (λ k m. refl) (record { red = λ m. refl }) in
          from_column H h l none nought (confirmed_with H l n) x (held_confirming H l n mw h)
          (use_column H h l' drawn nought x
          ∙ use_after C.keeps (confirmed_with H l n) (confirmed_now (view H h l none nought) (view H h l' drawn nought) n (child_statuses C) C.after) (held_confirming H l n mw h)
          (by_one (λ m. confirmed_with H l n m ≡ true → megawatts H h (row H l' m) available_part ≡ held_confirming H l n mw h m) n
          (λ _. C.a ∙ g ∙ sym (held_child least ne n ∙ here n y _))
          (λ m mn. by_one (λ k. k ≢ n → confirmed_with H l n k ≡ true → megawatts H h (row H l' k) available_part ≡ held_confirming H l n mw h k) p
          (λ k _. let d : megawatts H h (row H l' p) available_part ≡ a p - y = omega (arith, C.p_a, g) in d ∙ sym (held_child least ne p ∙ there y _ apart ∙ here p (a p - y) (a p)))
          (λ k kp kn _. (C.rest k kn kp).a ∙ sym (held_child least ne k ∙ there y _ kn ∙ there (a k - y) (a k) kp)) m mn)) x)
        where
          drawn : ℕ → ℕ → ℤ
          drawn k m = pos 0 +ℤ pos (share k (reqtype (row H l n)) (related (row H l n)) m (megawatts H h (row H (confirm_derived H n mw l) n) granted_part))

      use_give : reqtype (row H l n) ≡ RELINQUISH → (x : ℕ) → use_of H (confirm_relinquish H n mw l) x h ≡ use_confirming H l n mw x h
      unfolding use_confirming confirmed_with is_confirmed
      use_give e x =
          let l' : List ℕ = confirm_relinquish H n mw l in
          let g = give_granted o mw long hlt e in
          let low : p < n = o.lower (omega (arith, e)) in
          let lowest : q < p = o.lowest e in
          let C = give_of o mw long hlt none drawn nought nought before ok ample e (λ k m. refl) (record { red = λ m. refl }) in
          from_column H h l none nought (confirmed_with H l n) x (held_confirming H l n mw h)
          (use_column H h l' drawn nought x
          ∙ use_after C.keeps (confirmed_with H l n) (confirmed_now (view H h l none nought) (view H h l' drawn nought) n (give_statuses C) C.after) (held_confirming H l n mw h)
          (by_one (λ m. confirmed_with H l n m ≡ true → megawatts H h (row H l' m) available_part ≡ held_confirming H l n mw h m) n
          (λ _. C.a ∙ sym (held_give e n ∙ here n 0 _))
          (λ m mn. by_one (λ k. k ≢ n → confirmed_with H l n k ≡ true → megawatts H h (row H l' k) available_part ≡ held_confirming H l n mw h k) p
          (λ pn _. let d : megawatts H h (row H l' p) available_part ≡ a p - y = omega (arith, C.q_a, g) in d ∙ sym (held_give e p ∙ there 0 _ pn ∙ here p (a p - y) _))
          (λ k kp. by_one (λ j. j ≢ p → j ≢ n → confirmed_with H l n j ≡ true → megawatts H h (row H l' j) available_part ≡ held_confirming H l n mw h j) q
          (λ qp qn s. C.p_a (with_now q qn s) ∙ ap (λ (z : ℕ). a q + z) g ∙ sym (held_give e q ∙ there 0 _ qn ∙ there (a q - y) _ qp ∙ here q (a q + y) (a q)))
          (λ j jq jp jn _. (C.rest j jn jp jq).a ∙ sym (held_give e j ∙ there 0 _ jn ∙ there (a j - y) _ jp ∙ there (a j + y) (a j) jq)) k kp) m mn)) x)
        where
          drawn : ℕ → ℕ → ℤ
          drawn k m = pos 0 +ℤ pos (share k (reqtype (row H l n)) (related (row H l n)) m (megawatts H h (row H (confirm_relinquish H n mw l) n) granted_part)) +ℤ neg_ℤ (pos (share k (reqtype (row H l p)) (related (row H l p)) m (megawatts H h (row H (confirm_relinquish H n mw l) n) granted_part)))

      pub use_after_confirm : (x : ℕ) → use_of H (confirm H n mw l) x h ≡ use_confirming H l n mw x h
      use_after_confirm x = go (lt_or_le (reqtype (row H l n)) 3) (ℕ_discrete (reqtype (row H l n)) RELINQUISH)
        where
          go : (reqtype (row H l n) < 3) ⊎ (3 ≤ reqtype (row H l n)) → Dec (reqtype (row H l n) ≡ RELINQUISH) → use_of H (confirm H n mw l) x h ≡ use_confirming H l n mw x h
          go (inl u) d = let low : reqtype (row H l n) ≤ 2 = omega (arith, u) in ap (λ (z : List ℕ). use_of H z x h) (sym (is_top H n mw l o.type_least low)) ∙ use_top low x
          go (inr u) (yes e) = ap (λ (z : List ℕ). use_of H z x h) (sym (is_give H n mw l e)) ∙ use_give e x
          go (inr u) (no ne) = ap (λ (z : List ℕ). use_of H z x h) (sym (is_child H n mw l u ne)) ∙ use_child u ne x

  -- ---- annulling
  module _ (type : reqtype (row H l n) ≢ RELINQUISH) (before : status (row H l n) ≡ 13) (whole : equal (available H (row H l n)) (granted H (row H l n)) ≡ true) where
    abbrev g : ℕ
    g = megawatts H h (row H l n) granted_part

    back_top : reqtype (row H l n) ≤ 2 → (m : ℕ) → held_annulling H l n h m ≡ a m
    unfolding held_annulling
    back_top low m = ap (λ (b : Bool). pick (not b && eqb m p) (a m + g) (a m)) (original_type t o.type_least low)

    back_child : 3 ≤ reqtype (row H l n) → (m : ℕ) → held_annulling H l n h m ≡ pick (eqb m p) (a m + g) (a m)
    unfolding held_annulling
    back_child least m = ap (λ (b : Bool). pick (not b && eqb m p) (a m + g) (a m)) (derived_type t least)

    never : {A : Type 0} → confirmed_but H l n n ≡ true → A
    never e = let z : ◌≡◌ {A = Bool} false true = sym but_own ∙ e in let u : ◌≡◌ {A = ℕ} 0 1 = cc in absurd (omega (arith, u))

    use_annul_top : reqtype (row H l n) ≤ 2 → (x : ℕ) → use_of H (on_row H n (annulled_row H) l) x h ≡ use_annulling H l n x h
    unfolding use_annulling confirmed_but is_confirmed
    use_annul_top low x =
        let l' : List ℕ = on_row H n (annulled_row H) l in
        let C = annul_top_of o hlt none none nought nought type before whole low (record { out = λ k m. refl }) (record { red = λ m. refl }) in
        from_column H h l none nought (confirmed_but H l n) x (held_annulling H l n h)
        (use_column H h l' none nought x
        ∙ use_after C.keeps (confirmed_but H l n) (annulled_now (view H h l none nought) (view H h l' none nought) n (λ m ne. (C.rest m ne).st) C.after.0) (held_annulling H l n h)
        (by_one (λ m. confirmed_but H l n m ≡ true → megawatts H h (row H l' m) available_part ≡ held_annulling H l n h m) n never
        (λ m ne _. (C.rest m ne).a ∙ sym (back_top low m))) x)

    use_annul_child : 3 ≤ reqtype (row H l n) → (x : ℕ) → use_of H (on_row H n (annulled_row H) (returned_to H n l)) x h ≡ use_annulling H l n x h
    unfolding use_annulling confirmed_but is_confirmed
    use_annul_child least x =
        let l' : List ℕ = on_row H n (annulled_row H) (returned_to H n l) in
        let C = annul_child_of o hlt none drawn nought nought type before whole least (λ k m. refl) (record { red = λ m. refl }) in
        from_column H h l none nought (confirmed_but H l n) x (held_annulling H l n h)
        (use_column H h l' drawn nought x
        ∙ use_after C.keeps (confirmed_but H l n) (annulled_now (view H h l none nought) (view H h l' drawn nought) n (annul_child_statuses C) C.after.0) (held_annulling H l n h)
        (by_one (λ m. confirmed_but H l n m ≡ true → megawatts H h (row H l' m) available_part ≡ held_annulling H l n h m) n never
        (λ m mn. by_one (λ k. k ≢ n → confirmed_but H l n k ≡ true → megawatts H h (row H l' k) available_part ≡ held_annulling H l n h k) p
        (λ pn s. C.p_a (but_now p pn s) ∙ sym (back_child least p ∙ here p (a p + g) (a p)))
        (λ k kp kn _. (C.rest k kn kp).a ∙ sym (back_child least k ∙ there (a k + g) (a k) kp)) m mn)) x)
      where
        drawn : ℕ → ℕ → ℤ
        drawn k m = pos 0 +ℤ neg_ℤ (pos (share k (reqtype (row H l n)) (related (row H l n)) m (megawatts H h (row H l n) granted_part)))

    pub use_after_annul : (x : ℕ) → use_of H (annul H n l) x h ≡ use_annulling H l n x h
    use_after_annul x = go (lt_or_le (reqtype (row H l n)) 3)
      where
        go : (reqtype (row H l n) < 3) ⊎ (3 ≤ reqtype (row H l n)) → use_of H (annul H n l) x h ≡ use_annulling H l n x h
        go (inl u) = let low : reqtype (row H l n) ≤ 2 = omega (arith, u) in ap (λ (z : List ℕ). use_of H z x h) (sym (is_annul_top H n l o.type_least low)) ∙ use_annul_top low x
        go (inr u) = ap (λ (z : List ℕ). use_of H z x h) (sym (is_annul_child H n l u)) ∙ use_annul_child u x
