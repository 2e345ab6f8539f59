-- What each effect leaves of a formed ledger.
use mathlib.Core.Path.{◌≡◌, refl, sym, ap, ◌∙◌, subst}
use mathlib.Core.Logic.{◌≢◌, ◌⊎◌, ⊎_elim, inl, inr}
use mathlib.Core.Bool.{Bool, true, false, not}
use mathlib.Core.List.{List}
use Prim.Native.Nat.{ℕ, ◌+◌, ◌-◌, ◌≤◌, ◌<◌}
use native.Mathlib.Decide.{ℕ_discrete}
use native.Mathlib.Omega.{arith}
use borrow.Author.Tests.{eqb-true}
use lib.Dec.{eqb, lit<}
use lib.ListN.{length, get_or, length-set}
use lib.Seq.{get_or-set_same, get_or-set_other}
use Rattle.words.specs.Lists.{splice, zip2}
use Rattle.words.proofs.Laws.{lt_or_le, zip_length, part_length, splice_length, splice_before}
use Rattle.rules.specs.Pick.{pick}
use Rattle.rules.specs.Numbers.{head_words, row_words, profiles, requested_part, granted_part, available_part, displaced_part, reduced_part, RELINQUISH}
use Rattle.rules.specs.Layout.{rows, hours, used, set_used, row_size, row, on_row, reqtype, start, stop, related_row, hour_at, hours_of, span_hours, granted, available, set_hours, add_hours, less_hours, Sized}
use Rattle.rules.specs.Sound.{original}
use Rattle.rules.specs.Moves.{is_confirmed}
use Rattle.rules.specs.Megawatts.{grant, take_from, returns_to, give_back, displaced_row, displace, annulled_row, annul, reduced_row, reduce}
use Rattle.rules.specs.Confirming.{held, emptied, confirm_original, confirm_derived, confirm_relinquish, confirm}
use Rattle.rules.specs.Checks.{profile}
use Rattle.rules.specs.Submit.{new_words, new_row, submit_after}
use Rattle.rules.specs.declared.Action.{Action}
use Rattle.rules.proofs.Types.{original_range, derived_least}
use Rattle.rules.proofs.Spans.{Spanned, span_length}
use Rattle.rules.proofs.Rows.{row_length, row_least, on_sized, on_own, on_other, on_head, head_row}
use Rattle.rules.proofs.Seen.{Room, at, at_own, at_other, hour_in, seen_self, seen_hours, set_length, less_length, add_length, clear_length}
use Rattle.rules.proofs.Writes.{megawatts, returns_profile}
use Rattle.rules.proofs.Turned.{Turned, turned}
use Rattle.rules.proofs.Formed.{Formed, formed_sized}
use Rattle.rules.proofs.Leaves.{Kin, Leaves}

-- ---- words v stored in profile p from hour s on, and read at hour h of profile q
pub record Put (p q s h : ℕ) (v : List ℕ) (x : ℕ) : Type 0 where
  pub own : q ≡ p
  pub least : s ≤ h
  pub below : h < s + length v
  pub is : x ≡ get_or v (h - s) 0

module _ {H s : ℕ} {v r : List ℕ} (m : Room H s v r) {p : ℕ} (plt : p < profiles) where
  pub room_in : hour_at H p s + length v ≤ length r
  room_in = omega (arith, hour_in H plt, m.long, m.fits)

  pub written_field : (k : ℕ) → k < row_words → get_or (set_hours H p s v r) k 0 ≡ get_or r k 0
  unfolding set_hours
  written_field k lt = splice_before r (hour_at H p s) v room_in k (omega arith)

  pub zipped : (f : ℕ → ℕ → ℕ) → length (zip2 f (hours_of H p s (length v) r) v) ≡ length v
  zipped f = zip_length f _ _ ∙ part_length r (hour_at H p s) (length v) room_in

  module _ (q h : ℕ) (qlt : q < profiles) (hlt : h < H) where
    off : (h < s) ⊎ (s + length v ≤ h) → get_or (set_hours H p s v r) (hour_at H q h) 0 ≡ get_or r (hour_at H q h) 0
    off w =
        (seen_hours (seen_self H h r m.long) hlt p s v plt m.fits (megawatts H h r p) (λ z. refl)
        (λ k e lt. ⊎_elim (λ u. absurd (omega arith)) (λ u. absurd (omega arith)) w)
        ).hour q qlt
        ∙ same (ℕ_discrete q p)
      where
        same : Dec (q ≡ p) → at (megawatts H h r) p (megawatts H h r p) q ≡ megawatts H h r q
        same (yes e) = at_own (megawatts H h r) p (megawatts H h r p) e ∙ ap (megawatts H h r) (sym e)
        same (no n) = at_other (megawatts H h r) p (megawatts H h r p) n

    on : s ≤ h → h < s + length v → (get_or (set_hours H p s v r) (hour_at H q h) 0 ≡ get_or r (hour_at H q h) 0) ⊎ Put p q s h v (get_or (set_hours H p s v r) (hour_at H q h) 0)
    on a b = by (ℕ_discrete q p)
      where
        is : get_or (set_hours H p s v r) (hour_at H q h) 0 ≡ at (megawatts H h r) p (get_or v (h - s) 0) q
        is =
            (seen_hours (seen_self H h r m.long) hlt p s v plt m.fits (get_or v (h - s) 0)
            (λ z. ⊎_elim (λ u. absurd (omega arith)) (λ u. absurd (omega arith)) z)
            (λ k e lt. let d : h - s ≡ k = omega arith in ap (λ (j : ℕ). get_or v j 0) d)
            ).hour q qlt

        by : Dec (q ≡ p) → (get_or (set_hours H p s v r) (hour_at H q h) 0 ≡ get_or r (hour_at H q h) 0) ⊎ Put p q s h v (get_or (set_hours H p s v r) (hour_at H q h) 0)
        by (yes e) = inr (record { own = e; least = a; below = b; is = is ∙ at_own (megawatts H h r) p (get_or v (h - s) 0) e })
        by (no n) = inl (is ∙ at_other (megawatts H h r) p (get_or v (h - s) 0) n)

    pub written : (get_or (set_hours H p s v r) (hour_at H q h) 0 ≡ get_or r (hour_at H q h) 0) ⊎ Put p q s h v (get_or (set_hours H p s v r) (hour_at H q h) 0)
    written =
        ⊎_elim
        (λ a. inl (off (inl a)))
        (λ a. ⊎_elim (λ b. on a b) (λ b. inl (off (inr b))) (lt_or_le h (s + length v)))
        (lt_or_le h s)

-- ---- a row that changes in hours of available or displaced inside its span
pub kin_self : (H : ℕ) (r : List ℕ) → length r ≡ row_size H → Kin H r r
kin_self H r e = record { long = e; field = λ k lt. refl; hour = λ p h plt hlt. refl; outside = λ p h plt hlt w. refl }

pub kin_trans : {H : ℕ} {r q t : List ℕ} → Kin H r q → Kin H q t → Kin H r t
kin_trans {H} {r} {q} {t} a b = record {
  long = b.long;
  field = λ k lt. b.field k lt ∙ a.field k lt;
  hour = λ p h plt hlt. b.hour p h plt hlt ∙ a.hour p h plt hlt;
  outside = λ p h plt hlt w. b.outside p h plt hlt (moved h w) ∙ a.outside p h plt hlt w;
}
  where
    moved : (h : ℕ) → (h < start r) ⊎ (stop r ≤ h) → (h < start q) ⊎ (stop q ≤ h)
    moved h w = ⊎_elim (λ u. inl (omega (arith, a.field 5 (lit< tt)))) (λ u. inr (omega (arith, a.field 6 (lit< tt)))) w

pub kin_hours : {H s : ℕ} {v r : List ℕ} → Room H s v r → {p : ℕ} → p < profiles → available_part ≤ p → start r ≤ s → s + length v ≤ stop r → Kin H r (set_hours H p s v r)
kin_hours {H} {s} {v} {r} m {p} plt least a b = record {
  long = set_length m plt;
  field = written_field m plt;
  hour = λ q h qlt hlt. ⊎_elim (λ e. e) (λ w. absurd (omega arith)) (written m plt q h (omega arith) hlt);
  outside = λ q h qlt hlt z.
      ⊎_elim (λ e. e) (λ w. ⊎_elim (λ u. absurd (omega arith)) (λ u. absurd (omega arith)) z) (written m plt q h qlt hlt);
}

-- hours mw of a row, inside its span
pub record Inside (H s : ℕ) (mw r : List ℕ) : Type 0 where
  pub long : length r ≡ row_size H
  pub starts : start r ≤ s
  pub stops : s + length mw ≤ stop r
  pub fits : stop r ≤ H

pub inside_room : {H s : ℕ} {mw r : List ℕ} → Inside H s mw r → Room H s mw r
inside_room i = record { long = i.long; fits = omega arith }

-- the row that became q holds them too
pub inside_kin : {H s : ℕ} {mw r q : List ℕ} → Inside H s mw r → Kin H r q → Inside H s mw q
inside_kin i k = record {
  long = k.long;
  starts = omega (arith, k.field 5 (lit< tt));
  stops = omega (arith, k.field 6 (lit< tt));
  fits = omega (arith, k.field 6 (lit< tt));
}

pub returns_least : (r : List ℕ) → available_part ≤ returns_to r
unfolding returns_to
returns_least r = go (is_confirmed r)
  where
    go : (b : Bool) → available_part ≤ pick b available_part displaced_part
    go true = omega arith
    go false = omega arith

module _ {H s : ℕ} {mw r : List ℕ} (i : Inside H s mw r) where
  kin_zipped : (p : ℕ) → p < profiles → available_part ≤ p → (f : ℕ → ℕ → ℕ) → Kin H r (set_hours H p s (zip2 f (hours_of H p s (length mw) r) mw) r)
  kin_zipped p plt least f =
      let e : length (zip2 f (hours_of H p s (length mw) r) mw) ≡ length mw = zipped (inside_room i) plt f in
      kin_hours (record { long = i.long; fits = omega arith }) plt least i.starts (omega arith)

  pub kin_taken : Kin H r (take_from H s mw r)
  unfolding take_from less_hours
  kin_taken = kin_zipped available_part (lit< tt) (omega arith) ◌-◌

  pub kin_given : Kin H r (give_back H s mw r)
  unfolding give_back add_hours
  kin_given = kin_zipped (returns_to r) (returns_profile r) (returns_least r) ◌+◌

  kin_added : Kin H r (add_hours H reduced_part s mw r)
  unfolding add_hours
  kin_added = kin_zipped reduced_part (lit< tt) (omega arith) ◌+◌

pub kin_reduced : {H s : ℕ} {mw r : List ℕ} → Inside H s mw r → Kin H r (reduced_row H s mw r)
unfolding reduced_row
kin_reduced i = kin_trans (kin_taken i) (kin_added (inside_kin i (kin_taken i)))

-- ---- a ledger whose rows became kin, and row n not
pub record Spared (R H : ℕ) (l l' : List ℕ) (n : ℕ) : Type 0 where
  pub sized : Sized l' R H
  pub same : row H l' n ≡ row H l n
  pub kin : (m : ℕ) → m < R → Kin H (row H l m) (row H l' m)
  pub past : (m : ℕ) → R ≤ m → row H l' m ≡ row H l m
  pub head : (i : ℕ) → i < head_words → get_or l' i 0 ≡ get_or l i 0

pub spared_self : {R H : ℕ} {l : List ℕ} {n : ℕ} → Sized l R H → Spared R H l l n
spared_self {R} {H} {l} {n} s = record {
  sized = s;
  same = refl;
  kin = λ m lt. kin_self H (row H l m) (row_length s lt);
  past = λ m le. refl;
  head = λ i lt. refl;
}

-- another row, p, becomes kin
pub spared_on : {R H : ℕ} {l l' : List ℕ} {n : ℕ} → Spared R H l l' n → (p : ℕ) → p < R → p ≢ n → (f : List ℕ → List ℕ) → Kin H (row H l' p) (f (row H l' p)) → Spared R H l (on_row H p f l') n
spared_on {R} {H} {l} {l'} {n} s p lt ne f k = record {
  sized = on_sized s.sized lt f k.long;
  same = on_other s.sized lt f k.long (λ e. ne (sym e)) ∙ s.same;
  kin = λ m mlt. one m mlt (ℕ_discrete m p);
  past = λ m le. on_other s.sized lt f k.long (λ e. omega arith) ∙ s.past m le;
  head = λ i ilt. on_head s.sized lt f k.long i ilt ∙ s.head i ilt;
}
  where
    one : (m : ℕ) → m < R → Dec (m ≡ p) → Kin H (row H l m) (row H (on_row H p f l') m)
    one m mlt (yes e) =
        let own : row H (on_row H p f l') m ≡ f (row H l' p) = ap (row H (on_row H p f l')) e ∙ on_own s.sized lt f k.long in
        kin_trans (s.kin m mlt) (subst (λ (i : ℕ). Kin H (row H l' i) (row H (on_row H p f l') m)) (sym e) (subst (λ (q : List ℕ). Kin H (row H l' p) q) (sym own) k))
    one m mlt (no ne) = subst (λ (q : List ℕ). Kin H (row H l m) q) (sym (on_other s.sized lt f k.long ne)) (s.kin m mlt)

-- then row n is written
pub leaves_on : {R H : ℕ} {l l' : List ℕ} {n : ℕ} → Spared R H l l' n → n < R → (f : List ℕ → List ℕ) → length (f (row H l n)) ≡ row_size H → Leaves R H l (on_row H n f l') n (f (row H l n))
leaves_on {R} {H} {l} {l'} {n} s lt f e = record {
  sized = on_sized s.sized lt f e';
  own = on_own s.sized lt f e' ∙ ap f s.same;
  kin = λ m ne mlt. subst (λ (q : List ℕ). Kin H (row H l m) q) (sym (on_other s.sized lt f e' ne)) (s.kin m mlt);
  past = λ m le. on_other s.sized lt f e' (λ q. omega arith) ∙ s.past m le;
  head = λ i ilt. on_head s.sized lt f e' i ilt ∙ s.head i ilt;
}
  where
    e' : length (f (row H l' n)) ≡ row_size H
    e' = ap (λ (q : List ℕ). length (f q)) s.same ∙ e

-- two effects on row n, one after the other
pub leaves_trans : {R H : ℕ} {l l' l'' : List ℕ} {n : ℕ} {r q : List ℕ} → Leaves R H l l' n r → Leaves R H l' l'' n q → Leaves R H l l'' n q
leaves_trans {R} {H} {l} {l'} {l''} {n} {r} {q} a b = record {
  sized = b.sized;
  own = b.own;
  kin = λ m ne lt. kin_trans (a.kin m ne lt) (b.kin m ne lt);
  past = λ m le. b.past m le ∙ a.past m le;
  head = λ i lt. b.head i lt ∙ a.head i lt;
}

-- ---- every row function keeps a row's length
module _ {H s : ℕ} {mw r : List ℕ} (m : Room H s mw r) where
  pub grant_length : length (grant H s mw r) ≡ row_size H
  unfolding grant
  grant_length = simp length-set (set_length m {p = granted_part} (lit< tt))

  pub taken_length : length (take_from H s mw r) ≡ row_size H
  unfolding take_from
  taken_length = less_length m {p = available_part} (lit< tt)

  pub reduced_length : length (reduced_row H s mw r) ≡ row_size H
  unfolding reduced_row
  reduced_length = add_length (record { long = taken_length; fits = m.fits }) {p = reduced_part} (lit< tt)

module _ {H s : ℕ} {mw r : List ℕ} (m : Room H s mw r) where
  pub held_length : length (held H s mw r) ≡ row_size H
  unfolding held
  held_length = simp length-set (grant_length (record { long = set_length m {p = available_part} (lit< tt); fits = m.fits }))

  pub emptied_length : length (emptied H s mw r) ≡ row_size H
  unfolding emptied
  emptied_length = simp length-set (grant_length (record { long = clear_length H s (length mw) r m.long m.fits {p = available_part} (lit< tt); fits = m.fits }))

-- a row whose span lies in the hours
module _ {H : ℕ} {r : List ℕ} (s : Spanned H r) where
  pub displaced_length : length (displaced_row H r) ≡ row_size H
  unfolding displaced_row
  displaced_length =
      let e : length (available H r) ≡ span_hours r = span_length s available_part (lit< tt) in
      simp length-set
      (clear_length H (start r) (span_hours r) (add_hours H displaced_part (start r) (available H r) r)
      (add_length (record { long = s.long; fits = omega arith }) {p = displaced_part} (lit< tt)) (omega arith) {p = available_part} (lit< tt))

  pub annulled_length : length (annulled_row H r) ≡ row_size H
  unfolding annulled_row
  annulled_length = simp length-set (clear_length H (start r) (span_hours r) r s.long (omega arith) {p = available_part} (lit< tt))

-- ---- rows of a formed ledger
module _ {l : List ℕ} (F : Formed l) {n : ℕ} (lt : n < used l) where
  pub used_row : n < rows l
  used_row = omega (arith, F.head.used)

  pub row_spanned : Spanned (hours l) (row (hours l) l n)
  row_spanned = record { long = row_length (formed_sized F) used_row; starts = omega (arith, (F.words n lt).starts); stops = (F.words n lt).stops }

  -- words of the span's length stand inside it
  pub inside_own : (mw : List ℕ) → length mw ≡ span_hours (row (hours l) l n) → Inside (hours l) (start (row (hours l) l n)) mw (row (hours l) l n)
  inside_own mw e = record { long = row_spanned.long; starts = omega arith; stops = omega (arith, row_spanned.starts); fits = row_spanned.stops }

  module _ (t : 3 ≤ reqtype (row (hours l) l n)) where
    pub above_before : related_row (hours l) l n < n
    unfolding related_row
    above_before = omega (arith, ((F.relations n lt).up t).0, ((F.relations n lt).up t).1)

    pub above_used : related_row (hours l) l n < used l
    above_used = omega (arith, above_before)

module _ {l : List ℕ} (F : Formed l) {n : ℕ} (lt : n < used l) where
  -- the row above holds what row n holds
  pub inside_above : (t : 3 ≤ reqtype (row (hours l) l n)) {s : ℕ} {mw : List ℕ} → Inside (hours l) s mw (row (hours l) l n) → Inside (hours l) s mw (row (hours l) l (related_row (hours l) l n))
  inside_above t i = record {
    long = (row_spanned F (above_used F lt t)).long;
    starts = omega (arith, i.starts, ((F.relations n lt).span t).0);
    stops = omega (arith, i.stops, ((F.relations n lt).span t).1);
    fits = (row_spanned F (above_used F lt t)).stops;
  }

  -- ---- the effects
  pub own_leaves : (f : List ℕ → List ℕ) → length (f (row (hours l) l n)) ≡ row_size (hours l) → Leaves (rows l) (hours l) l (on_row (hours l) n f l) n (f (row (hours l) l n))
  own_leaves f e = leaves_on (spared_self (formed_sized F)) (used_row F lt) f e

  pub displace_leaves : Leaves (rows l) (hours l) l (displace (hours l) n l) n (displaced_row (hours l) (row (hours l) l n))
  unfolding displace
  displace_leaves = own_leaves (displaced_row (hours l)) (displaced_length (row_spanned F lt))

  module _ (mw : List ℕ) (e : length mw ≡ span_hours (row (hours l) l n)) where
    room : Room (hours l) (start (row (hours l) l n)) mw (row (hours l) l n)
    room = inside_room (inside_own F lt mw e)

    pub reduce_leaves : Leaves (rows l) (hours l) l (reduce (hours l) n mw l) n (reduced_row (hours l) (start (row (hours l) l n)) mw (row (hours l) l n))
    unfolding reduce
    reduce_leaves = own_leaves (reduced_row (hours l) (start (row (hours l) l n)) mw) (reduced_length room)

    pub original_leaves : Leaves (rows l) (hours l) l (confirm_original (hours l) n mw l) n (held (hours l) (start (row (hours l) l n)) mw (row (hours l) l n))
    unfolding confirm_original
    original_leaves = own_leaves (held (hours l) (start (row (hours l) l n)) mw) (held_length room)

    module _ (t : 3 ≤ reqtype (row (hours l) l n)) where
      -- the related row's available is taken
      taken : Spared (rows l) (hours l) l (on_row (hours l) (related_row (hours l) l n) (take_from (hours l) (start (row (hours l) l n)) mw) l) n
      taken =
          spared_on (spared_self (formed_sized F)) (related_row (hours l) l n) (used_row F (above_used F lt t)) (λ q. omega (arith, q, above_before F lt t))
          (take_from (hours l) (start (row (hours l) l n)) mw) (kin_taken (inside_above t (inside_own F lt mw e)))

      pub derived_leaves : Leaves (rows l) (hours l) l (confirm_derived (hours l) n mw l) n (held (hours l) (start (row (hours l) l n)) mw (row (hours l) l n))
      unfolding confirm_derived
      derived_leaves = leaves_on taken (used_row F lt) (held (hours l) (start (row (hours l) l n)) mw) (held_length room)

-- a relinquish record: the redirect above it, and the row above that
module _ {l : List ℕ} (F : Formed l) {n : ℕ} (lt : n < used l) (q : reqtype (row (hours l) l n) ≡ RELINQUISH) where
  pub relinquish_type : 3 ≤ reqtype (row (hours l) l n)
  relinquish_type = omega (arith, q)

  pub redirect_type : 3 ≤ reqtype (row (hours l) l (related_row (hours l) l n))
  redirect_type = omega (arith, (F.relations n lt).redirect q)

  pub redirect_used : related_row (hours l) l n < used l
  redirect_used = above_used F lt relinquish_type

  pub grand_before : related_row (hours l) l (related_row (hours l) l n) < n
  grand_before = omega (arith, above_before F lt relinquish_type, above_before F redirect_used redirect_type)

  pub grand_used : related_row (hours l) l (related_row (hours l) l n) < used l
  grand_used = omega (arith, grand_before)

  pub relinquish_leaves : (mw : List ℕ) → length mw ≡ span_hours (row (hours l) l n) → Leaves (rows l) (hours l) l (confirm_relinquish (hours l) n mw l) n (emptied (hours l) (start (row (hours l) l n)) mw (row (hours l) l n))
  unfolding confirm_relinquish
  relinquish_leaves mw e =
      let s = start (row (hours l) l n) in
      let own = inside_own F lt mw e in
      let first = taken F lt mw e relinquish_type in
      let grand = inside_above F redirect_used redirect_type (inside_above F lt relinquish_type own) in
      let second =
      spared_on first (related_row (hours l) l (related_row (hours l) l n)) (used_row F grand_used) (λ e. omega (arith, e, grand_before))
      (give_back (hours l) s mw) (kin_given (inside_kin grand (first.kin _ (used_row F grand_used)))) in
      leaves_on second (used_row F lt) (emptied (hours l) s mw) (emptied_length (inside_room own))

module _ {l : List ℕ} (F : Formed l) {n : ℕ} (lt : n < used l) where
  pub confirm_leaves : (mw : List ℕ) → length mw ≡ span_hours (row (hours l) l n)
      → Leaves (rows l) (hours l) l (confirm (hours l) n mw l) n (pick (eqb (reqtype (row (hours l) l n)) RELINQUISH) (emptied (hours l) (start (row (hours l) l n)) mw (row (hours l) l n)) (held (hours l) (start (row (hours l) l n)) mw (row (hours l) l n)))
  unfolding confirm
  confirm_leaves mw e = by (original (reqtype (row (hours l) l n))) (eqb (reqtype (row (hours l) l n)) RELINQUISH) refl refl
    where
      by : (b c : Bool) → original (reqtype (row (hours l) l n)) ≡ b → eqb (reqtype (row (hours l) l n)) RELINQUISH ≡ c
          → Leaves (rows l) (hours l) l (pick b (confirm_original (hours l) n mw l) (pick c (confirm_relinquish (hours l) n mw l) (confirm_derived (hours l) n mw l))) n (pick c (emptied (hours l) (start (row (hours l) l n)) mw (row (hours l) l n)) (held (hours l) (start (row (hours l) l n)) mw (row (hours l) l n)))
      by true true p q = absurd (omega (arith, original_range (reqtype (row (hours l) l n)) p, eqb-true (reqtype (row (hours l) l n)) RELINQUISH q))
      by true false p q = original_leaves F lt mw e
      by false true p q = relinquish_leaves F lt (eqb-true (reqtype (row (hours l) l n)) RELINQUISH q) mw e
      by false false p q = derived_leaves F lt mw e (derived_least (reqtype (row (hours l) l n)) (F.words n lt).type_least p)

  pub annul_leaves : Leaves (rows l) (hours l) l (annul (hours l) n l) n (annulled_row (hours l) (row (hours l) l n))
  unfolding annul
  annul_leaves = by (original (reqtype (row (hours l) l n))) refl
    where
      by : (b : Bool) → original (reqtype (row (hours l) l n)) ≡ b
          → Leaves (rows l) (hours l) l (on_row (hours l) n (annulled_row (hours l)) (pick (not b) (on_row (hours l) (related_row (hours l) l n) (give_back (hours l) (start (row (hours l) l n)) (granted (hours l) (row (hours l) l n))) l) l)) n (annulled_row (hours l) (row (hours l) l n))
      by true p = own_leaves F lt (annulled_row (hours l)) (annulled_length (row_spanned F lt))
      by false p =
          let t = derived_least (reqtype (row (hours l) l n)) (F.words n lt).type_least p in
          let own = inside_own F lt (granted (hours l) (row (hours l) l n)) (span_length (row_spanned F lt) granted_part (lit< tt)) in
          leaves_on
          (spared_on (spared_self (formed_sized F)) (related_row (hours l) l n) (used_row F (above_used F lt t)) (λ q. omega (arith, q, above_before F lt t))
          (give_back (hours l) (start (row (hours l) l n)) (granted (hours l) (row (hours l) l n))) (kin_given (inside_above F lt t own)))
          (used_row F lt) (annulled_row (hours l)) (annulled_length (row_spanned F lt))

-- ---- a submission
-- l' is l with one more row used, which is r
pub record Opens (R H : ℕ) (l l' : List ℕ) (r : List ℕ) : Type 0 where
  pub sized : Sized l' R H
  pub own : row H l' (used l) ≡ r
  pub other : (m : ℕ) → m ≢ used l → row H l' m ≡ row H l m
  pub head : (i : ℕ) → i < head_words → i ≢ 6 → get_or l' i 0 ≡ get_or l i 0
  pub more : used l' ≡ used l + 1

pub new_words_length : (a : Action) → length (new_words a) ≡ 12
unfolding new_words
new_words_length a = refl

module _ (H : ℕ) (r : List ℕ) (w : List ℕ) (a : Action) (long : length r ≡ row_size H) where
  pub splice_new : length (splice r 0 (new_words a)) ≡ row_size H
  splice_new = splice_length r 0 (new_words a) (omega (arith, new_words_length a)) ∙ long

  pub new_length : a.start + length (profile w a) ≤ H → length (new_row H w a r) ≡ row_size H
  unfolding new_row
  new_length fits = set_length (record { long = splice_new; fits = fits }) {p = requested_part} (lit< tt)

-- row n = rows used is written, and counted
opens_counted : {R H : ℕ} {l l' : List ℕ} {r : List ℕ} → Turned R H l l' (used l) r → Opens R H l (set_used (used l + 1) l') r
opens_counted {R} {H} {l} {l'} {r} t = record {
  sized = record { long = length-set l' 6 (used l + 1) ∙ t.sized.long; rows = t.sized.rows; hours = t.sized.hours };
  own = head_row H l' 6 (used l + 1) (used l) (lit< tt) ∙ t.own;
  other = λ m ne. head_row H l' 6 (used l + 1) m (lit< tt) ∙ t.other m ne;
  head = λ i lt ne. get_or-set_other l' 6 i (used l + 1) 0 ne ∙ t.head i lt;
  more = get_or-set_same l' 6 (used l + 1) 0 (omega (arith, t.sized.long, row_least H R));
}

pub submit_leaves : {l : List ℕ} → Formed l → used l < rows l → (w : List ℕ) (a : Action) → a.start + length (profile w a) ≤ hours l
    → Opens (rows l) (hours l) l (submit_after (hours l) l w a) (new_row (hours l) w a (row (hours l) l (used l)))
unfolding submit_after
submit_leaves {l} F lt w a fits =
    let s = formed_sized F in
    opens_counted (turned s lt (new_row (hours l) w a) refl (new_length (hours l) (row (hours l) l (used l)) w a (row_length s lt) fits))
