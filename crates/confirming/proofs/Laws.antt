-- The checks of confirming where they pass, and what its writes leave of a row.
use mathlib.Core.Path.{◌≡◌, ap, ◌∙◌}
use mathlib.Core.Logic.{◌≢◌}
use mathlib.Core.Bool.{true, false, not}
use mathlib.Core.List.{List}
use Prim.Native.Nat.{ℕ, ◌+◌, ◌<◌, ◌≤◌}
use native.Mathlib.Omega.{arith}
use lib.Dec.{lit<}
use lib.ListN.{length, get_or, set}
use lib.Seq.{set-get_or}
use borrow.Author.Tests.{not-false, eq-eqb}
use Rattle.words.specs.Lists.{covered, noughts, part, splice}
use Rattle.words.proofs.Laws.{noughts_length, part_length, splice_own, splice_before}
use Rattle.rules.specs.Numbers.{row_words, profiles, requested_part, granted_part, available_part, granted_given, most_flags, RELINQUISH}
use Rattle.rules.specs.Layout.{row_size, row, on_row, reqtype, start, flags, flagged, has, related_row, span_hours, span, hour_at, hours_of, set_hours, clear_hours, Sized}
use Rattle.rules.specs.Megawatts.{grant, in_force, take_from, give_back}
use Rattle.rules.specs.Confirming.{short, drawn_from}
use Rattle.rules.proofs.Types.{derived_type}
use Rattle.rules.proofs.Seen.{Room, hour_in}
use Rattle.rules.proofs.SoundFacts.{SoundWords}
use Rattle.rules.proofs.Over.{full, over_confirming}
use Rattle.layout.specs.Places.{HoursAt}
use Rattle.layout.specs.Placed.{Placed}
use Rattle.layout.proofs.Lent.{row_lent, row_back}
use Rattle.layout.proofs.Placed.{sized, in_rows, own_words, type_three, span_fits, related_before, related_placed, related_in, redirect_three}
use Rattle.megawatts.proofs.Laws.{and_rest, after_take, after_give}

-- ---- writes of hours leave the sixteen words
module _ {H s : ℕ} {v r : List ℕ} (m : Room H s v r) (q : ℕ) (lt : q < profiles) where
  pub set_word : (k : ℕ) → k < row_words → get_or (set_hours H q s v r) k 0 ≡ get_or r k 0
  unfolding set_hours
  set_word k klt = splice_before r (hour_at H q s) v (omega (arith, hour_in H lt, m.long, m.fits)) k (omega (arith, klt))

pub clear_word : (H s n : ℕ) (r : List ℕ) → length r ≡ row_size H → s + n ≤ H → (q : ℕ) → q < profiles → (k : ℕ) → k < row_words → get_or (clear_hours H q s n r) k 0 ≡ get_or r k 0
unfolding clear_hours set_hours
clear_word H s n r long fits q lt k klt = splice_before r (hour_at H q s) (noughts n) (omega (arith, noughts_length n, hour_in H lt, long, fits)) k (omega (arith, klt))

-- ---- granted becomes the profile in force of row r, which is sound
module _ {H : ℕ} {r : List ℕ} (long : length r ≡ row_size H) (w : SoundWords H r) where
  -- it was given: it stands
  pub already_granted : has granted_given r ≡ true → r ≡ grant H (start r) (in_force H r) r
  unfolding grant in_force set_hours span flagged
  already_granted f =
      let fits : hour_at H granted_part (start r) + span_hours r ≤ length r = omega (arith, long, hour_in H {p = granted_part} (lit< tt), w.starts, w.stops) in
      simp (f, splice_own r (hour_at H granted_part (start r)) (span_hours r) fits, set-get_or r 7 0)

  -- it was not: requested is copied
  pub copied_granted : {to from : ℕ} {r' : List ℕ} {v : ℕ} → HoursAt H granted_part (start r) (span_hours r) to → HoursAt H requested_part (start r) (span_hours r) from
      → r' ≡ splice r to (part r from (span_hours r)) → has granted_given r ≡ false → v ≡ flagged granted_given (flags r')
      → set r' 7 v ≡ grant H (start r) (in_force H r) r
  unfolding grant in_force set_hours span
  copied_granted at bt copied f e = simp (f, e, copied, at.is, bt.is)

  pub copied_word : {s t count to from : ℕ} → HoursAt H granted_part s count to → HoursAt H requested_part t count from
      → (k : ℕ) → k < row_words → get_or (splice r to (part r from count)) k 0 ≡ get_or r k 0
  copied_word {s} {t} {count} {to} {from} at bt k lt =
      let e : length (part r from count) ≡ count = part_length r from count (omega (arith, bt.fits, long)) in
      splice_before r to (part r from count) (omega (arith, e, at.fits, long)) k (omega (arith, at.is, lt))

-- ---- the checks of confirming where they pass
module _ {l : List ℕ} {R H n : ℕ} (p : Placed l R H n) (mw : List ℕ) where
  pub not_short : 3 ≤ reqtype (row H l n) → short H l n mw ≡ false → covered mw (hours_of H available_part (start (row H l n)) (length mw) (row H l (related_row H l n))) ≡ true
  unfolding short drawn_from
  not_short t e = not-false _ (and_rest _ _ (ap not (derived_type _ t)) e)

-- a relinquish record: the redirect a that it is related to, and the row b above that
module _ {l : List ℕ} {R H n a b : ℕ} (p : Placed l R H n) (t : reqtype (row H l n) ≡ RELINQUISH) (ea : a ≡ related_row H l n) (eb : b ≡ related_row H l a) where
  redirect_before : a < n
  redirect_before = omega (arith, ea, related_before p (omega (arith, t)))

  pub redirect_in : a < R
  redirect_in = omega (arith, redirect_before, in_rows p)

  above_before : b < a
  above_before =
      omega (arith, ea, eb ∙ ap (λ (x : ℕ). related_row H l x) ea, related_before (related_placed p (omega (arith, t))) (redirect_three p t))

  pub above_in : b < R
  above_in = omega (arith, above_before, redirect_in)

  -- mw is taken from the redirect, which leaves l'; then given back to the row above, which leaves l''
  module _ {s : ℕ} (mw : List ℕ) (es : s ≡ start (row H l n)) (long : length mw ≡ span_hours (row H l n)) {l' : List ℕ} (taken : l' ≡ on_row H a (take_from H s mw) l) where
    fits : s + length mw ≤ H
    fits = omega (arith, es, span_fits p mw long)

    pub not_full : over_confirming H l n mw ≡ false → full H s mw (row H l' b) ≡ false
    unfolding over_confirming
    not_full e =
        let apart : b ≢ a = λ z. omega (arith, above_before, z) in
        let f = and_rest _ _ (eq-eqb _ _ t) e in
        cc (f, after_take s mw (sized p) redirect_in fits apart taken)

    pub still_flags : {l'' : List ℕ} → length l' ≡ length l → l'' ≡ on_row H b (give_back H s mw) l' → flags (row H l'' n) ≤ most_flags
    still_flags {l''} kept given =
        let z = sized p in
        let z' : Sized l' R H = record { long = kept ∙ z.long; rows = z.rows; hours = z.hours } in
        let apart : n ≢ a = λ e. omega (arith, redirect_before, e) in
        let apart' : n ≢ b = λ e. omega (arith, redirect_before, above_before, e) in
        omega (
          arith,
          ap flags (after_give s mw z' above_in fits apart' given),
          ap flags (after_take s mw z redirect_in fits apart taken),
          (own_words p).flags,
        )

-- for the rows that a row in use is related to
pub ruleset related = (derived_type, redirect_three)

-- for the writes of types 3 to 7, and of type 8
pub ruleset derived = (type_three, related_in, span_fits, not_short, related_before, after_take, own_words)

pub ruleset relinquished = (derived_type, not_short, span_fits, redirect_in, above_in, not_full, still_flags)

-- for a row that is lent, and comes back
pub ruleset lent = (row_lent, row_back)

-- for the writing of granted
pub ruleset granted = (already_granted, copied_granted)
