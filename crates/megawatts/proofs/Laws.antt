-- Hours that are lent from the ledger, and the checks of what moves megawatts where they pass.
use mathlib.Core.Path.{◌≡◌, refl, sym, ap, subst, ◌∙◌}
use mathlib.Core.Logic.{◌≢◌, ⊎_elim, inl, inr}
use mathlib.Core.Bool.{Bool, true, false, ◌&&◌, not}
use mathlib.Core.List.{List}
use Prim.Native.Nat.{ℕ, ◌+◌, ◌-◌, ◌<◌, ◌≤◌}
use native.Mathlib.Omega.{arith}
use lib.Dec.{leb, lit<}
use lib.ListN.{length, get_or, take, drop}
use borrow.Author.Tests.{not-false, le-leb}
use Rattle.words.specs.Lists.{part, splice, zip2, covered, roomy, most_word, Apart}
use Rattle.words.proofs.Laws.{lt_or_le, lent, part_length, all_below_lem, roomy_at, zip_length}
use Rattle.rules.specs.Numbers.{row_words, profiles, most_megawatts, available_part, displaced_part, reduced_part, granted_part}
use Rattle.rules.specs.Layout.{row_base, row_size, row, on_row, reqtype, start, stop, related_row, hour_at, hours_of, span_hours, span, granted, available, displaced, reduced, set_hours, add_hours, less_hours, Sized}
use Rattle.rules.specs.Sound.{original}
use Rattle.rules.specs.Megawatts.{take_from, returns_to, give_back}
use Rattle.rules.proofs.Rows.{row_length, row_part, row_apart, on_other, on_splice}
use Rattle.rules.proofs.Seen.{Room, hour_in, less_length, add_length}
use Rattle.rules.proofs.Spans.{Spanned, span_hours_lem, less_word, less_other}
use Rattle.rules.proofs.Writes.{returns_profile}
use Rattle.rules.proofs.Over.{full, over_annulling, over_displacing, over_reducing}
use Rattle.layout.specs.Places.{HoursAt}
use Rattle.layout.specs.Placed.{Placed}
use Rattle.layout.proofs.Placed.{sized, in_rows, own_words, span_fits, span_length}
use Rattle.megawatts.specs.Places.{HoursIn}

-- ---- tests
-- a test that holds in a conjunction leaves the other
pub and_rest : (a b : Bool) → a ≡ true → (a && b) ≡ false → b ≡ false
and_rest a b h e = sym (ap (λ (x : Bool). x && b) h) ∙ e

-- hours of a profile that are lent from the ledger
module _ {l : List ℕ} {R H n q s count a : ℕ} (z : Sized l R H) (lt : n < R) (qlt : q < profiles) (fits : s + count ≤ H) (at : HoursIn l H n q s count a) where
  pub hours_there : part l (row_base H n + hour_at H q s) count ≡ hours_of H q s count (row H l n)
  hours_there = row_part z lt (hour_at H q s) count (omega (arith, hour_in H qlt, fits))

  pub hours_are : part l a count ≡ hours_of H q s count (row H l n)
  hours_are = ap (λ (x : ℕ). part l x count) at.is ∙ hours_there

  pub hours_lent : take (a + count - a) (drop a l) ≡ hours_of H q s count (row H l n)
  hours_lent = lent l a (row_base H n + hour_at H q s) count at.is at.fits ∙ hours_there

-- the profile, as it is or as it was found
pub hours_as : {l : List ℕ} {H n q p s count a : ℕ} → q ≡ p → HoursIn l H n q s count a → HoursIn l H n p s count a
hours_as {l} {H} {n} {q} {p} {s} {count} {a} e at = subst (λ (x : ℕ). HoursIn l H n x s count a) e at

-- the span's hours of profile q of a row in use
module _ {l : List ℕ} {R H n q a : ℕ} (p : Placed l R H n) (qlt : q < profiles) (at : HoursIn l H n q (start (row H l n)) (span_hours (row H l n)) a) where
  within : start (row H l n) + span_hours (row H l n) ≤ H
  within = omega (arith, (own_words p).starts, (own_words p).stops)

  pub span_is : part l a (span_hours (row H l n)) ≡ span H q (row H l n)
  unfolding span
  span_is = hours_are (sized p) (in_rows p) qlt within at

-- ---- giving back
pub roomy_word : (a b : List ℕ) → roomy most_megawatts a b ≡ true → roomy most_word a b ≡ true
unfolding roomy
roomy_word a b e =
    all_below_lem (λ k. leb (get_or a k 0 + get_or b k 0) most_word) (length a)
    (λ k lt. le-leb (get_or a k 0 + get_or b k 0) most_word (omega (arith, roomy_at most_megawatts a b e k lt)))

pub not_full : (H s : ℕ) (v r : List ℕ) → full H s v r ≡ false → roomy most_word v (hours_of H (returns_to r) s (length v) r) ≡ true
unfolding full
not_full H s v r e = roomy_word v (hours_of H (returns_to r) s (length v) r) (not-false _ e)

-- what is given back to row m, by its place in the ledger
pub give_splice : {l : List ℕ} {R H m s a : ℕ} (v : List ℕ) → Sized l R H → m < R → s + length v ≤ H → HoursIn l H m (returns_to (row H l m)) s (length v) a
    → splice l a (zip2 ◌+◌ (part l a (length v)) v) ≡ on_row H m (give_back H s v) l
unfolding on_row give_back add_hours set_hours
give_splice {l} {R} {H} {m} {s} {a} v z lt fits at =
    let q = returns_to (row H l m) in
    let k = hour_at H q s in
    let w : List ℕ = zip2 ◌+◌ (hours_of H q s (length v) (row H l m)) v in
    let e : length w ≡ length v = zip_length ◌+◌ (hours_of H q s (length v) (row H l m)) v ∙ part_length (row H l m) k (length v) (omega (arith, row_length z lt, hour_in H (returns_profile (row H l m)), fits)) in
    ap (λ (x : List ℕ). splice l a (zip2 ◌+◌ x v)) (hours_are z lt (returns_profile (row H l m)) fits at)
    ∙ ap (λ (x : ℕ). splice l x w) at.is
    ∙ sym (on_splice z lt k w (omega (arith, e, hour_in H (returns_profile (row H l m)), fits)))

-- granted of row n is given back to row m: from is where it stands, to where it is added, in count hours from hour s on
module _ {l : List ℕ} {R H n m s count from to : ℕ} (p : Placed l R H n) (mlt : m < R) (es : s ≡ start (row H l n)) (ec : count ≡ span_hours (row H l n))
    (f : HoursIn l H n granted_part (start (row H l n)) (span_hours (row H l n)) from) (t : HoursIn l H m (returns_to (row H l m)) s count to) where
  as_long : count ≡ length (granted H (row H l n))
  as_long = ec ∙ sym (span_length p granted_part (lit< tt))

  given_to : HoursIn l H m (returns_to (row H l m)) (start (row H l n)) (length (granted H (row H l n))) to
  given_to =
      subst (λ (x : ℕ). HoursIn l H m (returns_to (row H l m)) x (length (granted H (row H l n))) to) es
      (subst (λ (x : ℕ). HoursIn l H m (returns_to (row H l m)) s x to) as_long t)

  given_from : part l from (length (granted H (row H l n))) ≡ granted H (row H l n)
  given_from = ap (λ (k : ℕ). part l from k) (span_length p granted_part (lit< tt)) ∙ span_is p (lit< tt) f

  fits_there : start (row H l n) + length (granted H (row H l n)) ≤ H
  fits_there = span_fits p (granted H (row H l n)) (span_length p granted_part (lit< tt))

  pub granted_apart : m ≢ n → Apart l to from count
  granted_apart ne = record {
    first = t.fits;
    second = omega (arith, f.fits, ec);
    apart =
        ⊎_elim
        (λ x. inl (omega (arith, row_apart H x, t.is, f.is, es, ec, hour_in H (returns_profile (row H l m)), (own_words p).starts, (own_words p).stops)))
        (λ x.
        let y : n < m = omega (arith, x, ne) in
        inr (omega (arith, row_apart H y, t.is, f.is, es, ec, (own_words p).starts, (own_words p).stops)))
        (lt_or_le m n);
  }

  pub granted_room : full H (start (row H l n)) (granted H (row H l n)) (row H l m) ≡ false → roomy most_word (part l from count) (part l to count) ≡ true
  granted_room e =
      ap (λ (k : ℕ). roomy most_word (part l from k) (part l to k)) as_long
      ∙ ap (λ (x : List ℕ). roomy most_word x (part l to (length (granted H (row H l n))))) given_from
      ∙ ap (λ (x : List ℕ). roomy most_word (granted H (row H l n)) x) (hours_are (sized p) mlt (returns_profile (row H l m)) fits_there given_to)
      ∙ not_full H (start (row H l n)) (granted H (row H l n)) (row H l m) e

  pub granted_given_lem : splice l to (zip2 ◌+◌ (part l to count) (part l from count)) ≡ on_row H m (give_back H (start (row H l n)) (granted H (row H l n))) l
  granted_given_lem =
      ap (λ (k : ℕ). splice l to (zip2 ◌+◌ (part l to k) (part l from k))) as_long
      ∙ ap (λ (x : List ℕ). splice l to (zip2 ◌+◌ (part l to (length (granted H (row H l n)))) x)) given_from
      ∙ give_splice (granted H (row H l n)) (sized p) mlt fits_there given_to

-- ---- a row is as it was when another has given, or has been given back
module _ {l : List ℕ} {R H a : ℕ} (s : ℕ) (v : List ℕ) (z : Sized l R H) (lt : a < R) (fits : s + length v ≤ H) where
  there : Room H s v (row H l a)
  there = record { long = row_length z lt; fits = fits }

  pub after_take : {l' : List ℕ} {n : ℕ} → n ≢ a → l' ≡ on_row H a (take_from H s v) l → row H l' n ≡ row H l n
  unfolding take_from
  after_take {l'} {n} ne e = ap (λ (x : List ℕ). row H x n) e ∙ on_other z lt (take_from H s v) (less_length there (lit< tt)) ne

  pub after_give : {l' : List ℕ} {n : ℕ} → n ≢ a → l' ≡ on_row H a (give_back H s v) l → row H l' n ≡ row H l n
  unfolding give_back
  after_give {l'} {n} ne e = ap (λ (x : List ℕ). row H x n) e ∙ on_other z lt (give_back H s v) (add_length there (returns_profile (row H l a))) ne

-- ---- displacing: the span's hours of displaced start at a in the row, those of available at b
module _ {H a b : ℕ} (r : List ℕ) (long : length r ≡ row_size H) (at : HoursAt H displaced_part (start r) (span_hours r) a) (bt : HoursAt H available_part (start r) (span_hours r) b) where
  available_there : part r b (span_hours r) ≡ available H r
  unfolding span
  available_there = ap (λ (x : ℕ). part r x (span_hours r)) bt.is

  pub displace_room : over_displacing H r ≡ false → roomy most_word (part r b (span_hours r)) (part r a (span_hours r)) ≡ true
  unfolding over_displacing span
  displace_room e =
      ap (λ (x : List ℕ). roomy most_word x (part r a (span_hours r))) available_there
      ∙ ap (λ (x : ℕ). roomy most_word (available H r) (part r x (span_hours r))) at.is
      ∙ roomy_word (available H r) (displaced H r) (not-false _ e)

  pub displace_splice : splice r a (zip2 ◌+◌ (part r a (span_hours r)) (part r b (span_hours r))) ≡ add_hours H displaced_part (start r) (available H r) r
  unfolding add_hours set_hours span
  displace_splice =
      let e : length (available H r) ≡ span_hours r = part_length r (hour_at H available_part (start r)) (span_hours r) (omega (arith, bt.is, bt.fits, long)) in
      ap (λ (x : List ℕ). splice r a (zip2 ◌+◌ (part r a (span_hours r)) x)) available_there
      ∙ ap (λ (x : ℕ). splice r x (zip2 ◌+◌ (part r x (span_hours r)) (available H r))) at.is
      ∙ ap (λ (k : ℕ). splice r (hour_at H displaced_part (start r)) (zip2 ◌+◌ (part r (hour_at H displaced_part (start r)) k) (available H r))) (sym e)

-- ---- annulling
pub not_over_annulled : (H : ℕ) (l : List ℕ) (n : ℕ) → original (reqtype (row H l n)) ≡ false → over_annulling H l n ≡ false → full H (start (row H l n)) (granted H (row H l n)) (row H l (related_row H l n)) ≡ false
unfolding over_annulling
not_over_annulled H l n o e = and_rest _ _ (ap not o) e

-- ---- reducing
-- row r, by a profile with a word for each hour of its span
module _ {H : ℕ} (r mw : List ℕ) (long : length r ≡ row_size H) (starts : start r < stop r) (stops : stop r ≤ H) (e : length mw ≡ span_hours r) where
  fits : start r + length mw ≤ H
  fits = omega (arith, e, starts, stops)

  pub reduce_covered : covered mw (available H r) ≡ true → covered mw (hours_of H available_part (start r) (length mw) r) ≡ true
  reduce_covered c = ap (λ (x : List ℕ). covered mw x) (span_hours_lem H available_part r refl e) ∙ c

  pub reduce_over : not (roomy most_megawatts mw (hours_of H reduced_part (start r) (length mw) r)) ≡ over_reducing H mw r
  unfolding over_reducing
  reduce_over = ap (λ (x : List ℕ). not (roomy most_megawatts mw x)) (span_hours_lem H reduced_part r refl e)

  -- what is taken from available leaves the span and reduced
  reduce_spanned : Spanned H r
  reduce_spanned = record { long = long; starts = omega (arith, starts); stops = stops }

  taken_word : (k : ℕ) → k < row_words → get_or (less_hours H available_part (start r) mw r) k 0 ≡ get_or r k 0
  taken_word = less_word reduce_spanned available_part (start r) mw (lit< tt) fits

  pub taken_roomy : over_reducing H mw r ≡ false → roomy most_word mw (hours_of H reduced_part (start r) (length mw) (less_hours H available_part (start r) mw r)) ≡ true
  unfolding over_reducing
  taken_roomy o =
      let ec : length mw ≡ span_hours (less_hours H available_part (start r) mw r) = omega (arith, e, taken_word 5 (lit< tt), taken_word 6 (lit< tt)) in
      ap (λ (x : List ℕ). roomy most_word mw x)
      (span_hours_lem H reduced_part (less_hours H available_part (start r) mw r) (sym (taken_word 5 (lit< tt))) ec
      ∙ less_other reduce_spanned available_part (start r) mw (lit< tt) fits reduced_part (lit< tt) (λ z. omega (arith, z)))
      ∙ roomy_word mw (reduced H r) (not-false _ o)
