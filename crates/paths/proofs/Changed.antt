-- The changes of a confirmation and of an annulment, and no change: use by them is use by the rules.
use mathlib.Core.Path.{◌≡◌, refl, sym, ap, subst, ◌∙◌}
use mathlib.Core.Bool.{Bool, true, false, ◌&&◌, ◌||◌, not}
use mathlib.Core.List.{List}
use Rattle.std.specs.Prelude.{Option, None, Some}
use Prim.Native.Nat.{ℕ, ◌+◌, ◌-◌, ◌≤◌, ◌<◌}
use native.Mathlib.Omega.{arith}
use lib.Dec.{eqb, leb, lit<}
use lib.ListN.{length}
use borrow.Author.Tests.{eqb-true, not-false}
use Rattle.words.specs.Lists.{word_at, within}
use Rattle.words.proofs.Laws.{sum_cong, all_cong, within_all}
use Rattle.rules.specs.Pick.{pick}
use Rattle.rules.specs.Numbers.{profiles, most_megawatts, granted_given, requested_part, granted_part, available_part, NONFIRM_REDIRECT, RELINQUISH}
use Rattle.rules.specs.Layout.{used, row, reqtype, path, start, related_row, span_hours, hour_at, span, has, requested, granted, standing}
use Rattle.rules.specs.Sound.{original}
use Rattle.rules.specs.Moves.{is_confirmed}
use Rattle.rules.specs.Megawatts.{in_force}
use Rattle.rules.specs.Confirming.{short, drawn_from}
use Rattle.rules.specs.Paths.{posted_in, holds_on, counts_on, use_of}
use Rattle.rules.proofs.Types.{derived_type}
use Rattle.rules.proofs.Writes.{covered_hour}
use Rattle.rules.proofs.Spans.{span_at, hour_standing}
use Rattle.rules.proofs.After.{counts_by, confirmed_with, confirmed_but, held_confirming, held_annulling, use_confirming, use_annulling}
use Rattle.rules.proofs.OverPaths.{exceeds, exceeds_at}
use Rattle.layout.specs.SoundAt.{SoundAt}
use Rattle.layout.specs.declared.size.Size.{Size}
use Rattle.layout.specs.declared.row.Row.{Row}
use Rattle.layout.specs.Placed.{Placed}
use Rattle.layout.proofs.Placed.{own_words, room, span_fits, span_length, type_three, related_in, placed_at}
use Rattle.paths.specs.declared.change.Change.{Change}
use Rattle.paths.specs.declared.change.Changed.{Changed}
use Rattle.paths.specs.declared.change.Changed.TheVariants.{Nothing, Confirmed, Relinquished}
use Rattle.paths.specs.declared.change.Held.{Held}
use Rattle.paths.specs.declared.change.Held.TheVariants.{Same, Less, More, Whole, Nought}
use Rattle.paths.specs.Changes.{is_at, moved, confirmed_after, held_then, held_by, held_in, added_by, use_by, Changing}
use Rattle.paths.specs.Exceeding.{above, Confirms, Annuls}
use Rattle.paths.proofs.Hourly.{spanned_at, hours_at}

-- ---- by the same rows CONFIRMED; by the same use
counts_cong : (H : ℕ) (l : List ℕ) (confirmed confirmed' : ℕ → Bool) → ((m : ℕ) → confirmed m ≡ confirmed' m) → (x m : ℕ) → counts_by H l confirmed x m ≡ counts_by H l confirmed' x m
unfolding counts_by
counts_cong H l confirmed confirmed' same x m =
    let up : ℕ = related_row H l m in
    ap (λ (b : Bool). b && (eqb (path (row H l m)) x || eqb (reqtype (row H l m)) NONFIRM_REDIRECT && (confirmed up && eqb (path (row H l up)) x))) (same m)
    ∙ ap (λ (b : Bool). confirmed' m && (eqb (path (row H l m)) x || eqb (reqtype (row H l m)) NONFIRM_REDIRECT && (b && eqb (path (row H l up)) x))) (same up)

module _ (H : ℕ) (ps : List ℕ) (uses uses' : ℕ → ℕ → ℕ) (same : (x h : ℕ) → h < H → uses x h ≡ uses' x h) where
  pub exceeds_cong : (x : ℕ) → exceeds H ps uses x ≡ exceeds H ps uses' x
  unfolding exceeds
  exceeds_cong x = ap not (all_cong _ _ H (λ h lt. ap (λ (u : ℕ). leb u (posted_in H ps x h)) (same x h lt)))

  pub at_cong : (l : List ℕ) (n : ℕ) → exceeds_at H l n ps uses ≡ exceeds_at H l n ps uses'
  unfolding exceeds_at
  at_cong l n =
      ap (λ (b : Bool). b || not (original (reqtype (row H l n))) && exceeds H ps uses (path (row H l (related_row H l n)))) (exceeds_cong (path (row H l n)))
      ∙ ap (λ (b : Bool). exceeds H ps uses' (path (row H l n)) || not (original (reqtype (row H l n))) && b) (exceeds_cong (path (row H l (related_row H l n))))

-- what is said of a row that was lent is said of the ledger's row n
pub as_lent : (P : ℕ → List ℕ → ℕ → Type 0) (r : Row) {l : List ℕ} {s : Size} {n : ℕ}
    → record { words : r.words.now ≡ l; size : r.size ≡ s; n : r.n ≡ n }
    → P r.size.hours r.words.now r.n → P s.hours l n
as_lent P r {l} {s} {n} e p =
    subst (λ (x : Size). P x.hours l n) e.size
    (subst (λ (x : List ℕ). P r.size.hours x n) e.words (subst (λ (x : ℕ). P r.size.hours r.words.now x) e.n p))

-- ---- tests of a row that may be none
picked_not : (o : Bool) (q m : ℕ) → is_at (pick o None (Some q)) m ≡ (not o && eqb m q)
picked_not true q m = refl
picked_not false q m = refl

-- what is held by one choice or the other
held_pick : (b : Bool) (d k : Held) (a y : ℕ) → held_by (pick b d k) a y ≡ pick b (held_by d a y) (held_by k a y)
held_pick true d k a y = refl
held_pick false d k a y = refl

moved_as : (c : Change) {s : ℕ} {mw : List ℕ} → c.start ≡ s → c.mw.now ≡ mw → (h : ℕ) → moved c h ≡ standing s mw h
moved_as c {s} {mw} e f h = ap (λ (j : ℕ). standing j c.mw.now h) e ∙ ap (λ (v : List ℕ). standing s v h) f

-- the changed rows, of known ones
module _ (H : ℕ) (l : List ℕ) (c : Change) {q : Changed} (e : c.rows ≡ q) {s : ℕ} {mw : List ℕ} (f : c.start ≡ s) (g : c.mw.now ≡ mw) where
  held_known : (m h : ℕ) → held_in H (row H l m) c m h ≡ held_by (held_then q m) (word_at (row H l m) (hour_at H available_part h)) (standing s mw h)
  unfolding held_in
  held_known m h =
      ap (λ (z : ℕ). held_by (held_then c.rows m) (word_at (row H l m) (hour_at H available_part h)) z) (moved_as c f g h)
      ∙ ap (λ (r : Changed). held_by (held_then r m) (word_at (row H l m) (hour_at H available_part h)) (standing s mw h)) e

-- ---- confirming
-- a row that is then less than before is the related row
less_redirect : (b d k : Bool) → pick b Nought (pick d Less (pick k More Same)) ≡ Less → d ≡ true
less_redirect true d k e = absurd (cc)
less_redirect false true k e = refl
less_redirect false false true e = absurd (cc)
less_redirect false false false e = absurd (cc)

less_above : (b d : Bool) → pick b Whole (pick d Less Same) ≡ Less → d ≡ true
less_above true d e = absurd (cc)
less_above false true e = refl
less_above false false e = absurd (cc)

module _ (H : ℕ) (l : List ℕ) (n : ℕ) where
  abbrev t : ℕ
  t = reqtype (row H l n)

  confirmed_rows_confirmed : (b : Bool) (p q m : ℕ) (u : Option ℕ) → confirmed_after H l (pick b (Relinquished n p q) (Confirmed n u)) m ≡ confirmed_with H l n m
  unfolding confirmed_after confirmed_with
  confirmed_rows_confirmed true p q m u = refl
  confirmed_rows_confirmed false p q m u = refl

  -- by the types of a relinquish record and of others
  held_rows : (b o : Bool) → (b ≡ true → o ≡ false) → (p q m a y : ℕ) → held_by (held_then (pick b (Relinquished n p q) (Confirmed n (pick o None (Some p)))) m) a y ≡ pick (eqb m n) (pick b 0 y) (pick (not o && eqb m p) (a - y) (pick (b && eqb m q) (a + y) a))
  held_rows true true w p q m a y = let z : true ≡ false = w refl in absurd (cc)
  held_rows true false w p q m a y =
      held_pick (eqb m n) Nought (pick (eqb m p) Less (pick (eqb m q) More Same)) a y
      ∙ ap (λ (v : ℕ). pick (eqb m n) 0 v) (held_pick (eqb m p) Less (pick (eqb m q) More Same) a y ∙ ap (λ (v : ℕ). pick (eqb m p) (a - y) v) (held_pick (eqb m q) More Same a y))
  held_rows false o w p q m a y =
      held_pick (eqb m n) Whole (pick (is_at (pick o None (Some p)) m) Less Same) a y
      ∙ ap (λ (v : ℕ). pick (eqb m n) y v) (held_pick (is_at (pick o None (Some p)) m) Less Same a y ∙ ap (λ (d : Bool). pick d (a - y) a) (picked_not o p m))

  less_rows : (b o : Bool) → (b ≡ true → o ≡ false) → (p q m : ℕ) → held_then (pick b (Relinquished n p q) (Confirmed n (pick o None (Some p)))) m ≡ Less → (o ≡ false) × (eqb m p ≡ true)
  less_rows true o w p q m e = (w refl, less_redirect (eqb m n) (eqb m p) (eqb m q) e)
  less_rows false true w p q m e = let z : false ≡ true = less_above (eqb m n) false e in absurd (cc)
  less_rows false false w p q m e = (refl, less_above (eqb m n) (eqb m p) e)

  record_derived : eqb (reqtype (row H l n)) RELINQUISH ≡ true → original (reqtype (row H l n)) ≡ false
  record_derived e = derived_type _ (omega (arith, eqb-true (reqtype (row H l n)) RELINQUISH e))

module _ {H : ℕ} {l : List ℕ} {n : ℕ} {mw : List ℕ} {c : Change} (k : Confirms H l n mw c) where
  after_confirming : (m : ℕ) → confirmed_after H l c.rows m ≡ confirmed_with H l n m
  after_confirming m =
      ap (λ (r : Changed). confirmed_after H l r m) k.rows
      ∙ confirmed_rows_confirmed H l n (eqb (reqtype (row H l n)) RELINQUISH) (related_row H l n) (related_row H l (related_row H l n)) m (above H l n)

  held_with : (h m : ℕ) → held_in H (row H l m) c m h ≡ held_confirming H l n mw h m
  unfolding held_confirming
  held_with h m =
      held_known H l c k.rows k.start k.given m h
      ∙ held_rows H l n (eqb (reqtype (row H l n)) RELINQUISH) (original (reqtype (row H l n))) (record_derived H l n) (related_row H l n) (related_row H l (related_row H l n)) m
      (word_at (row H l m) (hour_at H available_part h)) (standing (start (row H l n)) mw h)

  pub use_confirming_lem : (x h : ℕ) → use_by H l c x h ≡ use_confirming H l n mw x h
  unfolding use_by use_confirming added_by
  use_confirming_lem x h =
      sum_cong (used l) _ _ (λ m lt.
      ap (λ (b : Bool). pick b (held_in H (row H l m) c m h) 0) (counts_cong H l (confirmed_after H l c.rows) (confirmed_with H l n) after_confirming x m)
      ∙ ap (λ (v : ℕ). pick (counts_by H l (confirmed_with H l n) x m) v 0) (held_with h m))

not_short : (o d : Bool) → o ≡ false → (not o && not d) ≡ false → d ≡ true
not_short o d f e = not-false d (sym (ap (λ (x : Bool). not x && not d) f) ∙ e)

module _ {l : List ℕ} {R H n : ℕ} (s : SoundAt l R H) (lt : n < used l) where
  own : Placed l R H n
  own = placed_at s lt

  module _ {c : Change} {mw : List ℕ} (k : Confirms H l n mw c) (long : length mw ≡ span_hours (row H l n)) where
    drawn_by : short H l n mw ≡ false → (m : ℕ) → held_then c.rows m ≡ Less → (h : ℕ) → h < H → moved c h ≤ word_at (row H l m) (hour_at H available_part h)
    unfolding short drawn_from
    drawn_by ample m less h hlt =
        let p : ℕ = related_row H l n in
        let w = less_rows H l n (eqb (reqtype (row H l n)) RELINQUISH) (original (reqtype (row H l n))) (record_derived H l n) (related_row H l n) (related_row H l (related_row H l n)) m
        (ap (λ (r : Changed). held_then r m) (sym k.rows) ∙ less) in
        subst (λ (v : ℕ). v ≤ word_at (row H l m) (hour_at H available_part h)) (sym (moved_as c k.start k.given h))
        (subst (λ (j : ℕ). standing (start (row H l n)) mw h ≤ word_at (row H l j) (hour_at H available_part h)) (sym (eqb-true m p w.1))
        (covered_hour hlt (room own mw long (related_in own (type_three own w.0))) available_part (lit< tt) (not_short (original (reqtype (row H l n))) _ w.0 ample)))

    pub confirming_fits : within most_megawatts mw ≡ true → short H l n mw ≡ false → Changing l H c
    confirming_fits most ample = record {
      fits = omega (arith, span_fits own mw long, k.start, ap length k.given);
      most = ap (λ (v : List ℕ). within most_megawatts v) k.given ∙ most;
      drawn = λ m less _. drawn_by ample m less;
    }

-- ---- a span of row n has no word over 100,000
module _ {l : List ℕ} {R H n : ℕ} (s : SoundAt l R H) (lt : n < used l) where
  pub span_most : (q : ℕ) → q < profiles → within most_megawatts (span H q (row H l n)) ≡ true
  span_most q qlt =
      let e = span_length (own s lt) q qlt in
      let w = own_words (own s lt) in
      within_all most_megawatts (span H q (row H l n)) (λ j jlt.
      let j' : j < span_hours (row H l n) = omega (arith, jlt, e) in
      omega (arith, span_at (spanned_at s lt) q qlt j j', (hours_at s lt).most q (start (row H l n) + j) qlt (omega (arith, j', w.starts, w.stops))))

  pub force_most : within most_megawatts (in_force H (row H l n)) ≡ true
  unfolding in_force
  force_most = go (has granted_given (row H l n))
    where
      go : (b : Bool) → within most_megawatts (pick b (granted H (row H l n)) (requested H (row H l n))) ≡ true
      go true = span_most granted_part (lit< tt)
      go false = span_most requested_part (lit< tt)

-- ---- annulling
not_less : (b : Bool) → pick b More Same ≡ Less → ⊥
not_less true e = cc
not_less false e = cc

module _ {l : List ℕ} {R H n : ℕ} (s : SoundAt l R H) (lt : n < used l) {c : Change} (k : Annuls H l n c) where
  pub annulling_fits : Changing l H c
  annulling_fits = record {
    fits = omega (arith, span_fits (own s lt) (granted H (row H l n)) (span_length (own s lt) granted_part (lit< tt)), k.start, ap length k.given);
    most = ap (λ (v : List ℕ). within most_megawatts v) k.given ∙ span_most s lt granted_part (lit< tt);
    drawn = λ m less mlt h hlt. absurd (not_less (is_at (above H l n) m) (ap (λ (r : Changed). held_then r m) (sym k.rows) ∙ less));
  }

  after_annulling : (m : ℕ) → confirmed_after H l c.rows m ≡ confirmed_but H l n m
  unfolding confirmed_after confirmed_but
  after_annulling m = ap (λ (r : Changed). confirmed_after H l r m) k.rows

  held_but : (h m : ℕ) → h < H → held_in H (row H l m) c m h ≡ held_annulling H l n h m
  unfolding held_annulling
  held_but h m hlt =
      let a : ℕ = word_at (row H l m) (hour_at H available_part h) in
      let y : ℕ = standing (start (row H l n)) (granted H (row H l n)) h in
      held_known H l c k.rows k.start k.given m h
      ∙ held_pick (is_at (above H l n) m) More Same a y
      ∙ ap (λ (b : Bool). pick b (a + y) a) (picked_not (original (reqtype (row H l n))) (related_row H l n) m)
      ∙ ap (λ (v : ℕ). pick (not (original (reqtype (row H l n))) && eqb m (related_row H l n)) (a + v) a) (sym (hour_standing (spanned_at s lt) granted_part (lit< tt) (λ j jlt z. (hours_at s lt).outside granted_part j (lit< tt) jlt z) h hlt))

  pub use_annulling_lem : (x h : ℕ) → h < H → use_by H l c x h ≡ use_annulling H l n x h
  unfolding use_by use_annulling added_by
  use_annulling_lem x h hlt =
      sum_cong (used l) _ _ (λ m mlt.
      ap (λ (b : Bool). pick b (held_in H (row H l m) c m h) 0) (counts_cong H l (confirmed_after H l c.rows) (confirmed_but H l n) after_annulling x m)
      ∙ ap (λ (v : ℕ). pick (counts_by H l (confirmed_but H l n) x m) v 0) (held_but h m hlt))

-- ---- no change
module _ (H : ℕ) (l : List ℕ) (c : Change) (k : c.rows ≡ Nothing) where
  after_nothing : (m : ℕ) → confirmed_after H l c.rows m ≡ is_confirmed (row H l m)
  unfolding confirmed_after
  after_nothing m = ap (λ (r : Changed). confirmed_after H l r m) k

  pub use_now : (x h : ℕ) → use_by H l c x h ≡ use_of H l x h
  unfolding use_by added_by use_of counts_on holds_on counts_by
  use_now x h =
      sum_cong (used l) _ _ (λ m lt.
      ap (λ (b : Bool). pick b (held_in H (row H l m) c m h) 0) (counts_cong H l (confirmed_after H l c.rows) (λ j. is_confirmed (row H l j)) after_nothing x m)
      ∙ ap (λ (v : ℕ). pick (counts_by H l (λ j. is_confirmed (row H l j)) x m) v 0) (held_known H l c k refl refl m h))

  pub unchanged_fits : c.start + length c.mw.now ≤ H → within most_megawatts c.mw.now ≡ true → Changing l H c
  unchanged_fits fits most = record { fits = fits; most = most; drawn = λ m less _ h hlt. absurd (let z : Same ≡ Less = ap (λ (r : Changed). held_then r m) (sym k) ∙ less in cc) }
