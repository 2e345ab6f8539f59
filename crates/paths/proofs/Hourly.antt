-- Sums of a walk, hour by hour: what is added or taken off from an hour on, a row's available, what a row holds after a
-- change.
use mathlib.Core.Path.{◌≡◌, refl, sym, ap, subst, ◌∙◌}
use mathlib.Core.Logic.{⊎_elim}
use mathlib.Core.Bool.{true}
use mathlib.Core.List.{List}
use Prim.Native.Nat.{ℕ, ◌+◌, ◌-◌, ◌≤◌, ◌<◌}
use native.Mathlib.Omega.{arith}
use lib.Dec.{leb, lit<}
use lib.ListN.{length, get_or}
use borrow.Author.Tests.{le-leb}
use Rattle.words.specs.Sums.{Adds, Takes}
use Rattle.words.proofs.Sums.{adds_as}
use Rattle.words.specs.Lists.{word_at, part, splice, zip2, roomy, covered, most_word}
use Rattle.words.proofs.Laws.{lt_or_le, all_below_lem, within_at, part_length, part_at, zip_length, build_at, splice_length, splice_before, splice_in, splice_after}
use Rattle.rules.specs.Numbers.{most_megawatts, available_part}
use Rattle.rules.specs.Layout.{used, row, start, span_hours, hour_at, span, standing}
use Rattle.rules.proofs.Seen.{standing_before, standing_in, standing_after}
use Rattle.rules.proofs.SoundFacts.{SoundHours}
use Rattle.rules.proofs.Spans.{Spanned, span_length, span_at, hour_standing}
use Rattle.layout.specs.SoundAt.{SoundAt}
use Rattle.layout.proofs.Placed.{placed_at, own_words, own_length}
use Rattle.paths.specs.declared.change.Change.{Change}
use Rattle.paths.specs.declared.change.Held.{Held}
use Rattle.paths.specs.declared.change.Held.TheVariants.{Less}
use Rattle.paths.specs.Changes.{moved, held_then, held_by, held_in, Changing, Sums, Adding, Taking}

-- ---- v from hour s on
zip_at : (f : ℕ → ℕ → ℕ) (a b : List ℕ) (k : ℕ) → k < length a → get_or (zip2 f a b) k 0 ≡ f (get_or a k 0) (get_or b k 0)
unfolding zip2
zip_at f a b k lt = build_at (length a) _ k lt

module _ (s : ℕ) (v sums : List ℕ) (fits : s + length v ≤ length sums) where
  -- each word there is f of what it was and v's
  module _ (f : ℕ → ℕ → ℕ) (none : (n : ℕ) → f n 0 ≡ n) where
    abbrev w : List ℕ
    w = zip2 f (part sums s (length v)) v

    as_long : length (zip2 f (part sums s (length v)) v) ≡ length v
    as_long = zip_length f (part sums s (length v)) v ∙ part_length sums s (length v) fits

    room : s + length (zip2 f (part sums s (length v)) v) ≤ length sums
    room = omega (arith, as_long, fits)

    pub zipped_long : length (splice sums s (zip2 f (part sums s (length v)) v)) ≡ length sums
    zipped_long = splice_length sums s w room

    off : (h : ℕ) → standing s v h ≡ 0 → get_or sums h 0 ≡ f (get_or sums h 0) (standing s v h)
    off h e = sym (ap (λ (k : ℕ). f (get_or sums h 0) k) e ∙ none (get_or sums h 0))

    at : (k : ℕ) → k < length v → get_or (splice sums s (zip2 f (part sums s (length v)) v)) (s + k) 0 ≡ f (get_or sums (s + k) 0) (get_or v k 0)
    at k lt =
        splice_in sums s w room k (omega (arith, as_long, lt))
        ∙ zip_at f (part sums s (length v)) v k (omega (arith, lt, part_length sums s (length v) fits))
        ∙ ap (λ (n : ℕ). f n (get_or v k 0)) (part_at sums s (length v) fits k lt)

    pub zipped_each : (h : ℕ) → get_or (splice sums s (zip2 f (part sums s (length v)) v)) h 0 ≡ f (get_or sums h 0) (standing s v h)
    zipped_each h =
        ⊎_elim
        (λ u. splice_before sums s w room h u ∙ off h (standing_before s v u))
        (λ u.
        ⊎_elim
        (λ t.
        let i : h ≡ s + (h - s) = omega (arith, u) in
        let lt : h - s < length v = omega (arith, u, t) in
        ap (λ (j : ℕ). get_or (splice sums s w) j 0) i ∙ at (h - s) lt
        ∙ ap (λ (j : ℕ). f (get_or sums j 0) (get_or v (h - s) 0)) (sym i)
        ∙ ap (λ (n : ℕ). f (get_or sums h 0) n) (sym (standing_in s v (h - s) i)))
        (λ t. splice_after sums s w room h (omega (arith, as_long, t)) ∙ off h (standing_after s v t))
        (lt_or_le h (s + length v)))
        (lt_or_le h s)

  pub added : (next : List ℕ) → next ≡ splice sums s (zip2 ◌+◌ (part sums s (length v)) v) → Adds (λ h. standing s v h) sums next
  added next e = record {
    long = ap length e ∙ zipped_long ◌+◌ (λ n. omega arith);
    each = λ h lt. ap (λ (x : List ℕ). get_or x h 0) e ∙ zipped_each ◌+◌ (λ n. omega arith) h;
  }

  pub taken : (next : List ℕ) → next ≡ splice sums s (zip2 ◌-◌ (part sums s (length v)) v) → Takes (λ h. standing s v h) sums next
  taken next e = record {
    long = ap length e ∙ zipped_long ◌-◌ (λ n. omega arith);
    each = λ h lt. ap (λ (x : List ℕ). get_or x h 0) e ∙ zipped_each ◌-◌ (λ n. omega arith) h;
  }

-- what the functions of `words` ask
module _ {s : ℕ} {v sums : List ℕ} where
  pub adding_room : Adding s v sums → roomy most_word v (part sums s (length v)) ≡ true
  unfolding roomy
  adding_room a = all_below_lem (λ k. leb (get_or v k 0 + get_or (part sums s (length v)) k 0) most_word) (length v) (λ k lt. le-leb (get_or v k 0 + get_or (part sums s (length v)) k 0) most_word (omega (arith, a.room k lt, part_at sums s (length v) a.fits k lt)))

  pub taking_enough : Taking s v sums → covered v (part sums s (length v)) ≡ true
  unfolding covered
  taking_enough a = all_below_lem (λ k. leb (get_or v k 0) (get_or (part sums s (length v)) k 0)) (length v) (λ k lt. le-leb (get_or v k 0) (get_or (part sums s (length v)) k 0) (omega (arith, a.enough k lt, part_at sums s (length v) a.fits k lt)))

-- ---- row m of a sound ledger
module _ {l : List ℕ} {R H m : ℕ} (s : SoundAt l R H) (lt : m < used l) where
  pub spanned_at : Spanned H (row H l m)
  spanned_at = let p = placed_at s lt in record { long = own_length p; starts = omega (arith, (own_words p).starts); stops = (own_words p).stops }

  pub hours_at : SoundHours H (row H l m)
  hours_at = subst (λ (k : ℕ). SoundHours k (row k l m)) (sym s.hours) (s.sound.profiles m lt)

-- ---- available of the row r, in its span: outside it is 0 (`SoundHours.outside`)
module _ {H : ℕ} {r : List ℕ} (p : Spanned H r) (w : SoundHours H r) where
  module _ {s : ℕ} (at : s ≡ start r) {v sums : List ℕ} (is : v ≡ span H available_part r) (o : Sums H sums) where
    counted : length v ≡ span_hours r
    counted = ap length is ∙ span_length p available_part (lit< tt)

    room_there : Adding (start r) v sums
    room_there = record {
      fits = omega (arith, counted, o.long, p.starts, p.stops);
      room = λ k lt.
          let lt' : k < span_hours r = omega (arith, lt, counted) in
          let i : start r + k < H = omega (arith, lt', p.starts, p.stops) in
          omega (arith, o.most (start r + k) i, ap (λ (x : List ℕ). get_or x k 0) is, span_at p available_part (lit< tt) k lt', w.most available_part (start r + k) (lit< tt) i);
    }

    pub available_room : Adding s v sums
    available_room = subst (λ (k : ℕ). Adding k v sums) (sym at) room_there

    pub available_added : {next : List ℕ} → Adds (λ h. standing s v h) sums next → Adds (λ h. word_at r (hour_at H available_part h)) sums next
    available_added a =
        adds_as
        (λ h lt.
        ap (λ (k : ℕ). standing k v h) at ∙ ap (λ (x : List ℕ). standing (start r) x h) is
        ∙ sym (hour_standing p available_part (lit< tt) (λ k klt z. w.outside available_part k (lit< tt) klt z) h (omega (arith, lt, o.long)))) a

-- ---- what row m, which is r, holds after a change
pub held_as : (H : ℕ) (r : List ℕ) (c : Change) (m : ℕ) {k d : Held} → k ≡ held_then c.rows m → k ≡ d → (h : ℕ)
    → held_by d (word_at r (hour_at H available_part h)) (moved c h) ≡ held_in H r c m h
unfolding held_in
held_as H r c m e f h = ap (λ (v : Held). held_by v (word_at r (hour_at H available_part h)) (moved c h)) (sym f ∙ e)

-- ---- and what the functions that add it ask
module _ {l : List ℕ} {H : ℕ} {c : Change} (g : Changing l H c) {sums : List ℕ} (o : Sums H sums) where
  pub own_room : Adding c.start c.mw.now sums
  own_room = record {
    fits = omega (arith, g.fits, o.long);
    room = λ k lt. omega (arith, o.most (c.start + k) (omega (arith, g.fits, lt)), within_at most_megawatts c.mw.now g.most k lt);
  }

  module _ (m : ℕ) (w : SoundHours H (row H l m)) {next : List ℕ} (d : Adds (λ h. word_at (row H l m) (hour_at H available_part h)) sums next) where
    pub more_room : Adding c.start c.mw.now next
    more_room = record {
      fits = omega (arith, g.fits, o.long, d.long);
      room = λ k lt.
          let i : c.start + k < H = omega (arith, g.fits, lt) in
          omega (arith, o.most (c.start + k) i, d.each (c.start + k) (omega (arith, i, o.long)), w.most available_part (c.start + k) (lit< tt) i, within_at most_megawatts c.mw.now g.most k lt);
    }

    pub less_enough : m < used l → held_then c.rows m ≡ Less → Taking c.start c.mw.now next
    less_enough mlt e = record {
      fits = omega (arith, g.fits, o.long, d.long);
      enough = λ k lt.
          let i : c.start + k < H = omega (arith, g.fits, lt) in
          omega (arith, d.each (c.start + k) (omega (arith, i, o.long)), g.drawn m e mlt (c.start + k) i, standing_in c.start c.mw.now k refl);
    }
