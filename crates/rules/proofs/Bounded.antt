-- The bound of 100,000 on available, displaced and reduced words, row by row; the last check of an action asks for it
-- of every used row.
use mathlib.Core.Path.{◌≡◌, refl, sym, ap, subst, ◌∙◌}
use mathlib.Core.Logic.{◌≢◌, ◌⊎◌, ⊎_elim, inl, inr}
use mathlib.Core.Bool.{Bool, true, false, ◌&&◌, not}
use mathlib.Core.List.{List}
use Prim.Native.Nat.{ℕ, ◌+◌, ◌-◌, ◌≤◌, ◌<◌}
use native.Mathlib.Decide.{ℕ_discrete}
use native.Mathlib.Omega.{arith}
use lib.Dec.{lit<}
use lib.ListN.{length, get_or, drop, length-take, get_or-eq_default}
use lib.Seq.{get_or-take, get_or-drop}
use borrow.Author.Tests.{le-leb, not-false}
use Rattle.words.specs.Lists.{splice, within, roomy}
use Rattle.words.proofs.Laws.{lt_or_le, and_left, and_right, all_at, all_below_lem, within_at, within_all, roomy_at, part_at, splice_length, splice_after}
use Rattle.rules.specs.Pick.{pick}
use Rattle.rules.specs.Numbers.{profiles, requested_part, granted_part, available_part, displaced_part, reduced_part, most_megawatts, DISPLACED, ANNULLED}
use Rattle.rules.specs.Layout.{used, row, row_size, start, stop, hour_at, hours_of, span_hours, span, available, displaced, reduced, standing}
use Rattle.rules.specs.Moves.{is_confirmed}
use Rattle.rules.specs.Megawatts.{take_from, returns_to, give_back, displaced_row, annulled_row, reduced_row, megawatts_within, carries_over}
use Rattle.rules.specs.Confirming.{held, emptied}
use Rattle.rules.specs.Checks.{profile}
use Rattle.rules.specs.Submit.{new_words, new_row}
use Rattle.rules.specs.declared.Action.{Action}
use Rattle.rules.proofs.Seen.{Room, Seen, at, at_own, at_other, hour_in, seen_self, seen_set, seen_add, seen_clear, standing_in, standing_off, standing_before}
use Rattle.rules.proofs.Spans.{span_length as long, span_hours_lem}
use Rattle.rules.proofs.Unmoved.{Unmoved, unmoved_hours}
use Rattle.rules.proofs.Writes.{words, megawatts, returns_profile, seen_taken, seen_reduced, seen_given, seen_held, seen_emptied}

-- the available, displaced and reduced words of row r in its span are at most 100,000
pub record Bounded (H : ℕ) (r : List ℕ) : Type 0 where
  pub most : (p h : ℕ) → available_part ≤ p → p < profiles → start r ≤ h → h < stop r → get_or r (hour_at H p h) 0 ≤ most_megawatts

abbrev pub AllBounded : ℕ → List ℕ → Type 0
AllBounded H l = (m : ℕ) → m < used l → Bounded H (row H l m)

-- ---- the test of a row, and of a ledger
module _ (H p : ℕ) (r : List ℕ) where
  span_word : (k : ℕ) → k < span_hours r → get_or (span H p r) k 0 ≡ get_or r (hour_at H p (start r) + k) 0
  unfolding span
  span_word k lt = get_or-take (span_hours r) (drop (hour_at H p (start r)) r) k 0 lt ∙ get_or-drop (hour_at H p (start r)) r k 0

  span_least : (k : ℕ) → k < length (span H p r) → k < span_hours r
  unfolding span
  span_least k lt = omega (arith, length-take (span_hours r) (drop (hour_at H p (start r)) r))

  within_span : ((h : ℕ) → start r ≤ h → h < stop r → get_or r (hour_at H p h) 0 ≤ most_megawatts) → within most_megawatts (span H p r) ≡ true
  within_span b =
      within_all most_megawatts (span H p r)
      (λ k lt.
      let j : k < span_hours r = span_least k lt in
      let e : hour_at H p (start r) + k ≡ hour_at H p (start r + k) = omega arith in
      omega (arith, span_word k j, ap (λ (i : ℕ). get_or r i 0) e, b (start r + k) (omega arith) (omega (arith, j))))

  span_within : within most_megawatts (span H p r) ≡ true → (h : ℕ) → start r ≤ h → h < stop r → get_or r (hour_at H p h) 0 ≤ most_megawatts
  span_within e h low high =
      let k : h - start r < span_hours r = omega (arith, low, high) in
      let i : hour_at H p (start r) + (h - start r) ≡ hour_at H p h = omega (arith, low) in
      let word : get_or (span H p r) (h - start r) 0 ≡ get_or r (hour_at H p h) 0 = span_word (h - start r) k ∙ ap (λ (j : ℕ). get_or r j 0) i in
      ⊎_elim
      (λ t. omega (arith, word, within_at most_megawatts (span H p r) e (h - start r) t))
      (λ t. omega (arith, word, get_or-eq_default (span H p r) 0 t))
      (lt_or_le (h - start r) (length (span H p r)))

-- available, displaced or reduced
pub any_of : (P : ℕ → Type 0) → P available_part → P displaced_part → P reduced_part → (p : ℕ) → available_part ≤ p → p < profiles → P p
any_of P a d c p low high = go (ℕ_discrete p available_part) (ℕ_discrete p displaced_part)
  where
    go : Dec (p ≡ available_part) → Dec (p ≡ displaced_part) → P p
    go (yes e) f = subst P (sym e) a
    go (no n) (yes e) = subst P (sym e) d
    go (no n) (no m) = let e : reduced_part ≡ p = omega (arith, n, m, low, high) in subst P e c

module _ (H : ℕ) (r : List ℕ) where
  bounded_row : megawatts_within H r ≡ true → Bounded H r
  unfolding megawatts_within
  bounded_row e =
      let d = and_right (within most_megawatts (available H r)) (within most_megawatts (displaced H r) && within most_megawatts (reduced H r)) e in
      record {
        most = λ p h low high.
            any_of (λ q. start r ≤ h → h < stop r → get_or r (hour_at H q h) 0 ≤ most_megawatts)
            (span_within H available_part r (and_left _ (within most_megawatts (displaced H r) && within most_megawatts (reduced H r)) e) h)
            (span_within H displaced_part r (and_left (within most_megawatts (displaced H r)) (within most_megawatts (reduced H r)) d) h)
            (span_within H reduced_part r (and_right (within most_megawatts (displaced H r)) (within most_megawatts (reduced H r)) d) h)
            p low high;
      }

  row_bounded : Bounded H r → megawatts_within H r ≡ true
  unfolding megawatts_within
  row_bounded b =
      ap (λ (t : Bool). t && (within most_megawatts (displaced H r) && within most_megawatts (reduced H r))) (within_span H available_part r (λ h. b.most available_part h (omega arith) (lit< tt)))
      ∙ ap (λ (t : Bool). t && within most_megawatts (reduced H r)) (within_span H displaced_part r (λ h. b.most displaced_part h (omega arith) (lit< tt)))
      ∙ within_span H reduced_part r (λ h. b.most reduced_part h (omega arith) (lit< tt))

module _ (H : ℕ) (l : List ℕ) where
  pub not_carries : AllBounded H l → carries_over H l ≡ false
  unfolding carries_over
  not_carries b = ap not (all_below_lem _ (used l) (λ m lt. row_bounded H (row H l m) (b m lt)))

  pub carries_false : carries_over H l ≡ false → AllBounded H l
  unfolding carries_over
  carries_false e m lt = bounded_row H (row H l m) (all_at _ (used l) m (not-false _ e) lt)

-- ---- rows of the ledger's size whose span lies in its hours
pub record Ranged (H : ℕ) (r : List ℕ) : Type 0 where
  pub long : length r ≡ row_size H
  pub starts : start r < stop r
  pub stops : stop r ≤ H

-- row q has the span of row r, and at hour h words within the bound
record Shown (H h : ℕ) (r q : List ℕ) : Type 0 where
  same_start : start q ≡ start r
  same_stop : stop q ≡ stop r
  most : (p : ℕ) → available_part ≤ p → p < profiles → get_or q (hour_at H p h) 0 ≤ most_megawatts

shown : {H h : ℕ} {r q : List ℕ} {w x : ℕ → ℕ} → Seen H h q w x → w 5 ≡ start r → w 6 ≡ stop r → ((p : ℕ) → available_part ≤ p → p < profiles → x p ≤ most_megawatts) → Shown H h r q
shown s a b m = record {
  same_start = s.field 5 (lit< tt) ∙ a;
  same_stop = s.field 6 (lit< tt) ∙ b;
  most = λ p low high. omega (arith, s.hour p high, m p low high);
}

bounded_by : {H : ℕ} {r q : List ℕ} → Ranged H r → ((h : ℕ) → start r ≤ h → h < stop r → Shown H h r q) → Bounded H q
bounded_by {H} {r} {q} g f = record {
  most = λ p h low high least below.
      let z : Shown H (start r) r q = f (start r) (omega arith) g.starts in
      (f h (omega (arith, z.same_start, least)) (omega (arith, z.same_stop, below))).most p low high;
}

at_most : (x : ℕ → ℕ) (k v b j : ℕ) → (j ≡ k → v ≤ b) → (j ≢ k → x j ≤ b) → at x k v j ≤ b
at_most x k v b j own other = go (ℕ_discrete j k)
  where
    go : Dec (j ≡ k) → at x k v j ≤ b
    go (yes e) = omega (arith, at_own x k v e, own e)
    go (no n) = omega (arith, at_other x k v n, other n)

-- ---- megawatts v added from hour s on: there is room in the hours, or at each hour
roomy_all : (bound : ℕ) (a b : List ℕ) → ((k : ℕ) → k < length a → get_or a k 0 + get_or b k 0 ≤ bound) → roomy bound a b ≡ true
unfolding roomy
roomy_all bound a b h = all_below_lem _ (length a) (λ k lt. le-leb (get_or a k 0 + get_or b k 0) bound (h k lt))

pub standing_most : (b s : ℕ) (v : List ℕ) (h : ℕ) → within b v ≡ true → standing s v h ≤ b
standing_most b s v h e =
    ⊎_elim
    (λ u. omega (arith, standing_before s v u))
    (λ u.
    let k : h ≡ s + (h - s) = omega (arith, u) in
    ⊎_elim
    (λ t. omega (arith, standing_in s v (h - s) k, within_at b v e (h - s) t))
    (λ t. omega (arith, standing_in s v (h - s) k, get_or-eq_default v 0 t))
    (lt_or_le (h - s) (length v)))
    (lt_or_le h s)

module _ {H s : ℕ} {v r : List ℕ} (m : Room H s v r) (p : ℕ) (plt : p < profiles) where
  -- the word of hour h there
  hour_word : (h k : ℕ) → h ≡ s + k → k < length v → get_or (hours_of H p s (length v) r) k 0 ≡ megawatts H h r p
  hour_word h k e lt =
      let i : hour_at H p s + k ≡ hour_at H p h = omega (arith, e) in
      part_at r (hour_at H p s) (length v) (omega (arith, hour_in H plt, m.long, m.fits)) k lt ∙ ap (λ (j : ℕ). get_or r j 0) i

  pub room_hour : roomy most_megawatts v (hours_of H p s (length v) r) ≡ true → (h : ℕ) → megawatts H h r p ≤ most_megawatts → megawatts H h r p + standing s v h ≤ most_megawatts
  room_hour e h b =
      ⊎_elim
      (λ u. omega (arith, standing_off s v (inl u), b))
      (λ u.
      ⊎_elim
      (λ t.
      let k : h ≡ s + (h - s) = omega (arith, u) in
      let lt : h - s < length v = omega (arith, u, t) in
      omega (arith, standing_in s v (h - s) k, hour_word h (h - s) k lt, roomy_at most_megawatts v (hours_of H p s (length v) r) e (h - s) lt))
      (λ t. omega (arith, standing_off s v (inr t), b))
      (lt_or_le h (s + length v)))
      (lt_or_le h s)

  pub hour_room : ((h : ℕ) → s ≤ h → h < s + length v → megawatts H h r p + standing s v h ≤ most_megawatts) → roomy most_megawatts v (hours_of H p s (length v) r) ≡ true
  hour_room b =
      roomy_all most_megawatts v (hours_of H p s (length v) r)
      (λ k lt.
      let e : s + k ≡ s + k = refl in
      omega (arith, standing_in s v k e, hour_word (s + k) k e lt, b (s + k) (omega arith) (omega (arith, lt))))

returns_least : (r : List ℕ) → available_part ≤ returns_to r
unfolding returns_to
returns_least r = go (is_confirmed r)
  where
    go : (b : Bool) → available_part ≤ pick b available_part displaced_part
    go true = omega arith
    go false = omega arith

-- ---- each write in a row
module _ {H : ℕ} {r : List ℕ} (g : Ranged H r) where
  room : (s : ℕ) (v : List ℕ) → s + length v ≤ H → Room H s v r
  room s v fits = record { long = g.long; fits = fits }

  -- of what stands outside the span nothing is asked in it
  off_span : {A : Type 0} (h n : ℕ) → start r ≤ h → h < stop r → n ≡ span_hours r → (h < start r) ⊎ (start r + n ≤ h) → A
  off_span h n low high e z = ⊎_elim (λ u. absurd (omega (arith, u, low))) (λ u. absurd (omega (arith, u, e, high, g.starts))) z

  in_hours : start r < H
  in_hours = omega (arith, g.starts, g.stops)

  at_start : {A : Type 0} (n : ℕ) → n ≡ span_hours r → (start r < start r) ⊎ (start r + n ≤ start r) → A
  at_start n e z = off_span (start r) n (omega arith) g.starts e z

  pub taken_long : (s : ℕ) (v : List ℕ) → s + length v ≤ H → length (take_from H s v r) ≡ row_size H
  taken_long s v fits = (seen_taken in_hours (room s v fits)).long

  pub given_long : (s : ℕ) (v : List ℕ) → s + length v ≤ H → length (give_back H s v r) ≡ row_size H
  given_long s v fits = (seen_given in_hours (room s v fits)).long

  pub taken_bounded : Bounded H r → (s : ℕ) (v : List ℕ) → s + length v ≤ H → Bounded H (take_from H s v r)
  taken_bounded b s v fits =
      bounded_by g
      (λ h low high.
      shown (seen_taken (omega (arith, high, g.stops)) (room s v fits)) refl refl
      (λ p least most. at_most (megawatts H h r) available_part _ most_megawatts p (λ o. omega (arith, b.most available_part h (omega arith) (lit< tt) low high)) (λ n. b.most p h least most low high)))

  module _ (s : ℕ) (v : List ℕ) where
    pub given_bounded : Bounded H r → s + length v ≤ H → roomy most_megawatts v (hours_of H (returns_to r) s (length v) r) ≡ true → Bounded H (give_back H s v r)
    given_bounded b fits e =
        bounded_by g
        (λ h low high.
        shown (seen_given (omega (arith, high, g.stops)) (room s v fits)) refl refl
        (λ p least most.
        at_most (megawatts H h r) (returns_to r) _ most_megawatts p
        (λ o. room_hour (room s v fits) (returns_to r) (returns_profile r) e h (b.most (returns_to r) h (returns_least r) (returns_profile r) low high))
        (λ n. b.most p h least most low high)))

    pub bounded_given : start r ≤ s → s + length v ≤ stop r → Bounded H (give_back H s v r) → roomy most_megawatts v (hours_of H (returns_to r) s (length v) r) ≡ true
    bounded_given low high b =
        let fits : s + length v ≤ H = omega (arith, high, g.stops) in
        hour_room (room s v fits) (returns_to r) (returns_profile r)
        (λ h least below.
        let K = seen_given {h = h} (omega (arith, below, fits)) (room s v fits) in
        omega (
          arith,
          K.hour (returns_to r) (returns_profile r),
          at_own (megawatts H h r) (returns_to r) (megawatts H h r (returns_to r) + standing s v h) refl,
          b.most (returns_to r) h (returns_least r) (returns_profile r) (omega (arith, K.field 5 (lit< tt), low, least)) (omega (arith, K.field 6 (lit< tt), high, below)),
        ))

  -- the row itself is written in its span
  module _ (v : List ℕ) (e : length v ≡ span_hours r) where
    own_room : Room H (start r) v r
    own_room = room (start r) v (omega (arith, e, g.starts, g.stops))

    pub held_long : length (held H (start r) v r) ≡ row_size H
    held_long = (seen_held in_hours own_room (λ p plt z. at_start (length v) e z)).1.long

    pub emptied_long : length (emptied H (start r) v r) ≡ row_size H
    emptied_long = (seen_emptied in_hours own_room (λ p plt z. at_start (length v) e z)).1.long

    pub held_bounded : Bounded H r → within most_megawatts v ≡ true → Bounded H (held H (start r) v r)
    held_bounded b w =
        bounded_by g
        (λ h low high.
        let K = seen_held {h = h} (omega (arith, high, g.stops)) own_room (λ p plt z. off_span h (length v) low high e z) in
        shown K.1 refl refl
        (λ p least most.
        at_most (at (megawatts H h r) available_part (standing (start r) v h)) granted_part (standing (start r) v h) most_megawatts p (λ o. absurd (omega (arith, o, least)))
        (λ n. at_most (megawatts H h r) available_part (standing (start r) v h) most_megawatts p (λ o. standing_most most_megawatts (start r) v h w) (λ o. b.most p h least most low high))))

    pub emptied_bounded : Bounded H r → Bounded H (emptied H (start r) v r)
    emptied_bounded b =
        bounded_by g
        (λ h low high.
        let K = seen_emptied {h = h} (omega (arith, high, g.stops)) own_room (λ p plt z. off_span h (length v) low high e z) in
        shown K.1 refl refl
        (λ p least most.
        at_most (at (megawatts H h r) available_part 0) granted_part (standing (start r) v h) most_megawatts p (λ o. absurd (omega (arith, o, least)))
        (λ n. at_most (megawatts H h r) available_part 0 most_megawatts p (λ o. omega arith) (λ o. b.most p h least most low high))))

    pub reduced_bounded : Bounded H r → roomy most_megawatts v (reduced H r) ≡ true → Bounded H (reduced_row H (start r) v r)
    reduced_bounded b f =
        let f' : roomy most_megawatts v (hours_of H reduced_part (start r) (length v) r) ≡ true = ap (λ (x : List ℕ). roomy most_megawatts v x) (span_hours_lem H reduced_part r refl e) ∙ f in
        bounded_by g
        (λ h low high.
        shown (seen_reduced {h = h} (omega (arith, high, g.stops)) own_room) refl refl
        (λ p least most.
        at_most (at (megawatts H h r) available_part (megawatts H h r available_part - standing (start r) v h)) reduced_part (megawatts H h r reduced_part + standing (start r) v h) most_megawatts p
        (λ o. room_hour own_room reduced_part (lit< tt) f' h (b.most reduced_part h (omega arith) (lit< tt) low high))
        (λ o.
        at_most (megawatts H h r) available_part (megawatts H h r available_part - standing (start r) v h) most_megawatts p
        (λ i. omega (arith, b.most available_part h (omega arith) (lit< tt) low high)) (λ i. b.most p h least most low high))))

    pub bounded_reduced : Bounded H (reduced_row H (start r) v r) → roomy most_megawatts v (reduced H r) ≡ true
    bounded_reduced b =
        sym (ap (λ (x : List ℕ). roomy most_megawatts v x) (span_hours_lem H reduced_part r refl e))
        ∙ hour_room own_room reduced_part (lit< tt)
        (λ h least below.
        let high : h < stop r = omega (arith, below, e, g.starts) in
        let K = seen_reduced {h = h} (omega (arith, high, g.stops)) own_room in
        let word : get_or (reduced_row H (start r) v r) (hour_at H reduced_part h) 0 ≡ megawatts H h r reduced_part + standing (start r) v h = K.hour reduced_part (lit< tt) in
        omega (arith, word, b.most reduced_part h (omega arith) (lit< tt) (omega (arith, K.field 5 (lit< tt), least)) (omega (arith, K.field 6 (lit< tt), high))))

  -- the row's own available
  pub span_length : (p : ℕ) → p < profiles → length (span H p r) ≡ span_hours r
  span_length p plt = long (record { long = g.long; starts = omega (arith, g.starts); stops = g.stops }) p plt

  all_available : Room H (start r) (available H r) r
  all_available = room (start r) (available H r) (omega (arith, span_length available_part (lit< tt), g.starts, g.stops))

  seen_displaced : (h : ℕ) → start r ≤ h → h < stop r
      → Seen H h (displaced_row H r) (at (words r) 1 DISPLACED)
      (at (at (megawatts H h r) displaced_part (megawatts H h r displaced_part + standing (start r) (available H r) h)) available_part 0)
  unfolding displaced_row
  seen_displaced h low high =
      let lt : h < H = omega (arith, high, g.stops) in
      seen_set
      (seen_clear (seen_add (seen_self H h r g.long) lt displaced_part (start r) (available H r) (lit< tt) all_available.fits) lt available_part (start r) (span_hours r) (lit< tt) (omega (arith, g.starts, g.stops))
      (λ z. off_span h (span_hours r) low high refl z))
      1 DISPLACED (lit< tt)

  seen_annulled : (h : ℕ) → start r ≤ h → h < stop r → Seen H h (annulled_row H r) (at (words r) 1 ANNULLED) (at (megawatts H h r) available_part 0)
  unfolding annulled_row
  seen_annulled h low high =
      let lt : h < H = omega (arith, high, g.stops) in
      seen_set (seen_clear (seen_self H h r g.long) lt available_part (start r) (span_hours r) (lit< tt) (omega (arith, g.starts, g.stops)) (λ z. off_span h (span_hours r) low high refl z)) 1 ANNULLED (lit< tt)

  pub displaced_long : length (displaced_row H r) ≡ row_size H
  displaced_long = (seen_displaced (start r) (omega arith) g.starts).long

  pub annulled_long : length (annulled_row H r) ≡ row_size H
  annulled_long = (seen_annulled (start r) (omega arith) g.starts).long

  pub annulled_bounded : Bounded H r → Bounded H (annulled_row H r)
  annulled_bounded b =
      bounded_by g
      (λ h low high.
      shown (seen_annulled h low high) refl refl
      (λ p least most. at_most (megawatts H h r) available_part 0 most_megawatts p (λ o. omega arith) (λ o. b.most p h least most low high)))

  -- the hours of displaced, counted by the row's span or by its available
  same_hours : hours_of H displaced_part (start r) (length (available H r)) r ≡ displaced H r
  same_hours = span_hours_lem H displaced_part r refl (span_length available_part (lit< tt))

  pub displaced_bounded : Bounded H r → roomy most_megawatts (available H r) (displaced H r) ≡ true → Bounded H (displaced_row H r)
  displaced_bounded b e =
      let e' : roomy most_megawatts (available H r) (hours_of H displaced_part (start r) (length (available H r)) r) ≡ true = ap (λ (x : List ℕ). roomy most_megawatts (available H r) x) same_hours ∙ e in
      bounded_by g
      (λ h low high.
      shown (seen_displaced h low high) refl refl
      (λ p least most.
      at_most (at (megawatts H h r) displaced_part (megawatts H h r displaced_part + standing (start r) (available H r) h)) available_part 0 most_megawatts p (λ o. omega arith)
      (λ o.
      at_most (megawatts H h r) displaced_part (megawatts H h r displaced_part + standing (start r) (available H r) h) most_megawatts p
      (λ i. room_hour all_available displaced_part (lit< tt) e' h (b.most displaced_part h (omega arith) (lit< tt) low high))
      (λ i. b.most p h least most low high))))

  pub bounded_displaced : Bounded H (displaced_row H r) → roomy most_megawatts (available H r) (displaced H r) ≡ true
  bounded_displaced b =
      sym (ap (λ (x : List ℕ). roomy most_megawatts (available H r) x) same_hours)
      ∙ hour_room all_available displaced_part (lit< tt)
      (λ h least below.
      let high : h < stop r = omega (arith, below, span_length available_part (lit< tt), g.starts) in
      let K = seen_displaced h least high in
      let word : get_or (displaced_row H r) (hour_at H displaced_part h) 0 ≡ megawatts H h r displaced_part + standing (start r) (available H r) h = K.hour displaced_part (lit< tt) in
      omega (arith, word, b.most displaced_part h (omega arith) (lit< tt) (omega (arith, K.field 5 (lit< tt), least)) (omega (arith, K.field 6 (lit< tt), high))))

-- ---- a write that moves no megawatts, and a new row
pub unmoved_bounded : {H : ℕ} {r q : List ℕ} → Unmoved H r q → Bounded H r → Bounded H q
unmoved_bounded {H} {r} {q} k b = record {
  most = λ p h low high least below.
      let least' : start r ≤ h = omega (arith, k.same_start, least) in
      let below' : h < stop r = omega (arith, k.same_stop, below) in
      omega (arith, k.same_hour p h low, b.most p h low high least' below');
}

module _ (H : ℕ) (r : List ℕ) (e : length r ≡ row_size H) (w : List ℕ) (a : Action) (fits : a.start + length (profile w a) ≤ H) where
  twelve : length (new_words a) ≡ 12
  unfolding new_words
  twelve = refl

  fore : 0 + length (new_words a) ≤ length r
  fore = omega (arith, twelve, e)

  new_unmoved : Unmoved H (splice r 0 (new_words a)) (new_row H w a r)
  unfolding new_row
  new_unmoved = unmoved_hours (splice_length r 0 (new_words a) fore ∙ e) requested_part a.start (profile w a) (lit< tt) fits

  pub new_long : length (new_row H w a r) ≡ row_size H
  new_long = new_unmoved.long

  -- a row of zeros becomes the new row
  pub new_bounded : ((k : ℕ) → get_or r k 0 ≡ 0) → Bounded H (new_row H w a r)
  new_bounded zero =
      unmoved_bounded new_unmoved
      (record { most = λ p h low high least below. omega (arith, splice_after r 0 (new_words a) fore (hour_at H p h) (omega (arith, twelve)), zero (hour_at H p h)) })
