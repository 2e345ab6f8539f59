-- Laws of the writes in a row, by what is seen of it at one hour.
use mathlib.Core.Path.{◌≡◌, refl, sym, ap, ◌∙◌}
use mathlib.Core.Logic.{◌≢◌, ◌⊎◌, ⊎_elim, inl, inr}
use mathlib.Core.Bool.{Bool}
use mathlib.Core.List.{List}
use Prim.Native.Nat.{ℕ, ◌+◌, ◌-◌, ◌≤◌, ◌<◌}
use native.Mathlib.Decide.{ℕ_discrete}
use native.Mathlib.Nat.{mul-le-mul_right, suc-mul}
use native.Mathlib.Omega.{arith}
use borrow.Author.Tests.{eq-eqb, ne_eqb, lt-ltb, le-ltb}
use lib.Dec.{eqb}
use lib.ListN.{length, get_or, set, length-set, get_or-eq_default}
use lib.Seq.{get_or-set_same, get_or-set_other}
use Rattle.words.specs.Lists.{splice, build, zip2, noughts}
use Rattle.words.proofs.Laws.{lt_or_le, build_length, build_at, noughts_length, noughts_at, part_length, part_at, splice_length, splice_before, splice_in, splice_after}
use Rattle.rules.specs.Pick.{pick}
use Rattle.rules.specs.Numbers.{profiles, row_words}
use Rattle.rules.specs.Layout.{row_size, hour_at, hours_of, set_hours, add_hours, less_hours, clear_hours, standing}

-- a row of H hours in which the words v have room from hour s on
pub record Room (H s : ℕ) (v r : List ℕ) : Type 0 where
  pub long : length r ≡ row_size H
  pub fits : s + length v ≤ H

-- the hours of a profile lie in the row; profiles lie one after the other
pub hour_in : (H : ℕ) {p : ℕ} → p < profiles → hour_at H p H ≤ row_size H
hour_in H {p} h = omega (arith, mul-le-mul_right H h, suc-mul p H)

pub hour_apart : (H : ℕ) {p q : ℕ} → p < q → hour_at H p H ≤ hour_at H q 0
hour_apart H {p} {q} h = omega (arith, mul-le-mul_right H h, suc-mul p H)

-- ---- a profile that stands from hour s on
pub standing_before : (s : ℕ) (v : List ℕ) {h : ℕ} → h < s → standing s v h ≡ 0
unfolding standing
standing_before s v {h} lt = ap (λ (b : Bool). pick b 0 (get_or v (h - s) 0)) (lt-ltb h s lt)

pub standing_in : (s : ℕ) (v : List ℕ) {h : ℕ} (k : ℕ) → h ≡ s + k → standing s v h ≡ get_or v k 0
unfolding standing
standing_in s v {h} k e =
    let le : s ≤ h = omega (arith, e) in
    let d : h - s ≡ k = omega (arith, e) in
    ap (λ (b : Bool). pick b 0 (get_or v (h - s) 0)) (le-ltb h s le) ∙ ap (λ (j : ℕ). get_or v j 0) d

pub standing_after : (s : ℕ) (v : List ℕ) {h : ℕ} → s + length v ≤ h → standing s v h ≡ 0
standing_after s v {h} le =
    let e : h ≡ s + (h - s) = omega arith in
    let o : length v ≤ h - s = omega arith in
    standing_in s v (h - s) e ∙ get_or-eq_default v 0 o

pub standing_off : (s : ℕ) (v : List ℕ) {h : ℕ} → (h < s) ⊎ (s + length v ≤ h) → standing s v h ≡ 0
standing_off s v w = ⊎_elim (λ x. standing_before s v x) (λ x. standing_after s v x) w

-- ---- f with v at k
abbrev pub at : (ℕ → ℕ) → ℕ → ℕ → ℕ → ℕ
at f k v j = pick (eqb j k) v (f j)

pub at_own : (f : ℕ → ℕ) (k v : ℕ) {j : ℕ} → j ≡ k → at f k v j ≡ v
at_own f k v {j} e = ap (λ (b : Bool). pick b v (f j)) (eq-eqb j k e)

pub at_other : (f : ℕ → ℕ) (k v : ℕ) {j : ℕ} → j ≢ k → at f k v j ≡ f j
at_other f k v {j} n = ap (λ (b : Bool). pick b v (f j)) (ne_eqb j k n)

-- ---- what is seen of a row at hour h: its words w and its profiles' words x
pub record Seen (H h : ℕ) (r : List ℕ) (w x : ℕ → ℕ) : Type 0 where
  pub long : length r ≡ row_size H
  pub field : (k : ℕ) → k < row_words → get_or r k 0 ≡ w k
  pub hour : (p : ℕ) → p < profiles → get_or r (hour_at H p h) 0 ≡ x p

pub seen_self : (H h : ℕ) (r : List ℕ) → length r ≡ row_size H → Seen H h r (λ k. get_or r k 0) (λ p. get_or r (hour_at H p h) 0)
seen_self H h r e = record { long = e; field = λ k lt. refl; hour = λ p lt. refl }

module _ {H h : ℕ} {r : List ℕ} {w x : ℕ → ℕ} (s : Seen H h r w x) where
  -- a word of the sixteen is stored
  pub seen_set : (k v : ℕ) → k < row_words → Seen H h (set r k v) (at w k v) x
  seen_set k v lt = record {
    long = length-set r k v ∙ s.long;
    field = λ j jlt. one j jlt (ℕ_discrete j k);
    hour = λ p plt. get_or-set_other r k (hour_at H p h) v 0 (λ e. omega (arith, e)) ∙ s.hour p plt;
  }
    where
      one : (j : ℕ) → j < row_words → Dec (j ≡ k) → get_or (set r k v) j 0 ≡ at w k v j
      one j jlt (yes e) =
          ap (λ (i : ℕ). get_or (set r k v) i 0) e ∙ get_or-set_same r k v 0 (omega (arith, s.long)) ∙ sym (at_own w k v e)
      one j jlt (no n) = get_or-set_other r k j v 0 n ∙ s.field j jlt ∙ sym (at_other w k v n)

  -- hours of a profile are stored: y is what stands there at hour h
  pub seen_hours : h < H → (p a : ℕ) (v : List ℕ) → p < profiles → a + length v ≤ H → (y : ℕ)
      → ((h < a) ⊎ (a + length v ≤ h) → y ≡ x p) → ((k : ℕ) → h ≡ a + k → k < length v → y ≡ get_or v k 0)
      → Seen H h (set_hours H p a v r) w (at x p y)
  unfolding set_hours
  seen_hours hlt p a v plt fits y off on = record {
    long = splice_length r (hour_at H p a) v room ∙ s.long;
    field = λ k klt. splice_before r (hour_at H p a) v room k (omega arith) ∙ s.field k klt;
    hour = λ q qlt. one q qlt (ℕ_discrete q p);
  }
    where
      room : hour_at H p a + length v ≤ length r
      room = omega (arith, hour_in H plt, s.long, fits)

      stays : (q : ℕ) → q < profiles → (hour_at H q h < hour_at H p a) ⊎ (hour_at H p a + length v ≤ hour_at H q h) → get_or (splice r (hour_at H p a) v) (hour_at H q h) 0 ≡ x q
      stays q qlt z =
          ⊎_elim (λ u. splice_before r (hour_at H p a) v room (hour_at H q h) u) (λ u. splice_after r (hour_at H p a) v room (hour_at H q h) u) z
          ∙ s.hour q qlt

      own : get_or (splice r (hour_at H p a) v) (hour_at H p h) 0 ≡ y
      own =
          ⊎_elim
          (λ u. stays p plt (inl (omega (arith, u))) ∙ sym (off (inl u)))
          (λ u.
          ⊎_elim
          (λ t.
          let e : h ≡ a + (h - a) = omega (arith, u) in
          let f : hour_at H p h ≡ hour_at H p a + (h - a) = omega (arith, u) in
          let lt : h - a < length v = omega (arith, u, t) in
          ap (λ (i : ℕ). get_or (splice r (hour_at H p a) v) i 0) f ∙ splice_in r (hour_at H p a) v room (h - a) lt ∙ sym (on (h - a) e lt))
          (λ t. stays p plt (inr (omega (arith, t))) ∙ sym (off (inr t)))
          (lt_or_le h (a + length v)))
          (lt_or_le h a)

      other : (q : ℕ) → q ≢ p → (hour_at H q h < hour_at H p a) ⊎ (hour_at H p a + length v ≤ hour_at H q h)
      other q n =
          ⊎_elim
          (λ u. inl (omega (arith, hour_apart H u, hlt)))
          (λ u. let z : p < q = omega (arith, u, n) in inr (omega (arith, hour_apart H z, fits)))
          (lt_or_le q p)

      one : (q : ℕ) → q < profiles → Dec (q ≡ p) → get_or (splice r (hour_at H p a) v) (hour_at H q h) 0 ≡ at x p y q
      one q qlt (yes e) = ap (λ (i : ℕ). get_or (splice r (hour_at H p a) v) (hour_at H i h) 0) e ∙ own ∙ sym (at_own x p y e)
      one q qlt (no n) = stays q qlt (other q n) ∙ sym (at_other x p y n)

  module _ (hlt : h < H) (p a : ℕ) (v : List ℕ) (plt : p < profiles) (fits : a + length v ≤ H) where
    -- the profile was 0 outside the span
    pub seen_put : ((h < a) ⊎ (a + length v ≤ h) → x p ≡ 0) → Seen H h (set_hours H p a v r) w (at x p (standing a v h))
    seen_put zero =
        seen_hours hlt p a v plt fits (standing a v h) (λ z. standing_off a v z ∙ sym (zero z)) (λ k e lt. standing_in a v k e)

    within : hour_at H p a + length v ≤ length r
    within = omega (arith, hour_in H plt, s.long, fits)

    length_zip : (f : ℕ → ℕ → ℕ) → length (zip2 f (hours_of H p a (length v) r) v) ≡ length v
    unfolding zip2
    length_zip f = build_length _ _ ∙ part_length r (hour_at H p a) (length v) within

    -- each word there is f of what it was and v's
    pub seen_zip : (f : ℕ → ℕ → ℕ) → ((n : ℕ) → f n 0 ≡ n) → Seen H h (set_hours H p a (zip2 f (hours_of H p a (length v) r) v) r) w (at x p (f (x p) (standing a v h)))
    unfolding zip2
    seen_zip f none =
        seen_hours hlt p a (zip2 f (hours_of H p a (length v) r) v) plt (omega (arith, length_zip f, fits)) (f (x p) (standing a v h))
        (λ z.
        let z' : (h < a) ⊎ (a + length v ≤ h) = ⊎_elim (λ u. inl u) (λ u. inr (omega (arith, u, length_zip f))) z in
        ap (λ (n : ℕ). f (x p) n) (standing_off a v z') ∙ none (x p))
        (λ k e lt.
        let k' : k < length v = omega (arith, lt, length_zip f) in
        let i : hour_at H p h ≡ hour_at H p a + k = omega (arith, e) in
        let g : x p ≡ get_or (hours_of H p a (length v) r) k 0 = sym (s.hour p plt) ∙ ap (λ (j : ℕ). get_or r j 0) i ∙ sym (part_at r (hour_at H p a) (length v) within k k') in
        let t : k < length (hours_of H p a (length v) r) = omega (arith, k', part_length r (hour_at H p a) (length v) within) in
        ap (λ (n : ℕ). f n (standing a v h)) g ∙ ap (λ (n : ℕ). f (get_or (hours_of H p a (length v) r) k 0) n) (standing_in a v k e) ∙ sym (build_at _ _ k t))

    pub seen_less : Seen H h (less_hours H p a v r) w (at x p (x p - standing a v h))
    unfolding less_hours
    seen_less = seen_zip ◌-◌ (λ n. omega arith)

    pub seen_add : Seen H h (add_hours H p a v r) w (at x p (x p + standing a v h))
    unfolding add_hours
    seen_add = seen_zip ◌+◌ (λ n. omega arith)

  -- n hours are cleared, and 0 stood outside them
  pub seen_clear : h < H → (p a n : ℕ) → p < profiles → a + n ≤ H → ((h < a) ⊎ (a + n ≤ h) → x p ≡ 0) → Seen H h (clear_hours H p a n r) w (at x p 0)
  unfolding clear_hours
  seen_clear hlt p a n plt fits zero =
      seen_hours hlt p a (noughts n) plt (omega (arith, noughts_length n, fits)) 0
      (λ z. sym (zero (⊎_elim (λ u. inl u) (λ u. inr (omega (arith, u, noughts_length n))) z)))
      (λ k e lt. sym (noughts_at n k))

-- ---- every write keeps a row's length
module _ {H s : ℕ} {v r : List ℕ} (m : Room H s v r) {p : ℕ} (plt : p < profiles) where
  pub set_length : length (set_hours H p s v r) ≡ row_size H
  unfolding set_hours
  set_length = splice_length r (hour_at H p s) v (omega (arith, hour_in H plt, m.long, m.fits)) ∙ m.long

  zip_room : (f : ℕ → ℕ → ℕ) → length (set_hours H p s (zip2 f (hours_of H p s (length v) r) v) r) ≡ row_size H
  unfolding set_hours zip2
  zip_room f =
      let e : length (build (length (hours_of H p s (length v) r)) (λ k. f (get_or (hours_of H p s (length v) r) k 0) (get_or v k 0))) ≡ length v = build_length _ _ ∙ part_length r (hour_at H p s) (length v) (omega (arith, hour_in H plt, m.long, m.fits)) in
      splice_length r (hour_at H p s) _ (omega (arith, e, hour_in H plt, m.long, m.fits)) ∙ m.long

  pub less_length : length (less_hours H p s v r) ≡ row_size H
  unfolding less_hours
  less_length = zip_room ◌-◌

  pub add_length : length (add_hours H p s v r) ≡ row_size H
  unfolding add_hours
  add_length = zip_room ◌+◌

pub clear_length : (H s n : ℕ) (r : List ℕ) → length r ≡ row_size H → s + n ≤ H → {p : ℕ} → p < profiles → length (clear_hours H p s n r) ≡ row_size H
unfolding clear_hours set_hours
clear_length H s n r long fits {p} plt =
    splice_length r (hour_at H p s) (noughts n) (omega (arith, noughts_length n, hour_in H plt, long, fits)) ∙ long
