-- Laws of a row's spans, as lists, and of its flags.
use mathlib.Core.Path.{◌≡◌, refl, sym, ap, ◌∙◌}
use mathlib.Core.Logic.{◌≢◌, ◌⊎◌, ⊎_elim, inl, inr}
use mathlib.Core.Bool.{Bool, true, false}
use mathlib.Core.List.{List}
use Prim.Native.Nat.{ℕ, ◌+◌, ◌-◌, ◌*◌, ◌/◌, ◌%◌, ◌≤◌, ◌<◌}
use native.Mathlib.Nat.{mul_assoc, add-div_right, div-div-eq-div-mul}
use native.Mathlib.Omega.{arith}
use borrow.Author.Tests.{eqb-false, eq-eqb}
use lib.Dec.{eqb, lit<}
use lib.ListN.{length, get_or, take, set, length-set}
use lib.Seq.{ext_get_or, get_or-set_same, get_or-set_other, drop-set-lt}
use Rattle.words.specs.Lists.{part, build, zip2, noughts}
use Rattle.words.proofs.Laws.{lt_or_le, build_length, noughts_length, part_length, part_at, part_apart, splice_before, splice_in, splice_after}
use Rattle.rules.specs.Pick.{pick}
use Rattle.rules.specs.Numbers.{row_words, profiles, approved, granted_given}
use Rattle.rules.specs.Layout.{row_size, start, stop, flags, span_hours, hour_at, hours_of, span, set_hours, add_hours, less_hours, clear_hours, standing, has_flag, flagged, has, raise}
use Rattle.rules.proofs.Seen.{hour_in, hour_apart, set_length, standing_before, standing_in, standing_after}

-- a row of H hours, and its hours
pub record Spanned (H : ℕ) (r : List ℕ) : Type 0 where
  pub long : length r ≡ row_size H
  pub starts : start r ≤ stop r
  pub stops : stop r ≤ H

-- the row with a word of the sixteen stored, other than start and stop
pub set_spanned : {H : ℕ} {r : List ℕ} → Spanned H r → (k x : ℕ) → k ≢ 5 → k ≢ 6 → Spanned H (set r k x)
set_spanned {H} {r} m k x s t =
    let a : start (set r k x) ≡ start r = get_or-set_other r k 5 x 0 (λ e. s (sym e)) in
    let b : stop (set r k x) ≡ stop r = get_or-set_other r k 6 x 0 (λ e. t (sym e)) in
    record { long = length-set r k x ∙ m.long; starts = omega (arith, a, b); stops = omega (arith, b) }

pub span_set : (H p : ℕ) (r : List ℕ) (k x : ℕ) → k < row_words → k ≢ 5 → k ≢ 6 → span H p (set r k x) ≡ span H p r
unfolding span
span_set H p r k x lt s t =
    let a : start (set r k x) ≡ start r = get_or-set_other r k 5 x 0 (λ e. s (sym e)) in
    let b : stop (set r k x) ≡ stop r = get_or-set_other r k 6 x 0 (λ e. t (sym e)) in
    let n : span_hours (set r k x) ≡ span_hours r = omega (arith, a, b) in
    ap (λ (i : ℕ). part (set r k x) (hour_at H p i) (span_hours (set r k x))) a
    ∙ ap (λ (i : ℕ). part (set r k x) (hour_at H p (start r)) i) n
    ∙ ap (λ (v : List ℕ). take (span_hours r) v) (drop-set-lt (hour_at H p (start r)) r k x (omega arith))

-- count hours of profile p from hour s on, where these are the row's span
pub span_hours_lem : (H p : ℕ) (r : List ℕ) {s count : ℕ} → s ≡ start r → count ≡ span_hours r → hours_of H p s count r ≡ span H p r
unfolding span
span_hours_lem H p r {s} {count} es ec = ap (λ (x : ℕ). hours_of H p x count r) es ∙ ap (λ (k : ℕ). hours_of H p (start r) k r) ec

module _ {H : ℕ} {r : List ℕ} (m : Spanned H r) where
  pub span_room : {p : ℕ} → p < profiles → hour_at H p (start r) + span_hours r ≤ length r
  span_room lt = omega (arith, hour_in H lt)

  pub span_length : (p : ℕ) → p < profiles → length (span H p r) ≡ span_hours r
  unfolding span
  span_length p lt = part_length r (hour_at H p (start r)) (span_hours r) (span_room lt)

  pub span_at : (p : ℕ) → p < profiles → (k : ℕ) → k < span_hours r → get_or (span H p r) k 0 ≡ get_or r (hour_at H p (start r + k)) 0
  unfolding span
  span_at p lt k klt =
      let e : hour_at H p (start r) + k ≡ hour_at H p (start r + k) = omega arith in
      part_at r (hour_at H p (start r)) (span_hours r) (span_room lt) k klt ∙ ap (λ (i : ℕ). get_or r i 0) e

  -- the words of a profile by hour say its span
  pub span_is : (p : ℕ) → p < profiles → (v : List ℕ) → length v ≡ span_hours r → ((k : ℕ) → k < span_hours r → get_or r (hour_at H p (start r + k)) 0 ≡ get_or v k 0) → span H p r ≡ v
  span_is p lt v e f =
      ext_get_or 0 (span H p r) v (span_length p lt ∙ sym e)
      (λ k klt. let k' : k < span_hours r = omega (arith, span_length p lt) in span_at p lt k k' ∙ f k k')

  -- and the span says the words, where nothing stands outside it
  pub hour_standing : (p : ℕ) → p < profiles → ((h : ℕ) → h < H → (h < start r) ⊎ (stop r ≤ h) → get_or r (hour_at H p h) 0 ≡ 0) → (h : ℕ) → h < H → get_or r (hour_at H p h) 0 ≡ standing (start r) (span H p r) h
  hour_standing p lt zero h hlt =
      ⊎_elim
      (λ x. zero h hlt (inl x) ∙ sym (standing_before (start r) (span H p r) x))
      (λ x.
      ⊎_elim
      (λ y.
      let e : h ≡ start r + (h - start r) = omega (arith, x) in
      let k : h - start r < span_hours r = omega (arith, x, y) in
      ap (λ (i : ℕ). get_or r (hour_at H p i) 0) e ∙ sym (span_at p lt (h - start r) k) ∙ sym (standing_in (start r) (span H p r) (h - start r) e))
      (λ y. zero h hlt (inr y) ∙ sym (standing_after (start r) (span H p r) (omega (arith, y, span_length p lt))))
      (lt_or_le h (stop r)))
      (lt_or_le h (start r))

-- rows with the same hours, and the same words of a profile in each of them, have the same span of it
pub span_kin : {H : ℕ} {q r : List ℕ} → Spanned H q → Spanned H r → start q ≡ start r → stop q ≡ stop r → (p : ℕ) → p < profiles → ((h : ℕ) → h < H → get_or q (hour_at H p h) 0 ≡ get_or r (hour_at H p h) 0) → span H p q ≡ span H p r
span_kin {H} {q} {r} m n s t p lt f =
    span_is m p lt (span H p r) (span_length n p lt ∙ (omega arith))
    (λ k klt.
    let k' : k < span_hours r = omega arith in
    let e : start q + k ≡ start r + k = omega arith in
    f (start q + k) (omega arith) ∙ ap (λ (i : ℕ). get_or r (hour_at H p i) 0) e ∙ sym (span_at n p lt k k'))

-- ---- words stored in the hours of profile p, from hour s on
module _ {H : ℕ} {r : List ℕ} (m : Spanned H r) (p s : ℕ) (v : List ℕ) (plt : p < profiles) (room : s + length v ≤ H) where
  within : hour_at H p s + length v ≤ length r
  within = omega (arith, hour_in H plt)

  pub put_word : (k : ℕ) → k < row_words → get_or (set_hours H p s v r) k 0 ≡ get_or r k 0
  unfolding set_hours
  put_word k lt = splice_before r (hour_at H p s) v within k (omega arith)

  pub put_spanned : Spanned H (set_hours H p s v r)
  put_spanned =
      record {
        long = set_length (record { long = m.long; fits = room }) plt;
        starts = omega (arith, put_word 5 (lit< tt), put_word 6 (lit< tt));
        stops = omega (arith, put_word 6 (lit< tt));
      }

  pub put_other : (q : ℕ) → q < profiles → q ≢ p → span H q (set_hours H p s v r) ≡ span H q r
  unfolding span set_hours
  put_other q qlt ne =
      let n : span_hours (set_hours H p s v r) ≡ span_hours r = omega (arith, put_word 5 (lit< tt), put_word 6 (lit< tt)) in
      ap (λ (i : ℕ). part (set_hours H p s v r) (hour_at H q i) (span_hours (set_hours H p s v r))) (put_word 5 (lit< tt))
      ∙ ap (λ (i : ℕ). part (set_hours H p s v r) (hour_at H q (start r)) i) n
      ∙ part_apart r (hour_at H p s) v within (hour_at H q (start r)) (span_hours r) (omega (arith, hour_in H qlt))
      (⊎_elim
      (λ x. inl (omega (arith, hour_apart H x)))
      (λ x. let y : p < q = omega (arith, x, ne) in inr (omega (arith, hour_apart H y)))
      (lt_or_le q p))

  -- the words of another profile
  pub put_hour : (q h : ℕ) → q ≢ p → h < H → get_or (set_hours H p s v r) (hour_at H q h) 0 ≡ get_or r (hour_at H q h) 0
  unfolding set_hours
  put_hour q h ne hlt =
      ⊎_elim
      (λ x. splice_before r (hour_at H p s) v within (hour_at H q h) (omega (arith, hour_apart H x)))
      (λ x. let y : p < q = omega (arith, x, ne) in splice_after r (hour_at H p s) v within (hour_at H q h) (omega (arith, hour_apart H y)))
      (lt_or_le q p)

-- the span's hours stored anew
module _ {H : ℕ} {r : List ℕ} (m : Spanned H r) (p : ℕ) (v : List ℕ) (plt : p < profiles) (e : length v ≡ span_hours r) where
  room : start r + length v ≤ H
  room = omega arith

  pub own_spanned : Spanned H (set_hours H p (start r) v r)
  own_spanned = put_spanned m p (start r) v plt room

  pub put_own : span H p (set_hours H p (start r) v r) ≡ v
  unfolding set_hours
  put_own =
      let a : start (set_hours H p (start r) v r) ≡ start r = put_word m p (start r) v plt room 5 (lit< tt) in
      let n : length v ≡ span_hours (set_hours H p (start r) v r) = omega (arith, a, put_word m p (start r) v plt room 6 (lit< tt)) in
      span_is own_spanned p plt v n
      (λ k klt.
      let i : hour_at H p (start (set_hours H p (start r) v r) + k) ≡ hour_at H p (start r) + k = omega (arith, a) in
      let k' : k < length v = omega (arith, n) in
      ap (λ (j : ℕ). get_or (set_hours H p (start r) v r) j 0) i ∙ splice_in r (hour_at H p (start r)) v (within m p (start r) v plt room) k k')

-- ---- words added there, taken off, or cleared
module _ {H : ℕ} {r : List ℕ} (m : Spanned H r) (p s : ℕ) (v : List ℕ) (plt : p < profiles) (room : s + length v ≤ H) where
  zip_room : (f : ℕ → ℕ → ℕ) → s + length (zip2 f (hours_of H p s (length v) r) v) ≤ H
  unfolding zip2
  zip_room f =
      let e : length (build (length (hours_of H p s (length v) r)) (λ k. f (get_or (hours_of H p s (length v) r) k 0) (get_or v k 0))) ≡ length v = build_length _ _ ∙ part_length r (hour_at H p s) (length v) (omega (arith, hour_in H plt)) in
      omega (arith, e)

  pub add_word : (k : ℕ) → k < row_words → get_or (add_hours H p s v r) k 0 ≡ get_or r k 0
  unfolding add_hours
  add_word k lt = put_word m p s _ plt (zip_room ◌+◌) k lt

  pub add_spanned : Spanned H (add_hours H p s v r)
  unfolding add_hours
  add_spanned = put_spanned m p s _ plt (zip_room ◌+◌)

  pub add_other : (q : ℕ) → q < profiles → q ≢ p → span H q (add_hours H p s v r) ≡ span H q r
  unfolding add_hours
  add_other q qlt ne = put_other m p s _ plt (zip_room ◌+◌) q qlt ne

  pub add_hour : (q h : ℕ) → q ≢ p → h < H → get_or (add_hours H p s v r) (hour_at H q h) 0 ≡ get_or r (hour_at H q h) 0
  unfolding add_hours
  add_hour q h ne hlt = put_hour m p s _ plt (zip_room ◌+◌) q h ne hlt

  pub less_word : (k : ℕ) → k < row_words → get_or (less_hours H p s v r) k 0 ≡ get_or r k 0
  unfolding less_hours
  less_word k lt = put_word m p s _ plt (zip_room ◌-◌) k lt

  pub less_spanned : Spanned H (less_hours H p s v r)
  unfolding less_hours
  less_spanned = put_spanned m p s _ plt (zip_room ◌-◌)

  pub less_other : (q : ℕ) → q < profiles → q ≢ p → span H q (less_hours H p s v r) ≡ span H q r
  unfolding less_hours
  less_other q qlt ne = put_other m p s _ plt (zip_room ◌-◌) q qlt ne

  pub less_hour : (q h : ℕ) → q ≢ p → h < H → get_or (less_hours H p s v r) (hour_at H q h) 0 ≡ get_or r (hour_at H q h) 0
  unfolding less_hours
  less_hour q h ne hlt = put_hour m p s _ plt (zip_room ◌-◌) q h ne hlt

module _ {H : ℕ} {r : List ℕ} (m : Spanned H r) (p s n : ℕ) (plt : p < profiles) (room : s + n ≤ H) where
  pub clear_word : (k : ℕ) → k < row_words → get_or (clear_hours H p s n r) k 0 ≡ get_or r k 0
  unfolding clear_hours
  clear_word k lt = put_word m p s (noughts n) plt (omega (arith, noughts_length n)) k lt

  pub clear_spanned : Spanned H (clear_hours H p s n r)
  unfolding clear_hours
  clear_spanned = put_spanned m p s (noughts n) plt (omega (arith, noughts_length n))

  pub clear_other : (q : ℕ) → q < profiles → q ≢ p → span H q (clear_hours H p s n r) ≡ span H q r
  unfolding clear_hours
  clear_other q qlt ne = put_other m p s (noughts n) plt (omega (arith, noughts_length n)) q qlt ne

  pub clear_hour : (q h : ℕ) → q ≢ p → h < H → get_or (clear_hours H p s n r) (hour_at H q h) 0 ≡ get_or r (hour_at H q h) 0
  unfolding clear_hours
  clear_hour q h ne hlt = put_hour m p s (noughts n) plt (omega (arith, noughts_length n)) q h ne hlt

-- ---- flags
-- a flag that is raised is there
next_odd : (k : ℕ) → k % 2 ≢ 1 → (k + 1) % 2 ≡ 1
next_odd k e = omega arith

pub flag_raised : (flag word : ℕ) → 0 < flag → has_flag flag (flagged flag word) ≡ true
unfolding has_flag flagged
flag_raised flag word lt = go (eqb (word / flag % 2) 1) refl
  where
    go : (b : Bool) → eqb (word / flag % 2) 1 ≡ b → eqb (pick b word (word + flag) / flag % 2) 1 ≡ true
    go true e = e
    go false e =
        eq-eqb _ _ (ap (λ (x : ℕ). x % 2) (add-div_right word lt) ∙ next_odd (word / flag) (eqb-false (word / flag % 2) 1 e))

-- raising a flag leaves a higher one as it was
pub lower_kept : (flag k word : ℕ) → 0 < flag → has_flag (flag * 2 * k) (flagged flag word) ≡ has_flag (flag * 2 * k) word
unfolding has_flag flagged
lower_kept flag k word pos = go (eqb (word / flag % 2) 1) refl
  where
    halves : (x : ℕ) → x / (flag * 2 * k) ≡ x / flag / 2 / k
    halves x = sym (div-div-eq-div-mul (x / flag) 2 k ∙ div-div-eq-div-mul x flag (2 * k) ∙ ap (λ (y : ℕ). x / y) (sym (mul_assoc flag 2 k)))

    go : (b : Bool) → eqb (word / flag % 2) 1 ≡ b → eqb (pick b word (word + flag) / (flag * 2 * k) % 2) 1 ≡ eqb (word / (flag * 2 * k) % 2) 1
    go true e = refl
    go false e =
        let even : word / flag % 2 ≢ 1 = eqb-false (word / flag % 2) 1 e in
        let next : (word + flag) / flag ≡ word / flag + 1 = add-div_right word pos in
        let same : (word + flag) / flag / 2 ≡ word / flag / 2 = omega (arith, next) in
        ap (λ (x : ℕ). eqb (x % 2) 1) (halves (word + flag) ∙ ap (λ (x : ℕ). x / k) same ∙ sym (halves word))

-- raising a flag above granted given leaves that as it was
pub higher_kept : (k word : ℕ) → has_flag granted_given (flagged (k * 16) word) ≡ has_flag granted_given word
unfolding has_flag flagged
higher_kept k word = go (eqb (word / (k * 16) % 2) 1)
  where
    go : (b : Bool) → eqb (pick b word (word + k * 16) / 8 % 2) 1 ≡ eqb (word / 8 % 2) 1
    go true = refl
    go false = let n : (word + k * 16) / 8 % 2 ≡ word / 8 % 2 = omega arith in ap (λ (x : ℕ). eqb x 1) n

-- of a row
pub raise_has : (flag : ℕ) (r : List ℕ) → 0 < flag → 7 < length r → has flag (raise flag r) ≡ true
raise_has flag r pos lt = ap (has_flag flag) (get_or-set_same r 7 (flagged flag (flags r)) 0 lt) ∙ flag_raised flag (flags r) pos

pub raise_approved : (r : List ℕ) → 7 < length r → has granted_given (raise approved r) ≡ has granted_given r
raise_approved r lt = ap (has_flag granted_given) (get_or-set_same r 7 (flagged approved (flags r)) 0 lt) ∙ lower_kept approved 1 (flags r) (lit< tt)

pub raise_higher : (k : ℕ) (r : List ℕ) → 7 < length r → has granted_given (raise (k * 16) r) ≡ has granted_given r
raise_higher k r lt = ap (has_flag granted_given) (get_or-set_same r 7 (flagged (k * 16) (flags r)) 0 lt) ∙ higher_kept k (flags r)
