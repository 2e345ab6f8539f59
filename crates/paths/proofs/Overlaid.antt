-- Sums against a path's postings with a profile from an hour on: the hours before it, in it and after it.
use mathlib.Core.Path.{◌≡◌, refl, sym, ap, ◌∙◌}
use mathlib.Core.Bool.{Bool, ◌&&◌, and-true, and_assoc}
use mathlib.Core.List.{List}
use Prim.Native.Nat.{ℕ, zero, suc, ◌+◌, ◌-◌, ◌*◌, ◌≤◌, ◌<◌}
use native.Mathlib.Omega.{arith}
use lib.Dec.{leb}
use lib.ListN.{length, get_or, take, drop, length-drop}
use lib.Seq.{get_or-take, get_or-drop, length-take-le}
use Rattle.words.specs.Lists.{part, splice, all_below, covered}
use Rattle.words.proofs.Laws.{all_cong, part_length, splice_length, splice_before, splice_in, splice_after, splice_part}
use Rattle.rules.specs.Paths.{posting_at, posted_in}
use Rattle.paths.specs.Exceeding.{Postings, KnownPath}
use Rattle.paths.proofs.Posted.{posted_fits}

all_split : (a b : ℕ) (p : ℕ → Bool) → all_below (a + b) p ≡ (all_below a p && all_below b (λ k. p (a + k)))
unfolding all_below
all_split a zero p = let e : a + 0 ≡ a = omega arith in ap (λ (n : ℕ). all_below n p) e ∙ sym (and-true (all_below a p))
all_split a (suc b) p =
    let e : a + suc b ≡ suc (a + b) = omega arith in
    ap (λ (n : ℕ). all_below n p) e
    ∙ ap (λ (d : Bool). d && p (a + b)) (all_split a b p)
    ∙ and_assoc (all_below a p) (all_below b (λ k. p (a + k))) (p (a + b))

covered_as : (a b : List ℕ) (n : ℕ) (p : ℕ → Bool) → length a ≡ n → ((k : ℕ) → k < n → leb (get_or a k 0) (get_or b k 0) ≡ p k) → covered a b ≡ all_below n p
unfolding covered
covered_as a b n p e same = ap (λ (m : ℕ). all_below m (λ k. leb (get_or a k 0) (get_or b k 0))) e ∙ all_cong _ _ n same

module _ (sums own v : List ℕ) (s : ℕ) (long : length own ≡ length sums) (fits : s + length v ≤ length sums) where
  abbrev n : ℕ
  n = length v

  abbrev m : ℕ
  m = length sums - (s + length v)

  abbrev P : ℕ → Bool
  P k = leb (get_or sums k 0) (get_or (splice own s v) k 0)

  room : s + length v ≤ length own
  room = omega (arith, long, fits)

  before : covered (take s sums) (take s own) ≡ all_below s (λ k. leb (get_or sums k 0) (get_or (splice own s v) k 0))
  before =
      covered_as (take s sums) (take s own) s P (length-take-le s sums (omega (arith, fits)))
      (λ k lt.
      ap (λ (u : ℕ). leb u (get_or (take s own) k 0)) (get_or-take s sums k 0 lt)
      ∙ ap (λ (u : ℕ). leb (get_or sums k 0) u) (get_or-take s own k 0 lt ∙ sym (splice_before own s v room k lt)))

  in_it : covered (take (s + length v - s) (drop s sums)) v ≡ all_below (length v) (λ k. leb (get_or sums (s + k) 0) (get_or (splice own s v) (s + k) 0))
  in_it =
      let e : s + length v - s ≡ length v = omega arith in
      ap (λ (j : ℕ). covered (take j (drop s sums)) v) e
      ∙ covered_as (take n (drop s sums)) v n (λ k. P (s + k)) (part_length sums s n fits)
      (λ k lt.
      ap (λ (u : ℕ). leb u (get_or v k 0)) (get_or-take n (drop s sums) k 0 lt ∙ get_or-drop s sums k 0)
      ∙ ap (λ (u : ℕ). leb (get_or sums (s + k) 0) u) (sym (splice_in own s v room k lt)))

  after : covered (take (length sums - (s + length v)) (drop (s + length v) sums)) (take (length own - (s + length v)) (drop (s + length v) own))
      ≡ all_below (length sums - (s + length v)) (λ k. leb (get_or sums (s + (length v + k)) 0) (get_or (splice own s v) (s + (length v + k)) 0))
  after =
      let e : length own - (s + length v) ≡ length sums - (s + length v) = omega (arith, long) in
      ap (λ (j : ℕ). covered (take m (drop (s + n) sums)) (take j (drop (s + n) own))) e
      ∙ covered_as (take m (drop (s + n) sums)) (take m (drop (s + n) own)) m (λ k. P (s + (n + k))) (length-take-le m (drop (s + n) sums) (omega (arith, length-drop (s + n) sums)))
      (λ k lt.
      let i : s + length v + k ≡ s + (length v + k) = omega arith in
      ap (λ (u : ℕ). leb u (get_or (take m (drop (s + n) own)) k 0)) (get_or-take m (drop (s + n) sums) k 0 lt ∙ get_or-drop (s + n) sums k 0 ∙ ap (λ (j : ℕ). get_or sums j 0) i)
      ∙ ap (λ (u : ℕ). leb (get_or sums (s + (n + k)) 0) u)
      (get_or-take m (drop (s + n) own) k 0 lt ∙ get_or-drop (s + n) own k 0 ∙ ap (λ (j : ℕ). get_or own j 0) i ∙ sym (splice_after own s v room (s + (n + k)) (omega arith))))

  pub covered_over : (covered (take s sums) (take s own) && (covered (take (s + length v - s) (drop s sums)) v && covered (take (length sums - (s + length v)) (drop (s + length v) sums)) (take (length own - (s + length v)) (drop (s + length v) own)))) ≡ covered sums (splice own s v)
  covered_over =
      let e : length sums ≡ s + (length v + (length sums - (s + length v))) = omega (arith, fits) in
      ap (λ (b : Bool). b && (covered (take (s + n - s) (drop s sums)) v && covered (take m (drop (s + n) sums)) (take (length own - (s + n)) (drop (s + n) own)))) before
      ∙ ap (λ (b : Bool). all_below s P && (b && covered (take m (drop (s + n) sums)) (take (length own - (s + n)) (drop (s + n) own)))) in_it
      ∙ ap (λ (b : Bool). all_below s P && (all_below n (λ k. P (s + k)) && b)) after
      ∙ sym
      (covered_as sums (splice own s v) (s + (n + m)) P e (λ k lt. refl)
      ∙ all_split s (n + m) P
      ∙ ap (λ (b : Bool). all_below s P && b) (all_split n m (λ k. P (s + k))))

-- the path's part of the postings with the profile is what is then posted for it
module _ {H : ℕ} {ps : List ℕ} {x : ℕ} (p : Postings H ps) (path : KnownPath x) (s : ℕ) (v : List ℕ) (fits : s + length v ≤ H) where
  pub overlaid_each : (k : ℕ) → k < H → get_or (splice (part ps (posting_at H x 0) H) s v) k 0 ≡ posted_in H (splice ps (posting_at H x s) v) x k
  unfolding posted_in posting_at
  overlaid_each k lt =
      let b : ℕ = (x - 1) * H + 0 in
      let g : b + H ≤ length ps = posted_fits p path in
      let own : List ℕ = part ps ((x - 1) * H + 0) H in
      let w : length (splice own s v) ≡ H = splice_length own s v (omega (arith, fits, part_length ps b H g)) ∙ part_length ps b H g in
      let i : (x - 1) * H + 0 + k ≡ (x - 1) * H + k = omega arith in
      let j : (x - 1) * H + 0 + s ≡ (x - 1) * H + s = omega arith in
      sym (splice_in ps b (splice own s v) (omega (arith, g, w)) k (omega (arith, lt, w)))
      ∙ ap (λ (z : List ℕ). get_or z (b + k) 0) (splice_part ps b H s v g fits)
      ∙ ap (λ (q : ℕ). get_or (splice ps q v) (b + k) 0) j
      ∙ ap (λ (q : ℕ). get_or (splice ps ((x - 1) * H + s) v) q 0) i
