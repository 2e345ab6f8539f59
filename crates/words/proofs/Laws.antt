-- Laws of the definitions of `specs/Lists.antt`.
use mathlib.Core.Path.{◌≡◌, refl, sym, ap, ◌∙◌, subst}
use mathlib.Core.Bool.{Bool, true, false, ◌&&◌, cond, and_assoc, and-true}
use mathlib.Core.Logic.{◌⊎◌, ⊎_elim, inl, inr}
use mathlib.Core.List.{List, [], ◌∷◌, ◌++◌, append_assoc}
use Prim.Native.Nat.{ℕ, zero, suc, ◌+◌, ◌-◌, ◌*◌, ◌≤◌, ◌<◌, zero-le}
use native.Mathlib.Decide.{dec_lt}
use native.Mathlib.Nat.{suc-mul, add_assoc, not-suc-le-zero, eq-or-lt_of_le, le_of_suc-le-suc}
use native.Mathlib.Numerals.{add-one}
use native.Mathlib.Omega.{arith}
use lib.ListN.{length, get_or, set, replicate, take, drop, length-append, length-take, length-drop, length-set, get_or-append, get_or-eq_default, take-append-drop}
use lib.Dec.{leb, eqb}
use borrow.Author.Tests.{leb-true, le-leb, lt-leb, eq-eqb, eqb-true}
use lib.Seq.{append_snoc, set_split, set_at, drop-cons, get_or_at, get_or-append-add, get_or-take, get_or-drop, ext_get_or, length-take-le, drop-drop}
use Rattle.std.specs.List.{fold, zip, sum, copy_within}
use Rattle.std.proofs.lemmas.List.Sums.{sum_by-cons}
use Rattle.std.proofs.lemmas.List.{length-replicate, get_or-replicate, take-append-le, drop-append-le, take_at, drop_at}
use Rattle.words.specs.Lists.{part, splice, build, zip2, all_below, first_below, sum_below, noughts, every, every_pair, covered, equal, roomy, within, zeros, total}

which : (a b : ℕ) → Dec (a < b) → (a < b) ⊎ (b ≤ a)
which a b (yes p) = inl p
which a b (no h) = inr (omega arith)

pub lt_or_le : (a b : ℕ) → (a < b) ⊎ (b ≤ a)
lt_or_le a b = which a b (dec_lt a b)

-- ---- build

pub build_length : (n : ℕ) (f : ℕ → ℕ) → length (build n f) ≡ n
unfolding build
build_length zero f = refl
build_length (suc n) f = length-append (build n f) (f n ∷ []) ∙ ap (λ (k : ℕ). k + 1) (build_length n f) ∙ add-one n

pub build_at : (n : ℕ) (f : ℕ → ℕ) (k : ℕ) → k < n → get_or (build n f) k 0 ≡ f k
unfolding build
build_at zero f k h = absurd (not-suc-le-zero h)
build_at (suc n) f k h =
    ⊎_elim
    (λ e. get_or_at (build n f) (f n) [] 0 k (build_length n f ∙ sym e) ∙ ap f (sym e))
    (λ lt. get_or-append (build n f) (f n ∷ []) 0 k (subst (λ (m : ℕ). k < m) (sym (build_length n f)) lt) ∙ build_at n f k lt)
    (eq-or-lt_of_le (le_of_suc-le-suc h))

pub build_cong : (n : ℕ) (f g : ℕ → ℕ) → ((k : ℕ) → k < n → f k ≡ g k) → build n f ≡ build n g
build_cong n f g h =
    ext_get_or 0 (build n f) (build n g) (build_length n f ∙ sym (build_length n g))
    (λ k lt.
    let lt' : k < n = subst (λ (m : ℕ). k < m) (build_length n f) lt in
    build_at n f k lt' ∙ h k lt' ∙ sym (build_at n g k lt'))

-- a list is built of its own elements; with build_at and ext_get_or, a list is known by its elements
pub build_list : (l : List ℕ) (n : ℕ) → length l ≡ n → build n (λ k. get_or l k 0) ≡ l
build_list l n e =
    ext_get_or 0 (build n (λ k. get_or l k 0)) l (build_length n _ ∙ sym e)
    (λ k lt. build_at n _ k (subst (λ (m : ℕ). k < m) (build_length n _) lt))

-- ---- a loop that stores f i at i: after i turns
abbrev pub filled : List ℕ → (ℕ → ℕ) → ℕ → List ℕ
filled d f i = build i f ++ drop i d

pub filled_none : (d : List ℕ) (f : ℕ → ℕ) → d ≡ filled d f 0
unfolding build
filled_none d f = refl

pub filled_more : (d : List ℕ) (f : ℕ → ℕ) (i : ℕ) → i < length d → set (filled d f i) i (f i) ≡ filled d f (i + 1)
unfolding build
filled_more d f i h =
    ap (λ (r : List ℕ). set (build i f ++ r) i (f i)) (drop-cons d i 0 h)
    ∙ set_at (build i f) (get_or d i 0) (drop (suc i) d) (f i) i (build_length i f)
    ∙ sym (append_snoc (build i f) (f i) (drop (suc i) d))
    ∙ ap (λ (k : ℕ). filled d f k) (sym (add-one i))

-- the invariant of a loop that stores f i at i, for i below end, d₀'s length; its start, a turn
pub record Filling (d₀ : List ℕ) (f : ℕ → ℕ) (end : ℕ) (d : List ℕ) (i : ℕ) : Type 0 where
  pub ended : end ≡ length d₀
  pub below : i ≤ end
  pub long : length d ≡ length d₀
  pub is : d ≡ filled d₀ f i

pub filling_start : (d : List ℕ) (f : ℕ → ℕ) → Filling d f (length d) d 0
filling_start d f = record { ended = refl; below = zero-le; long = refl; is = filled_none d f }

pub filling_turn : {d₀ : List ℕ} {f : ℕ → ℕ} {end : ℕ} {d : List ℕ} {i : ℕ} → Filling d₀ f end d i → i < end → (v : ℕ) → v ≡ f i → Filling d₀ f end (set d i v) (i + 1)
filling_turn {d₀} {f} {end} {d} {i} h lt v e =
    record {
      ended = h.ended;
      below = omega arith;
      long = length-set d i v ∙ h.long;
      is = ap (λ (x : ℕ). set d i x) e ∙ ap (λ (l : List ℕ). set l i (f i)) h.is ∙ filled_more d₀ f i (omega (arith, h.ended));
    }

-- a word that is filled in already
pub filled_before : (d : List ℕ) (f : ℕ → ℕ) (i k : ℕ) → k < i → get_or (filled d f i) k 0 ≡ f k
filled_before d f i k lt = get_or-append (build i f) (drop i d) 0 k (subst (λ (x : ℕ). k < x) (sym (build_length i f)) lt) ∙ build_at i f k lt

-- ---- all_below: true so far; a failure; congruence; what it says
pub all_none : (p : ℕ → Bool) → all_below 0 p ≡ true
unfolding all_below
all_none p = refl

pub all_more : (p : ℕ → Bool) (i : ℕ) → all_below i p ≡ true → p i ≡ true → all_below (i + 1) p ≡ true
unfolding all_below
all_more p i h e = ap (λ (k : ℕ). all_below k p) (add-one i) ∙ ap (λ (b : Bool). b && p i) h ∙ e

and_false' : (b c : Bool) → c ≡ false → (b && c) ≡ false
and_false' true c e = e
and_false' false c e = refl

pub all_fails : (p : ℕ → Bool) (n i : ℕ) → i < n → p i ≡ false → all_below n p ≡ false
unfolding all_below
all_fails p zero i h e = absurd (not-suc-le-zero h)
all_fails p (suc n) i h e =
    ⊎_elim
    (λ q. and_false' (all_below n p) (p n) (ap p (sym q) ∙ e))
    (λ lt. ap (λ (b : Bool). b && p n) (all_fails p n i lt e))
    (eq-or-lt_of_le (le_of_suc-le-suc h))

pub all_cong : (p q : ℕ → Bool) (n : ℕ) → ((k : ℕ) → k < n → p k ≡ q k) → all_below n p ≡ all_below n q
unfolding all_below
all_cong p q zero h = refl
all_cong p q (suc n) h =
    ap (λ (b : Bool). b && p n) (all_cong p q n (λ k lt. h k (omega arith))) ∙ ap (λ (b : Bool). all_below n q && b) (h n (omega arith))

pub and_left : (b c : Bool) → (b && c) ≡ true → b ≡ true
and_left true c e = refl
and_left false c e = e

pub and_right : (b c : Bool) → (b && c) ≡ true → c ≡ true
and_right true c e = e
and_right false c e = cc

-- the invariant of a loop that has found p true so far, of n numbers; its start, a turn, its end, and where it is left
pub record Passing (n : ℕ) (p : ℕ → Bool) (end i : ℕ) : Type 0 where
  pub ended : end ≡ n
  pub below : i ≤ end
  pub all : all_below i p ≡ true

pub passing_start : (n : ℕ) (p : ℕ → Bool) → Passing n p n 0
passing_start n p = record { ended = refl; below = zero-le; all = all_none p }

pub passing_turn : {n : ℕ} {p : ℕ → Bool} {end i : ℕ} → Passing n p end i → i < end → p i ≡ true → Passing n p end (i + 1)
passing_turn {n} {p} {end} {i} h lt e = record { ended = h.ended; below = omega arith; all = all_more p i h.all e }

pub passing_done : {n : ℕ} {p : ℕ → Bool} {end i : ℕ} → Passing n p end i → end ≤ i → true ≡ all_below n p
passing_done {n} {p} {end} {i} h past = let e : i ≡ n = omega (arith, h.below, h.ended) in sym h.all ∙ ap (λ (k : ℕ). all_below k p) e

pub passing_fails : {n : ℕ} {p : ℕ → Bool} {end i : ℕ} → Passing n p end i → i < end → p i ≡ false → false ≡ all_below n p
passing_fails {n} {p} {end} {i} h lt e = sym (all_fails p n i (omega (arith, h.ended)) e)

pub all_below_lem : (p : ℕ → Bool) (n : ℕ) → ((k : ℕ) → k < n → p k ≡ true) → all_below n p ≡ true
unfolding all_below
all_below_lem p zero h = refl
all_below_lem p (suc n) h =
    ap (λ (b : Bool). b && p n) (all_below_lem p n (λ k lt. h k (omega arith))) ∙ h n (omega arith)

pub all_at : (p : ℕ → Bool) (n i : ℕ) → all_below n p ≡ true → i < n → p i ≡ true
unfolding all_below
all_at p zero i e h = absurd (not-suc-le-zero h)
all_at p (suc n) i e h =
    ⊎_elim
    (λ q. ap p q ∙ and_right (all_below n p) (p n) e)
    (λ lt. all_at p n i (and_left (all_below n p) (p n) e) lt)
    (eq-or-lt_of_le (le_of_suc-le-suc h))

-- what the tests say of an element
pub covered_at : (a b : List ℕ) → covered a b ≡ true → (i : ℕ) → i < length a → get_or a i 0 ≤ get_or b i 0
unfolding covered
covered_at a b e i h = leb-true _ _ (all_at (λ k. leb (get_or a k 0) (get_or b k 0)) (length a) i e h)

pub equal_at : (a b : List ℕ) → equal a b ≡ true → (i : ℕ) → i < length a → get_or a i 0 ≡ get_or b i 0
unfolding equal
equal_at a b e i h = eqb-true _ _ (all_at (λ k. eqb (get_or a k 0) (get_or b k 0)) (length a) i e h)

pub equal_lists : (a b : List ℕ) → length a ≡ length b → equal a b ≡ true → a ≡ b
equal_lists a b n e = ext_get_or 0 a b n (λ k lt. equal_at a b e k lt)

pub roomy_at : (bound : ℕ) (a b : List ℕ) → roomy bound a b ≡ true → (i : ℕ) → i < length a → get_or a i 0 + get_or b i 0 ≤ bound
unfolding roomy
roomy_at bound a b e i h = leb-true _ _ (all_at (λ k. leb (get_or a k 0 + get_or b k 0) bound) (length a) i e h)

-- every word, by its place
below_first : (n : ℕ) (p : ℕ → Bool) → all_below (suc n) p ≡ (p 0 && all_below n (λ k. p (suc k)))
unfolding all_below
below_first zero p = sym (and-true (p 0))
below_first (suc n) p =
    ap (λ (b : Bool). b && p (suc n)) (below_first n p) ∙ and_assoc (p 0) (all_below n (λ k. p (suc k))) (p (suc n))

pub every_below : (p : ℕ → Bool) (a : List ℕ) → every p a ≡ all_below (length a) (λ k. p (get_or a k 0))
unfolding every all_below
every_below p [] = refl
every_below p (x ∷ xs) =
    ap (λ (b : Bool). p x && b) (every_below p xs) ∙ sym (below_first (length xs) (λ k. p (get_or (x ∷ xs) k 0)))

pub every_at : (p : ℕ → Bool) (a : List ℕ) → every p a ≡ true → (i : ℕ) → i < length a → p (get_or a i 0) ≡ true
every_at p a e i h = all_at (λ k. p (get_or a k 0)) (length a) i (sym (every_below p a) ∙ e) h

pub every_all : (p : ℕ → Bool) (a : List ℕ) → ((i : ℕ) → i < length a → p (get_or a i 0) ≡ true) → every p a ≡ true
every_all p a h = every_below p a ∙ all_below_lem (λ k. p (get_or a k 0)) (length a) h

-- a test of every word, gathered from the first on; the same of the pairs of two lists
pub fold_every : (p : ℕ → Bool) (a : List ℕ) → fold (λ ok x. ok && p x) true a ≡ every p a
unfolding every
fold_every p a = go true a
  where
    go : (ok : Bool) (xs : List ℕ) → fold (λ r x. r && p x) ok xs ≡ (ok && every p xs)
    go ok [] = sym (and-true ok)
    go ok (x ∷ xs) = go (ok && p x) xs ∙ and_assoc ok (p x) (every p xs)

pub fold_pairs : (p : ℕ → ℕ → Bool) (a b : List ℕ) → length b ≡ length a → fold (λ ok q. ok && p q.0 q.1) true (zip a b) ≡ every_pair p a b
unfolding all_below
fold_pairs p a b n = go true a b n
  where
    go : (ok : Bool) (xs ys : List ℕ) → length ys ≡ length xs → fold (λ r q. r && p q.0 q.1) ok (zip xs ys) ≡ (ok && every_pair p xs ys)
    go ok [] ys n = sym (and-true ok)
    go ok (x ∷ xs) [] n = absurd (omega arith)
    go ok (x ∷ xs) (y ∷ ys) n =
        go (ok && p x y) xs ys (omega arith)
        ∙ and_assoc ok (p x y) (every_pair p xs ys)
        ∙ ap (λ (b : Bool). ok && b) (sym (below_first (length xs) (λ k. p (get_or (x ∷ xs) k 0) (get_or (y ∷ ys) k 0))))

pub within_at : (bound : ℕ) (a : List ℕ) → within bound a ≡ true → (i : ℕ) → i < length a → get_or a i 0 ≤ bound
unfolding within
within_at bound a e i h = leb-true _ _ (every_at (λ x. leb x bound) a e i h)

pub within_all : (bound : ℕ) (a : List ℕ) → ((i : ℕ) → i < length a → get_or a i 0 ≤ bound) → within bound a ≡ true
unfolding within
within_all bound a h = every_all (λ x. leb x bound) a (λ i lt. le-leb (get_or a i 0) bound (h i lt))

pub zeros_at : (a : List ℕ) → zeros a ≡ true → (i : ℕ) → i < length a → get_or a i 0 ≡ 0
unfolding zeros
zeros_at a e i h = eqb-true _ _ (every_at (λ x. eqb x 0) a e i h)

pub zeros_all : (a : List ℕ) → ((i : ℕ) → i < length a → get_or a i 0 ≡ 0) → zeros a ≡ true
unfolding zeros
zeros_all a h = every_all (λ x. eqb x 0) a (λ i lt. eq-eqb (get_or a i 0) 0 (h i lt))

-- ---- sum_below
pub sum_none : (f : ℕ → ℕ) → sum_below 0 f ≡ 0
unfolding sum_below
sum_none f = refl

pub sum_more : (f : ℕ → ℕ) (i : ℕ) → sum_below (i + 1) f ≡ sum_below i f + f i
unfolding sum_below
sum_more f i = ap (λ (k : ℕ). sum_below k f) (add-one i)

pub sum_cong : (n : ℕ) (f g : ℕ → ℕ) → ((k : ℕ) → k < n → f k ≡ g k) → sum_below n f ≡ sum_below n g
unfolding sum_below
sum_cong zero f g h = refl
sum_cong (suc n) f g h = omega (arith, sum_cong n f g (λ k lt. h k (omega arith)), h n (omega arith))

pub sum_bound : (n b : ℕ) (f : ℕ → ℕ) → ((k : ℕ) → k < n → f k ≤ b) → sum_below n f ≤ n * b
unfolding sum_below
sum_bound zero b f h = zero-le
sum_bound (suc n) b f h = omega (arith, sum_bound n b f (λ k lt. h k (omega arith)), h n (omega arith), suc-mul n b)

pub sum_nothing : (n : ℕ) (f : ℕ → ℕ) → ((k : ℕ) → k < n → f k ≡ 0) → sum_below n f ≡ 0
sum_nothing n f none = omega (arith, sum_bound n 0 f (λ k lt. omega (arith, none k lt)))

pub sum_add : (n : ℕ) (f g : ℕ → ℕ) → sum_below n (λ k. f k + g k) ≡ sum_below n f + sum_below n g
unfolding sum_below
sum_add zero f g = refl
sum_add (suc n) f g = omega (arith, sum_add n f g)

-- ---- part and splice

module _ (l : List ℕ) (a n : ℕ) (fits : a + n ≤ length l) where
  pub part_length : length (part l a n) ≡ n
  part_length = simp (length-take, length-drop) (omega arith)

  pub part_at : (k : ℕ) → k < n → get_or (part l a n) k 0 ≡ get_or l (a + k) 0
  part_at k h = rw (get_or-take, get_or-drop)

-- what the borrow checker gives when a part that was lent comes back
pub back : (l : List ℕ) (a k : ℕ) (v : List ℕ) → length v ≡ k → take a l ++ (v ++ drop k (drop a l)) ≡ splice l a v
unfolding splice
back l a k v e = ap (λ (j : ℕ). take a l ++ (v ++ drop j (drop a l))) (sym e)

-- a part that is written with what stands there
pub splice_own : (l : List ℕ) (a n : ℕ) → a + n ≤ length l → splice l a (part l a n) ≡ l
unfolding splice
splice_own l a n h =
    ap (λ (k : ℕ). take a l ++ (part l a n ++ drop k (drop a l))) (part_length l a n h)
    ∙ ap (λ (x : List ℕ). take a l ++ x) (take-append-drop n (drop a l))
    ∙ take-append-drop a l

-- n words from a on that are lent, where a is b; and what was lent came back as v
module _ (l : List ℕ) (a b n : ℕ) (is : a ≡ b) (fits : a + n ≤ length l) where
  pub lent : take (a + n - a) (drop a l) ≡ part l b n
  lent = let w : a + n - a ≡ n = omega arith in ap (λ (k : ℕ). take k (drop a l)) w ∙ ap (λ (k : ℕ). part l k n) is

  pub lent_length : length (take (a + n - a) (drop a l)) ≡ n
  lent_length = simp (length-take, length-drop) (omega arith)

  pub lent_back : (v w : List ℕ) → length v ≡ length (take (a + n - a) (drop a l)) → v ≡ w → take a l ++ (v ++ drop (a + n - a) (drop a l)) ≡ splice l b w
  lent_back v w kept e =
      let m : length v ≡ a + n - a = omega (arith, kept, lent_length) in
      back l a (a + n - a) v m ∙ ap (λ (k : ℕ). splice l k v) is ∙ ap (λ (x : List ℕ). splice l b x) e

module _ (l : List ℕ) (a : ℕ) (v : List ℕ) (fits : a + length v ≤ length l) where
  pub splice_length : length (splice l a v) ≡ length l
  unfolding splice
  splice_length = simp (length-append, length-take, length-drop) (omega arith)

  pub splice_before : (i : ℕ) → i < a → get_or (splice l a v) i 0 ≡ get_or l i 0
  unfolding splice
  splice_before i h =
      get_or-append (take a l) (v ++ drop (length v) (drop a l)) 0 i (simp length-take (omega arith))
      ∙ get_or-take a l i 0 h

  pub splice_in : (k : ℕ) → k < length v → get_or (splice l a v) (a + k) 0 ≡ get_or v k 0
  unfolding splice
  splice_in k h =
      ap (λ (m : ℕ). get_or (take a l ++ (v ++ drop (length v) (drop a l))) (m + k) 0) (sym (length-take-le a l (omega arith)))
      ∙ get_or-append-add (take a l) _ k 0
      ∙ get_or-append v _ 0 k h

  pub splice_after : (i : ℕ) → a + length v ≤ i → get_or (splice l a v) i 0 ≡ get_or l i 0
  unfolding splice
  splice_after i h =
      let e : length (take a l) + (length v + (i - (a + length v))) ≡ i = simp length-take (omega arith) in
      ap (λ (m : ℕ). get_or (take a l ++ (v ++ drop (length v) (drop a l))) m 0) (sym e)
      ∙ get_or-append-add (take a l) _ (length v + (i - (a + length v))) 0
      ∙ get_or-append-add v _ (i - (a + length v)) 0
      ∙ rw (get_or-drop, get_or-drop) (ap (λ (m : ℕ). get_or l m 0) (omega arith))

  -- the same place read back
  pub part_same : part (splice l a v) a (length v) ≡ v
  part_same =
      ext_get_or 0 (part (splice l a v) a (length v)) v (part_length (splice l a v) a (length v) (omega (arith, splice_length)))
      (λ k h.
      let h' : k < length v = omega (arith, part_length (splice l a v) a (length v) (omega (arith, splice_length))) in
      part_at (splice l a v) a (length v) (omega (arith, splice_length)) k h' ∙ splice_in k h')

  -- a part that lies before or after is as it was
  pub part_apart : (b n : ℕ) → b + n ≤ length l → (b + n ≤ a) ⊎ (a + length v ≤ b) → part (splice l a v) b n ≡ part l b n
  part_apart b n fb w =
      let fb' : b + n ≤ length (splice l a v) = omega (arith, splice_length) in
      ext_get_or 0 (part (splice l a v) b n) (part l b n) (part_length (splice l a v) b n fb' ∙ sym (part_length l b n fb))
      (λ k h.
      let h' : k < n = omega (arith, part_length (splice l a v) b n fb') in
      part_at (splice l a v) b n fb' k h'
      ∙ ⊎_elim (λ x. splice_before (b + k) (omega arith)) (λ x. splice_after (b + k) (omega arith)) w
      ∙ sym (part_at l b n fb k h'))

  -- what lies after is as it was, also past the end
  pub drop_splice : (b : ℕ) → a + length v ≤ b → drop b (splice l a v) ≡ drop b l
  drop_splice b w =
      ext_get_or 0 (drop b (splice l a v)) (drop b l) (simp length-drop (ap (λ (k : ℕ). k - b) splice_length))
      (λ i lt. get_or-drop b (splice l a v) i 0 ∙ splice_after (b + i) (omega arith) ∙ sym (get_or-drop b l i 0))

splice_form : (l : List ℕ) (a : ℕ) (v : List ℕ) (n : ℕ) → length v ≡ n → splice l a v ≡ (take a l ++ v) ++ drop (a + n) l
unfolding splice
splice_form l a v n e =
    ap (λ (m : ℕ). take a l ++ (v ++ drop m (drop a l))) e
    ∙ ap (λ (r : List ℕ). take a l ++ (v ++ r)) (drop-drop n a l)
    ∙ sym (append_assoc (take a l) v (drop (a + n) l))

-- ---- a splice at each index, by cases; two splices that do not meet
module _ (l : List ℕ) (a : ℕ) (v : List ℕ) (fits : a + length v ≤ length l) (l' : List ℕ) where
  -- l' is the splice, if it is as long and agrees with it at each index
  pub splice_is : length l' ≡ length l → ((i : ℕ) → i < a → get_or l' i 0 ≡ get_or l i 0) → ((k : ℕ) → k < length v → get_or l' (a + k) 0 ≡ get_or v k 0) → ((i : ℕ) → a + length v ≤ i → i < length l → get_or l' i 0 ≡ get_or l i 0) → l' ≡ splice l a v
  splice_is e p q r =
      ext_get_or 0 l' (splice l a v) (e ∙ sym (splice_length l a v fits))
      (λ i h.
      ⊎_elim
      (λ x. p i x ∙ sym (splice_before l a v fits i x))
      (λ x.
      ⊎_elim
      (λ y.
      let k : a + (i - a) ≡ i = omega arith in
      subst (λ (m : ℕ). get_or l' m 0 ≡ get_or (splice l a v) m 0) k
      (q (i - a) (omega arith) ∙ sym (splice_in l a v fits (i - a) (omega arith))))
      (λ y. r i y (omega arith) ∙ sym (splice_after l a v fits i y))
      (lt_or_le i (a + length v)))
      (lt_or_le i a))

-- ---- a part of a part, a splice in a part, and a store as a splice
pub part_part : (l : List ℕ) (a n b m : ℕ) → a + n ≤ length l → b + m ≤ n → part (part l a n) b m ≡ part l (a + b) m
part_part l a n b m h k =
    let e : length (part l a n) ≡ n = part_length l a n h in
    let f : b + m ≤ length (part l a n) = omega arith in
    let g : a + b + m ≤ length l = omega arith in
    ext_get_or 0 (part (part l a n) b m) (part l (a + b) m) (part_length (part l a n) b m f ∙ sym (part_length l (a + b) m g))
    (λ i lt.
    let lt' : i < m = omega (arith, part_length (part l a n) b m f) in
    part_at (part l a n) b m f i lt'
    ∙ part_at l a n h (b + i) (omega arith)
    ∙ ap (λ (j : ℕ). get_or l j 0) (sym (add_assoc a b i))
    ∙ sym (part_at l (a + b) m g i lt'))

module _ (l : List ℕ) (a n b : ℕ) (v : List ℕ) (h : a + n ≤ length l) (k : b + length v ≤ n) where
  inner : length (splice (part l a n) b v) ≡ n
  inner = splice_length (part l a n) b v (omega (arith, part_length l a n h)) ∙ part_length l a n h

  -- a word of the row, by its place in the ledger
  at_in : (P : ℕ → Type 0) (i : ℕ) → a ≤ i → P (a + (i - a)) → P i
  at_in P i le p = let e : a + (i - a) ≡ i = omega arith in subst P e p

  pub splice_part : splice l a (splice (part l a n) b v) ≡ splice l (a + b) v
  splice_part =
      let r : List ℕ = splice (part l a n) b v in
      let pl : length (part l a n) ≡ n = part_length l a n h in
      let fo : a + length r ≤ length l = omega (arith, inner) in
      let fi : b + length v ≤ length (part l a n) = omega arith in
      splice_is l (a + b) v (omega arith) (splice l a r) (splice_length l a r fo)
      (λ i x.
      ⊎_elim
      (λ y. splice_before l a r fo i y)
      (λ y.
      at_in (λ j. get_or (splice l a r) j 0 ≡ get_or l j 0) i y
      (splice_in l a r fo (i - a) (omega (arith, inner)) ∙ splice_before (part l a n) b v fi (i - a) (omega arith) ∙ part_at l a n h (i - a) (omega arith)))
      (lt_or_le i a))
      (λ j x.
      ap (λ (m : ℕ). get_or (splice l a r) m 0) (add_assoc a b j)
      ∙ splice_in l a r fo (b + j) (omega (arith, inner))
      ∙ splice_in (part l a n) b v fi j x)
      (λ i x z.
      ⊎_elim
      (λ y.
      let le : a ≤ i = omega arith in
      at_in (λ j. get_or (splice l a r) j 0 ≡ get_or l j 0) i le
      (splice_in l a r fo (i - a) (omega (arith, inner)) ∙ splice_after (part l a n) b v fi (i - a) (omega arith) ∙ part_at l a n h (i - a) (omega arith)))
      (λ y. splice_after l a r fo i (omega (arith, inner)))
      (lt_or_le i (a + n)))

pub set_splice : (l : List ℕ) (i x : ℕ) → i < length l → set l i x ≡ splice l i (x ∷ [])
unfolding splice
set_splice l i x h = set_split l i x h ∙ ap (λ (r : List ℕ). take i l ++ (x ∷ r)) (ap (λ (k : ℕ). drop k l) (sym (add-one i)) ∙ sym (drop-drop 1 i l))

-- two words together are at most a bound: the first is, and the second is at most what the first leaves of it
pub leb_add : (x y bound : ℕ) → (leb x bound && leb y (bound - x)) ≡ leb (x + y) bound
leb_add x y bound = go (lt_or_le bound x) (lt_or_le (bound - x) y)
  where
    go : (bound < x) ⊎ (x ≤ bound) → (bound - x < y) ⊎ (y ≤ bound - x) → (leb x bound && leb y (bound - x)) ≡ leb (x + y) bound
    go (inl u) v = ap (λ (b : Bool). b && leb y (bound - x)) (lt-leb x bound u) ∙ sym (lt-leb (x + y) bound (omega arith))
    go (inr u) (inl v) = ap (λ (b : Bool). b && leb y (bound - x)) (le-leb x bound u) ∙ lt-leb y (bound - x) v ∙ sym (lt-leb (x + y) bound (omega arith))
    go (inr u) (inr v) = ap (λ (b : Bool). b && leb y (bound - x)) (le-leb x bound u) ∙ le-leb y (bound - x) v ∙ sym (le-leb (x + y) bound (omega arith))

-- ---- a total, by a bound on the words
pub total_most : (bound : ℕ) (a : List ℕ) → within bound a ≡ true → total a ≤ length a * bound
unfolding total
total_most bound a e = sum_bound (length a) bound (λ k. get_or a k 0) (within_at bound a e)

pub zip_length : (f : ℕ → ℕ → ℕ) (a b : List ℕ) → length (zip2 f a b) ≡ length a
unfolding zip2
zip_length f a b = build_length _ _

pub noughts_length : (n : ℕ) → length (noughts n) ≡ n
unfolding noughts
noughts_length n = build_length n _

pub noughts_at : (n i : ℕ) → get_or (noughts n) i 0 ≡ 0
unfolding noughts
noughts_at n i =
    ⊎_elim (λ h. build_at n (λ _. 0) i h) (λ h. get_or-eq_default (build n (λ _. 0)) 0 (simp build_length h)) (lt_or_le i n)

-- ---- the library's words for a sum, for zeros, for the first pair of two lists that passes
sum_first : (n : ℕ) (f : ℕ → ℕ) → sum_below (suc n) f ≡ f 0 + sum_below n (λ k. f (suc k))
unfolding sum_below
sum_first zero f = omega arith
sum_first (suc n) f = omega (arith, sum_first n f)

total_sum : (a : List ℕ) → sum a ≡ total a
unfolding total sum_below
total_sum [] = refl
total_sum (x ∷ xs) =
    sum_by-cons (λ y. y) x xs
    ∙ ap (λ (m : ℕ). x + m) (total_sum xs)
    ∙ sym (sum_first (length xs) (λ k. get_or (x ∷ xs) k 0))

pub total_is : (a : List ℕ) (s : ℕ) → s ≡ sum a → s ≡ total a
total_is a s e = e ∙ total_sum a

pub noughts_replicate : (n : ℕ) → replicate n 0 ≡ noughts n
unfolding noughts
noughts_replicate n =
    sym (build_list (replicate n 0) n (length-replicate n 0)) ∙ build_cong n _ _ (λ k lt. get_or-replicate n k 0 0 lt)

-- ---- first_below: what a search that goes up has shown
pub first_found : (n : ℕ) (p : ℕ → Bool) (r : ℕ) → r < n → ((k : ℕ) → k < r → p k ≡ false) → p r ≡ true → first_below n p ≡ r
unfolding first_below
first_found zero p r h none e = absurd (not-suc-le-zero h)
first_found (suc n) p zero h none e = ap (λ (b : Bool). cond b zero (suc (first_below n (λ k. p (suc k))))) e
first_found (suc n) p (suc r) h none e =
    ap (λ (b : Bool). cond b zero (suc (first_below n (λ k. p (suc k))))) (none 0 (omega arith))
    ∙ ap suc (first_found n (λ k. p (suc k)) r (omega arith) (λ k lt. none (suc k) (omega arith)) e)

pub first_none : (n : ℕ) (p : ℕ → Bool) → ((k : ℕ) → k < n → p k ≡ false) → first_below n p ≡ n
unfolding first_below
first_none zero p none = refl
first_none (suc n) p none =
    ap (λ (b : Bool). cond b zero (suc (first_below n (λ k. p (suc k))))) (none 0 (omega arith))
    ∙ ap suc (first_none n (λ k. p (suc k)) (λ k lt. none (suc k) (omega arith)))

-- the invariant of a search that has not found p so far; its two ends
pub record Searching (n : ℕ) (p : ℕ → Bool) (i : ℕ) : Type 0 where
  pub below : i ≤ n
  pub none : (k : ℕ) → k < i → p k ≡ false

pub searching_found : {n : ℕ} {p : ℕ → Bool} {i : ℕ} → Searching n p i → i < n → p i ≡ true → i ≡ first_below n p
searching_found {n} {p} {i} h lt e = sym (first_found n p i lt h.none e)

pub searching_done : {n : ℕ} {p : ℕ → Bool} {i : ℕ} → Searching n p i → n ≤ i → i ≡ first_below n p
searching_done {n} {p} {i} h past =
    let e : i ≡ n = omega (arith, h.below) in
    e ∙ sym (first_none n p (subst (λ (m : ℕ). (k : ℕ) → k < m → p k ≡ false) e h.none))

-- a list is f of the words of two, by its words
pub zip_is : (f : ℕ → ℕ → ℕ) (a b c : List ℕ) → length c ≡ length a → ((i : ℕ) → i < length a → get_or c i 0 ≡ f (get_or a i 0) (get_or b i 0)) → c ≡ zip2 f a b
unfolding zip2
zip_is f a b c n h = sym (build_list c (length a) n) ∙ build_cong (length a) _ _ h

-- ---- a part copied within a list; a part written while its list is lent as two
pub splice_copy : (l : List ℕ) (a b n : ℕ) → b + n ≤ length l → copy_within l b (b + n) a ≡ splice l a (part l b n)
splice_copy l a b n h =
    let e : b + n - b ≡ n = omega arith in
    ap (λ (k : ℕ). take a l ++ take k (drop b l) ++ drop (a + k) l) e ∙ sym (splice_form l a (part l b n) n (part_length l b n h))

front_part : (front back : List ℕ) (a n : ℕ) → a + n ≤ length front → part (front ++ back) a n ≡ part front a n
front_part front back a n h =
    ap (λ (x : List ℕ). take n x) (drop-append-le a front back (omega arith))
    ∙ take-append-le n (drop a front) back (simp length-drop (omega arith))

back_part : (front back : List ℕ) (a n : ℕ) → length front ≡ a → part (front ++ back) a n ≡ take n back
back_part front back a n h = ap (λ (x : List ℕ). take n x) (drop_at front back a h)

module _ (g : ℕ → ℕ → ℕ) (l front back d : List ℕ) (a b n : ℕ) (is : l ≡ front ++ back) (long : b + n ≤ length l) where
  pub zip_front : length front ≡ b → a + n ≤ b → d ≡ zip2 g (take (a + n - a) (drop a front)) (take n back) → take a front ++ (d ++ drop (a + n - a) (drop a front)) ++ back ≡ splice l a (zip2 g (part l a n) (part l b n))
  unfolding splice
  zip_front f h e =
      let k : a + n - a ≡ n = omega arith in
      let rest : n ≤ length (drop a front) = simp length-drop (omega arith) in
      let first : length (take (a + n - a) (drop a front)) ≡ n = simp (length-take, length-drop) (omega arith) in
      let d-long : length d ≡ n = ap length e ∙ zip_length g (take (a + n - a) (drop a front)) (take n back) ∙ first in
      let same : d ≡ zip2 g (part l a n) (part l b n) = cc (front_part front back a n (omega arith), back_part front back b n f) in
      let x : List ℕ = drop n (drop a front) in
      cc (
        take-append-le a front back (omega arith),
        drop-append-le a front back (omega arith),
        drop-append-le n (drop a front) back rest,
        append_assoc d x back,
        append_assoc (take a front) (d ++ x) back,
      )

module _ (g : ℕ → ℕ → ℕ) (l front back d : List ℕ) (a b n : ℕ) (is : l ≡ front ++ back) (long : a + n ≤ length l) where
  pub zip_back : length front ≡ a → b + n ≤ a → d ≡ zip2 g (take n back) (take (b + n - b) (drop b front)) → front ++ (d ++ drop n back) ≡ splice l a (zip2 g (part l a n) (part l b n))
  unfolding splice
  zip_back f h e =
      let k : b + n - b ≡ n = omega arith in
      let both : length l ≡ length front + length back = ap length is ∙ length-append front back in
      let first : length (take n back) ≡ n = simp length-take (omega arith) in
      let d-long : length d ≡ n = ap length e ∙ zip_length g (take n back) (take (b + n - b) (drop b front)) ∙ first in
      let same : d ≡ zip2 g (part l a n) (part l b n) = cc (front_part front back b n (omega arith), back_part front back a n f) in
      let t : take a (front ++ back) ≡ front = take_at front back a f in
      cc (drop_at front back a f)
