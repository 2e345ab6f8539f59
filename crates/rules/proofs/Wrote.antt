-- Ledgers that agree in some rows, and the same writes done to both. An action is shown once to do such writes; that it
-- alters no other row, keeps lasting words, and leaves agreeing ledgers agreeing follows for every kind.
use mathlib.Core.Path.{◌≡◌, refl, sym, ap, subst, ◌∙◌}
use mathlib.Core.Logic.{◌≢◌, ◌⊎◌, inl, inr}
use mathlib.Core.Bool.{Bool, true, false, not, true≢false}
use mathlib.Core.List.{List}
use Prim.Native.Nat.{ℕ, ◌+◌, ◌-◌, ◌/◌, ◌%◌, ◌≤◌, ◌<◌}
use native.Mathlib.Nat.{div-add-mod', mod-lt, div-lt_iff_lt-mul}
use native.Mathlib.Decide.{ℕ_discrete}
use native.Mathlib.Omega.{arith}
use borrow.Author.Tests.{not-true}
use lib.ListN.{length, get_or}
use lib.Seq.{ext_get_or}
use Rattle.words.proofs.Laws.{lt_or_le}
use Rattle.rules.specs.Numbers.{head_words, row_words, countered}
use Rattle.rules.specs.Layout.{row_base, row_size, row, on_row, has, Sized}
use Rattle.rules.proofs.Rows.{row_length, word_is, on_sized, on_own, on_other, on_head}
use Rattle.rules.proofs.Lasting.{lasting, Lasting}

-- l and m have the same head and the same rows where K holds
pub record Agree (K : ℕ → Bool) (R H : ℕ) (l m : List ℕ) : Type 0 where
  pub first : Sized l R H
  pub second : Sized m R H
  pub head : (i : ℕ) → i < head_words → get_or l i 0 ≡ get_or m i 0
  pub rows : (k : ℕ) → K k ≡ true → row H l k ≡ row H m k

-- l' has the head of l, its rows where K does not hold, the lasting words of every row, and is countered where l is
pub record Frame (K : ℕ → Bool) (R H : ℕ) (l l' : List ℕ) : Type 0 where
  pub sized : Sized l' R H
  pub head : (i : ℕ) → i < head_words → get_or l' i 0 ≡ get_or l i 0
  pub other : (k : ℕ) → K k ≡ false → row H l' k ≡ row H l k
  pub word : (k i : ℕ) → i < row_words → lasting i ≡ true → get_or (row H l' k) i 0 ≡ get_or (row H l k) i 0
  pub marked : (k : ℕ) → has countered (row H l k) ≡ true → has countered (row H l' k) ≡ true

-- l' and m' are l and m after the same writes, each in a row where K holds, that keeps lasting words
pub data Wrote (K : ℕ → Bool) (R H : ℕ) : List ℕ → List ℕ → List ℕ → List ℕ → Type 0 where
  none : {l m : List ℕ} → Wrote K R H l m l m
  write : {l m l' m' : List ℕ} → Wrote K R H l m l' m' → (n : ℕ) → K n ≡ true → n < R → (f : List ℕ → List ℕ) → Lasting H (row H l' n) (f (row H l' n)) → Wrote K R H l m (on_row H n f l') (on_row H n f m')

unlike : (K : ℕ → Bool) {k n : ℕ} → K k ≡ false → K n ≡ true → k ≢ n
unlike K p q e = true≢false (sym q ∙ ap K (sym e) ∙ p)

pub frame_self : {K : ℕ → Bool} {R H : ℕ} {l : List ℕ} → Sized l R H → Frame K R H l l
frame_self s = record { sized = s; head = λ i lt. refl; other = λ k q. refl; word = λ k i lt t. refl; marked = λ k z. z }

frame_on : {K : ℕ → Bool} {R H : ℕ} {l x : List ℕ} → Frame K R H l x → (n : ℕ) → K n ≡ true → n < R → (f : List ℕ → List ℕ) → Lasting H (row H x n) (f (row H x n)) → Frame K R H l (on_row H n f x)
frame_on {K} {R} {H} {l} {x} F n kn lt f q = record {
  sized = on_sized F.sized lt f q.long;
  head = λ i ilt. on_head F.sized lt f q.long i ilt ∙ F.head i ilt;
  other = λ k p. on_other F.sized lt f q.long (unlike K p kn) ∙ F.other k p;
  word = λ k i ilt t. go k i ilt t (ℕ_discrete k n) ∙ F.word k i ilt t;
  marked = λ k z. stays k (ℕ_discrete k n) (F.marked k z);
}
  where
    go : (k i : ℕ) → i < row_words → lasting i ≡ true → Dec (k ≡ n) → get_or (row H (on_row H n f x) k) i 0 ≡ get_or (row H x k) i 0
    go k i ilt t (yes e) =
        ap (λ (j : ℕ). get_or (row H (on_row H n f x) j) i 0) e
        ∙ ap (λ (r : List ℕ). get_or r i 0) (on_own F.sized lt f q.long)
        ∙ q.word i ilt t
        ∙ sym (ap (λ (j : ℕ). get_or (row H x j) i 0) e)
    go k i ilt t (no ne) = ap (λ (r : List ℕ). get_or r i 0) (on_other F.sized lt f q.long ne)

    stays : (k : ℕ) → Dec (k ≡ n) → has countered (row H x k) ≡ true → has countered (row H (on_row H n f x) k) ≡ true
    stays k (yes e) z =
        ap (λ (j : ℕ). has countered (row H (on_row H n f x) j)) e
        ∙ ap (λ (r : List ℕ). has countered r) (on_own F.sized lt f q.long)
        ∙ q.marked (ap (λ (j : ℕ). has countered (row H x j)) (sym e) ∙ z)
    stays k (no ne) z = ap (λ (r : List ℕ). has countered r) (on_other F.sized lt f q.long ne) ∙ z

-- nothing changes but rows where K holds, and of them no lasting word
pub frame : {K : ℕ → Bool} {R H : ℕ} {l m l' m' : List ℕ} → Sized l R H → Wrote K R H l m l' m' → Frame K R H l l'
frame s none = frame_self s
frame s (write w n kn lt f q) = frame_on (frame s w) n kn lt f q

agree_on : {J : ℕ → Bool} {R H : ℕ} {x y : List ℕ} → Agree J R H x y → (n : ℕ) → J n ≡ true → n < R → (f : List ℕ → List ℕ) → length (f (row H x n)) ≡ row_size H → Agree J R H (on_row H n f x) (on_row H n f y)
agree_on {J} {R} {H} {x} {y} G n jn lt f q = record {
  first = on_sized G.first lt f q;
  second = on_sized G.second lt f q';
  head = λ i ilt. on_head G.first lt f q i ilt ∙ G.head i ilt ∙ sym (on_head G.second lt f q' i ilt);
  rows = λ k j. go k j (ℕ_discrete k n);
}
  where
    same : row H x n ≡ row H y n
    same = G.rows n jn

    q' : length (f (row H y n)) ≡ row_size H
    q' = ap (λ (r : List ℕ). length (f r)) (sym same) ∙ q

    go : (k : ℕ) → J k ≡ true → Dec (k ≡ n) → row H (on_row H n f x) k ≡ row H (on_row H n f y) k
    go k j (yes e) =
        ap (λ (i : ℕ). row H (on_row H n f x) i) e
        ∙ on_own G.first lt f q
        ∙ ap f same
        ∙ sym (on_own G.second lt f q')
        ∙ sym (ap (λ (i : ℕ). row H (on_row H n f y) i) e)
    go k j (no ne) = on_other G.first lt f q ne ∙ G.rows k j ∙ sym (on_other G.second lt f q' ne)

-- ledgers that agree, at least where rows are written, agree afterwards
pub agree : {K J : ℕ → Bool} {R H : ℕ} {l m l' m' : List ℕ} → ((k : ℕ) → K k ≡ true → J k ≡ true) → Agree J R H l m → Wrote K R H l m l' m' → Agree J R H l' m'
agree more g none = g
agree more g (write w n kn lt f q) = agree_on (agree more g w) n (more n kn) lt f q.long

-- one write more, told what lasts of the row that it is made in; and writes after writes
pub written : {K : ℕ → Bool} {R H : ℕ} {l m l' m' : List ℕ} → Sized l R H → Wrote K R H l m l' m' → {n : ℕ} → K n ≡ true → n < R → (f : List ℕ → List ℕ)
    → (Lasting H (row H l n) (row H l' n) → Lasting H (row H l' n) (f (row H l' n))) → Wrote K R H l m (on_row H n f l') (on_row H n f m')
written s w {n} kn lt f q =
    let F = frame s w in
    write w n kn lt f (q (record { long = row_length F.sized lt; word = λ i ilt t. F.word n i ilt t; marked = F.marked n }))

pub wrote_then : {K : ℕ → Bool} {R H : ℕ} {l m l' m' l'' m'' : List ℕ} → Wrote K R H l m l' m' → Wrote K R H l' m' l'' m'' → Wrote K R H l m l'' m''
wrote_then a none = a
wrote_then a (write b n kn lt f q) = write (wrote_then a b) n kn lt f q

-- the second of the ledgers goes as the first
pub turn : {K : ℕ → Bool} {R H : ℕ} {l m l' m' : List ℕ} → Agree K R H l m → Wrote K R H l m l' m' → Wrote K R H m l m' l'
turn g none = none
turn {H = H} g (write w n kn lt f q) = write (turn g w) n kn lt f (subst (λ (r : List ℕ). Lasting H r (f r)) ((agree (λ k t. t) g w).rows n kn) q)

-- a ledger agrees with itself, and, off the rows that are written, with what is left of it
pub agree_self : {K : ℕ → Bool} {R H : ℕ} {l : List ℕ} → Sized l R H → Agree K R H l l
agree_self s = record { first = s; second = s; head = λ i lt. refl; rows = λ k e. refl }

abbrev pub off : (ℕ → Bool) → ℕ → Bool
off K k = not (K k)

pub agree_off : {K : ℕ → Bool} {R H : ℕ} {l l' : List ℕ} → Sized l R H → Frame K R H l l' → Agree (off K) R H l l'
agree_off {K} s F = record { first = s; second = F.sized; head = λ i lt. sym (F.head i lt); rows = λ k e. sym (F.other k (not-true (K k) e)) }

-- fewer rows
pub agree_less : {K J : ℕ → Bool} {R H : ℕ} {l m : List ℕ} → ((k : ℕ) → K k ≡ true → J k ≡ true) → Agree J R H l m → Agree K R H l m
agree_less more g = record { first = g.first; second = g.second; head = g.head; rows = λ k t. g.rows k (more k t) }

-- ---- ledgers with the same head and the same rows are the same
placed : (H i : ℕ) → head_words ≤ i → i ≡ row_base H ((i - head_words) / row_size H) + (i - head_words) % row_size H
unfolding row_base
placed H i least = omega (arith, div-add-mod' (i - head_words) (row_size H))

row_below : (R H i : ℕ) → head_words ≤ i → i < row_base H R → (i - head_words) / row_size H < R
unfolding row_base
row_below R H i least lt = let full : 0 < row_size H = omega arith in (div-lt_iff_lt-mul full).1 (omega arith)

pub same_ledger : {R H : ℕ} {l m : List ℕ} → Sized l R H → Sized m R H → ((i : ℕ) → i < head_words → get_or l i 0 ≡ get_or m i 0) → ((k : ℕ) → row H l k ≡ row H m k) → l ≡ m
same_ledger {R} {H} {l} {m} s t head rows = ext_get_or 0 l m (s.long ∙ sym t.long) (λ i lt. go i lt (lt_or_le i head_words))
  where
    go : (i : ℕ) → i < length l → (i < head_words) ⊎ (head_words ≤ i) → get_or l i 0 ≡ get_or m i 0
    go i lt (inl u) = head i u
    go i lt (inr u) =
        let k = (i - head_words) / row_size H in
        let j = (i - head_words) % row_size H in
        let klt : k < R = row_below R H i u (omega (arith, lt, s.long)) in
        let jlt : j < row_size H = mod-lt (i - head_words) (omega arith) in
        ap (λ (x : ℕ). get_or l x 0) (placed H i u)
        ∙ sym (word_is s klt j jlt)
        ∙ ap (λ (r : List ℕ). get_or r j 0) (rows k)
        ∙ word_is t klt j jlt
        ∙ sym (ap (λ (x : ℕ). get_or m x 0) (placed H i u))

-- so writes in two rows are the same in either order
module _ {R H : ℕ} {l : List ℕ} (s : Sized l R H) {n m : ℕ} (nlt : n < R) (mlt : m < R) (ne : n ≢ m) (f g : List ℕ → List ℕ) (ef : length (f (row H l n)) ≡ row_size H) (eg : length (g (row H l m)) ≡ row_size H) where
  row_n : row H (on_row H m g l) n ≡ row H l n
  row_n = on_other s mlt g eg ne

  row_m : row H (on_row H n f l) m ≡ row H l m
  row_m = on_other s nlt f ef (λ e. ne (sym e))

  fits_n : length (f (row H (on_row H m g l) n)) ≡ row_size H
  fits_n = ap (λ (r : List ℕ). length (f r)) row_n ∙ ef

  fits_m : length (g (row H (on_row H n f l) m)) ≡ row_size H
  fits_m = ap (λ (r : List ℕ). length (g r)) row_m ∙ eg

  pub writes_commute : on_row H n f (on_row H m g l) ≡ on_row H m g (on_row H n f l)
  writes_commute =
      same_ledger (on_sized t nlt f fits_n) (on_sized u mlt g fits_m)
      (λ i lt. on_head t nlt f fits_n i lt ∙ on_head s mlt g eg i lt ∙ sym (on_head u mlt g fits_m i lt ∙ on_head s nlt f ef i lt))
      (λ k. go k (ℕ_discrete k n) (ℕ_discrete k m))
    where
      t : Sized (on_row H m g l) R H
      t = on_sized s mlt g eg

      u : Sized (on_row H n f l) R H
      u = on_sized s nlt f ef

      go : (k : ℕ) → Dec (k ≡ n) → Dec (k ≡ m) → row H (on_row H n f (on_row H m g l)) k ≡ row H (on_row H m g (on_row H n f l)) k
      go k (yes e) d =
          ap (λ (i : ℕ). row H (on_row H n f (on_row H m g l)) i) e
          ∙ on_own t nlt f fits_n
          ∙ ap f row_n
          ∙ sym (on_own s nlt f ef)
          ∙ sym (on_other u mlt g fits_m ne)
          ∙ sym (ap (λ (i : ℕ). row H (on_row H m g (on_row H n f l)) i) e)
      go k (no p) (yes e) =
          on_other t nlt f fits_n p
          ∙ ap (λ (i : ℕ). row H (on_row H m g l) i) e
          ∙ on_own s mlt g eg
          ∙ ap g (sym row_m)
          ∙ sym (on_own u mlt g fits_m)
          ∙ sym (ap (λ (i : ℕ). row H (on_row H m g (on_row H n f l)) i) e)
      go k (no p) (no q) = on_other t nlt f fits_n p ∙ on_other s mlt g eg q ∙ sym (on_other u mlt g fits_m q ∙ on_other s nlt f ef p)
