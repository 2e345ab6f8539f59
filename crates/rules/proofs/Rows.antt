-- Laws of rows. `row_apart` is the one that is not linear.
use mathlib.Core.Path.{◌≡◌, sym, ap, ◌∙◌}
use mathlib.Core.Logic.{◌≢◌, ⊎_elim, inl}
use mathlib.Core.List.{List}
use Prim.Native.Nat.{ℕ, ◌+◌, ◌≤◌, ◌<◌}
use native.Mathlib.Nat.{mul-le-mul, mul-le-mul_right, suc-mul}
use native.Mathlib.Omega.{arith}
use lib.ListN.{length, get_or, take, set}
use lib.Seq.{drop-set-lt}
use Rattle.words.specs.Lists.{part, splice}
use Rattle.words.proofs.Laws.{lt_or_le, part_length, part_at, part_same, part_apart, splice_part, part_part, splice_length, splice_before, drop_splice}
use Rattle.rules.specs.Numbers.{head_words, most_rows, most_hours}
use Rattle.rules.specs.Layout.{row_base, row_size, row, on_row, Sized}

-- a row ends where a later row, or the ledger, starts or ends
pub row_apart : (H : ℕ) {n m : ℕ} → n < m → row_base H n + row_size H ≤ row_base H m
unfolding row_base
row_apart H {n} {m} h = omega (arith, mul-le-mul_right (row_size H) h, suc-mul n (row_size H))

pub row_least : (H n : ℕ) → head_words ≤ row_base H n
unfolding row_base
row_least H n = omega arith

pub row_most : {H n : ℕ} → H ≤ most_hours → n ≤ most_rows → row_base H n ≤ row_base most_hours most_rows
unfolding row_base
row_most {H} {n} h k =
    let w : row_size H ≤ row_size most_hours = omega arith in
    omega (arith, mul-le-mul k w)

-- a row lies in the ledger
pub row_fits : {l : List ℕ} {R H n : ℕ} → Sized l R H → n < R → row_base H n + row_size H ≤ length l
row_fits {l} {R} {H} {n} s h = omega (arith, row_apart H h)

module _ {l : List ℕ} {R H n : ℕ} (s : Sized l R H) (h : n < R) where
  pub row_length : length (row H l n) ≡ row_size H
  unfolding row
  row_length = part_length l (row_base H n) (row_size H) (row_fits s h)

  pub word_is : (k : ℕ) → k < row_size H → get_or (row H l n) k 0 ≡ get_or l (row_base H n + k) 0
  unfolding row
  word_is k lt = part_at l (row_base H n) (row_size H) (row_fits s h) k lt

  module _ (f : List ℕ → List ℕ) (e : length (f (row H l n)) ≡ row_size H) where
    fits : row_base H n + length (f (row H l n)) ≤ length l
    fits = omega (arith, e, row_fits s h)

    pub on_length : length (on_row H n f l) ≡ length l
    unfolding on_row
    on_length = splice_length l (row_base H n) (f (row H l n)) fits

    pub on_sized : Sized (on_row H n f l) R H
    on_sized = record { long = on_length ∙ s.long; rows = s.rows; hours = s.hours }

    -- the row itself
    pub on_own : row H (on_row H n f l) n ≡ f (row H l n)
    unfolding on_row row
    on_own = ap (λ (k : ℕ). part (on_row H n f l) (row_base H n) k) (sym e) ∙ part_same l (row_base H n) (f (row H l n)) fits

    -- every other row, also past the end
    pub on_other : {m : ℕ} → m ≢ n → row H (on_row H n f l) m ≡ row H l m
    unfolding on_row row
    on_other {m} ne =
        ⊎_elim
        (λ x. part_apart l (row_base H n) (f (row H l n)) fits (row_base H m) (row_size H) (omega (arith, row_apart H x, row_fits s h)) (inl (row_apart H x)))
        (λ x.
        let y : n < m = omega (arith, ne) in
        ap (λ (r : List ℕ). take (row_size H) r) (drop_splice l (row_base H n) (f (row H l n)) fits (row_base H m) (omega (arith, row_apart H y, e))))
        (lt_or_le m n)

    -- the head
    pub on_head : (i : ℕ) → i < head_words → get_or (on_row H n f l) i 0 ≡ get_or l i 0
    unfolding on_row
    on_head i lt = splice_before l (row_base H n) (f (row H l n)) fits i (omega (arith, row_least H n))

-- a word of the head is stored: the rows stay
pub head_row : (H : ℕ) (l : List ℕ) (i x n : ℕ) → i < head_words → row H (set l i x) n ≡ row H l n
unfolding row
head_row H l i x n lt = ap (λ (r : List ℕ). take (row_size H) r) (drop-set-lt (row_base H n) l i x (omega (arith, row_least H n, lt)))

-- ---- row by row, and word by word: the two ways to say a write
module _ {l : List ℕ} {R H n : ℕ} (s : Sized l R H) (h : n < R) where
  -- a part of the row that is written is a part of the ledger that is
  pub on_splice : (k : ℕ) (v : List ℕ) → k + length v ≤ row_size H → on_row H n (λ r. splice r k v) l ≡ splice l (row_base H n + k) v
  unfolding on_row row
  on_splice k v e = splice_part l (row_base H n) (row_size H) k v (row_fits s h) e

  pub row_part : (k m : ℕ) → k + m ≤ row_size H → part l (row_base H n + k) m ≡ part (row H l n) k m
  unfolding row
  row_part k m e = sym (part_part l (row_base H n) (row_size H) k m (row_fits s h) e)
