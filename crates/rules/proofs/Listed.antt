-- Annulments in order: a list that is a yes names rows that are there, each once, and so no more than are used.
use mathlib.Core.Path.{◌≡◌, refl, sym, ap, ◌∙◌}
use mathlib.Core.Logic.{◌≢◌, ◌⊎◌, inl, inr}
use mathlib.Core.Bool.{Bool, true, false, ◌||◌}
use mathlib.Core.List.{List, [], ◌∷◌}
use Prim.Native.Nat.{ℕ, zero, suc, ◌≤◌, ◌<◌}
use native.Mathlib.Decide.{ℕ_discrete}
use native.Mathlib.Omega.{arith}
use borrow.Author.Tests.{eq-eqb, ne_eqb, not-true}
use lib.Dec.{eqb}
use lib.ListN.{length}
use Rattle.words.specs.Lists.{word_at, all_below}
use Rattle.words.proofs.Laws.{and_left, and_right, all_at}
use Rattle.column.specs.Sum.{gate, sum_to}
use Rattle.column.proofs.Sums.{sum_le, sum_zero, sum_suc, sum_point}
use Rattle.rules.specs.Layout.{hours, used, row_of, issued}
use Rattle.rules.specs.Act.{sound_both}
use Rattle.rules.specs.Annulments.{annuls_in_order, TwiceIsNo, AbsentIsNo}
use Rattle.rules.proofs.SoundFacts.{range}
use Rattle.rules.proofs.Unwound.{turn, none, gone_by, gone_at, gone_next, by}
use Rattle.rules.proofs.Unwinding.{never}
use Rattle.rules.proofs.Annulments.{annuls_in_order_lem, annuls_unsound}

-- the row of a reference is gone after its turn, and stays so
module _ (refs : List ℕ) where
  pub gone_named : (i j : ℕ) → i < j → j ≤ length refs → gone_at refs j (row_of (word_at refs i)) ≡ true
  gone_named i zero ij le = absurd (omega (arith, ij))
  gone_named i (suc j) ij le =
      gone_next refs j (row_of (word_at refs i)) (omega (arith, le)) ∙ go (ℕ_discrete i j) (λ ne. gone_named i j (omega (arith, ij, ne)) (omega (arith, le)))
    where
      or_true : (b : Bool) → (b || true) ≡ true
      or_true true = refl
      or_true false = refl

      go : Dec (i ≡ j) → (i ≢ j → gone_at refs j (row_of (word_at refs i)) ≡ true) → (eqb (row_of (word_at refs i)) (row_of (word_at refs j)) || gone_at refs j (row_of (word_at refs i))) ≡ true
      go (yes e) f = ap (λ (b : Bool). b || gone_at refs j (row_of (word_at refs i))) (eq-eqb _ _ (ap (λ (k : ℕ). row_of (word_at refs k)) e))
      go (no ne) f = ap (λ (b : Bool). eqb (row_of (word_at refs i)) (row_of (word_at refs j)) || b) (f ne) ∙ or_true (eqb (row_of (word_at refs i)) (row_of (word_at refs j)))

-- ---- every turn passes
module _ (l ps refs : List ℕ) (yes-all : all_below (length refs) (λ k. turn (hours l) l ps (gone_at refs k) (word_at refs k)) ≡ true) where
  passed : (k : ℕ) → k < length refs → turn (hours l) l ps (gone_at refs k) (word_at refs k) ≡ true
  passed k lt = all_at (λ j. turn (hours l) l ps (gone_at refs j) (word_at refs j)) (length refs) k yes-all lt

  there : (k : ℕ) → k < length refs → issued l (word_at refs k) ≡ true
  unfolding turn
  there k lt = and_left _ _ (passed k lt)

  row_there : (k : ℕ) → k < length refs → row_of (word_at refs k) < used l
  unfolding issued
  row_there k lt = let b = range 1 (word_at refs k) (used l) (there k lt) in omega (arith, b.0, b.1)

  free : (k : ℕ) → k < length refs → gone_at refs k (row_of (word_at refs k)) ≡ false
  unfolding turn
  free k lt = not-true _ (and_left _ _ (and_right (issued l (word_at refs k)) _ (passed k lt)))

  once : (i j : ℕ) → i < j → j < length refs → word_at refs i ≢ word_at refs j
  once i j ij lt q =
      never (sym (ap (λ (r : ℕ). gone_at refs j (row_of r)) (sym q) ∙ gone_named refs i j ij (omega (arith, lt))) ∙ free j lt)

  -- how many rows are gone after k turns
  gone_count : (k : ℕ) → k ≤ length refs → sum_to (used l) (λ m. gate (gone_at refs k m) 1) ≡ k
  unfolding none gone_by
  gone_count zero le = sum_zero (used l) _ (λ m _. refl)
  gone_count (suc k) le =
      let lt : k < length refs = omega (arith, le) in
      let n : ℕ = row_of (word_at refs k) in
      let point = sum_point (used l) n (λ m. gate (gone_at refs k m) 1) (λ m. gate (gone_at refs (suc k) m) 1) (row_there k lt)
      (λ m ne. ap (λ (b : Bool). gate b 1) (gone_next refs k m lt ∙ ap (λ (b : Bool). b || gone_at refs k m) (ne_eqb m n ne))) in
      let before : gate (gone_at refs k n) 1 ≡ 0 = ap (λ (b : Bool). gate b 1) (free k lt) in
      let after : gate (gone_at refs (suc k) n) 1 ≡ 1 = ap (λ (b : Bool). gate b 1) (gone_named refs k (suc k) (omega arith) le) in
      omega (arith, point, before, after, gone_count k (omega (arith, le)))

  few : length refs ≤ used l
  few =
      let one : (b : Bool) → gate b 1 ≤ 1 = at_most in
      omega (arith, gone_count (length refs) (omega arith), sum_le (used l) (λ m. gate (gone_at refs (length refs) m) 1) (λ _. 1) (λ m _. one (gone_at refs (length refs) m)), ones (used l))
    where
      at_most : (b : Bool) → gate b 1 ≤ 1
      at_most true = omega arith
      at_most false = omega arith

      ones : (u : ℕ) → sum_to u (λ _. 1) ≡ u
      ones zero = sum_zero zero (λ _. 1) (λ m lt. absurd (omega (arith, lt)))
      ones (suc u) = omega (arith, sum_suc u (λ _. 1), ones u)

-- ---- so a list gives no, where a turn does not pass, and on words that are not sound, if it is not empty
module _ (l ps refs : List ℕ) (long : 0 < length refs) where
  abbrev Passes : Type 0
  Passes = all_below (length refs) (λ k. turn (hours l) l ps (gone_at refs k) (word_at refs k)) ≡ true

  no_unless : (Passes → ⊥) → annuls_in_order l ps refs ≡ false
  no_unless f = go (by (sound_both l ps)) (by (all_below (length refs) (λ k. turn (hours l) l ps (gone_at refs k) (word_at refs k)))) refs long refl
    where
      go : (sound_both l ps ≡ true) ⊎ (sound_both l ps ≡ false) → Passes ⊎ (all_below (length refs) (λ k. turn (hours l) l ps (gone_at refs k) (word_at refs k)) ≡ false)
          → (x : List ℕ) → 0 < length x → x ≡ refs → annuls_in_order l ps refs ≡ false
      go (inl s) (inl e) x lt q = absurd (f e)
      go (inl s) (inr e) x lt q = annuls_in_order_lem l ps refs s ∙ e
      go (inr s) p [] lt q = absurd (omega (arith, lt))
      go (inr s) p (r ∷ rs) lt q = ap (λ (z : List ℕ). annuls_in_order l ps z) (sym q) ∙ annuls_unsound l ps r rs s

pub twice_is_no : TwiceIsNo
twice_is_no l ps refs i j ij lt q = no_unless l ps refs (omega (arith, ij, lt)) (λ e. once l ps refs e i j ij lt q)

pub absent_is_no : AbsentIsNo
absent_is_no l ps refs k lt q = no_unless l ps refs (omega (arith, lt)) (λ e. never (sym (there l ps refs e k lt) ∙ q))

-- a list longer than the rows used
pub longer_is_no : (l ps refs : List ℕ) → used l < length refs → annuls_in_order l ps refs ≡ false
longer_is_no l ps refs lt = no_unless l ps refs (omega (arith, lt)) (λ e. absurd (omega (arith, lt, few l ps refs e)))
