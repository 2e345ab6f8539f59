-- Tables with a mark for each row: none is marked, one row more is; the two tables of a walk over references.
use mathlib.Core.Path.{◌≡◌, refl, sym, ap, fun_ext, subst, ◌∙◌}
use mathlib.Core.Logic.{◌⊎◌, ⊎_elim, inl, inr}
use mathlib.Core.Bool.{Bool, true, false, ◌||◌}
use mathlib.Core.List.{List}
use Prim.Native.Nat.{ℕ, ◌+◌, ◌≤◌, ◌<◌}
use native.Mathlib.Decide.{ℕ_discrete}
use native.Mathlib.Numerals.{add-one}
use native.Mathlib.Omega.{arith}
use borrow.Author.Tests.{eqb-true, eq-eqb, ne_eqb, not-true}
use lib.Dec.{eqb}
use lib.ListN.{length, get_or, set, replicate, get_or-eq_default}
use Rattle.std.proofs.lemmas.List.{get_or-replicate, length-replicate}
use lib.Seq.{get_or-set_same, get_or-set_other}
use Rattle.words.specs.Lists.{word_at}
use Rattle.words.proofs.Laws.{lt_or_le, and_right}
use Rattle.rules.specs.Pick.{pick}
use Rattle.rules.specs.Layout.{row_of, related_row}
use Rattle.rules.proofs.Picks.{or_second}
use Rattle.rules.proofs.Passed.{or_some}
use Rattle.rules.proofs.Unwound.{adding, none, gone_by, gone_at, gone_next, stays, gives, by}
use Rattle.rules.proofs.Unwinding.{never}
use Rattle.unwinding.specs.Order.{gives_late}
use Rattle.unwinding.specs.Marks.{marked, Marks, Late}
use Rattle.unwinding.proofs.Passes.{stays_falls}

-- ---- marks
mark_more : (marks : List Bool) (n : ℕ) → n < length marks
    → (m : ℕ) → marked (set marks n true) m ≡ adding (marked marks) n m
unfolding marked adding
mark_more marks n lt m = go (ℕ_discrete m n)
  where
    go : Dec (m ≡ n) → get_or (set marks n true) m false ≡ (eqb m n || get_or marks m false)
    go (yes e) =
        ap (λ (k : ℕ). get_or (set marks n true) k false) e
        ∙ get_or-set_same marks n true false lt
        ∙ sym (ap (λ (b : Bool). b || get_or marks m false) (eq-eqb m n e))
    go (no ne) =
        get_or-set_other marks n m true false ne
        ∙ sym (ap (λ (b : Bool). b || get_or marks m false) (ne_eqb m n ne))

no_mark : (n m : ℕ) → get_or (replicate n false) m false ≡ false
no_mark n m =
    ⊎_elim
    (λ (v : m < n). get_or-replicate n m false false v)
    (λ (v : n ≤ m). get_or-eq_default (replicate n false) false (omega (arith, length-replicate n false, v)))
    (lt_or_le m n)

-- as functions of the row
pub none_marked : marked (replicate 1024 false) ≡ none
unfolding marked none
none_marked = fun_ext (λ m. no_mark 1024 m)

pub marked_more : (marks : List Bool) (n : ℕ) → n < length marks → marked (set marks n true) ≡ adding (marked marks) n
marked_more marks n lt = fun_ext (mark_more marks n lt)

-- ---- the rows of the first references
pub marks_start : (refs : List ℕ) {marks : List Bool} → marked marks ≡ none → Marks refs marks 0
unfolding gone_by
marks_start refs e = record { is = λ m. ap (λ (g : ℕ → Bool). g m) e }

pub marks_gone : {refs : List ℕ} {marks : List Bool} {k : ℕ} → Marks refs marks k → marked marks ≡ gone_at refs k
marks_gone M = fun_ext (λ m. M.is m)

pub marks_turn : {refs : List ℕ} {marks next : List Bool} {k n : ℕ} → Marks refs marks k → k < length refs
    → n ≡ row_of (word_at refs k) → marked next ≡ adding (marked marks) n → Marks refs next (k + 1)
unfolding adding
marks_turn {refs} {marks} {next} {k} {n} M lt e a = record {
  is = λ m.
      ap (λ (g : ℕ → Bool). g m) a
      ∙ ap (λ (b : Bool). eqb m n || b) (M.is m)
      ∙ ap (λ (i : ℕ). eqb m i || gone_at refs k m) e
      ∙ sym (gone_next refs k m lt)
      ∙ ap (λ (i : ℕ). gone_at refs i m) (sym (add-one k));
}

-- ---- the rows that were given something back late
pub late_start : (H : ℕ) (l refs : List ℕ) {late : List Bool} → marked late ≡ none → Late H l refs late 0
unfolding none
late_start H l refs e = record {
  all = λ j lt. absurd (omega (arith, lt));
  off = λ p t. never (sym t ∙ ap (λ (g : ℕ → Bool). g p) e);
}

module _ {H : ℕ} {l refs : List ℕ} {late : List Bool} {k : ℕ} (L : Late H l refs late k) (lt : k < length refs) where
  -- the row that the j-th gives to
  abbrev up : ℕ → ℕ
  up j = related_row H l (row_of (word_at refs j))

  abbrev is_late : ℕ → Bool
  is_late j = gives_late H l (gone_at refs j) (row_of (word_at refs j))

  -- a row that is not CONFIRMED any more is marked, or none
  marked_next : {p : ℕ} {next : List Bool} → marked next ≡ adding (marked late) p → stays H l (gone_at refs k) p ≡ false
      → (is_late k ≡ true → up k ≡ p) → Late H l refs next (k + 1)
  unfolding adding
  marked_next {p} {next} a s to = record {
    all = λ j jlt g.
        more (up j)
        ∙ ⊎_elim
        (λ (v : j < k). or_second (eqb (up j) p) (marked late (up j)) (L.all j v g))
        (λ (v : k ≤ j).
        let q : j ≡ k = omega (arith, jlt, v) in
        let w : up j ≡ p = subst (λ (i : ℕ). is_late i ≡ true → up i ≡ p) (sym q) to g in
        ap (λ (b : Bool). b || marked late (up j)) (eq-eqb (up j) p w))
        (lt_or_le j k);
    off = λ m t.
        stays_falls H l refs m k (k + 1) (omega arith) (omega (arith, lt))
        (⊎_elim
        (λ (q : eqb m p ≡ true). ap (λ (i : ℕ). stays H l (gone_at refs k) i) (eqb-true m p q) ∙ s)
        (λ (q : marked late m ≡ true). L.off m q)
        (or_some (eqb m p) (marked late m) (sym (more m) ∙ t)));
  }
    where
      more : (m : ℕ) → marked next m ≡ (eqb m p || marked late m)
      more m = ap (λ (g : ℕ → Bool). g m) a

  none_next : {next : List Bool} → marked next ≡ marked late → is_late k ≡ false → Late H l refs next (k + 1)
  none_next {next} same s = record {
    all = λ j jlt g.
        ap (λ (f : ℕ → Bool). f (up j)) same
        ∙ ⊎_elim
        (λ (v : j < k). L.all j v g)
        (λ (v : k ≤ j).
        let q : j ≡ k = omega (arith, jlt, v) in
        never (sym (subst (λ (i : ℕ). is_late i ≡ true) q g) ∙ s))
        (lt_or_le j k);
    off = λ m t.
        stays_falls H l refs m k (k + 1) (omega arith) (omega (arith, lt))
        (L.off m (sym (ap (λ (f : ℕ → Bool). f m) same) ∙ t));
  }

  pub late_turn : {marks next : List Bool} {n : ℕ} → Marks refs marks k → n ≡ row_of (word_at refs k)
      → marked next ≡ pick (gives_late H l (marked marks) n) (adding (marked late) (related_row H l n)) (marked late)
      → Late H l refs next (k + 1)
  unfolding gives_late
  late_turn {marks} {next} {n} M e is = go (by (is_late k))
    where
      same : gives_late H l (marked marks) n ≡ is_late k
      same = ap (λ (g : ℕ → Bool). gives_late H l g n) (marks_gone M) ∙ ap (λ (i : ℕ). gives_late H l (gone_at refs k) i) e

      now : (b : Bool) → is_late k ≡ b → marked next ≡ pick b (adding (marked late) (up k)) (marked late)
      now b q =
          is
          ∙ ap (λ (c : Bool). pick c (adding (marked late) (related_row H l n)) (marked late)) (same ∙ q)
          ∙ ap (λ (i : ℕ). pick b (adding (marked late) (related_row H l i)) (marked late)) e

      go : (is_late k ≡ true) ⊎ (is_late k ≡ false) → Late H l refs next (k + 1)
      go (inl q) =
          marked_next (now true q)
          (not-true (stays H l (gone_at refs k) (up k)) (and_right (gives H l (row_of (word_at refs k))) _ q)) (λ _. refl)
      go (inr q) = none_next (now false q) q
