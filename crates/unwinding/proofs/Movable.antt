-- The walk over the references of the first pass.
use mathlib.Core.Path.{◌≡◌, sym, ap, subst, ◌∙◌}
use mathlib.Core.Bool.{Bool, true, false}
use mathlib.Core.List.{List}
use Prim.Native.Nat.{ℕ, ◌+◌, ◌≤◌, ◌<◌}
use native.Mathlib.Omega.{arith}
use lib.ListN.{length}
use Rattle.words.specs.Lists.{word_at}
use Rattle.words.proofs.Laws.{Passing, passing_start, passing_turn, passing_done, passing_fails}
use Rattle.rules.specs.Pick.{pick}
use Rattle.rules.specs.Layout.{used, row_of, related_row}
use Rattle.rules.proofs.Unwound.{adding, none, gone_at}
use Rattle.unwinding.specs.Order.{movable, all_movable, gives_late}
use Rattle.unwinding.specs.Marks.{marked, Marks, Late}
use Rattle.unwinding.proofs.Passes.{movable_row}
use Rattle.unwinding.proofs.Marked.{marks_start, marks_gone, marks_turn, late_start, late_turn}

-- ---- at the k-th: those before it can go, and have their marks
pub record Moving (H : ℕ) (l refs : List ℕ) (gone late : List Bool) (k : ℕ) : Type 0 where
  pub pass : Passing (length refs) (λ j. movable H l (gone_at refs j) (word_at refs j)) (length refs) k
  pub marks : Marks refs gone k
  pub back : Late H l refs late k

pub moving_start : (H : ℕ) (l refs : List ℕ) {gone late : List Bool}
    → marked gone ≡ none → marked late ≡ none → Moving H l refs gone late 0
moving_start H l refs m a = record {
  pass = passing_start _ _;
  marks = marks_start refs m;
  back = late_start H l refs a;
}

module _ {H : ℕ} {l refs : List ℕ} {gone late : List Bool} {k : ℕ} (i : Moving H l refs gone late k) where
  module _ (lt : k < length refs) {b : Bool} (q : b ≡ movable H l (marked gone) (word_at refs k)) where
    as_gone : b ≡ movable H l (gone_at refs k) (word_at refs k)
    as_gone = q ∙ ap (λ (g : ℕ → Bool). movable H l g (word_at refs k)) (marks_gone i.marks)

    pub moving_fails : b ≡ false → all_movable H l refs ≡ false
    unfolding all_movable
    moving_fails f = sym (passing_fails i.pass lt (sym as_gone ∙ f))

    module _ (t : b ≡ true) {n : ℕ} (e : n ≡ row_of (word_at refs k)) where
      pub moving_row : n < used l
      moving_row = omega (arith, e, movable_row H l (gone_at refs k) (word_at refs k) (sym as_gone ∙ t))

      pub moving_turn : {next rest : List Bool}
          → marked next ≡ adding (marked gone) n
          → marked rest ≡ pick (gives_late H l (marked gone) n) (adding (marked late) (related_row H l n)) (marked late)
          → Moving H l refs next rest (k + 1)
      moving_turn a is = record {
        pass = passing_turn i.pass lt (sym as_gone ∙ t);
        marks = marks_turn i.marks lt e a;
        back = late_turn i.back lt i.marks e is;
      }

  module _ (past : length refs ≤ k) where
    pub moving_done : all_movable H l refs ≡ true
    unfolding all_movable
    moving_done = sym (passing_done i.pass past)

    at_last : k ≡ length refs
    at_last = omega (arith, past, i.pass.below)

    pub moving_marks : Marks refs gone (length refs)
    moving_marks = subst (λ (j : ℕ). Marks refs gone j) at_last i.marks

    pub moving_late : Late H l refs late (length refs)
    moving_late = subst (λ (j : ℕ). Late H l refs late j) at_last i.back
