-- Trees of a ledger, by rows: a row is in the tree of an original where its related row is, and no row is in two.
use mathlib.Core.Path.{◌≡◌, refl, sym, ap, ◌∙◌}
use mathlib.Core.Logic.{◌⊎◌, inl, inr}
use mathlib.Core.Bool.{Bool, true, false}
use mathlib.Core.List.{List}
use Prim.Native.Nat.{ℕ, zero, suc, ◌+◌, ◌-◌, ◌≤◌, ◌<◌}
use native.Mathlib.Numerals.{add-one}
use native.Mathlib.Omega.{arith}
use lib.Dec.{eqb}
use borrow.Author.Tests.{eqb-true, ne_eqb}
use Rattle.words.proofs.Laws.{lt_or_le}
use Rattle.column.specs.Column.{either}
use Rattle.column.specs.Demand.{up, inside}
use Rattle.column.proofs.Trees.{inside_closed, up_ext, either_false}
use Rattle.rules.specs.Layout.{hours, used, row_of, row, reqtype, related, related_row}
use Rattle.rules.specs.Sound.{original}
use Rattle.rules.specs.Balance.{descends_within, descends}
use Rattle.rules.specs.Open.{in_tree}
use Rattle.rules.proofs.Types.{original_range, derived_least}
use Rattle.rules.proofs.SoundFacts.{SoundLedger}
use Rattle.rules.proofs.Balanced.{enough}

-- of rows whose related row stands before them
module _ (H : ℕ) (l : List ℕ) (lower : (n : ℕ) → related (row H l n) ≤ n) where
  -- descent by references is descent by rows
  pub tree_inside : (o n : ℕ) → in_tree H l o n ≡ inside (λ k. related (row H l k)) o n
  unfolding in_tree descends
  tree_inside o n =
      ap (λ (k : ℕ). descends_within (suc (n + 1)) ref k (n + 1)) (add-one o)
      ∙ ap (λ (k : ℕ). descends_within (suc k) ref (suc o) k) (add-one n)
      ∙ enough ref (λ k. related (row H l k)) (suc n) o (λ i ilt. ap (λ (k : ℕ). related (row H l k)) (let e : suc i - 1 ≡ i = omega arith in e)) lower n (omega arith)
    where
      ref : ℕ → ℕ
      ref r = related (row H l (row_of r))

  -- a row is in the tree of o where it is o, or its related row is in it
  tree_up : (o n : ℕ) → in_tree H l o n ≡ either (eqb n o) (up (in_tree H l o) (related (row H l n)))
  tree_up o n =
      tree_inside o n
      ∙ inside_closed (λ k. related (row H l k)) o lower n
      ∙ ap (either (eqb n o)) (up_ext _ (in_tree H l o) (related (row H l n)) (λ p e. sym (tree_inside o p)))

module _ {l : List ℕ} (s : SoundLedger l) where
  abbrev H : ℕ
  H = hours l

  pub related_lower : (n : ℕ) → related (row H l n) ≤ n
  related_lower n = go (lt_or_le n (used l)) (lt_or_le (reqtype (row H l n)) 3)
    where
      go : (n < used l) ⊎ (used l ≤ n) → (reqtype (row H l n) < 3) ⊎ (3 ≤ reqtype (row H l n)) → related (row H l n) ≤ n
      go (inl lt) (inl t) = omega (arith, (s.relations n lt).originals (omega (arith, t)))
      go (inl lt) (inr t) = ((s.relations n lt).up t).1
      go (inr le) t = omega (arith, s.unused n le 4)

  -- a row that is related to another is no original
  related_derived : (n : ℕ) → 1 ≤ related (row H l n) → original (reqtype (row H l n)) ≡ true → ⊥
  related_derived n least t = go (lt_or_le n (used l))
    where
      go : (n < used l) ⊎ (used l ≤ n) → ⊥
      go (inl lt) = omega (arith, least, (s.relations n lt).originals (original_range _ t).1)
      go (inr le) = omega (arith, least, s.unused n le 4)

  module _ (o : ℕ) (t : original (reqtype (row H l o)) ≡ true) where
    -- the tree of an original holds a row that is related to another where it holds that one
    above : (k p : ℕ) → related (row H l k) ≡ suc p → in_tree H l o k ≡ in_tree H l o p
    above k p e =
        tree_up H l related_lower o k
        ∙ ap (λ (r : ℕ). either (eqb k o) (up (in_tree H l o) r)) e
        ∙ ap (λ (b : Bool). either b (in_tree H l o p)) (ne_eqb k o (λ q. related_derived o (omega (arith, e, ap (λ (i : ℕ). related (row H l i)) q)) t))

    -- and one that is related to none where it is the original
    top : (k : ℕ) → related (row H l k) ≡ 0 → in_tree H l o k ≡ true → k ≡ o
    top k e q = eqb-true k o (sym (either_false (eqb k o)) ∙ sym (ap (λ (r : ℕ). either (eqb k o) (up (in_tree H l o) r)) e) ∙ sym (tree_up H l related_lower o k) ∙ q)

    pub same_tree : (k : ℕ) → k < used l → original (reqtype (row H l k)) ≡ false → in_tree H l o (related_row H l k) ≡ in_tree H l o k
    unfolding related_row
    same_tree k lt d =
        let u = (s.relations k lt).up (derived_least (reqtype (row H l k)) (s.words k lt).type_least d) in
        sym (above k (related (row H l k) - 1) (omega (arith, u.0)))

  -- no row is in the trees of two originals
  module _ (o q : ℕ) (t : original (reqtype (row H l o)) ≡ true) (u : original (reqtype (row H l q)) ≡ true) where
    one_up : (k : ℕ) → ((p : ℕ) → p < k → in_tree H l o p ≡ true → in_tree H l q p ≡ true → o ≡ q) → in_tree H l o k ≡ true → in_tree H l q k ≡ true → o ≡ q
    one_up k f i j = go (related (row H l k)) refl
      where
        go : (r : ℕ) → related (row H l k) ≡ r → o ≡ q
        go zero e = sym (top o t k e i) ∙ top q u k e j
        go (suc p) e = f p (omega (arith, e, related_lower k)) (sym (above o t k p e) ∙ i) (sym (above q u k p e) ∙ j)

    one_within : (b k : ℕ) → k < b → in_tree H l o k ≡ true → in_tree H l q k ≡ true → o ≡ q
    one_within zero k lt = absurd (omega (arith, lt))
    one_within (suc b) k lt = one_up k (λ p plt. one_within b p (omega (arith, lt, plt)))

    pub one_tree : (k : ℕ) → in_tree H l o k ≡ true → in_tree H l q k ≡ true → o ≡ q
    one_tree k = one_within (suc k) k (omega arith)
