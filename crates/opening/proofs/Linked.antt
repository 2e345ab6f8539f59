-- Links of a sound ledger: they go to earlier rows, and the trees are the rows with the same root.
use mathlib.Core.Path.{◌≡◌, refl, sym, ap, subst, ◌∙◌}
use mathlib.Core.Logic.{◌≢◌, ◌⊎◌, inl, inr}
use mathlib.Core.Bool.{Bool, true, false, ◌&&◌, ◌||◌, not, or-false}
use mathlib.Core.List.{List}
use Prim.Native.Nat.{ℕ, zero, suc, ◌+◌, ◌-◌, ◌≤◌, ◌<◌, zero-le}
use native.Mathlib.Decide.{ℕ_discrete}
use native.Mathlib.Omega.{arith}
use lib.Dec.{eqb}
use borrow.Author.Tests.{eq-eqb, ne_eqb}
use Rattle.words.specs.Lists.{sum_below}
use Rattle.words.proofs.Laws.{lt_or_le, sum_cong}
use Rattle.rules.specs.Pick.{pick}
use Rattle.rules.specs.Layout.{used, row_of, row, reqtype, related, related_row}
use Rattle.rules.specs.Balance.{descends_within, descends}
use Rattle.rules.specs.Open.{stands, draws_on, in_tree}
use Rattle.rules.proofs.SoundFacts.{SoundRelation}
use Rattle.layout.specs.SoundAt.{SoundAt}
use Rattle.opening.specs.Chains.{draw_link, root_within, root_link}

pub relations_at : {l : List ℕ} {R H : ℕ} → SoundAt l R H → (n : ℕ) → n < used l → SoundRelation H l n
relations_at {l} s n lt = subst (λ (x : ℕ). SoundRelation x l n) (sym s.hours) (s.sound.relations n lt)

-- a row draws on row n where its link is n's reference
pub draws_linked : (H : ℕ) (l : List ℕ) (n c : ℕ) → draws_on H l n c ≡ eqb (draw_link H l c) (n + 1)
unfolding draws_on draw_link
draws_linked H l n c = go (stands H l c)
  where
    go : (b : Bool) → (b && eqb (related (row H l c)) (n + 1)) ≡ eqb (pick b (related (row H l c)) 0) (n + 1)
    go true = refl
    go false = sym (ne_eqb 0 (n + 1) (λ e. omega (arith, e)))

module _ {H : ℕ} {l : List ℕ} (rel : (n : ℕ) → n < used l → SoundRelation H l n) where
  -- a related row is an earlier one
  pub related_low : (n : ℕ) → n < used l → related (row H l n) ≤ n
  related_low n lt = go (lt_or_le (reqtype (row H l n)) 3)
    where
      go : (reqtype (row H l n) < 3) ⊎ (3 ≤ reqtype (row H l n)) → related (row H l n) ≤ n
      go (inl t) = omega (arith, (rel n lt).originals (omega (arith, t)))
      go (inr t) = ((rel n lt).up t).1

  draw_low : (n : ℕ) → n < used l → draw_link H l n ≤ n
  unfolding draw_link
  draw_low n lt = go (stands H l n)
    where
      go : (b : Bool) → pick b (related (row H l n)) 0 ≤ n
      go true = related_low n lt
      go false = zero-le

  -- ---- roots
  steps : (k j n : ℕ) → n ≤ k → n ≤ j → n < used l → root_within k H l n ≡ root_within j H l n
  unfolding root_within related_row
  steps zero zero n a b lt = refl
  steps zero (suc j) n a b lt = sym (ap (λ (t : Bool). pick t (n + 1) (root_within j H l (related_row H l n))) (eq-eqb _ _ (let z : related (row H l n) ≡ 0 = omega (arith, related_low n lt, a) in z)))
  steps (suc k) zero n a b lt = ap (λ (t : Bool). pick t (n + 1) (root_within k H l (related_row H l n))) (eq-eqb _ _ (let z : related (row H l n) ≡ 0 = omega (arith, related_low n lt, b) in z))
  steps (suc k) (suc j) n a b lt = go (ℕ_discrete (related (row H l n)) 0) (λ u v w. steps k j (related_row H l n) u v w)
    where
      go : Dec (related (row H l n) ≡ 0) → (related_row H l n ≤ k → related_row H l n ≤ j → related_row H l n < used l → root_within k H l (related_row H l n) ≡ root_within j H l (related_row H l n))
          → pick (eqb (related (row H l n)) 0) (n + 1) (root_within k H l (related_row H l n)) ≡ pick (eqb (related (row H l n)) 0) (n + 1) (root_within j H l (related_row H l n))
      go (yes z) f =
          ap (λ (t : Bool). pick t (n + 1) (root_within k H l (related_row H l n))) (eq-eqb _ _ z)
          ∙ sym (ap (λ (t : Bool). pick t (n + 1) (root_within j H l (related_row H l n))) (eq-eqb _ _ z))
      go (no z) f =
          ap (λ (x : ℕ). pick (eqb (related (row H l n)) 0) (n + 1) x) (f (omega (arith, related_low n lt, a, z)) (omega (arith, related_low n lt, b, z)) (omega (arith, related_low n lt, lt, z)))

  -- the root of a row that is related to none, and of one that is
  pub root_top : (n : ℕ) → related (row H l n) ≡ 0 → root_link H l n ≡ n + 1
  unfolding root_link root_within
  root_top zero z = refl
  root_top (suc k) z = ap (λ (t : Bool). pick t (suc k + 1) (root_within k H l (related_row H l (suc k)))) (eq-eqb _ _ z)

  pub root_up : (n : ℕ) → n < used l → related (row H l n) ≢ 0 → root_link H l n ≡ root_link H l (related (row H l n) - 1)
  unfolding root_link root_within related_row
  root_up zero lt z = absurd (z (let e : related (row H l 0) ≡ 0 = omega (arith, related_low 0 lt) in e))
  root_up (suc k) lt z =
      let low = related_low (suc k) lt in
      ap (λ (t : Bool). pick t (suc k + 1) (root_within k H l (related_row H l (suc k)))) (ne_eqb _ 0 z)
      ∙ steps k (related (row H l (suc k)) - 1) (related (row H l (suc k)) - 1) (omega (arith, low, z)) (omega arith) (omega (arith, low, lt, z))

  within_low : (k n : ℕ) → n < used l → root_within k H l n ≤ n + 1
  unfolding root_within related_row
  within_low zero n lt = omega arith
  within_low (suc k) n lt = go (ℕ_discrete (related (row H l n)) 0) (λ u. within_low k (related_row H l n) u)
    where
      go : Dec (related (row H l n) ≡ 0) → (related_row H l n < used l → root_within k H l (related_row H l n) ≤ related_row H l n + 1) → pick (eqb (related (row H l n)) 0) (n + 1) (root_within k H l (related_row H l n)) ≤ n + 1
      go (yes z) f = omega (arith, ap (λ (t : Bool). pick t (n + 1) (root_within k H l (related_row H l n))) (eq-eqb (related (row H l n)) 0 z))
      go (no z) f =
          omega (
            arith,
            ap (λ (t : Bool). pick t (n + 1) (root_within k H l (related_row H l n))) (ne_eqb (related (row H l n)) 0 z),
            f (omega (arith, related_low n lt, lt, z)),
            related_low n lt,
            z,
          )

  root_low : (n : ℕ) → n < used l → root_link H l n ≤ n + 1
  unfolding root_link
  root_low n lt = within_low n n lt

  -- ---- a row is in the tree of one that is related to none exactly where that is its root
  module _ (o : ℕ) (top : related (row H l o) ≡ 0) where
    up : ℕ → ℕ
    up r = related (row H l (row_of r))

    tree_steps : (k j n : ℕ) → n ≤ k → n < j → n < used l → descends_within j up (o + 1) (n + 1) ≡ eqb (root_within k H l n) (o + 1)
    unfolding descends_within root_within related_row up
    tree_steps k zero n a b lt = absurd (omega (arith, b))
    tree_steps zero (suc j) n a b lt =
        let e : n + 1 - 1 ≡ n = omega arith in
        let z : related (row H l (n + 1 - 1)) ≡ 0 = ap (λ (i : ℕ). related (row H l i)) e ∙ (let y : related (row H l n) ≡ 0 = omega (arith, related_low n lt, a) in y) in
        ap (λ (t : Bool). eqb (n + 1) (o + 1) || (not t && descends_within j up (o + 1) (up (n + 1)))) (eq-eqb _ _ z)
        ∙ or-false (eqb (n + 1) (o + 1))
    tree_steps (suc k) (suc j) n a b lt =
        let e : n + 1 - 1 ≡ n = omega arith in
        ap (λ (q : ℕ). eqb (n + 1) (o + 1) || (not (eqb q 0) && descends_within j up (o + 1) q)) (ap (λ (i : ℕ). related (row H l i)) e)
        ∙ go (ℕ_discrete (related (row H l n)) 0) (λ u v w. tree_steps k j (related (row H l n) - 1) u v w)
      where
        go : Dec (related (row H l n) ≡ 0)
            → (related (row H l n) - 1 ≤ k → related (row H l n) - 1 < j → related (row H l n) - 1 < used l → descends_within j up (o + 1) (related (row H l n) - 1 + 1) ≡ eqb (root_within k H l (related (row H l n) - 1)) (o + 1))
            → (eqb (n + 1) (o + 1) || (not (eqb (related (row H l n)) 0) && descends_within j up (o + 1) (related (row H l n)))) ≡ eqb (pick (eqb (related (row H l n)) 0) (n + 1) (root_within k H l (related_row H l n))) (o + 1)
        go (yes z) f =
            ap (λ (t : Bool). eqb (n + 1) (o + 1) || (not t && descends_within j up (o + 1) (related (row H l n)))) (eq-eqb _ _ z)
            ∙ or-false (eqb (n + 1) (o + 1))
            ∙ sym (ap (λ (t : Bool). eqb (pick t (n + 1) (root_within k H l (related_row H l n))) (o + 1)) (eq-eqb _ _ z))
        go (no z) f =
            let back : related (row H l n) ≡ related (row H l n) - 1 + 1 = omega (arith, z) in
            ap (λ (t : Bool). t || (not (eqb (related (row H l n)) 0) && descends_within j up (o + 1) (related (row H l n)))) (ne_eqb (n + 1) (o + 1) (λ q. z (ap (λ (i : ℕ). related (row H l i)) (let y : n ≡ o = omega (arith, q) in y) ∙ top)))
            ∙ ap (λ (t : Bool). not t && descends_within j up (o + 1) (related (row H l n))) (ne_eqb _ 0 z)
            ∙ ap (λ (q : ℕ). descends_within j up (o + 1) q) back
            ∙ f (omega (arith, related_low n lt, a, z)) (omega (arith, related_low n lt, b, z)) (omega (arith, related_low n lt, lt, z))
            ∙ sym (ap (λ (t : Bool). eqb (pick t (n + 1) (root_within k H l (related_row H l n))) (o + 1)) (ne_eqb _ 0 z))

    pub tree_linked : (f : ℕ → ℕ) → sum_below (used l) (λ n. pick (in_tree H l o n) (f n) 0) ≡ sum_below (used l) (λ n. pick (eqb (root_link H l n) (o + 1)) (f n) 0)
    unfolding in_tree descends root_link up
    tree_linked f = sum_cong (used l) _ _ (λ n lt. ap (λ (b : Bool). pick b (f n) 0) (tree_steps n (suc (n + 1)) n (omega arith) (omega arith) lt))

-- a row counts for itself, for one before it, or for none
module _ {l : List ℕ} {R H : ℕ} (s : SoundAt l R H) (n : ℕ) (lt : n < used l) where
  pub draws_low : draw_link H l n ≤ n + 1
  draws_low = omega (arith, draw_low (relations_at s) n lt)

  pub roots_low : root_link H l n ≤ n + 1
  roots_low = root_low (relations_at s) n lt
