-- What the two tests say of all rows: their equations, and their trees.
use mathlib.Core.Path.{◌≡◌, refl, sym, ap, ◌∙◌}
use mathlib.Core.Bool.{Bool, true, false, ◌||◌, not}
use mathlib.Core.List.{List}
use Prim.Native.Nat.{ℕ, ◌+◌, ◌<◌}
use native.Mathlib.Omega.{arith}
use lib.Dec.{eqb}
use Rattle.words.specs.Lists.{all_below, sum_below}
use Rattle.words.proofs.Laws.{and_right, all_cong, sum_cong}
use Rattle.rules.specs.Pick.{pick}
use Rattle.rules.specs.Layout.{used, row, related}
use Rattle.rules.specs.Open.{granted_of, held_of, stands, draws_on, in_tree, tree_balances, has_equation, has_tree, balanced_row, balanced_tree}
use Rattle.rules.proofs.Types.{original_range}
use Rattle.layout.specs.SoundAt.{SoundAt}
use Rattle.opening.specs.Chains.{draw_link, root_link}
use Rattle.opening.specs.Shares.{nothing_of, drawn_share, sum_of, balanced_by}
use Rattle.opening.proofs.Linked.{relations_at, draws_linked, tree_linked}
use Rattle.opening.proofs.Shared.{shares_on, balanced_shares, same_equality, rows_by_shares}

-- ---- the sum of a row in its equation, and of an original in its tree
row_sum : (H : ℕ) (l : List ℕ) (h n : ℕ) → sum_of draw_link held_of drawn_share H l h n ≡ held_of H l h n + shares_on H l h n
unfolding sum_of shares_on
row_sum H l h n =
    ap (λ (x : ℕ). held_of H l h n + x)
    (sum_cong (used l) (λ c. pick (eqb (draw_link H l c) (n + 1)) (drawn_share H l h c) 0) (λ c. pick (draws_on H l n c) (drawn_share H l h c) 0)
    (λ c clt. ap (λ (x : Bool). pick x (drawn_share H l h c) 0) (sym (draws_linked H l n c))))

module _ {l : List ℕ} {R H : ℕ} (s : SoundAt l R H) where
  tree_sum : (n : ℕ) → related (row H l n) ≡ 0 → (h : ℕ) → sum_of root_link nothing_of held_of H l h n ≡ sum_below (used l) (λ m. pick (in_tree H l n m) (held_of H l h m) 0)
  unfolding sum_of
  tree_sum n top h = omega (arith, tree_linked (relations_at s) n top (λ m. held_of H l h m))

  row_same : (n : ℕ) → balanced_by has_equation draw_link held_of drawn_share H l n ≡ balanced_shares H l n
  unfolding balanced_by balanced_shares
  row_same n =
      ap (λ (x : Bool). not (has_equation H l n) || x)
      (all_cong _ _ H (λ h hlt. ap (λ (x : ℕ). eqb x (granted_of H l h n)) (row_sum H l h n)))

  tree_same : (n : ℕ) → n < used l → balanced_by has_tree root_link nothing_of held_of H l n ≡ balanced_tree H l n
  unfolding balanced_by balanced_tree tree_balances has_tree
  tree_same n lt = go (has_tree H l n) refl
    where
      go : (b : Bool) → has_tree H l n ≡ b → (not b || all_below H (λ h. eqb (sum_of root_link nothing_of held_of H l h n) (granted_of H l h n))) ≡ (not b || all_below H (λ h. tree_balances H l n h))
      go false t = refl
      go true t =
          let top = (relations_at s n lt).originals (original_range _ (and_right (stands H l n) _ t)).1 in
          all_cong _ _ H (λ h hlt.
          same_equality (sum_of root_link nothing_of held_of H l h n) (granted_of H l h n) (granted_of H l h n) (sum_below (used l) (λ m. pick (in_tree H l n m) (held_of H l h m) 0))
          (λ e. sym e ∙ tree_sum n top h)
          (λ e. tree_sum n top h ∙ sym e))

  pub rows_told : {c : Bool} → c ≡ all_below (used l) (λ n. balanced_by has_equation draw_link held_of drawn_share H l n) → c ≡ all_below (used l) (λ n. balanced_row H l n)
  rows_told q = q ∙ all_cong _ _ (used l) (λ n lt. row_same n) ∙ sym (rows_by_shares (relations_at s))

  pub trees_told : {c : Bool} → c ≡ all_below (used l) (λ n. balanced_by has_tree root_link nothing_of held_of H l n) → c ≡ all_below (used l) (λ n. balanced_tree H l n)
  trees_told q = q ∙ all_cong _ _ (used l) (λ n lt. tree_same n lt)
