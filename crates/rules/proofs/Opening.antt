-- What a list of calls from a fresh ledger leaves always opens.
use mathlib.Core.Path.{◌≡◌, refl, sym, ap, ◌∙◌}
use mathlib.Core.Logic.{◌≢◌}
use mathlib.Core.Bool.{Bool, true, false, ◌&&◌, ◌||◌, not}
use mathlib.Core.List.{List}
use Prim.Native.Nat.{ℕ, ◌+◌, ◌≤◌, ◌<◌}
use native.Mathlib.Numerals.{add-one}
use native.Mathlib.Omega.{arith}
use lib.Dec.{eqb}
use lib.IntN.{ℤ}
use borrow.Author.Tests.{eq-eqb, eqb-false, not-true}
use Rattle.words.specs.Lists.{sum_below}
use Rattle.words.proofs.Laws.{and_left, and_right, all_below_lem}
use Rattle.column.specs.Sum.{gate, sum_to}
use Rattle.column.specs.Column.{Col}
use Rattle.column.specs.Demand.{inside}
use Rattle.column.specs.Open as Column
use Rattle.column.proofs.Opening.{row_sum}
use Rattle.column.proofs.Final.{demand3_of}
use Rattle.rules.specs.Pick.{pick}
use Rattle.rules.specs.Numbers.{RELINQUISH}
use Rattle.rules.specs.Layout.{hours, used, row, reqtype, status, related}
use Rattle.rules.specs.Sound.{original, redirect}
use Rattle.rules.specs.Tally.{Tally}
use Rattle.rules.specs.Balance.{live}
use Rattle.rules.specs.Open.{granted_of, held_of, stands, draws_on, redirect_on, relinquish_on, drawn, relinquished, taken_off, row_balances, in_tree, tree_balances, has_equation, has_tree, balanced_row, balanced_tree, unbalanced, open_number, AlwaysOpens}
use Rattle.rules.proofs.SoundFacts.{facts_sound}
use Rattle.rules.proofs.View.{view, out_of, red_of}
use Rattle.rules.proofs.Good.{Good}
use Rattle.rules.proofs.Tests.{sums, picked}
use Rattle.rules.proofs.Balanced.{live_is, original_is}
use Rattle.rules.proofs.Trees.{tree_inside}
use Rattle.rules.proofs.Demand.{calls_good}

-- ---- the sums of the rows in an hour are those of the hour's column
module _ (H h : ℕ) (l : List ℕ) (out : ℕ → ℕ → ℤ) (red : ℕ → ℤ) where
  abbrev S : Col
  S = view H h l out red

  draws_column : (n c : ℕ) → draws_on H l n c ≡ Column.draws_on S n c
  unfolding draws_on stands live
  draws_column n c = ap (λ (k : ℕ). Column.stands S c && eqb (related (row H l c)) k) (add-one n)

  redirect_column : (n c : ℕ) → redirect_on H l n c ≡ Column.redirect_on S n c
  unfolding redirect_on redirect
  redirect_column n c = ap (λ (b : Bool). b && Column.redirect (reqtype (row H l c))) (draws_column n c)

  relinquish_column : (n c : ℕ) → relinquish_on H l n c ≡ Column.relinquish_on S n c
  unfolding relinquish_on
  relinquish_column n c = ap (λ (b : Bool). b && eqb (reqtype (row H l c)) RELINQUISH) (draws_column n c)

  drawn_column : (n : ℕ) → drawn H l h n ≡ Column.drawn S n
  unfolding drawn Column.drawn granted_of
  drawn_column n = sums (used l) _ _ (λ c. picked (draws_on H l n c) _ ∙ ap (λ (b : Bool). gate b (S.g c)) (draws_column n c))

  relinquished_column : (n : ℕ) → relinquished H l h n ≡ Column.relinquished S n
  unfolding relinquished Column.relinquished granted_of
  relinquished_column n =
      sums (used l) _ _ (λ c. picked (relinquish_on H l n c) _ ∙ ap (λ (b : Bool). gate b (S.g c)) (relinquish_column n c))

  off_column : (n : ℕ) → taken_off H l h n ≡ Column.taken_off S n
  unfolding taken_off Column.taken_off
  off_column n =
      sums (used l) _ _ (λ c.
      picked (redirect_on H l n c) _
      ∙ ap (λ (b : Bool). gate b (relinquished H l h c)) (redirect_column n c)
      ∙ ap (gate (Column.redirect_on S n c)) (relinquished_column c))

  -- of rows whose related row stands before them
  tree_column : ((n : ℕ) → related (row H l n) ≤ n) → (o : ℕ) → sum_below (used l) (λ n. pick (in_tree H l o n) (held_of H l h n) 0) ≡ sum_to (used l) (λ n. gate (inside S.ref o n) (S.a n + S.d n + S.r n))
  unfolding held_of
  tree_column lower o =
      sums (used l) _ _ (λ n. picked (in_tree H l o n) _ ∙ ap (λ (b : Bool). gate b (S.a n + S.d n + S.r n)) (tree_inside H l lower o n))

-- ---- what is good opens
passes : (b c : Bool) → (b ≡ true → c ≡ true) → (not b || c) ≡ true
passes true c f = f refl
passes false c f = refl

module _ {B : ℕ → ℕ → ℕ} {l : List ℕ} {t : Tally} (G : Good B l t) where
  abbrev H : ℕ
  H = hours l

  row_balances_lem : (n h : ℕ) → h < hours l → live (status (row (hours l) l n)) ≡ true → reqtype (row (hours l) l n) ≢ RELINQUISH → row_balances (hours l) l n h ≡ true
  unfolding row_balances granted_of held_of
  row_balances_lem n h lt on ne =
      let O = G.good.columns h lt in
      let e : granted_of H l h n + taken_off H l h n ≡ held_of H l h n + drawn H l h n = omega (arith, off_column H h l (out_of t h) (red_of t h) n, drawn_column H h l (out_of t h) (red_of t h) n, row_sum O.shape O.inv n (live_is _ on) ne) in
      eq-eqb _ _ e

  tree_balances_lem : (n h : ℕ) → h < hours l → live (status (row (hours l) l n)) ≡ true → original (reqtype (row (hours l) l n)) ≡ true → tree_balances (hours l) l n h ≡ true
  unfolding tree_balances granted_of
  tree_balances_lem n h lt on o =
      let O = G.good.columns h lt in
      eq-eqb _ _
      ((demand3_of O.shape O.inv).stored_tree n (live_is _ on) (original_is _ o)
      ∙ sym (tree_column H h l (out_of t h) (red_of t h) O.shape.lower n))

  row_opens : (n : ℕ) → balanced_row (hours l) l n ≡ true
  unfolding balanced_row has_equation stands
  row_opens n =
      passes _ _
      (λ e. all_below_lem _ H (λ h lt. row_balances_lem n h lt (and_left _ _ e) (eqb-false _ _ (not-true _ (and_right (live (status (row H l n))) _ e)))))

  tree_opens : (n : ℕ) → balanced_tree (hours l) l n ≡ true
  unfolding balanced_tree has_tree stands
  tree_opens n = passes _ _ (λ e. all_below_lem _ H (λ h lt. tree_balances_lem n h lt (and_left _ _ e) (and_right (live (status (row H l n))) _ e)))

  pub good_opens : open_number l ≡ 0
  unfolding open_number unbalanced
  good_opens =
      simp (
        facts_sound G.sound,
        all_below_lem (λ n. balanced_row H l n) (used l) (λ n lt. row_opens n),
        all_below_lem (λ n. balanced_tree H l n) (used l) (λ n lt. tree_opens n),
      )

pub opens : AlwaysOpens
opens R H provider window base good ps calls = good_opens (calls_good R H provider window base good ps calls)
