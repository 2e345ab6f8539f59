-- The equations of the rows, all together, are those by shares: a type 5 that balances holds its granted less that of
-- its relinquish records, which are all that draw on it.
use mathlib.Core.Path.{◌≡◌, refl, sym, ap, ◌∙◌}
use mathlib.Core.Logic.{◌≢◌, ◌⊎◌, inl, inr}
use mathlib.Core.Bool.{Bool, true, false, ◌&&◌, ◌||◌, not}
use mathlib.Core.List.{List}
use Prim.Native.Nat.{ℕ, ◌+◌, ◌≤◌, ◌<◌}
use native.Mathlib.Decide.{ℕ_discrete}
use native.Mathlib.Omega.{arith}
use lib.Dec.{eqb}
use borrow.Author.Tests.{eq-eqb, ne_eqb, eqb-true}
use Rattle.words.specs.Lists.{all_below, sum_below}
use Rattle.words.proofs.Laws.{lt_or_le, and_left, and_right, all_at, all_cong, sum_cong, sum_nothing, sum_add}
use Rattle.rules.specs.Pick.{pick}
use Rattle.rules.specs.Numbers.{NONFIRM_REDIRECT, RELINQUISH}
use Rattle.rules.specs.Layout.{used, row, reqtype, related, related_row}
use Rattle.rules.specs.Sound.{redirect}
use Rattle.rules.specs.Open.{granted_of, held_of, stands, draws_on, redirect_on, relinquish_on, drawn, relinquished, taken_off, row_balances, has_equation, balanced_row}
use Rattle.rules.proofs.SoundFacts.{SoundRelation}
use Rattle.opening.specs.Shares.{drawn_share}

-- the shares of the rows that draw on row n, and the equation of row n by these
unfoldable pub shares_on : ℕ → List ℕ → ℕ → ℕ → ℕ
shares_on H l h n = sum_below (used l) (λ c. pick (draws_on H l n c) (drawn_share H l h c) 0)

unfoldable pub balanced_shares : ℕ → List ℕ → ℕ → Bool
balanced_shares H l n = not (has_equation H l n) || all_below H (λ h. eqb (held_of H l h n + shares_on H l h n) (granted_of H l h n))

-- ---- tests
same_test : (b c : Bool) → (b ≡ true → c ≡ true) → (c ≡ true → b ≡ true) → b ≡ c
same_test true c f g = sym (f refl)
same_test false true f g = g refl
same_test false false f g = refl

pub same_equality : (a b c d : ℕ) → (a ≡ b → c ≡ d) → (c ≡ d → a ≡ b) → eqb a b ≡ eqb c d
same_equality a b c d f g = go (ℕ_discrete a b)
  where
    go : Dec (a ≡ b) → eqb a b ≡ eqb c d
    go (yes e) = eq-eqb a b e ∙ sym (eq-eqb c d (f e))
    go (no e) = ne_eqb a b e ∙ sym (ne_eqb c d (λ q. e (g q)))

module _ {H : ℕ} {l : List ℕ} (rel : (n : ℕ) → n < used l → SoundRelation H l n) where
  -- ---- what draws on a type 5 is type 8, and type 8 draws on nothing else
  module _ (c e : ℕ) (lt : e < used l) (t : draws_on H l c e ≡ true) where
    standing : stands H l e ≡ true
    unfolding draws_on
    standing = and_left (stands H l e) _ t

    refers : related (row H l e) ≡ c + 1
    unfolding draws_on
    refers = eqb-true _ _ (and_right (stands H l e) _ t)

    above : related_row H l e ≡ c
    unfolding related_row
    above = omega (arith, refers)

    derived : 3 ≤ reqtype (row H l e)
    derived = go (lt_or_le (reqtype (row H l e)) 3)
      where
        go : (reqtype (row H l e) < 3) ⊎ (3 ≤ reqtype (row H l e)) → 3 ≤ reqtype (row H l e)
        go (inl u) = absurd (omega (arith, (rel e lt).originals (omega (arith, u)), refers))
        go (inr u) = u

    under_five : reqtype (row H l c) ≡ NONFIRM_REDIRECT → reqtype (row H l e) ≡ RELINQUISH
    under_five five = go (ℕ_discrete (reqtype (row H l e)) RELINQUISH)
      where
        go : Dec (reqtype (row H l e) ≡ RELINQUISH) → reqtype (row H l e) ≡ RELINQUISH
        go (yes u) = u
        go (no u) = absurd (((rel e lt).others derived u).0 (ap (λ (i : ℕ). reqtype (row H l i)) above ∙ five))

    under_record : reqtype (row H l e) ≡ RELINQUISH → reqtype (row H l c) ≡ NONFIRM_REDIRECT
    under_record u = ap (λ (i : ℕ). reqtype (row H l i)) (sym above) ∙ (rel e lt).redirect u

  module _ (h : ℕ) where
    five_records : (c : ℕ) → reqtype (row H l c) ≡ NONFIRM_REDIRECT → relinquished H l h c ≡ drawn H l h c
    unfolding relinquished drawn relinquish_on
    five_records c five = sum_cong (used l) _ _ (λ e lt. go e lt (draws_on H l c e) refl)
      where
        go : (e : ℕ) → e < used l → (b : Bool) → draws_on H l c e ≡ b → pick (b && eqb (reqtype (row H l e)) RELINQUISH) (granted_of H l h e) 0 ≡ pick b (granted_of H l h e) 0
        go e lt true t = ap (λ (x : Bool). pick x (granted_of H l h e) 0) (eq-eqb _ _ (under_five c e lt t five))
        go e lt false t = refl

    other_records : (c : ℕ) → reqtype (row H l c) ≢ NONFIRM_REDIRECT → relinquished H l h c ≡ 0
    unfolding relinquished relinquish_on
    other_records c ne = sum_nothing (used l) _ (λ e lt. go e lt (draws_on H l c e) refl (ℕ_discrete (reqtype (row H l e)) RELINQUISH))
      where
        go : (e : ℕ) → e < used l → (b : Bool) → draws_on H l c e ≡ b → Dec (reqtype (row H l e) ≡ RELINQUISH) → pick (b && eqb (reqtype (row H l e)) RELINQUISH) (granted_of H l h e) 0 ≡ 0
        go e lt true t (yes r) = absurd (ne (under_record c e lt t r))
        go e lt true t (no r) = ap (λ (x : Bool). pick x (granted_of H l h e) 0) (ne_eqb _ _ r)
        go e lt false t r = refl

    -- so nothing is taken off in the equation of a type 5, and what draws on it counts with its granted
    five_off : (c : ℕ) → reqtype (row H l c) ≡ NONFIRM_REDIRECT → taken_off H l h c ≡ 0
    unfolding taken_off redirect_on redirect
    five_off c five = sum_nothing (used l) _ (λ e lt. go e lt (draws_on H l c e) refl)
      where
        go : (e : ℕ) → e < used l → (b : Bool) → draws_on H l c e ≡ b → pick (b && (eqb (reqtype (row H l e)) 4 || (eqb (reqtype (row H l e)) 5 || false))) (relinquished H l h e) 0 ≡ 0
        go e lt true t = ap (λ (k : ℕ). pick (eqb k 4 || (eqb k 5 || false)) (relinquished H l h e) 0) (under_five c e lt t five)
        go e lt false t = refl

    five_shares : (c : ℕ) → reqtype (row H l c) ≡ NONFIRM_REDIRECT → shares_on H l h c ≡ drawn H l h c
    unfolding shares_on drawn drawn_share
    five_shares c five = sum_cong (used l) _ _ (λ e lt. go e lt (draws_on H l c e) refl)
      where
        go : (e : ℕ) → e < used l → (b : Bool) → draws_on H l c e ≡ b → pick b (pick (eqb (reqtype (row H l e)) NONFIRM_REDIRECT) (held_of H l h e) (granted_of H l h e)) 0 ≡ pick b (granted_of H l h e) 0
        go e lt true t = ap (λ (k : ℕ). pick (eqb k NONFIRM_REDIRECT) (held_of H l h e) (granted_of H l h e)) (under_five c e lt t five)
        go e lt false t = refl

    -- ---- where each type 5 at 13 or 15 balances in the hour, so does a row by shares exactly if it does
    module _ (fives : (c : ℕ) → c < used l → stands H l c ≡ true → reqtype (row H l c) ≡ NONFIRM_REDIRECT → granted_of H l h c ≡ held_of H l h c + drawn H l h c) where
      drawn_split : (n : ℕ) → drawn H l h n ≡ shares_on H l h n + taken_off H l h n
      unfolding drawn shares_on taken_off redirect_on drawn_share redirect
      drawn_split n =
          sum_cong (used l) _ _ (λ c lt. go c lt (draws_on H l n c) refl (ℕ_discrete (reqtype (row H l c)) NONFIRM_REDIRECT))
          ∙ sum_add (used l) (λ c. pick (draws_on H l n c) (pick (eqb (reqtype (row H l c)) NONFIRM_REDIRECT) (held_of H l h c) (granted_of H l h c)) 0) (λ c. pick (draws_on H l n c && (eqb (reqtype (row H l c)) 4 || (eqb (reqtype (row H l c)) 5 || false))) (relinquished H l h c) 0)
        where
          picks_nothing : (b : Bool) → ◌≡◌ {A = ℕ} (pick b 0 0) 0
          picks_nothing true = refl
          picks_nothing false = refl

          go : (c : ℕ) → c < used l → (b : Bool) → draws_on H l n c ≡ b → Dec (reqtype (row H l c) ≡ NONFIRM_REDIRECT)
              → pick b (granted_of H l h c) 0 ≡ pick b (pick (eqb (reqtype (row H l c)) NONFIRM_REDIRECT) (held_of H l h c) (granted_of H l h c)) 0 + pick (b && (eqb (reqtype (row H l c)) 4 || (eqb (reqtype (row H l c)) 5 || false))) (relinquished H l h c) 0
          go c lt false t d = refl
          go c lt true t (yes five) =
              omega (
                arith,
                fives c lt (standing n c lt t) five,
                five_records c five,
                ap (λ (k : ℕ). pick (eqb k NONFIRM_REDIRECT) (held_of H l h c) (granted_of H l h c)) five,
                ap (λ (k : ℕ). pick (eqb k 4 || (eqb k 5 || false)) (relinquished H l h c) 0) five,
              )
          go c lt true t (no other) =
              omega (
                arith,
                ap (λ (x : Bool). pick x (held_of H l h c) (granted_of H l h c)) (ne_eqb _ _ other),
                ap (λ (x : ℕ). pick (eqb (reqtype (row H l c)) 4 || (eqb (reqtype (row H l c)) 5 || false)) x 0) (other_records c other)
                    ∙ picks_nothing (eqb (reqtype (row H l c)) 4 || (eqb (reqtype (row H l c)) 5 || false)),
              )

      row_same : (n : ℕ) → row_balances H l n h ≡ eqb (held_of H l h n + shares_on H l h n) (granted_of H l h n)
      unfolding row_balances
      row_same n =
          same_equality (granted_of H l h n + taken_off H l h n) (held_of H l h n + drawn H l h n) (held_of H l h n + shares_on H l h n) (granted_of H l h n)
          (λ e. omega (arith, e, drawn_split n))
          (λ e. omega (arith, e, drawn_split n))

  -- ---- all rows
  passed : (b c : Bool) → (not b || c) ≡ true → b ≡ true → c ≡ true
  passed true c t e = t
  passed false c t e = cc

  five_tested : (c : ℕ) → stands H l c ≡ true → reqtype (row H l c) ≡ NONFIRM_REDIRECT → has_equation H l c ≡ true
  unfolding has_equation
  five_tested c st five = ap (λ (b : Bool). b && not (eqb (reqtype (row H l c)) RELINQUISH)) st ∙ ap (λ (k : ℕ). not (eqb k RELINQUISH)) five

  tests_same : ((h : ℕ) → h < H → (c : ℕ) → c < used l → stands H l c ≡ true → reqtype (row H l c) ≡ NONFIRM_REDIRECT → granted_of H l h c ≡ held_of H l h c + drawn H l h c) → (n : ℕ) → balanced_row H l n ≡ balanced_shares H l n
  unfolding balanced_row balanced_shares
  tests_same fives n = ap (λ (b : Bool). not (has_equation H l n) || b) (all_cong _ _ H (λ h lt. row_same h (fives h lt) n))

  pub rows_by_shares : all_below (used l) (λ n. balanced_row H l n) ≡ all_below (used l) (λ n. balanced_shares H l n)
  unfolding balanced_row balanced_shares row_balances
  rows_by_shares =
      same_test _ _
      (λ t. sym (all_cong _ _ (used l) (λ n lt. tests_same (by_rows t) n)) ∙ t)
      (λ t. all_cong _ _ (used l) (λ n lt. tests_same (by_shares t) n) ∙ t)
    where
      by_rows : all_below (used l) (λ n. balanced_row H l n) ≡ true → (h : ℕ) → h < H → (c : ℕ) → c < used l → stands H l c ≡ true → reqtype (row H l c) ≡ NONFIRM_REDIRECT → granted_of H l h c ≡ held_of H l h c + drawn H l h c
      by_rows t h hlt c lt st five =
          let all = passed (has_equation H l c) (all_below H (λ h. row_balances H l c h)) (all_at (λ n. balanced_row H l n) (used l) c t lt) (five_tested c st five) in
          omega (arith, eqb-true (granted_of H l h c + taken_off H l h c) (held_of H l h c + drawn H l h c) (all_at (λ h. row_balances H l c h) H h all hlt), five_off h c five)

      by_shares : all_below (used l) (λ n. balanced_shares H l n) ≡ true → (h : ℕ) → h < H → (c : ℕ) → c < used l → stands H l c ≡ true → reqtype (row H l c) ≡ NONFIRM_REDIRECT → granted_of H l h c ≡ held_of H l h c + drawn H l h c
      by_shares t h hlt c lt st five =
          let all = passed (has_equation H l c) (all_below H (λ h. eqb (held_of H l h c + shares_on H l h c) (granted_of H l h c))) (all_at (λ n. balanced_shares H l n) (used l) c t lt) (five_tested c st five) in
          omega (arith, eqb-true (held_of H l h c + shares_on H l h c) (granted_of H l h c) (all_at (λ h. eqb (held_of H l h c + shares_on H l h c) (granted_of H l h c)) H h all hlt), five_shares h c five)
