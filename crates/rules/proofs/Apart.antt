-- Rows of other trees, and of other paths: what the use of a path makes of the rows that an action does not reach.
use mathlib.Core.Path.{◌≡◌, refl, sym, ap, subst, ◌∙◌}
use mathlib.Core.Logic.{◌≢◌}
use mathlib.Core.Bool.{Bool, true, false, ◌&&◌, ◌||◌}
use mathlib.Core.List.{List}
use Prim.Native.Nat.{ℕ, ◌<◌}
use native.Mathlib.Omega.{arith}
use borrow.Author.Tests.{eqb-true, ne_eqb}
use lib.Dec.{eqb, lit<}
use Rattle.words.specs.Lists.{word_at, sum_below}
use Rattle.words.proofs.Laws.{sum_cong}
use Rattle.rules.specs.Pick.{pick}
use Rattle.rules.specs.Numbers.{available_part, NONFIRM_REDIRECT}
use Rattle.rules.specs.Layout.{used, row, reqtype, path, related_row, hour_at}
use Rattle.rules.specs.Sound.{original}
use Rattle.rules.specs.Moves.{is_confirmed}
use Rattle.rules.specs.Paths.{holds_on, counts_on, use_of}
use Rattle.rules.proofs.Picks.{and_cong, and_fails}
use Rattle.rules.proofs.Types.{derived_type}
use Rattle.rules.proofs.Wrote.{Agree, Frame}
use Rattle.rules.proofs.Reach.{types_last, related_last, agree_related}

-- no tree has rows on both sides of J: a row and the row that it is related to are on the same
pub record Split (J : ℕ → Bool) (H : ℕ) (l : List ℕ) : Type 0 where
  pub before : (k : ℕ) → k < used l → original (reqtype (row H l k)) ≡ false → related_row H l k < k
  pub same : (k : ℕ) → k < used l → original (reqtype (row H l k)) ≡ false → J (related_row H l k) ≡ J k

pub split_last : {J K : ℕ → Bool} {R H : ℕ} {l l' : List ℕ} → Frame K R H l l' → Split J H l → Split J H l'
split_last {J} {K} {R} {H} {l} {l'} F S = record {
  before = λ k lt t. subst (λ (i : ℕ). i < k) (sym (related_last F k)) (S.before k (inside k lt) (kept k t));
  same = λ k lt t. ap J (related_last F k) ∙ S.same k (inside k lt) (kept k t);
}
  where
    inside : (k : ℕ) → k < used l' → k < used l
    inside k lt = omega (arith, lt, F.head 6 (lit< tt))

    kept : (k : ℕ) → original (reqtype (row H l' k)) ≡ false → original (reqtype (row H l k)) ≡ false
    kept k t = ap original (sym (types_last F k)) ∙ t

-- type 5 is no original
redirect_derived : (t : ℕ) → eqb t NONFIRM_REDIRECT ≡ true → original t ≡ false
redirect_derived t e = derived_type t (omega (arith, eqb-true t NONFIRM_REDIRECT e))

-- ---- use of path x
-- no row where J does not hold stands on path x
abbrev pub Off : (ℕ → Bool) → ℕ → List ℕ → ℕ → Type 0
Off J H l x = (k : ℕ) → k < used l → J k ≡ false → path (row H l k) ≢ x

module _ {J : ℕ → Bool} {H : ℕ} {l : List ℕ} (S : Split J H l) (x : ℕ) (off : Off J H l x) where
  -- so none of them counts
  off_counts : (k : ℕ) → k < used l → J k ≡ false → counts_on H l x k ≡ false
  unfolding counts_on holds_on
  off_counts k lt e =
      and_fails (is_confirmed (row H l k)) _ (λ c.
      ap (λ (b : Bool). b || eqb (reqtype (row H l k)) NONFIRM_REDIRECT && (is_confirmed (row H l (related_row H l k)) && eqb (path (row H l (related_row H l k))) x)) (ne_eqb (path (row H l k)) x (off k lt e))
      ∙ and_fails (eqb (reqtype (row H l k)) NONFIRM_REDIRECT) _ (λ t.
      let d = redirect_derived (reqtype (row H l k)) t in
      and_fails (is_confirmed (row H l (related_row H l k))) _ (λ c. ne_eqb (path (row H l (related_row H l k))) x (off (related_row H l k) (omega (arith, lt, S.before k lt d)) (S.same k lt d ∙ e)))))

module _ {J : ℕ → Bool} {R H : ℕ} {l m : List ℕ} (G : Agree J R H l m) (S : Split J H l) (T : Split J H m) (x : ℕ) (offl : Off J H l x) (offm : Off J H m x) where
  same_used : used l ≡ used m
  same_used = G.head 6 (lit< tt)

  -- the others count alike
  on_counts : (k : ℕ) → k < used l → J k ≡ true → counts_on H l x k ≡ counts_on H m x k
  unfolding counts_on holds_on
  on_counts k lt e =
      ap (λ (r : List ℕ). is_confirmed r && (eqb (path r) x || eqb (reqtype r) NONFIRM_REDIRECT && (is_confirmed (row H l (related_row H l k)) && eqb (path (row H l (related_row H l k))) x))) (G.rows k e)
      ∙ ap (λ (b : Bool). is_confirmed (row H m k) && (eqb (path (row H m k)) x || b))
      (and_cong (eqb (reqtype (row H m k)) NONFIRM_REDIRECT) (λ t.
      let d : original (reqtype (row H l k)) ≡ false = ap (λ (r : List ℕ). original (reqtype r)) (G.rows k e) ∙ redirect_derived (reqtype (row H m k)) t in
      ap (λ (r : List ℕ). is_confirmed r && eqb (path r) x) (G.rows (related_row H l k) (S.same k lt d ∙ e) ∙ ap (row H m) (agree_related G e))))

  pub same_use : (h : ℕ) → use_of H l x h ≡ use_of H m x h
  unfolding use_of
  same_use h =
      sum_cong (used l) _ _ (λ k lt. go k lt (J k) refl)
      ∙ ap (λ (u : ℕ). sum_below u (λ n. pick (counts_on H m x n) (word_at (row H m n) (hour_at H available_part h)) 0)) same_used
    where
      go : (k : ℕ) → k < used l → (b : Bool) → J k ≡ b → pick (counts_on H l x k) (word_at (row H l k) (hour_at H available_part h)) 0 ≡ pick (counts_on H m x k) (word_at (row H m k) (hour_at H available_part h)) 0
      go k lt true e =
          ap (λ (b : Bool). pick b (word_at (row H l k) (hour_at H available_part h)) 0) (on_counts k lt e)
          ∙ ap (λ (r : List ℕ). pick (counts_on H m x k) (word_at r (hour_at H available_part h)) 0) (G.rows k e)
      go k lt false e =
          ap (λ (b : Bool). pick b (word_at (row H l k) (hour_at H available_part h)) 0) (off_counts S x offl k lt e)
          ∙ sym (ap (λ (b : Bool). pick b (word_at (row H m k) (hour_at H available_part h)) 0) (off_counts T x offm k (omega (arith, lt, same_used)) e))
