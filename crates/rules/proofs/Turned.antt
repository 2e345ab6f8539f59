-- A ledger in which one row was written, and its column.
use mathlib.Core.Path.{◌≡◌, sym, ap, ◌∙◌}
use mathlib.Core.Logic.{◌≢◌}
use mathlib.Core.List.{List}
use Prim.Native.Nat.{ℕ, ◌<◌}
use native.Mathlib.Decide.{ℕ_discrete}
use lib.ListN.{length, get_or}
use lib.IntN.{ℤ}
use Rattle.rules.specs.Numbers.{head_words, granted_part, available_part, displaced_part, reduced_part}
use Rattle.rules.specs.Layout.{row, on_row, row_size, hour_at, Sized}
use Rattle.rules.proofs.Rows.{on_sized, on_own, on_other, on_head}
use Rattle.column.specs.Step.{Still}
use Rattle.rules.proofs.View.{view}

-- l' is l but for row n, which is r
pub record Turned (R H : ℕ) (l l' : List ℕ) (n : ℕ) (r : List ℕ) : Type 0 where
  pub sized : Sized l' R H
  pub own : row H l' n ≡ r
  pub other : (m : ℕ) → m ≢ n → row H l' m ≡ row H l m
  pub head : (i : ℕ) → i < head_words → get_or l' i 0 ≡ get_or l i 0

-- row n was r, and f is done to it
pub turned : {R H : ℕ} {l : List ℕ} {n : ℕ} {r : List ℕ} → Sized l R H → n < R → (f : List ℕ → List ℕ) → row H l n ≡ r → length (f r) ≡ row_size H → Turned R H l (on_row H n f l) n (f r)
turned {R} {H} {l} {n} {r} s h f q e = record {
  sized = on_sized s h f e';
  own = on_own s h f e' ∙ ap f q;
  other = λ m ne. on_other s h f e' ne;
  head = on_head s h f e';
}
  where
    e' : length (f (row H l n)) ≡ row_size H
    e' = ap (λ (x : List ℕ). length (f x)) q ∙ e

-- a word that the write leaves as it was is so in every row
pub kept_word : {R H : ℕ} {l l' : List ℕ} {n : ℕ} {r r₀ : List ℕ} → Turned R H l l' n r → row H l n ≡ r₀ → (k : ℕ) → get_or r k 0 ≡ get_or r₀ k 0 → (m : ℕ) → get_or (row H l' m) k 0 ≡ get_or (row H l m) k 0
kept_word {R} {H} {l} {l'} {n} {r} {r₀} t b k e m = go (ℕ_discrete m n)
  where
    go : Dec (m ≡ n) → get_or (row H l' m) k 0 ≡ get_or (row H l m) k 0
    go (yes q) =
        ap (λ (i : ℕ). get_or (row H l' i) k 0) q
        ∙ ap (λ (x : List ℕ). get_or x k 0) t.own
        ∙ e
        ∙ sym (ap (λ (i : ℕ). get_or (row H l i) k 0) q ∙ ap (λ (x : List ℕ). get_or x k 0) b)
    go (no q) = ap (λ (x : List ℕ). get_or x k 0) (t.other m q)

-- a row that stays, stays in the column
pub still : (H h : ℕ) (l l' : List ℕ) (out out' : ℕ → ℕ → ℤ) (red red' : ℕ → ℤ) (n : ℕ) → row H l' n ≡ row H l n → Still (view H h l out red) (view H h l' out' red') n
still H h l l' out out' red red' n e = record {
  st = ap (λ (x : List ℕ). get_or x 1 0) e;
  g = ap (λ (x : List ℕ). get_or x (hour_at H granted_part h) 0) e;
  a = ap (λ (x : List ℕ). get_or x (hour_at H available_part h) 0) e;
  d = ap (λ (x : List ℕ). get_or x (hour_at H displaced_part h) 0) e;
  r = ap (λ (x : List ℕ). get_or x (hour_at H reduced_part h) 0) e;
}
