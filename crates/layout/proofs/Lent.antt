-- Parts of a ledger that are lent, and what was lent came back as v.
use mathlib.Core.Path.{◌≡◌, sym, ap, ◌∙◌}
use mathlib.Core.List.{List, [], ◌∷◌, ◌++◌}
use Prim.Native.Nat.{ℕ, ◌+◌, ◌-◌, ◌<◌, ◌≤◌}
use native.Mathlib.Omega.{arith}
use lib.ListN.{length, take, drop, set}
use Rattle.words.specs.Lists.{splice}
use Rattle.words.proofs.Laws.{lent, lent_length, lent_back, set_splice}
use Rattle.rules.specs.Numbers.{row_words}
use Rattle.rules.specs.Layout.{row_base, row_size, row, on_row, hour_at, hours_of, set_hours, Sized}
use Rattle.rules.proofs.Rows.{row_fits, row_length, on_splice}
use Rattle.layout.specs.Places.{RowAt, HoursAt}

-- row n, which starts at a and has k words
module _ {l : List ℕ} {R H n a k : ℕ} (s : Sized l R H) (at : RowAt R H n a) (words : k ≡ row_size H) where
  inside : a + row_size H ≤ length l
  inside = omega (arith, s.long, at.fits)

  pub row_lent : take (a + k - a) (drop a l) ≡ row H l n
  unfolding row
  row_lent = ap (λ (x : ℕ). take (a + x - a) (drop a l)) words ∙ lent l a (row_base H n) (row_size H) at.is inside

  pub row_lent_length : length (take (a + k - a) (drop a l)) ≡ row_size H
  row_lent_length = ap (λ (x : ℕ). length (take (a + x - a) (drop a l))) words ∙ lent_length l a (row_base H n) (row_size H) at.is inside

  pub row_back : (f : List ℕ → List ℕ) (v : List ℕ) → length v ≡ length (take (a + k - a) (drop a l)) → v ≡ f (take (a + k - a) (drop a l)) → take a l ++ (v ++ drop (a + k - a) (drop a l)) ≡ on_row H n f l
  unfolding on_row
  row_back f v kept e =
      ap (λ (x : ℕ). take a l ++ (v ++ drop (a + x - a) (drop a l))) words
      ∙ lent_back l a (row_base H n) (row_size H) at.is inside v (f (row H l n)) (kept ∙ ap (λ (x : ℕ). length (take (a + x - a) (drop a l))) words) (e ∙ ap f row_lent)

-- a word of row n is stored: by its place in the ledger
pub stored : {l : List ℕ} {R H n at : ℕ} → Sized l R H → n < R → at ≡ row_base H n → (k v : ℕ) → k < row_words → set l (at + k) v ≡ on_row H n (λ r. set r k v) l
unfolding on_row
stored {l} {R} {H} {n} {at} z lt e k v klt =
    ap (λ (x : ℕ). set l (x + k) v) e
    ∙ set_splice l (row_base H n + k) v (omega (arith, row_fits z lt))
    ∙ sym (on_splice z lt k (v ∷ []) (omega arith))
    ∙ ap (λ (r : List ℕ). splice l (row_base H n) r) (sym (set_splice (row H l n) k v (omega (arith, row_length z lt))))

-- n hours of profile p from hour s on, which start at a in the row r
module _ (r : List ℕ) {H p s n a : ℕ} (long : length r ≡ row_size H) (at : HoursAt H p s n a) where
  held : a + n ≤ length r
  held = omega (arith, long, at.fits)

  pub hours_lent : take (a + n - a) (drop a r) ≡ hours_of H p s n r
  hours_lent = lent r a (hour_at H p s) n at.is held

  pub hours_lent_length : length (take (a + n - a) (drop a r)) ≡ n
  hours_lent_length = lent_length r a (hour_at H p s) n at.is held

  pub hours_back : (v w : List ℕ) → length v ≡ length (take (a + n - a) (drop a r)) → v ≡ w → take a r ++ (v ++ drop (a + n - a) (drop a r)) ≡ set_hours H p s w r
  unfolding set_hours
  hours_back v w kept e = lent_back r a (hour_at H p s) n at.is held v w kept e
