-- Laws of lists of numbers. Assumes nothing.
use mathlib.Core.Path.{◌≡◌, sym, ap, ◌∙◌}
use mathlib.Core.Bool.{Bool, true, ◌&&◌}
use mathlib.Core.List.{List, [], ◌∷◌}
use Prim.Native.Nat.{ℕ, zero, suc, ◌+◌, ◌≤◌, ◌<◌, zero-le}
use native.Mathlib.Nat.{add-zero, add-suc, suc-add, le_of_suc-le-suc, not-suc-le-zero}
use native.Mathlib.Omega.{arith}
use borrow.Author.Tests.{leb-true}
use lib.Dec.{leb}
use lib.ListN.{get_or, length, drop, drop_of_length-le}
use lib.Seq.{drop-cons}
use Rattle.stamp.proofs.Picks.{and_left, and_right}

-- no number of the list is above n
abbrev pub most : List ℕ → ℕ → Bool
most [] n = true
most (x ∷ xs) n = leb x n && most xs n

pub most_at : (xs : List ℕ) (n : ℕ) → most xs n ≡ true → (k : ℕ) → get_or xs k 0 ≤ n
most_at [] n t k = zero-le
most_at (x ∷ xs) n t zero = leb-true x n (and_left (leb x n) (most xs n) t)
most_at (x ∷ xs) n t (suc k) = most_at xs n (and_right (leb x n) (most xs n) t) k

-- the test f holds at each place of the list, counted from i, and the number there
abbrev pub each : (ℕ → ℕ → Bool) → ℕ → List ℕ → Bool
each f i [] = true
each f i (x ∷ xs) = f i x && each f (suc i) xs

pub each_at : (f : ℕ → ℕ → Bool) (xs : List ℕ) (i : ℕ) → each f i xs ≡ true → (k : ℕ) → k < length xs → f (i + k) (get_or xs k 0) ≡ true
each_at f [] i t k h = absurd (not-suc-le-zero h)
each_at f (x ∷ xs) i t zero h = ap (λ (j : ℕ). f j x) (add-zero i) ∙ and_left (f i x) (each f (suc i) xs) t
each_at f (x ∷ xs) i t (suc k) h =
    ap (λ (j : ℕ). f j (get_or xs k 0)) (add-suc i k ∙ sym (suc-add i k)) ∙ each_at f xs (suc i) (and_right (f i x) (each f (suc i) xs) t) k (le_of_suc-le-suc h)

-- the n numbers of a list from the place k on, spelled out
abbrev pub spelled : ℕ → ℕ → List ℕ → List ℕ
spelled k zero l = []
spelled k (suc n) l = get_or l k 0 ∷ spelled (suc k) n l

pub spelled_is : (n k : ℕ) (l : List ℕ) → length l ≡ k + n → spelled k n l ≡ drop k l
spelled_is zero k l h = sym (drop_of_length-le l {i = k} (omega arith))
spelled_is (suc n) k l h =
    ap (λ (r : List ℕ). get_or l k 0 ∷ r) (spelled_is n (suc k) l (omega arith)) ∙ sym (drop-cons l k 0 (omega arith))
