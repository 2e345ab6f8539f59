-- A test of every number below a bound, or of every word of a list, in the words of an iterator's `all`.
use mathlib.Core.Path.{◌≡◌, refl, sym, ap, ◌∙◌}
use mathlib.Core.Bool.{Bool, ◌&&◌, and_assoc, and-true}
use mathlib.Core.List.{List, [], ◌∷◌}
use Prim.Native.Nat.{ℕ, zero, suc, ◌+◌}
use native.Mathlib.Omega.{arith}
use lib.ListN.{length}
use Rattle.std.specs.List.{list_all, range_with_len}
use Rattle.words.specs.Lists.{word_at, all_below}
use Rattle.words.proofs.Laws.{all_cong}

first_of : (n : ℕ) (p : ℕ → Bool) → all_below (suc n) p ≡ (p 0 && all_below n (λ k. p (suc k)))
unfolding all_below
first_of zero p = sym (and-true (p 0))
first_of (suc n) p =
    ap (λ (b : Bool). b && p (suc n)) (first_of n p) ∙ and_assoc (p 0) (all_below n (λ k. p (suc k))) (p (suc n))

from_one : (p : ℕ → Bool) (n a : ℕ) → list_all p (range_with_len a n) ≡ all_below n (λ k. p (a + k))
unfolding all_below
from_one p zero a = refl
from_one p (suc n) a =
    let next : (k : ℕ) → p (a + 1 + k) ≡ p (a + suc k) = λ k. let e : a + 1 + k ≡ a + suc k = omega arith in ap p e in
    let own : a ≡ a + 0 = omega arith in
    ap (λ (b : Bool). p a && b)
    (from_one p n (a + 1) ∙ all_cong (λ k. p (a + 1 + k)) (λ k. p (a + suc k)) n (λ k _. next k))
    ∙ ap (λ (j : ℕ). p j && all_below n (λ k. p (a + suc k))) own
    ∙ sym (first_of n (λ k. p (a + k)))

pub all_numbers : (p : ℕ → Bool) (n : ℕ) → list_all p (range_with_len 0 n) ≡ all_below n p
all_numbers p n = from_one p n 0 ∙ all_cong (λ k. p (0 + k)) p n (λ k _. let e : 0 + k ≡ k = omega arith in ap p e)

pub all_listed : (p : ℕ → Bool) (xs : List ℕ) → list_all p xs ≡ all_below (length xs) (λ k. p (word_at xs k))
unfolding all_below
all_listed p [] = refl
all_listed p (x ∷ xs) =
    ap (λ (b : Bool). p x && b) (all_listed p xs) ∙ sym (first_of (length xs) (λ k. p (word_at (x ∷ xs) k)))
