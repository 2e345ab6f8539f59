-- Lists of words: what the contracts on lent slices cite.
use Rattle.std.specs.Prelude.{Bool, true, ◌&&◌, cond, List, [], ◌∷◌, ◌++◌, ◌⊎◌, ℕ, zero, suc, ◌+◌, ◌≤◌, length, take, drop, get_or, leb, ltb, eqb}

-- the word at a place, 0 past the end
abbrev pub word_at : List ℕ → ℕ → ℕ
word_at l i = get_or l i 0

-- n words from place a on
abbrev pub part : List ℕ → ℕ → ℕ → List ℕ
part l a n = take n (drop a l)

-- the list with the words v from place a on
unfoldable pub splice : List ℕ → ℕ → List ℕ → List ℕ
splice l a v = take a l ++ (v ++ drop (length v) (drop a l))

-- f 0, f 1, .. f (n - 1): as a list; whether all hold; the first that holds, or n; their sum
unfoldable pub build : ℕ → (ℕ → ℕ) → List ℕ
build zero f = []
build (suc n) f = build n f ++ (f n ∷ [])

unfoldable pub all_below : ℕ → (ℕ → Bool) → Bool
all_below zero p = true
all_below (suc n) p = all_below n p && p n

unfoldable pub first_below : ℕ → (ℕ → Bool) → ℕ
first_below zero p = zero
first_below (suc n) p = cond (p 0) zero (suc (first_below n (λ k. p (suc k))))

unfoldable pub sum_below : ℕ → (ℕ → ℕ) → ℕ
sum_below zero f = 0
sum_below (suc n) f = sum_below n f + f n

-- f of the words of a and b, one by one, as many as a has
unfoldable pub zip2 : (ℕ → ℕ → ℕ) → List ℕ → List ℕ → List ℕ
zip2 f a b = build (length a) (λ k. f (word_at a k) (word_at b k))

-- n zeros
unfoldable pub noughts : ℕ → List ℕ
noughts n = build n (λ _. 0)

unfoldable pub total : List ℕ → ℕ
total a = sum_below (length a) (λ k. word_at a k)

-- every word passes; by recursion on the list, so that a long one computes fast
unfoldable pub every : (ℕ → Bool) → List ℕ → Bool
every p [] = true
every p (x ∷ xs) = p x && every p xs

-- every pair of words at one place of a and b passes, as many as a has
abbrev pub every_pair : (ℕ → ℕ → Bool) → List ℕ → List ℕ → Bool
every_pair p a b = all_below (length a) (λ k. p (word_at a k) (word_at b k))

-- every word is at most the bound; every word is 0
unfoldable pub within : ℕ → List ℕ → Bool
within bound a = every (λ x. leb x bound) a

unfoldable pub zeros : List ℕ → Bool
zeros a = every (λ x. eqb x 0) a

-- hour by hour: a is at most b; a is b; a and b together are at most the bound
unfoldable pub covered : List ℕ → List ℕ → Bool
covered a b = all_below (length a) (λ k. leb (word_at a k) (word_at b k))

unfoldable pub equal : List ℕ → List ℕ → Bool
equal a b = all_below (length a) (λ k. eqb (word_at a k) (word_at b k))

unfoldable pub roomy : ℕ → List ℕ → List ℕ → Bool
roomy bound a b = all_below (length a) (λ k. leb (word_at a k + word_at b k) bound)

-- the first place where a is short of b, or a's length
unfoldable pub first_short : List ℕ → List ℕ → ℕ
first_short a b = first_below (length a) (λ k. ltb (word_at a k) (word_at b k))

-- the greatest number that a word holds
abbrev pub most_word : ℕ
most_word = 4294967295

-- two parts of l of n words each that do not meet
pub record Apart (l : List ℕ) (a b n : ℕ) : Type 0 where
  pub first : a + n ≤ length l
  pub second : b + n ≤ length l
  pub apart : (a + n ≤ b) ⊎ (b + n ≤ a)
