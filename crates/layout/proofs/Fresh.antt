-- Creation: what it leaves of a slice whose length is right.
use mathlib.Core.Path.{◌≡◌, ap, ◌∙◌}
use mathlib.Core.Bool.{true}
use mathlib.Core.List.{List, [], ◌++◌, append-nil}
use Prim.Native.Nat.{ℕ, ◌+◌, ◌-◌, ◌*◌, ◌≤◌}
use native.Mathlib.Omega.{arith}
use lib.Dec.{eqb}
use lib.ListN.{length, take, drop, length-append, length-drop, drop_of_length-le}
use lib.Seq.{sets, sets-eq, length-take-le, take_all, drop_at}
use borrow.Author.Tests.{eqb-true}
use Rattle.words.specs.Lists.{noughts}
use Rattle.words.proofs.Laws.{and_left, and_right}
use Rattle.rules.specs.Numbers.{head_words, row_words}
use Rattle.rules.specs.Layout.{row_base, row_size}
use Rattle.rules.specs.Create.{good_numbers, creates, fresh}
use Rattle.rules.proofs.Rows.{row_apart, row_least}
use Rattle.rules.proofs.SoundFacts.{good_least}
use Rattle.layout.specs.Bounds.{head_of}

-- what follows place a
pub rest : (l : List ℕ) (a : ℕ) → take (length l - a) (drop a l) ≡ drop a l
rest l a = take_all (length l - a) (drop a l) (omega (arith, length-drop a l))

created_long : (l : List ℕ) (R H provider window base : ℕ) → creates l R H provider window base ≡ true → length l ≡ row_base H R
unfolding creates
created_long l R H provider window base e = eqb-true _ _ (and_right (good_numbers R H provider window base) (eqb (length l) (row_base H R)) e)

created_some : (l : List ℕ) (R H provider window base : ℕ) → creates l R H provider window base ≡ true → 1 ≤ R
unfolding creates
created_some l R H provider window base e =
    (good_least R H provider window base (and_left (good_numbers R H provider window base) (eqb (length l) (row_base H R)) e)).0

module _ (l : List ℕ) (R H provider window base : ℕ) (t : creates l R H provider window base ≡ true) where
  created_head : head_words ≤ length l
  created_head = omega (arith, created_long l R H provider window base t, row_least H R)

  -- it has a row
  pub created_row : head_words + row_words ≤ length l
  created_row =
      let some = created_some l R H provider window base t in
      omega (arith, created_long l R H provider window base t, row_apart H {n = 0} some, row_least H 0)

  -- the words after the head came back as v
  module _ (v : List ℕ) where
    long : head_words ≤ length (take head_words l ++ (v ++ drop (length l - head_words) (drop head_words l)))
    long =
        omega (arith, length-append (take head_words l) (v ++ drop (length l - head_words) (drop head_words l)), length-take-le head_words l created_head)

    -- they are 0, and then the head was written
    pub written : v ≡ noughts (length (take (length l - head_words) (drop head_words l))) → (m : List ℕ)
        → m ≡ sets (take head_words l ++ (v ++ drop (length l - head_words) (drop head_words l))) 0 (head_of R H provider window base)
        → m ≡ fresh R H provider window base
    unfolding fresh row_base
    written p m q =
        let o : drop (length l - head_words) (drop head_words l) ≡ [] = drop_of_length-le (drop head_words l) {i = length l - head_words} (omega (arith, length-drop head_words l)) in
        let n : length (drop head_words l) ≡ R * row_size H = omega (arith, length-drop head_words l, created_long l R H provider window base t) in
        q
        ∙ sets-eq (head_of R H provider window base) (take head_words l ++ (v ++ drop (length l - head_words) (drop head_words l))) 0 long
        ∙ ap (λ (x : List ℕ). head_of R H provider window base ++ x)
        (drop_at (take head_words l) (v ++ drop (length l - head_words) (drop head_words l)) head_words (length-take-le head_words l created_head)
        ∙ ap (λ (x : List ℕ). v ++ x) o
        ∙ append-nil v
        ∙ p
        ∙ ap (λ (x : List ℕ). noughts (length x)) (rest l head_words)
        ∙ ap noughts n)
