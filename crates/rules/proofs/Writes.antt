-- What is seen of a row at hour h after each of the rules' writes in it.
use mathlib.Core.Path.{◌≡◌, ap, ◌∙◌}
use mathlib.Core.Logic.{◌≢◌, ◌⊎◌, ⊎_elim, inl, inr}
use mathlib.Core.Bool.{Bool, true, false}
use mathlib.Core.List.{List}
use Prim.Native.Nat.{ℕ, ◌+◌, ◌-◌, ◌≤◌, ◌<◌}
use native.Mathlib.Omega.{arith}
use borrow.Author.Tests.{eq-eqb}
use lib.Dec.{lit<}
use lib.ListN.{length, get_or}
use Rattle.words.specs.Lists.{covered}
use Rattle.words.proofs.Laws.{lt_or_le, covered_at, part_at}
use Rattle.rules.specs.Pick.{pick}
use Rattle.rules.specs.Numbers.{row_words, profiles, granted_part, available_part, displaced_part, reduced_part}
use Rattle.rules.specs.Layout.{status, hour_at, hours_of, standing}
use Rattle.rules.specs.Moves.{is_confirmed}
use Rattle.rules.proofs.Seen.{Room, Seen, at, at_other, hour_in, seen_self, seen_set, seen_put, seen_less, seen_add, seen_clear, standing_in, standing_off}
use Rattle.rules.specs.Megawatts.{grant, take_from, returns_to, give_back, reduced_row}
use Rattle.rules.specs.Confirming.{held, emptied}

-- a row's words, and its profiles' words at hour h
abbrev pub words : List ℕ → ℕ → ℕ
words r k = get_or r k 0

abbrev pub megawatts : ℕ → ℕ → List ℕ → ℕ → ℕ
megawatts H h r p = get_or r (hour_at H p h) 0

pub returns_profile : (r : List ℕ) → returns_to r < profiles
unfolding returns_to
returns_profile r = go (is_confirmed r)
  where
    go : (b : Bool) → pick b available_part displaced_part < profiles
    go true = lit< tt
    go false = lit< tt

module _ {H h s : ℕ} {g r : List ℕ} (hlt : h < H) (m : Room H s g r) where
  pub seen_taken : Seen H h (take_from H s g r) (words r) (at (megawatts H h r) available_part (megawatts H h r available_part - standing s g h))
  unfolding take_from
  seen_taken = seen_less (seen_self H h r m.long) hlt available_part s g (lit< tt) m.fits

  pub seen_reduced : Seen H h (reduced_row H s g r) (words r)
      (at (at (megawatts H h r) available_part (megawatts H h r available_part - standing s g h)) reduced_part (megawatts H h r reduced_part + standing s g h))
  unfolding reduced_row
  seen_reduced = seen_add seen_taken hlt reduced_part s g (lit< tt) m.fits

  pub seen_given : Seen H h (give_back H s g r) (words r) (at (megawatts H h r) (returns_to r) (megawatts H h r (returns_to r) + standing s g h))
  unfolding give_back
  seen_given = seen_add (seen_self H h r m.long) hlt (returns_to r) s g (returns_profile r) m.fits

  -- of the row's own profiles nothing stood outside the span
  module _ (zero : (p : ℕ) → p < profiles → (h < s) ⊎ (s + length g ≤ h) → megawatts H h r p ≡ 0) where
    pub seen_held : (f : ℕ) × Seen H h (held H s g r) (at (at (words r) 7 f) 1 13) (at (at (megawatts H h r) available_part (standing s g h)) granted_part (standing s g h))
    unfolding held grant
    seen_held = (
      _,
      seen_set (seen_set (seen_put (seen_put (seen_self H h r m.long) hlt available_part s g (lit< tt) m.fits (zero available_part (lit< tt))) hlt granted_part s g (lit< tt) m.fits (zero granted_part (lit< tt))) 7 _ (lit< tt)) 1 13 (lit< tt),
    )

    pub seen_emptied : (f : ℕ) × Seen H h (emptied H s g r) (at (at (words r) 7 f) 1 13) (at (at (megawatts H h r) available_part 0) granted_part (standing s g h))
    unfolding emptied grant
    seen_emptied = (
      _,
      seen_set (seen_set (seen_put (seen_clear (seen_self H h r m.long) hlt available_part s (length g) (lit< tt) m.fits (zero available_part (lit< tt))) hlt granted_part s g (lit< tt) m.fits (zero granted_part (lit< tt))) 7 _ (lit< tt)) 1 13 (lit< tt),
    )

  -- what is covered in the span is covered at hour h
  pub covered_hour : (p : ℕ) → p < profiles → covered g (hours_of H p s (length g) r) ≡ true → standing s g h ≤ megawatts H h r p
  covered_hour p plt e =
      ⊎_elim
      (λ u. omega (arith, standing_off s g (inl u)))
      (λ u.
      ⊎_elim
      (λ t.
      let k : h ≡ s + (h - s) = omega (arith, u) in
      let i : hour_at H p h ≡ hour_at H p s + (h - s) = omega (arith, u) in
      let lt : h - s < length g = omega (arith, u, t) in
      let fits : hour_at H p s + length g ≤ length r = omega (arith, hour_in H plt, m.long, m.fits) in
      omega (arith, standing_in s g (h - s) k, covered_at g (hours_of H p s (length g) r) e (h - s) lt, part_at r (hour_at H p s) (length g) fits (h - s) lt, ap (λ (j : ℕ). get_or r j 0) i))
      (λ t. omega (arith, standing_off s g (inr t)))
      (lt_or_le h (s + length g)))
      (lt_or_le h s)

-- given to available or to displaced, it is in their sum
pub returned : (x : ℕ → ℕ) (z : ℕ) (r : List ℕ) → at x (returns_to r) (x (returns_to r) + z) available_part + at x (returns_to r) (x (returns_to r) + z) displaced_part ≡ x available_part + x displaced_part + z
unfolding returns_to
returned x z r = go (is_confirmed r)
  where
    go : (t : Bool) → at x (pick t available_part displaced_part) (x (pick t available_part displaced_part) + z) available_part + at x (pick t available_part displaced_part) (x (pick t available_part displaced_part) + z) displaced_part ≡ x available_part + x displaced_part + z
    go true = omega arith
    go false = omega arith

-- to available, where the row is CONFIRMED
pub returned_available : (x : ℕ → ℕ) (z : ℕ) (r : List ℕ) → status r ≡ 13 → at x (returns_to r) (x (returns_to r) + z) available_part ≡ x available_part + z
unfolding returns_to is_confirmed
returned_available x z r e = ap (λ (t : Bool). at x (pick t available_part displaced_part) (x (pick t available_part displaced_part) + z) available_part) (eq-eqb (status r) 13 e)

-- the other profiles stay
pub returned_other : (x : ℕ → ℕ) (z : ℕ) (r : List ℕ) (p : ℕ) → p ≢ available_part → p ≢ displaced_part → at x (returns_to r) z p ≡ x p
unfolding returns_to
returned_other x z r p a d = go (is_confirmed r)
  where
    go : (t : Bool) → at x (pick t available_part displaced_part) z p ≡ x p
    go true = at_other x available_part z a
    go false = at_other x displaced_part z d

-- what is seen of a row that became r
pub word_of : {H h : ℕ} {q r : List ℕ} {w x : ℕ → ℕ} → q ≡ r → Seen H h r w x → (k : ℕ) → k < row_words → get_or q k 0 ≡ w k
word_of e s k lt = ap (λ (q : List ℕ). get_or q k 0) e ∙ s.field k lt

pub hour_of : {H h : ℕ} {q r : List ℕ} {w x : ℕ → ℕ} → q ≡ r → Seen H h r w x → (p : ℕ) → p < profiles → get_or q (hour_at H p h) 0 ≡ x p
hour_of {H} {h} e s p lt = ap (λ (q : List ℕ). get_or q (hour_at H p h) 0) e ∙ s.hour p lt
