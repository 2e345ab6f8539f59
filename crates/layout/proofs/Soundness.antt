-- Laws behind the test of soundness.
use mathlib.Core.Path.{◌≡◌, refl, sym, subst}
use mathlib.Core.Bool.{Bool, true, false, ◌&&◌}
use mathlib.Core.List.{List}
use Prim.Native.Nat.{ℕ, ◌≤◌, ◌<◌}
use native.Mathlib.Omega.{arith}
use lib.Dec.{eqb}
use lib.ListN.{length}
use Rattle.rules.specs.Numbers.{head_words, most_hours}
use Rattle.rules.specs.Pick.{◌is_from◌to◌}
use Rattle.rules.specs.Layout.{Sized, rows, hours, row_of, row_size, row, reqtype, related, start, stop, related_row}
use Rattle.rules.specs.Sound.{sound, original, upward, relates, inside, sound_head, sound_words, sound_related}
use Rattle.rules.proofs.Rows.{row_least}
use Rattle.words.proofs.Laws.{and_left}
use Rattle.rules.proofs.SoundFacts.{SoundHead, head_sized, head_facts, words_facts}
use Rattle.layout.specs.Bounds.{Spanned}

refuted : (b : Bool) → (b ≡ true → ⊥) → false ≡ b
refuted true h = absurd (h refl)
refuted false h = refl

-- a slice that is shorter than a head
pub short_head : (l : List ℕ) → length l < head_words → false ≡ sound_head l
short_head l lt = refuted (sound_head l) (λ e. omega (arith, lt, (head_facts l e).long, row_least (hours l) (rows l)))

-- a sound ledger has a sound head
pub head_of_sound : (l : List ℕ) → sound l ≡ true → sound_head l ≡ true
unfolding sound
head_of_sound l e = and_left _ _ e

-- a sound head's ledger has the size that the head says
pub head_sized_at : {l : List ℕ} {R H : ℕ} → SoundHead l → R ≡ rows l → H ≡ hours l → Sized l R H
head_sized_at {l} {R} {H} k r h =
    subst (λ (x : ℕ). Sized l x H) (sym r) (subst (λ (x : ℕ). Sized l (rows l) x) (sym h) (head_sized k))

-- a row whose words are sound has its span in its hours
pub spanned : (H : ℕ) (r : List ℕ) → length r ≡ row_size H → H ≤ most_hours → sound_words H r ≡ true → Spanned H r
spanned H r long most e =
    let w = words_facts H r e in
    record { long = long; hours = most; starts = w.starts; stops = w.stops }

-- row n, which is r: an original; related to no earlier row; related to the row above
module _ (H : ℕ) (l : List ℕ) (n : ℕ) (r : List ℕ) (is : r ≡ row H l n) where
  pub related_none : original (reqtype r) ≡ true → eqb (related r) 0 ≡ sound_related H l n
  unfolding sound_related
  related_none o = simp (sym is, o)

  module _ (o : original (reqtype r) ≡ false) where
    pub related_loose : (related r is_from 1 to n) ≡ false → false ≡ sound_related H l n
    unfolding sound_related upward
    related_loose u = simp (sym is, o, u)

    pub related_linked : (related r is_from 1 to n) ≡ true → (k : ℕ) → k ≡ row_of (related r) → (above : List ℕ) → above ≡ row H l k
        → (relates (reqtype r) (reqtype above) && inside (start r) (stop r) above) ≡ sound_related H l n
    unfolding sound_related upward related_row
    related_linked u k e above a = simp (a, e, sym is, o, u)
