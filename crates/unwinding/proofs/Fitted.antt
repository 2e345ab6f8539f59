-- The last 1 of a row by sums: what came back to it, with what it holds, against what it may.
use mathlib.Core.Path.{◌≡◌, sym, ap, ◌∙◌}
use mathlib.Core.Bool.{Bool, true, false, not, ◌||◌}
use mathlib.Core.List.{List}
use Prim.Native.Nat.{ℕ, ◌+◌, ◌<◌}
use native.Mathlib.Omega.{arith}
use lib.Dec.{leb, lit<}
use lib.ListN.{length, get_or}
use Rattle.words.specs.Lists.{word_at, all_below, within}
use Rattle.words.proofs.Laws.{all_cong, every_below}
use Rattle.rules.specs.Pick.{pick}
use Rattle.rules.specs.Numbers.{most_megawatts, granted_part, available_part, displaced_part}
use Rattle.rules.specs.Layout.{used, row, hour_at, hours_of}
use Rattle.rules.specs.Moves.{is_confirmed}
use Rattle.rules.proofs.Unwound.{given_back, fits_in}
use Rattle.layout.specs.SoundAt.{SoundAt}
use Rattle.words.specs.Sums.{Adds, Summed}
use Rattle.opening.specs.Shares.{most_sum, Sums}
use Rattle.opening.proofs.Added.{hours_at, hours_long, word_most, sums_after}
use Rattle.unwinding.specs.Order.{all_fit}
use Rattle.unwinding.specs.Marks.{marked, Marks}
use Rattle.unwinding.specs.declared.rows.Rows.{Rows}
use Rattle.unwinding.proofs.Counted.{in_use}
use Rattle.unwinding.proofs.Marked.{marks_gone}
use Rattle.unwinding.proofs.GivenBack.{back_sums}

-- ---- granted of row n, as it is lent, against sums
module _ (l : Rows) {n : ℕ} (lt : n < l.used) {own : List ℕ}
    (is : own ≡ hours_of l.ledger.size.hours granted_part 0 l.ledger.size.hours (row l.ledger.size.hours l.ledger.words.now n))
    (sums : List ℕ) (long : length sums ≡ l.ledger.size.hours) where
  pub granted_long : length own ≡ length sums
  granted_long = ap length is ∙ hours_long l.ledger.sound_at n granted_part (in_use l lt) (lit< tt) ∙ sym long

  pub granted_lent : let H = l.ledger.size.hours in all_below (length sums) (λ h. leb (word_at sums h) (most_megawatts + word_at own h))
      ≡ all_below H (λ h. leb (word_at sums h) (most_megawatts + word_at (row H l.ledger.words.now n) (hour_at H granted_part h)))
  granted_lent =
      ap (λ (k : ℕ). all_below k (λ h. leb (word_at sums h) (most_megawatts + word_at own h))) long
      ∙ all_cong _ _ l.ledger.size.hours (λ h hlt.
      ap (λ (v : ℕ). leb (word_at sums h) (most_megawatts + v))
      (ap (λ (v : List ℕ). word_at v h) is ∙ hours_at l.ledger.sound_at n granted_part (in_use l lt) (lit< tt) h hlt))

module _ {l : List ℕ} {R H : ℕ} (s : SoundAt l R H) where
  -- ---- what came back to row p
  module _ (gone : ℕ → Bool) (p : ℕ) {one : List ℕ} (o : Summed H (λ h. given_back H l gone p h) one) where
    abbrev b : ℕ → ℕ
    b h = given_back H l gone p h

    abbrev w : ℕ → ℕ → ℕ
    w k h = word_at (row H l p) (hour_at H k h)

    -- with its displaced
    module _ {two : List ℕ} (d : Adds (λ h. word_at (row H l p) (hour_at H displaced_part h)) one two) where
      pub held_room : p < used l → Sums H most_sum two
      held_room lt =
          sums_after (omega arith) (λ h hlt. word_most s lt hlt displaced_part (lit< tt)) (back_sums s gone p o) d

      held_long : length two ≡ H
      held_long = d.long ∙ o.long

      held_at : (h : ℕ) → h < H → get_or two h 0 ≡ w displaced_part h + b h
      held_at h lt = omega (arith, o.each h lt, d.each h (omega (arith, lt, o.long)))

      -- it was not CONFIRMED, or it was
      open_at : is_confirmed (row H l p) ≡ false
          → (h : ℕ) → leb (w displaced_part h + b h) most_megawatts ≡ fits_in H l gone p h
      unfolding fits_in
      open_at c h =
          ap (λ (t : Bool). pick t
          (leb (w displaced_part h + w available_part h + b h) (most_megawatts + w granted_part h))
          (leb (w displaced_part h + b h) most_megawatts)) (sym c)

      confirmed_at : is_confirmed (row H l p) ≡ true → (h : ℕ)
          → leb (w displaced_part h + w available_part h + b h) (most_megawatts + w granted_part h) ≡ fits_in H l gone p h
      unfolding fits_in
      confirmed_at c h =
          ap (λ (t : Bool). pick t
          (leb (w displaced_part h + w available_part h + b h) (most_megawatts + w granted_part h))
          (leb (w displaced_part h + b h) most_megawatts)) (sym c)

      pub fits_open : is_confirmed (row H l p) ≡ false
          → within most_megawatts two ≡ all_below H (λ h. fits_in H l gone p h)
      unfolding within
      fits_open c =
          every_below (λ x. leb x most_megawatts) two
          ∙ ap (λ (k : ℕ). all_below k (λ h. leb (get_or two h 0) most_megawatts)) held_long
          ∙ all_cong _ _ H (λ h lt. ap (λ (v : ℕ). leb v most_megawatts) (held_at h lt) ∙ open_at c h)

      -- with its available as well
      module _ {three : List ℕ} (a : Adds (λ h. word_at (row H l p) (hour_at H available_part h)) two three) where
        all_held : (h : ℕ) → h < H → get_or three h 0 ≡ w displaced_part h + w available_part h + b h
        all_held h lt = omega (arith, held_at h lt, a.each h (omega (arith, lt, held_long)))

        pub fits_confirmed : is_confirmed (row H l p) ≡ true
            → all_below H (λ h. leb (word_at three h) (most_megawatts + word_at (row H l p) (hour_at H granted_part h)))
            ≡ all_below H (λ h. fits_in H l gone p h)
        fits_confirmed c =
            all_cong _ _ H (λ h lt.
            ap (λ (v : ℕ). leb v (most_megawatts + w granted_part h)) (all_held h lt) ∙ confirmed_at c h)

-- ---- all rows of the references are marked
pub fits_told : (H : ℕ) (l : List ℕ) {refs : List ℕ} {marks : List Bool} (late : ℕ → Bool) {u : ℕ}
    → u ≡ used l → Marks refs marks (length refs) → {b : Bool}
    → b ≡ all_below u (λ p. not (late p) || all_below H (λ h. fits_in H l (marked marks) p h))
    → b ≡ all_fit H l refs late
unfolding all_fit
fits_told H l {refs} {marks} late e m q =
    q
    ∙ ap (λ (k : ℕ). all_below k (λ p. not (late p) || all_below H (λ h. fits_in H l (marked marks) p h))) e
    ∙ ap (λ (g : ℕ → Bool). all_below (used l) (λ p. not (late p) || all_below H (λ h. fits_in H l g p h)))
    (marks_gone m)
