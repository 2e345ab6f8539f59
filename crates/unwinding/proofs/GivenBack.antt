-- What was given back to a row, added up over the rows; 15 by the sums.
use mathlib.Core.Path.{◌≡◌, sym, ap, ◌∙◌}
use mathlib.Core.Bool.{Bool, ◌&&◌}
use mathlib.Core.List.{List}
use Prim.Native.Nat.{ℕ, ◌+◌, ◌*◌, ◌≤◌, ◌<◌, zero-le}
use native.Mathlib.Nat.{mul-le-mul_right}
use native.Mathlib.Omega.{arith}
use lib.Dec.{eqb, lit<}
use lib.ListN.{length, get_or}
use Rattle.words.specs.Lists.{word_at, all_below, sum_below, noughts}
use Rattle.words.proofs.Laws.{all_cong, sum_none, sum_more, sum_bound, noughts_length, noughts_at}
use Rattle.rules.specs.Numbers.{most_rows, most_megawatts, granted_part, available_part}
use Rattle.rules.specs.Layout.{used, row, hour_at}
use Rattle.rules.proofs.Unwound.{gives_to, gave_to, given_back, whole_again}
use Rattle.layout.specs.SoundAt.{SoundAt}
use Rattle.words.specs.Sums.{Adds, Summed}
use Rattle.opening.specs.Shares.{Sums}
use Rattle.opening.proofs.Added.{few, word_most}
use Rattle.unwinding.proofs.Steps.{pick_most}

module _ {l : List ℕ} {R H : ℕ} (s : SoundAt l R H) where
  gave_most : (gone : ℕ → Bool) (m : ℕ) {j h : ℕ} → j < used l → h < H → gave_to H l gone m h j ≤ most_megawatts
  gave_most gone m {j} lt hlt = pick_most (gone j && gives_to H l j m) (word_most s lt hlt granted_part (lit< tt)) zero-le

-- ---- after j rows
pub record Backing (H : ℕ) (l : List ℕ) (gone : ℕ → Bool) (m : ℕ) (sums : List ℕ) (j : ℕ) : Type 0 where
  pub below : j ≤ used l
  pub long : length sums ≡ H
  pub each : (h : ℕ) → h < H → get_or sums h 0 ≡ sum_below j (λ k. gave_to H l gone m h k)

pub backing_start : (H : ℕ) (l : List ℕ) (gone : ℕ → Bool) (m : ℕ) {sums : List ℕ}
    → sums ≡ noughts H → Backing H l gone m sums 0
backing_start H l gone m e = record {
  below = zero-le;
  long = ap length e ∙ noughts_length H;
  each = λ h lt.
      ap (λ (v : List ℕ). get_or v h 0) e
      ∙ noughts_at H h
      ∙ sym (sum_none (λ k. gave_to H l gone m h k));
}

module _ {H : ℕ} {l : List ℕ} {gone : ℕ → Bool} {m : ℕ} {sums : List ℕ} {j : ℕ} (i : Backing H l gone m sums j) where
  pub backing_turn : j < used l → {next : List ℕ} → Adds (λ h. gave_to H l gone m h j) sums next
      → Backing H l gone m next (j + 1)
  backing_turn lt a = record {
    below = omega (arith, lt);
    long = a.long ∙ i.long;
    each = λ h hlt.
        a.each h (omega (arith, i.long, hlt))
        ∙ ap (λ (k : ℕ). k + gave_to H l gone m h j) (i.each h hlt)
        ∙ sym (sum_more (λ k. gave_to H l gone m h k) j);
  }

  -- 1,024 rows of 100,000
  pub backing_sums : {R : ℕ} → SoundAt l R H → Sums H (most_rows * most_megawatts) sums
  backing_sums s = record {
    long = i.long;
    most = λ h hlt.
        let le : j ≤ most_rows = omega (arith, i.below, few s) in
        omega (
          arith,
          i.each h hlt,
          sum_bound j most_megawatts (λ k. gave_to H l gone m h k)
              (λ k klt. gave_most s gone m (omega (arith, klt, i.below)) hlt),
          mul-le-mul_right most_megawatts le,
        );
  }

  pub backing_done : used l ≤ j → Summed H (λ h. given_back H l gone m h) sums
  unfolding given_back
  backing_done past =
      let e : j ≡ used l = omega (arith, past, i.below) in
      record {
        long = i.long;
        each = λ h hlt. i.each h hlt ∙ ap (λ (k : ℕ). sum_below k (λ n. gave_to H l gone m h n)) e;
      }

-- ---- all rows
pub back_sums : {l : List ℕ} {R H : ℕ} → SoundAt l R H → (gone : ℕ → Bool) (m : ℕ) {sums : List ℕ}
    → Summed H (λ h. given_back H l gone m h) sums → Sums H (most_rows * most_megawatts) sums
unfolding given_back
back_sums {l} {R} {H} s gone m {sums} o =
    let i : Backing H l gone m sums (used l) =
    record { below = omega arith; long = o.long; each = λ h hlt. o.each h hlt } in
    backing_sums i s

-- 15: with available they are granted
pub whole_told : (H : ℕ) (l : List ℕ) (gone : ℕ → Bool) (n : ℕ) {one two : List ℕ} {b : Bool}
    → Summed H (λ h. given_back H l gone n h) one → Adds (λ h. word_at (row H l n) (hour_at H available_part h)) one two
    → b ≡ all_below H (λ h. eqb (word_at two h) (word_at (row H l n) (hour_at H granted_part h))) → b ≡ whole_again H l gone n
unfolding whole_again
whole_told H l gone n {one} {two} o a q =
    q
    ∙ all_cong _ _ H (λ h hlt.
    let e : word_at two h ≡ word_at (row H l n) (hour_at H available_part h) + given_back H l gone n h =
    omega (arith, o.each h hlt, a.each h (omega (arith, hlt, o.long))) in
    ap (λ (x : ℕ). eqb x (word_at (row H l n) (hour_at H granted_part h))) e)
