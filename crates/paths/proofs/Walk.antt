-- The walk over the used rows: its invariant, and that the sums fit a word.
use mathlib.Core.Path.{◌≡◌, sym, ap, ◌∙◌}
use mathlib.Core.Bool.{Bool, true, false}
use mathlib.Core.List.{List}
use Prim.Native.Nat.{ℕ, ◌+◌, ◌≤◌, ◌<◌, zero-le}
use native.Mathlib.Nat.{mul-le-mul_right}
use native.Mathlib.Omega.{arith}
use lib.Dec.{lit<}
use lib.ListN.{length, get_or}
use Rattle.words.specs.Sums.{Adds, Summed}
use Rattle.words.proofs.Sums.{adds_as, adds_none}
use Rattle.words.specs.Lists.{sum_below, noughts}
use Rattle.words.proofs.Laws.{sum_none, sum_more, sum_bound, noughts_length, noughts_at}
use Rattle.rules.specs.Pick.{pick}
use Rattle.rules.specs.Numbers.{most_megawatts, available_part}
use Rattle.rules.specs.Layout.{used, row}
use Rattle.rules.proofs.Picks.{hit}
use Rattle.rules.proofs.Bounded.{standing_most}
use Rattle.rules.proofs.After.{counts_by}
use Rattle.layout.specs.SoundAt.{SoundAt}
use Rattle.paths.specs.declared.change.Change.{Change}
use Rattle.paths.specs.declared.change.Held.{Held}
use Rattle.paths.specs.declared.change.Held.TheVariants.{Same, Less, More, Whole, Nought}
use Rattle.paths.specs.Changes.{confirmed_after, held_then, held_by, held_in, added_by, use_by, most_added, Changing, Sums}
use Rattle.paths.proofs.Hourly.{hours_at}

-- ---- what row m adds, by whether it counts
module _ (H : ℕ) (l : List ℕ) (c : Change) (x m : ℕ) {b : Bool} (e : b ≡ counts_by H l (confirmed_after H l c.rows) x m) where
  pub counted : b ≡ true → (h : ℕ) → held_in H (row H l m) c m h ≡ added_by H l c x m h
  unfolding added_by
  counted t h = hit _ _ _ (sym e ∙ t)

  pub uncounted : b ≡ false → (h : ℕ) → added_by H l c x m h ≡ 0
  unfolding added_by
  uncounted f h = ap (λ (d : Bool). pick d (held_in H (row H l m) c m h) 0) (sym e ∙ f)

pub ruleset row_added = (counted, uncounted, adds_as, adds_none)

pick_most : (b : Bool) {u v k : ℕ} → u ≤ k → v ≤ k → pick b u v ≤ k
pick_most true p q = p
pick_most false p q = q

held_most : (d : Held) {a y k : ℕ} → a ≤ k → y ≤ k → held_by d a y ≤ k + k
held_most Same p q = omega (arith, p)
held_most Less p q = omega (arith, p)
held_most More p q = omega (arith, p, q)
held_most Whole p q = omega (arith, q)
held_most Nought p q = zero-le

module _ {l : List ℕ} {R H : ℕ} (s : SoundAt l R H) {c : Change} (g : Changing l H c) where
  added_most : (x : ℕ) {m h : ℕ} → m < used l → h < H → added_by H l c x m h ≤ most_added
  unfolding added_by held_in
  added_most x {m} {h} lt hlt =
      let a = (hours_at s lt).most available_part h (lit< tt) hlt in
      let y = standing_most most_megawatts c.start c.mw.now h g.most in
      pick_most (counts_by H l (confirmed_after H l c.rows) x m) (held_most (held_then c.rows m) a y) zero-le

-- ---- after m rows
pub record Walking (l : List ℕ) (H : ℕ) (c : Change) (x : ℕ) (sums : List ℕ) (m : ℕ) : Type 0 where
  pub below : m ≤ used l
  pub long : length sums ≡ H
  pub each : (h : ℕ) → h < H → get_or sums h 0 ≡ sum_below m (λ k. added_by H l c x k h)

pub walking_start : (l : List ℕ) (H : ℕ) (c : Change) (x : ℕ) (sums : List ℕ) → sums ≡ noughts H → Walking l H c x sums 0
walking_start l H c x sums e = record {
  below = zero-le;
  long = ap length e ∙ noughts_length H;
  each = λ h lt. ap (λ (v : List ℕ). get_or v h 0) e ∙ noughts_at H h ∙ sym (sum_none (λ k. added_by H l c x k h));
}

module _ {l : List ℕ} {H : ℕ} {c : Change} {x : ℕ} {sums : List ℕ} {m : ℕ} (i : Walking l H c x sums m) where
  pub walking_turn : m < used l → {next : List ℕ} → Adds (λ h. added_by H l c x m h) sums next → Walking l H c x next (m + 1)
  walking_turn lt a = record {
    below = omega arith;
    long = a.long ∙ i.long;
    each = λ h hlt. a.each h (omega (arith, i.long, hlt)) ∙ ap (λ (k : ℕ). k + added_by H l c x m h) (i.each h hlt) ∙ sym (sum_more (λ k. added_by H l c x k h) m);
  }

  -- there is room for a row more: 1,024 rows of 200,000 fit a word
  pub walking_sums : {R : ℕ} → SoundAt l R H → Changing l H c → m < used l → Sums H sums
  walking_sums s g lt = record {
    long = i.long;
    most = λ h hlt.
        let few : m ≤ 1023 = omega (arith, lt, s.sound.head.used, s.sound.head.rows_most) in
        omega (arith, i.each h hlt, sum_bound m most_added (λ k. added_by H l c x k h) (λ k klt. added_most s g x (omega (arith, klt, lt)) hlt), mul-le-mul_right most_added few);
  }

  pub walking_done : used l ≤ m → Summed H (λ h. use_by H l c x h) sums
  unfolding use_by
  walking_done past =
      let e : m ≡ used l = omega (arith, past, i.below) in
      record { long = i.long; each = λ h hlt. i.each h hlt ∙ ap (λ (k : ℕ). sum_below k (λ j. added_by H l c x j h)) e }
