-- Sums against what is posted for a path.
use mathlib.Core.Path.{◌≡◌, ap, ◌∙◌}
use mathlib.Core.Bool.{not}
use mathlib.Core.List.{List}
use Prim.Native.Nat.{ℕ, ◌+◌, ◌-◌, ◌*◌, ◌≤◌, ◌<◌}
use native.Mathlib.Nat.{mul-le-mul_right, suc-mul}
use native.Mathlib.Omega.{arith}
use lib.Dec.{leb}
use lib.ListN.{length, get_or}
use Rattle.words.specs.Lists.{part, all_below, covered}
use Rattle.words.proofs.Laws.{all_cong, part_at}
use Rattle.rules.specs.Numbers.{most_path}
use Rattle.rules.specs.Paths.{posting_at, posted_in}
use Rattle.rules.proofs.OverPaths.{exceeds}
use Rattle.words.specs.Sums.{Summed}
use Rattle.paths.specs.Exceeding.{Postings, KnownPath}

-- the hours of a path lie in the postings
pub path_fits : (H : ℕ) {x : ℕ} → KnownPath x → (x - 1) * H + H ≤ most_path * H
path_fits H {x} p = let lt : x - 1 < most_path = omega (arith, p.least, p.most) in omega (arith, mul-le-mul_right H lt, suc-mul (x - 1) H)

-- sums of uses, and a list of what is posted in each hour
pub exceeds_by : (H : ℕ) (ps : List ℕ) (uses : ℕ → ℕ → ℕ) (x : ℕ) {sums : List ℕ} (own : List ℕ) → Summed H (λ h. uses x h) sums → ((k : ℕ) → k < H → get_or own k 0 ≡ posted_in H ps x k) → not (covered sums own) ≡ exceeds H ps uses x
unfolding covered exceeds
exceeds_by H ps uses x {sums} own s is =
    ap not
    (ap (λ (n : ℕ). all_below n (λ k. leb (get_or sums k 0) (get_or own k 0))) s.long
    ∙ all_cong (λ k. leb (get_or sums k 0) (get_or own k 0)) (λ k. leb (uses x k) (posted_in H ps x k)) H
    (λ k lt. ap (λ (u : ℕ). leb u (get_or own k 0)) (s.each k lt) ∙ ap (λ (v : ℕ). leb (uses x k) v) (is k lt)))

-- the path's part of the postings
part_each : (H : ℕ) (ps : List ℕ) (x : ℕ) → posting_at H x 0 + H ≤ length ps → (k : ℕ) → k < H → get_or (part ps (posting_at H x 0) H) k 0 ≡ posted_in H ps x k
unfolding posted_in posting_at
part_each H ps x fits k lt =
    let e : (x - 1) * H + 0 + k ≡ (x - 1) * H + k = omega arith in
    part_at ps ((x - 1) * H + 0) H fits k lt ∙ ap (λ (j : ℕ). get_or ps j 0) e

module _ {H : ℕ} {ps : List ℕ} {x : ℕ} (p : Postings H ps) (path : KnownPath x) where
  pub posted_fits : posting_at H x 0 + H ≤ length ps
  unfolding posting_at
  posted_fits = omega (arith, path_fits H path, p.long)

  pub posted_each : (k : ℕ) → k < H → get_or (part ps (posting_at H x 0) H) k 0 ≡ posted_in H ps x k
  posted_each = part_each H ps x posted_fits
