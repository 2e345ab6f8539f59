-- When writing is refused and when it is accepted. Assumes nothing.
use mathlib.Core.Path.{◌≡◌, refl, sym, ap}
use mathlib.Core.Bool.{Bool, true, false, not}
use mathlib.Core.List.{List}
use Prim.Native.Nat.{ℕ, ◌≤◌, ◌<◌}
use native.Mathlib.Omega.{arith}
use borrow.Author.Tests.{ltb-false, leb-false, eqb-true, lt-ltb, le-ltb, le-leb, lt-leb, eq-eqb, ne_eqb, not-false}
use lib.Dec.{eqb, ltb, leb}
use lib.ListN.{length}
use Rattle.words.specs.Pick.{◌gives◌else◌}
use Rattle.stamp.specs.Stamp.{write_number, written, stamp_of, offset, stamp_length, all_seconds, zone_count, not_written}
use Rattle.stamp.proofs.Outcomes.{not_written_lem}
use Rattle.stamp.proofs.Zones.{code_below}
use Rattle.stamp.proofs.Picks.{hit, skip}

-- a check that does not refuse is passed
passed : (t : Bool) (n : ℕ) → (t gives not_written else n) ≡ 0 → (t ≡ false) × (n ≡ 0)
passed true n h = absurd (omega arith)
passed false n h = (refl, h)

-- a second that is written
pub record Writable (bs : List ℕ) (s z : ℕ) : Type 0 where
  pub early : s < all_seconds
  pub zones : z < zone_count
  pub late : offset z ≤ s
  pub long : length bs ≡ stamp_length

module _ (bs : List ℕ) (s z : ℕ) where
  -- on a refusal nothing is written
  pub unwritten : write_number bs s z ≡ not_written → written bs s z ≡ bs
  unfolding written
  unwritten h = sym (skip (eqb (write_number bs s z) 0) bs (stamp_of s z) bs (ap (λ (n : ℕ). eqb n 0) h) refl)

  pub refuses_second : all_seconds ≤ s → write_number bs s z ≡ not_written
  unfolding write_number
  refuses_second h = simp (le-leb _ _ h)

  pub refuses_zone : s < all_seconds → zone_count ≤ z → write_number bs s z ≡ not_written
  unfolding write_number
  refuses_zone g h = simp (lt-leb _ _ g, le-leb _ _ h)

  pub refuses_early : s < all_seconds → z < zone_count → s < offset z → write_number bs s z ≡ not_written
  unfolding write_number
  refuses_early g h k = simp (lt-leb _ _ g, lt-leb _ _ h, lt-ltb _ _ k)

  pub refuses_length : s < all_seconds → z < zone_count → offset z ≤ s → (length bs ≡ stamp_length → ⊥) → write_number bs s z ≡ not_written
  unfolding write_number
  refuses_length g h k n = simp (lt-leb _ _ g, lt-leb _ _ h, le-ltb _ _ k, ne_eqb _ _ n)

  pub writes : Writable bs s z → write_number bs s z ≡ 0
  unfolding write_number
  writes w = simp (lt-leb _ _ w.early, lt-leb _ _ w.zones, le-ltb _ _ w.late, eq-eqb _ _ w.long)

  pub stamped : Writable bs s z → stamp_of s z ≡ written bs s z
  unfolding written
  stamped w = hit (eqb (write_number bs s z) 0) (stamp_of s z) (stamp_of s z) bs (eq-eqb _ _ (writes w)) refl

  pub is_writable : write_number bs s z ≡ 0 → Writable bs s z
  unfolding write_number
  is_writable h =
      let last : ℕ = not (eqb (length bs) stamp_length) gives not_written else 0 in
      let third : ℕ = ltb s (offset z) gives not_written else last in
      let second : ℕ = leb zone_count z gives not_written else third in
      let p : (leb all_seconds s ≡ false) × (second ≡ 0) = passed (leb all_seconds s) second h in
      let q : (leb zone_count z ≡ false) × (third ≡ 0) = passed (leb zone_count z) third p.1 in
      let r : (ltb s (offset z) ≡ false) × (last ≡ 0) = passed (ltb s (offset z)) last q.1 in
      record {
        early = leb-false _ _ p.0;
        zones = leb-false _ _ q.0;
        late = ltb-false _ _ r.0;
        long = eqb-true _ _ (not-false _ (passed (not (eqb (length bs) stamp_length)) 0 r.1).0);
      }

-- for the code's returns
pub ruleset writings = (unwritten, refuses_second, refuses_zone, refuses_early, refuses_length, writes, stamped, not_written_lem, code_below)
