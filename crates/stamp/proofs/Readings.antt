-- When a reading is refused and when it is accepted. Assumes nothing.
use mathlib.Core.Path.{◌≡◌, refl, ap, ◌∙◌}
use mathlib.Core.Bool.{Bool, true, false, ◌&&◌}
use mathlib.Core.List.{List}
use Prim.Native.Nat.{ℕ, ◌≤◌, ◌<◌}
use native.Mathlib.Omega.{arith}
use borrow.Author.Tests.{ltb-true, eqb-true, lt-ltb, le-ltb, eq-eqb, ne_eqb}
use lib.Dec.{eqb, ltb}
use lib.ListN.{length}
use Rattle.stamp.specs.Stamp.{is_stamp, in_range, fields_of, second_of, reading, refusal, stamp_length, all_seconds, Reading}
use Rattle.stamp.proofs.Outcomes.{not_read_lem}
use Rattle.stamp.proofs.Ranges.{in_range_lem}
use Rattle.stamp.proofs.Picks.{by_test, hit, skip, both, no_left, no_right, and_left, and_right}

abbrev pub accepted : List ℕ → Reading
accepted bs = record { number = 0; second = second_of (fields_of bs) }

-- a list that is read: a stamp, and not past the last second
pub record Read (bs : List ℕ) : Type 0 where
  pub long : length bs ≡ stamp_length
  pub fields : in_range (fields_of bs) ≡ true
  pub early : second_of (fields_of bs) < all_seconds

module _ (bs : List ℕ) where
  pub refuses_length : (length bs ≡ stamp_length → ⊥) → refusal ≡ reading bs
  unfolding reading is_stamp
  refuses_length h =
      skip (is_stamp bs && ltb (second_of (fields_of bs)) all_seconds) refusal (accepted bs) refusal
      (no_left (is_stamp bs) (ltb (second_of (fields_of bs)) all_seconds) (no_left (eqb (length bs) stamp_length) (in_range (fields_of bs)) (ne_eqb _ _ h))) refl

  pub refuses_range : in_range (fields_of bs) ≡ false → refusal ≡ reading bs
  unfolding reading is_stamp
  refuses_range h =
      skip (is_stamp bs && ltb (second_of (fields_of bs)) all_seconds) refusal (accepted bs) refusal
      (no_left (is_stamp bs) (ltb (second_of (fields_of bs)) all_seconds) (no_right (eqb (length bs) stamp_length) (in_range (fields_of bs)) h)) refl

  pub refuses_late : all_seconds ≤ second_of (fields_of bs) → refusal ≡ reading bs
  unfolding reading
  refuses_late h =
      skip (is_stamp bs && ltb (second_of (fields_of bs)) all_seconds) refusal (accepted bs) refusal
      (no_right (is_stamp bs) (ltb (second_of (fields_of bs)) all_seconds) (le-ltb _ _ h)) refl

  pub accepts : Read bs → accepted bs ≡ reading bs
  unfolding reading is_stamp
  accepts r =
      hit (is_stamp bs && ltb (second_of (fields_of bs)) all_seconds) (accepted bs) (accepted bs) refusal
      (both (is_stamp bs) (ltb (second_of (fields_of bs)) all_seconds) (both (eqb (length bs) stamp_length) (in_range (fields_of bs)) (eq-eqb _ _ r.long) r.fields) (lt-ltb _ _ r.early)) refl

  -- what gives 0 is read
  pub is_read : (reading bs).number ≡ 0 → Read bs
  unfolding reading is_stamp
  is_read h =
      let stamped : Bool = is_stamp bs in
      let timely : Bool = ltb (second_of (fields_of bs)) all_seconds in
      by_test (stamped && timely)
      (λ p. record {
        long = eqb-true _ _ (and_left (eqb (length bs) stamp_length) (in_range (fields_of bs)) (and_left stamped timely p));
        fields = and_right (eqb (length bs) stamp_length) (in_range (fields_of bs)) (and_left stamped timely p);
        early = ltb-true _ _ (and_right stamped timely p);
      })
      (λ p.
      let e : 18 ≡ 0 = ap (λ (r : Reading). r.number) (skip (stamped && timely) refusal (accepted bs) refusal p refl) ∙ h in
      absurd (omega arith))

-- for the code's returns
pub ruleset readings = (refuses_length, refuses_range, refuses_late, accepts, in_range_lem, not_read_lem)
