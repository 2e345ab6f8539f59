-- Reading and writing are inverse to each other: the two theorems are at the end. Assumes nothing.
use mathlib.Core.Path.{◌≡◌, refl, sym, ap, subst, ◌∙◌}
use mathlib.Core.Bool.{true}
use mathlib.Core.List.{List, [], ◌∷◌}
use Prim.Native.Nat.{ℕ, zero, suc, ◌-◌, ◌/◌, ◌%◌, ◌≤◌, ◌<◌}
use native.Mathlib.Omega.{arith}
use native.Mathlib.Nat.{not-suc-le-zero, le_of_suc-le-suc}
use borrow.Author.Tests.{ltb-true}
use lib.Dec.{ltb}
use lib.ListN.{length, get_or}
use Rattle.stamp.specs.Stamp.{fields_of, bytes_of, fields_at, local_second, second_of, offset, in_range, reading, stamp_zone, stamp_of, write_number, written, stamp_length, all_seconds, zone_of, zone_letters, letters, zone_count, Fields, Reading}
use Rattle.stamp.specs.Steps.{Ranged, Printable}
use Rattle.stamp.specs.RoundTrips.{are_bytes, WrittenIsRead, ReadIsWritten}
use Rattle.stamp.proofs.Picks.{and_left, and_right}
use Rattle.stamp.proofs.Lists.{spelled, spelled_is}
use Rattle.stamp.proofs.Digits.{digits_read, digits_written, zone_read, zone_written}
use Rattle.stamp.proofs.Ranges.{ranged, in_range_lem}
use Rattle.stamp.proofs.Dates.{printable, at_ranged, second_back, fields_back}
use Rattle.stamp.proofs.Readings.{Read, accepts, is_read}
use Rattle.stamp.proofs.Writings.{Writable, writes, stamped, is_writable}

byte_at : (bs : List ℕ) → are_bytes bs ≡ true → (k : ℕ) → k < length bs → get_or bs k 0 < 256
unfolding are_bytes
byte_at [] t k h = absurd (not-suc-le-zero h)
byte_at (b ∷ bs) t zero h = ltb-true b 256 (and_left (ltb b 256) (are_bytes bs) t)
byte_at (b ∷ bs) t (suc k) h = byte_at bs (and_right (ltb b 256) (are_bytes bs) t) k (le_of_suc-le-suc h)

-- numbers that are written are read back
fields_read : {f : Fields} → Printable f → fields_of (bytes_of f) ≡ f
unfolding fields_of bytes_of
fields_read {f} p = λ i. record {
  century = digits_read f.century p.hundreds i;
  year = digits_read f.year p.years i;
  month = digits_read f.month p.months i;
  day = digits_read f.day p.days i;
  hour = digits_read f.hour p.hours i;
  minute = digits_read f.minute p.minutes i;
  second = digits_read f.second p.seconds i;
  zone = zone_read f.zone p.zones i;
}

-- numbers that are read are written back
module _ (bs : List ℕ) (long : length bs ≡ stamp_length) (bytes : are_bytes bs ≡ true) (p : Printable (fields_of bs)) where
  zone_at_end : (zone_letters (stamp_zone bs) / 256 ≡ get_or bs 14 0) × (zone_letters (stamp_zone bs) % 256 ≡ get_or bs 15 0)
  unfolding fields_of
  zone_at_end =
      let w : ℕ = letters (get_or bs 14 0) (get_or bs 15 0) in
      let e : zone_letters (zone_of w) ≡ w = zone_written w p.zones in
      let b : get_or bs 15 0 < 256 = byte_at bs bytes 15 (omega arith) in
      (omega arith, omega arith)

  bytes_written : bytes_of (fields_of bs) ≡ bs
  unfolding fields_of bytes_of
  bytes_written =
      let c = digits_written (get_or bs 0 0) (get_or bs 1 0) p.hundreds in
      let y = digits_written (get_or bs 2 0) (get_or bs 3 0) p.years in
      let m = digits_written (get_or bs 4 0) (get_or bs 5 0) p.months in
      let d = digits_written (get_or bs 6 0) (get_or bs 7 0) p.days in
      let h = digits_written (get_or bs 8 0) (get_or bs 9 0) p.hours in
      let n = digits_written (get_or bs 10 0) (get_or bs 11 0) p.minutes in
      let s = digits_written (get_or bs 12 0) (get_or bs 13 0) p.seconds in
      let z = zone_at_end in
      let e : bytes_of (fields_of bs) ≡ spelled 0 stamp_length bs = λ i.
      c.0 i ∷ c.1 i ∷ y.0 i ∷ y.1 i ∷ m.0 i ∷ m.1 i ∷ d.0 i ∷ d.1 i
      ∷ h.0 i ∷ h.1 i ∷ n.0 i ∷ n.1 i ∷ s.0 i ∷ s.1 i ∷ z.0 i ∷ z.1 i ∷ []
      in
      e ∙ spelled_is stamp_length 0 bs long

-- a second and its stamp
module _ (s z : ℕ) (early : s < all_seconds) (late : offset z ≤ s) (zones : z < zone_count) where
  its_fields : fields_of (stamp_of s z) ≡ fields_at (s - offset z) z
  unfolding stamp_of
  its_fields = fields_read (printable (at_ranged (s - offset z) z (omega arith) zones))

  its_second : second_of (fields_of (stamp_of s z)) ≡ s
  unfolding second_of fields_at
  its_second = ap second_of its_fields ∙ omega (arith, second_back (s - offset z) z (omega arith))

  its_reading : reading (stamp_of s z) ≡ record { number = 0; second = s }
  unfolding stamp_of bytes_of
  its_reading =
      let ok : in_range (fields_of (stamp_of s z)) ≡ true = ap in_range its_fields ∙ in_range_lem (at_ranged (s - offset z) z (omega arith) zones) in
      let r : Read (stamp_of s z) = record { long = refl; fields = ok; early = omega (arith, its_second) } in
      sym (accepts (stamp_of s z) r) ∙ ap (λ (t : ℕ). record { number = 0; second = t }) its_second

-- The two theorems.
pub written_is_read : WrittenIsRead
written_is_read slice s z h =
    let w : Writable slice s z = is_writable slice s z h in
    ap reading (sym (stamped slice s z w)) ∙ its_reading s z w.early w.late w.zones

pub read_is_written : ReadIsWritten
unfolding second_of stamp_of fields_of
read_is_written stamp slice bytes h long =
    let r : Read stamp = is_read stamp h in
    let f : Fields = fields_of stamp in
    let n : Ranged f = ranged f r.fields in
    let e : (reading stamp).second ≡ second_of f = ap (λ (a : Reading). a.second) (sym (accepts stamp r)) in
    let w : Writable slice (second_of f) f.zone = record { early = r.early; zones = n.zones; late = omega arith; long = long } in
    let l : second_of f - offset f.zone ≡ local_second f = omega arith in
    subst (λ (t : ℕ). (write_number slice t (stamp_zone stamp) ≡ 0) × (written slice t (stamp_zone stamp) ≡ stamp)) (sym e) (
      writes slice (second_of f) f.zone w,
      sym (stamped slice (second_of f) f.zone w)
          ∙ ap (λ (t : ℕ). bytes_of (fields_at t f.zone)) l
          ∙ ap bytes_of (fields_back n)
          ∙ bytes_written stamp r.long bytes (printable n),
    )
