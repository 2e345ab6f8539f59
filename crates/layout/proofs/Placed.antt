-- What a row in use of a formed ledger has.
use mathlib.Core.Path.{◌≡◌, sym, subst}
use mathlib.Core.Bool.{Bool, true, false}
use mathlib.Core.List.{List}
use Prim.Native.Nat.{ℕ, ◌+◌, ◌<◌, ◌≤◌}
use native.Mathlib.Omega.{arith}
use lib.Dec.{lit<}
use lib.ListN.{length}
use Rattle.rules.specs.Pick.{pick}
use Rattle.rules.specs.Numbers.{head_words, profiles, requested_part, granted_part, granted_given, RELINQUISH}
use Rattle.rules.specs.Layout.{rows, used, row_size, row, reqtype, start, related_row, has, span_hours, span, requested, granted, Sized}
use Rattle.rules.specs.Sound.{original}
use Rattle.rules.specs.Megawatts.{in_force}
use Rattle.rules.proofs.Types.{derived_least}
use Rattle.rules.proofs.Rows.{row_length, row_least}
use Rattle.rules.proofs.Seen.{Room}
use Rattle.rules.proofs.Spans.{Spanned, span_length as long}
use Rattle.rules.proofs.SoundFacts.{SoundWords, SoundRelation}
use Rattle.rules.proofs.Formed.{FormedHours, formed_sized, formed}
use Rattle.layout.specs.Bounds as Whole
use Rattle.layout.specs.Placed.{Placed}
use Rattle.layout.specs.SoundAt.{SoundAt}

module _ {l : List ℕ} {R H n : ℕ} (p : Placed l R H n) where
  pub sized : Sized l R H
  sized = subst (λ (x : ℕ). Sized l x H) (sym p.rows) (subst (λ (x : ℕ). Sized l (rows l) x) (sym p.hours) (formed_sized p.formed))

  pub in_rows : n < R
  in_rows = omega (arith, p.row, p.formed.head.used, p.rows)

  pub own_words : SoundWords H (row H l n)
  own_words = subst (λ (x : ℕ). SoundWords x (row x l n)) (sym p.hours) (p.formed.words n p.row)

  pub own_hours : FormedHours H (row H l n)
  own_hours = subst (λ (x : ℕ). FormedHours x (row x l n)) (sym p.hours) (p.formed.profiles n p.row)

  pub relation : SoundRelation H l n
  relation = subst (λ (x : ℕ). SoundRelation x l n) (sym p.hours) (p.formed.relations n p.row)

  pub own_length : length (row H l n) ≡ row_size H
  own_length = row_length sized in_rows

  pub type_three : original (reqtype (row H l n)) ≡ false → 3 ≤ reqtype (row H l n)
  type_three e = derived_least _ own_words.type_least e

  -- the row that it is related to comes before it, and is in use
  pub related_before : 3 ≤ reqtype (row H l n) → related_row H l n < n
  unfolding related_row
  related_before t = omega (arith, relation.up t)

  pub related_placed : 3 ≤ reqtype (row H l n) → Placed l R H (related_row H l n)
  related_placed t = record { formed = p.formed; rows = p.rows; hours = p.hours; row = omega (arith, related_before t, p.row) }

  pub related_in : 3 ≤ reqtype (row H l n) → related_row H l n < R
  related_in t = omega (arith, related_before t, in_rows)

  -- the redirect of a relinquish record is related to a row before it
  pub redirect_three : reqtype (row H l n) ≡ RELINQUISH → 3 ≤ reqtype (row H l (related_row H l n))
  redirect_three e = omega (arith, relation.redirect e)

  -- a profile of the span's length has room in every row
  pub span_fits : (v : List ℕ) → length v ≡ span_hours (row H l n) → start (row H l n) + length v ≤ H
  span_fits v e = omega (arith, e, own_words.starts, own_words.stops)

  pub room : (v : List ℕ) → length v ≡ span_hours (row H l n) → {m : ℕ} → m < R → Room H (start (row H l n)) v (row H l m)
  room v e lt = record { long = row_length sized lt; fits = span_fits v e }

  own_spanned : Spanned H (row H l n)
  own_spanned = record { long = own_length; starts = omega (arith, own_words.starts); stops = own_words.stops }

  pub span_length : (q : ℕ) → q < profiles → length (span H q (row H l n)) ≡ span_hours (row H l n)
  span_length q lt = long own_spanned q lt

  pub force_length : length (in_force H (row H l n)) ≡ span_hours (row H l n)
  unfolding in_force
  force_length = go (has granted_given (row H l n))
    where
      go : (b : Bool) → length (pick b (granted H (row H l n)) (requested H (row H l n))) ≡ span_hours (row H l n)
      go true = span_length granted_part (lit< tt)
      go false = span_length requested_part (lit< tt)

-- a row in use, as it is or as it is lent
pub spanned_as : {l r : List ℕ} {R H n : ℕ} → Placed l R H n → r ≡ row H l n → Whole.Spanned H r
spanned_as {l} {r} {R} {H} {n} p e =
    subst (λ (x : List ℕ). Whole.Spanned H x) (sym e)
    (record { long = own_length p; hours = (sized p).hours; starts = omega (arith, (own_words p).starts); stops = (own_words p).stops })

pub head_placed : {l : List ℕ} {R H n : ℕ} → Placed l R H n → head_words ≤ length l
head_placed {l} {R} {H} p = omega (arith, (sized p).long, row_least H R)

-- a row in use of a sound ledger
pub placed_at : {l : List ℕ} {R H : ℕ} → SoundAt l R H → {n : ℕ} → n < used l → Placed l R H n
placed_at s lt = record { formed = formed s.sound; rows = s.rows; hours = s.hours; row = lt }
