-- Writes in a row that keep its length and its lasting words: those that no action changes once the row is submitted.
use mathlib.Core.Path.{◌≡◌, refl, sym, ap, subst, ◌∙◌}
use mathlib.Core.Logic.{◌≢◌}
use mathlib.Core.Bool.{Bool, true, false, ◌||◌, not, true≢false}
use mathlib.Core.List.{List, [], ◌∷◌}
use Prim.Native.Nat.{ℕ, ◌+◌, ◌-◌, ◌*◌, ◌≤◌, ◌<◌}
use native.Mathlib.Omega.{arith}
use lib.Dec.{lit<}
use lib.ListN.{length, get_or, set, length-set}
use lib.Seq.{get_or-set_same, get_or-set_other}
use Rattle.words.specs.Lists.{zip2, noughts}
use Rattle.words.proofs.Laws.{noughts_length}
use Rattle.rules.specs.Pick.{when, ◌among◌}
use Rattle.rules.specs.Numbers.{row_words, profiles, requested_part, granted_part, available_part, displaced_part, reduced_part, granted_given, offer_given, countered, CONFIRMED, DISPLACED, ANNULLED}
use Rattle.rules.specs.Layout.{row_size, start, flags, has_flag, flagged, has, raise, set_status, hours_of, span_hours, available, set_hours, add_hours, less_hours, clear_hours}
use Rattle.rules.specs.Megawatts.{grant, take_from, returns_to, give_back, displaced_row, annulled_row, reduced_row}
use Rattle.rules.specs.Confirming.{held, emptied}
use Rattle.rules.specs.Checks.{profile, comes}
use Rattle.rules.specs.SellerStatus.{accepts, entered, offered}
use Rattle.rules.specs.CustomerStatus.{bidden}
use Rattle.rules.specs.declared.Action.{Action}
use Rattle.rules.proofs.Seen.{Room, set_length}
use Rattle.rules.proofs.Spans.{Spanned, span_length, raise_has, lower_kept}
use Rattle.rules.proofs.Writes.{returns_profile}
use Rattle.rules.proofs.Effects.{written_field, zipped}

-- all words but status, flags, bid, offer and limit
abbrev pub lasting : ℕ → Bool
lasting k = not (k among (1 ∷ 7 ∷ 8 ∷ 9 ∷ 10 ∷ []))

-- row q is row r in its lasting words, and countered if that is
pub record Lasting (H : ℕ) (r q : List ℕ) : Type 0 where
  pub long : length q ≡ row_size H
  pub word : (k : ℕ) → k < row_words → lasting k ≡ true → get_or q k 0 ≡ get_or r k 0
  pub marked : has countered r ≡ true → has countered q ≡ true

pub lasting_self : {H : ℕ} {r : List ℕ} → length r ≡ row_size H → Lasting H r r
lasting_self e = record { long = e; word = λ k lt t. refl; marked = λ z. z }

pub lasting_then : {H : ℕ} {r q t : List ℕ} → Lasting H r q → Lasting H q t → Lasting H r t
lasting_then a b = record { long = b.long; word = λ k lt t. b.word k lt t ∙ a.word k lt t; marked = λ z. b.marked (a.marked z) }

pub lasting_when : {H : ℕ} {r : List ℕ} (t : Bool) (f : List ℕ → List ℕ) → length r ≡ row_size H → (t ≡ true → Lasting H r (f r)) → Lasting H r (when t f r)
lasting_when true f e q = q refl
lasting_when false f e q = lasting_self e

-- ---- the two writes that all others are made of
module _ {H : ℕ} {r : List ℕ} (e : length r ≡ row_size H) where
  lasting_by : (k v : ℕ) → lasting k ≡ false → (has countered r ≡ true → has countered (set r k v) ≡ true) → Lasting H r (set r k v)
  lasting_by k v t marks = record {
    long = length-set r k v ∙ e;
    word = λ i lt u. get_or-set_other r k i v 0 (λ z. true≢false (sym u ∙ ap (λ (j : ℕ). lasting j) z ∙ t));
    marked = marks;
  }

  lasting_set : (k v : ℕ) → lasting k ≡ false → 7 ≢ k → Lasting H r (set r k v)
  lasting_set k v t ne = lasting_by k v t (λ z. ap (has_flag countered) (get_or-set_other r k 7 v 0 ne) ∙ z)

  pub lasting_hours : (p s : ℕ) (v : List ℕ) → p < profiles → s + length v ≤ H → Lasting H r (set_hours H p s v r)
  lasting_hours p s v plt fits =
      let m : Room H s v r = record { long = e; fits = fits } in
      record { long = set_length m plt; word = λ i lt u. written_field m plt i lt; marked = λ z. ap (has_flag countered) (written_field m plt 7 (lit< tt)) ∙ z }

-- ---- the rules' writes
zip_fits : (H : ℕ) (r : List ℕ) (p s : ℕ) (v : List ℕ) → length r ≡ row_size H → p < profiles → s + length v ≤ H → (f : ℕ → ℕ → ℕ) → s + length (zip2 f (hours_of H p s (length v) r) v) ≤ H
zip_fits H r p s v e plt fits f = omega (arith, zipped {s = s} {v = v} {r = r} (record { long = e; fits = fits }) plt f)

module _ {H : ℕ} {r : List ℕ} (e : length r ≡ row_size H) where
  pub lasting_status : (v : ℕ) → Lasting H r (set_status v r)
  lasting_status v = lasting_set e 1 v refl (λ z. omega (arith, z))

  -- a flag below countered
  pub lasting_raise : (flag k : ℕ) → 0 < flag → flag * 2 * k ≡ countered → Lasting H r (raise flag r)
  lasting_raise flag k pos is =
      lasting_by e 7 (flagged flag (flags r)) refl
      (λ z. ap (has_flag countered) (get_or-set_same r 7 (flagged flag (flags r)) 0 (omega (arith, e))) ∙ subst (λ (g : ℕ). has_flag g (flagged flag (flags r)) ≡ has_flag g (flags r)) is (lower_kept flag k (flags r) pos) ∙ z)

  lasting_countered : Lasting H r (raise countered r)
  lasting_countered = lasting_by e 7 (flagged countered (flags r)) refl (λ z. raise_has countered r (lit< tt) (omega (arith, e)))

  pub lasting_clear : (p s n : ℕ) → p < profiles → s + n ≤ H → Lasting H r (clear_hours H p s n r)
  unfolding clear_hours
  lasting_clear p s n plt fits = lasting_hours e p s (noughts n) plt (omega (arith, noughts_length n))

  module _ (p s : ℕ) (v : List ℕ) (plt : p < profiles) (fits : s + length v ≤ H) where
    pub lasting_add : Lasting H r (add_hours H p s v r)
    unfolding add_hours
    lasting_add = lasting_hours e p s _ plt (zip_fits H r p s v e plt fits ◌+◌)

    pub lasting_less : Lasting H r (less_hours H p s v r)
    unfolding less_hours
    lasting_less = lasting_hours e p s _ plt (zip_fits H r p s v e plt fits ◌-◌)

-- mw from hour s on
module _ {H : ℕ} {r : List ℕ} (e : length r ≡ row_size H) (s : ℕ) (mw : List ℕ) (fits : s + length mw ≤ H) where
  pub lasting_grant : Lasting H r (grant H s mw r)
  unfolding grant
  lasting_grant = let q = lasting_hours e granted_part s mw (lit< tt) fits in lasting_then q (lasting_raise q.long granted_given 2 (lit< tt) refl)

  pub lasting_taken : Lasting H r (take_from H s mw r)
  unfolding take_from
  lasting_taken = lasting_less e available_part s mw (lit< tt) fits

  pub lasting_reduced : Lasting H r (reduced_row H s mw r)
  unfolding reduced_row
  lasting_reduced = let q = lasting_taken in lasting_then q (lasting_add q.long reduced_part s mw (lit< tt) fits)

  pub lasting_given : Lasting H r (give_back H s mw r)
  unfolding give_back
  lasting_given = lasting_add e (returns_to r) s mw (returns_profile r) fits

module _ {H : ℕ} {r : List ℕ} (e : length r ≡ row_size H) (s : ℕ) (mw : List ℕ) (fits : s + length mw ≤ H) where
  pub lasting_held : Lasting H r (held H s mw r)
  unfolding held
  lasting_held =
      let q = lasting_hours e available_part s mw (lit< tt) fits in
      let t = lasting_then q (lasting_grant q.long s mw fits) in
      lasting_then t (lasting_status t.long CONFIRMED)

  pub lasting_emptied : Lasting H r (emptied H s mw r)
  unfolding emptied
  lasting_emptied =
      let q = lasting_clear e available_part s (length mw) (lit< tt) fits in
      let t = lasting_then q (lasting_grant q.long s mw fits) in
      lasting_then t (lasting_status t.long CONFIRMED)

module _ {H : ℕ} {r : List ℕ} (m : Spanned H r) where
  own_fits : start r + span_hours r ≤ H
  own_fits = omega arith

  pub lasting_displaced : Lasting H r (displaced_row H r)
  unfolding displaced_row
  lasting_displaced =
      let q = lasting_add m.long displaced_part (start r) (available H r) (lit< tt) (omega (arith, own_fits, span_length m available_part (lit< tt))) in
      let t = lasting_then q (lasting_clear q.long available_part (start r) (span_hours r) (lit< tt) own_fits) in
      lasting_then t (lasting_status t.long DISPLACED)

  pub lasting_annulled : Lasting H r (annulled_row H r)
  unfolding annulled_row
  lasting_annulled =
      let q = lasting_clear m.long available_part (start r) (span_hours r) (lit< tt) own_fits in
      lasting_then q (lasting_status q.long ANNULLED)

lasting_entered : {H : ℕ} {r : List ℕ} → length r ≡ row_size H → (b : Bool) (v : ℕ) → Lasting H r (entered b v r)
unfolding entered
lasting_entered {H} {r} e b v =
    let q = lasting_when {H = H} {r = r} b (raise countered) e (λ z. lasting_countered e) in
    lasting_then q (lasting_status q.long v)

module _ {H : ℕ} {r : List ℕ} (e : length r ≡ row_size H) where
  pub lasting_offered : (expires : ℕ) (a : Action) (mw : List ℕ) → start r + length mw ≤ H → Lasting H r (offered H expires a mw r)
  unfolding offered
  lasting_offered expires a mw fits =
      let q1 = lasting_set {H = H} {r = r} e 9 a.price refl (λ z. omega (arith, z)) in
      let q2 = lasting_then q1 (lasting_raise q1.long offer_given 1 (lit< tt) refl) in
      let q3 = lasting_then q2 (lasting_when (comes a || accepts a) (grant H (start r) mw) q2.long (λ z. lasting_grant q2.long (start r) mw fits)) in
      let q4 = lasting_then q3 (lasting_set q3.long 10 expires refl (λ z. omega (arith, z))) in
      lasting_then q4 (lasting_entered q4.long _ a.status)

  pub lasting_bidden : (w : List ℕ) (a : Action) → (comes a ≡ true → start r + length (profile w a) ≤ H) → Lasting H r (bidden H w a r)
  unfolding bidden
  lasting_bidden w a fits =
      let q = lasting_set {H = H} {r = r} e 8 a.price refl (λ z. omega (arith, z)) in
      lasting_then q (lasting_when (comes a) (set_hours H requested_part (start r) (profile w a)) q.long (λ z. lasting_hours q.long requested_part (start r) (profile w a) (lit< tt) (fits z)))
