-- A row in use of a formed ledger: what its words and its relation say of it.
use mathlib.Core.Path.{◌≡◌, sym, ap, subst, ◌∙◌}
use mathlib.Core.Logic.{◌⊎◌, ⊎_elim, inl, inr}
use mathlib.Core.Bool.{true}
use mathlib.Core.List.{List}
use Prim.Native.Nat.{ℕ, suc, ◌+◌, ◌-◌, ◌≤◌, ◌<◌}
use native.Mathlib.Omega.{arith}
use lib.ListN.{length, get_or}
use Rattle.words.specs.Lists.{equal}
use Rattle.words.proofs.Laws.{lt_or_le, equal_at}
use Rattle.rules.specs.Numbers.{profiles, RELINQUISH}
use Rattle.rules.specs.Layout.{rows, hours, used, row, row_size, reqtype, related, start, stop, related_row, span_hours, span, standing, Sized}
use Rattle.rules.proofs.Rows.{row_length}
use Rattle.rules.proofs.Seen.{Room, standing_in, standing_off}
use Rattle.rules.proofs.Spans.{Spanned, span_at, span_length as long}
use Rattle.rules.proofs.Writes.{megawatts}
use Rattle.rules.proofs.Formed.{Formed, formed_sized}

-- ---- row n of a ledger of R rows and H hours
pub record Placed (R H : ℕ) (l : List ℕ) (n : ℕ) : Type 0 where
  pub sized : Sized l R H
  pub in_use : n < used l
  pub own : n < R
  pub type_least : 1 ≤ reqtype (row H l n)
  pub starts : start (row H l n) < stop (row H l n)
  pub stops : stop (row H l n) ≤ H
  pub outside : (p h : ℕ) → p < profiles → h < H → (h < start (row H l n)) ⊎ (stop (row H l n) ≤ h) → megawatts H h (row H l n) p ≡ 0
  -- types 3 to 8 have an earlier row above them, and the redirect of a type 8 has one too
  pub lower : 3 ≤ reqtype (row H l n) → related_row H l n < n
  pub above : 3 ≤ reqtype (row H l n) → related (row H l n) ≡ suc (related_row H l n)
  pub lowest : reqtype (row H l n) ≡ RELINQUISH → related_row H l (related_row H l n) < related_row H l n
  pub over : reqtype (row H l n) ≡ RELINQUISH → related (row H l (related_row H l n)) ≡ suc (related_row H l (related_row H l n))

-- types 3 to 8 stand after the row above them
up_lower : (H : ℕ) (l : List ℕ) (n : ℕ) → (1 ≤ related (row H l n)) × (related (row H l n) ≤ n) → related_row H l n < n
unfolding related_row
up_lower H l n u = omega (arith, u)

up_above : (H : ℕ) (l : List ℕ) (n : ℕ) → (1 ≤ related (row H l n)) × (related (row H l n) ≤ n) → related (row H l n) ≡ suc (related_row H l n)
unfolding related_row
up_above H l n u = omega (arith, u)

pub placed : {l : List ℕ} {n : ℕ} → Formed l → n < used l → Placed (rows l) (hours l) l n
placed {l} {n} f lt = record {
  sized = formed_sized f;
  in_use = lt;
  own = omega (arith, lt, f.head.used);
  type_least = (f.words n lt).type_least;
  starts = (f.words n lt).starts;
  stops = (f.words n lt).stops;
  outside = (f.profiles n lt).outside;
  lower = λ t. up_lower (hours l) l n ((f.relations n lt).up t);
  above = λ t. up_above (hours l) l n ((f.relations n lt).up t);
  lowest = λ e. up_lower (hours l) l p (over_up e);
  over = λ e. up_above (hours l) l p (over_up e);
}
  where
    p : ℕ
    p = related_row (hours l) l n

    over_up : reqtype (row (hours l) l n) ≡ RELINQUISH → (1 ≤ related (row (hours l) l p)) × (related (row (hours l) l p) ≤ p)
    over_up e =
        let low : p < n = up_lower (hours l) l n ((f.relations n lt).up (omega (arith, e))) in
        (f.relations p (omega (arith, low, lt))).up (omega (arith, (f.relations n lt).redirect e))

-- the same where the hours are known by another name
pub placed_in : {l : List ℕ} {H n : ℕ} → Formed l → hours l ≡ H → n < used l → Placed (rows l) H l n
placed_in {l} {H} {n} f e lt = subst (λ H. Placed (rows l) H l n) e (placed f lt)

module _ {R H : ℕ} {l : List ℕ} {n : ℕ} (o : Placed R H l n) where
  pub own_long : length (row H l n) ≡ row_size H
  own_long = row_length o.sized o.own

  -- the rows above are rows of the ledger
  pub above_row : 3 ≤ reqtype (row H l n) → related_row H l n < R
  above_row t = omega (arith, o.lower t, o.own)

  pub over_row : reqtype (row H l n) ≡ RELINQUISH → related_row H l (related_row H l n) < R
  over_row e = omega (arith, o.lowest e, above_row (omega (arith, e)))

  -- a profile of the span's length has room in every row
  pub room_for : {v : List ℕ} {m : ℕ} → length v ≡ span_hours (row H l n) → m < R → Room H (start (row H l n)) v (row H l m)
  room_for e lt = record { long = row_length o.sized lt; fits = omega (arith, e, o.starts, o.stops) }

  pub span_fits : start (row H l n) + span_hours (row H l n) ≤ H
  span_fits = omega (arith, o.starts, o.stops)

  -- nothing stands in the row outside the span
  pub zero_span : {h : ℕ} → h < H → (p : ℕ) → p < profiles → (h < start (row H l n)) ⊎ (start (row H l n) + span_hours (row H l n) ≤ h) → megawatts H h (row H l n) p ≡ 0
  zero_span {h} hlt p plt z = o.outside p h plt hlt (⊎_elim (λ u. inl u) (λ u. inr (omega (arith, u, o.starts))) z)

  pub zero_for : {h : ℕ} → h < H → (v : List ℕ) → length v ≡ span_hours (row H l n) → (p : ℕ) → p < profiles → (h < start (row H l n)) ⊎ (start (row H l n) + length v ≤ h) → megawatts H h (row H l n) p ≡ 0
  zero_for {h} hlt v e p plt z = zero_span hlt p plt (⊎_elim (λ u. inl u) (λ u. inr (omega (arith, u, e))) z)

  own_spanned : Spanned H (row H l n)
  own_spanned = record { long = own_long; starts = omega (arith, o.starts); stops = o.stops }

  -- its own profile p: as long as the span, and at hour h what stands there
  pub span_length : (p : ℕ) → p < profiles → length (span H p (row H l n)) ≡ span_hours (row H l n)
  span_length p plt = long own_spanned p plt

  span_word : (p : ℕ) → p < profiles → {k : ℕ} → k < span_hours (row H l n) → get_or (span H p (row H l n)) k 0 ≡ megawatts H (start (row H l n) + k) (row H l n) p
  span_word p plt {k} lt = span_at own_spanned p plt k lt

  pub span_standing : {h : ℕ} → h < H → (p : ℕ) → p < profiles → standing (start (row H l n)) (span H p (row H l n)) h ≡ megawatts H h (row H l n) p
  span_standing {h} hlt p plt = go (lt_or_le h (start (row H l n))) (lt_or_le h (stop (row H l n)))
    where
      go : (h < start (row H l n)) ⊎ (start (row H l n) ≤ h) → (h < stop (row H l n)) ⊎ (stop (row H l n) ≤ h) → standing (start (row H l n)) (span H p (row H l n)) h ≡ megawatts H h (row H l n) p
      go (inl u) t = standing_off (start (row H l n)) (span H p (row H l n)) (inl u) ∙ sym (o.outside p h plt hlt (inl u))
      go (inr u) (inl t) =
          let k : h ≡ start (row H l n) + (h - start (row H l n)) = omega (arith, u) in
          let lt : h - start (row H l n) < span_hours (row H l n) = omega (arith, u, t) in
          standing_in (start (row H l n)) (span H p (row H l n)) (h - start (row H l n)) k
          ∙ span_word p plt lt
          ∙ ap (λ (j : ℕ). megawatts H j (row H l n) p) (sym k)
      go (inr u) (inr t) =
          standing_off (start (row H l n)) (span H p (row H l n)) (inr (omega (arith, t, o.starts, span_length p plt)))
          ∙ sym (o.outside p h plt hlt (inr t))

  -- profiles that are equal in the span are equal at hour h
  pub equal_hour : {h : ℕ} → h < H → (p q : ℕ) → p < profiles → q < profiles → equal (span H p (row H l n)) (span H q (row H l n)) ≡ true → megawatts H h (row H l n) p ≡ megawatts H h (row H l n) q
  equal_hour {h} hlt p q plt qlt e = go (lt_or_le h (start (row H l n))) (lt_or_le h (stop (row H l n)))
    where
      go : (h < start (row H l n)) ⊎ (start (row H l n) ≤ h) → (h < stop (row H l n)) ⊎ (stop (row H l n) ≤ h) → megawatts H h (row H l n) p ≡ megawatts H h (row H l n) q
      go (inl u) t = o.outside p h plt hlt (inl u) ∙ sym (o.outside q h qlt hlt (inl u))
      go (inr u) (inl t) =
          let k : start (row H l n) + (h - start (row H l n)) ≡ h = omega (arith, u) in
          let lt : h - start (row H l n) < span_hours (row H l n) = omega (arith, u, t) in
          ap (λ (j : ℕ). megawatts H j (row H l n) p) (sym k)
          ∙ sym (span_word p plt lt)
          ∙ equal_at (span H p (row H l n)) (span H q (row H l n)) e (h - start (row H l n)) (omega (arith, lt, span_length p plt))
          ∙ span_word q qlt lt
          ∙ ap (λ (j : ℕ). megawatts H j (row H l n) q) k
      go (inr u) (inr t) = o.outside p h plt hlt (inr t) ∙ sym (o.outside q h qlt hlt (inr t))
