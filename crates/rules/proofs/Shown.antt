-- What of a row its entry is compared with, after each write of the rules.
use mathlib.Core.Path.{◌≡◌, sym, ap, subst, ◌∙◌}
use mathlib.Core.Logic.{◌≢◌}
use mathlib.Core.Bool.{Bool, true, false, ◌||◌}
use mathlib.Core.List.{List}
use Prim.Native.Nat.{ℕ, ◌+◌, ◌-◌, ◌*◌, ◌≤◌, ◌<◌}
use native.Mathlib.Omega.{arith}
use lib.Dec.{lit<, lit≤}
use lib.ListN.{length, get_or, set, length-set}
use lib.Seq.{get_or-set_same, get_or-set_other}
use Rattle.rules.specs.Pick.{when}
use Rattle.rules.specs.Numbers.{row_words, profiles, requested_part, granted_part, available_part, displaced_part, reduced_part, approved, granted_given, offer_given, countered, CONFIRMED, DISPLACED, ANNULLED}
use Rattle.rules.specs.Layout.{row_size, reqtype, status, related, start, stop, flags, span_hours, hour_at, span, requested, granted, available, set_hours, add_hours, less_hours, clear_hours, has_flag, flagged, has, raise}
use Rattle.rules.specs.Megawatts.{grant, take_from, displaced_row, annulled_row, reduced_row}
use Rattle.rules.specs.Confirming.{held, emptied}
use Rattle.rules.specs.Checks.{profile, comes}
use Rattle.rules.specs.SellerStatus.{accepts, entered, offered}
use Rattle.rules.specs.CustomerStatus.{bidden}
use Rattle.rules.specs.declared.Action.{Action}
use Rattle.rules.proofs.Spans.{Spanned, span_set, span_length, put_word, put_spanned, put_other, put_own, put_hour, add_word, add_spanned, add_other, add_hour, less_word, less_spanned, less_other, less_hour, clear_word, clear_spanned, clear_other, clear_hour, flag_raised, lower_kept, higher_kept}

-- ---- what an entry is compared with: of a row from hour s to hour t
pub record Shown (H s t : ℕ) (r : List ℕ) (ty st ref : ℕ) (req gr : List ℕ) (given : Bool) : Type 0 where
  pub long : length r ≡ row_size H
  pub low : s ≤ t
  pub high : t ≤ H
  pub type : reqtype r ≡ ty
  pub status : status r ≡ st
  pub related : related r ≡ ref
  pub start : start r ≡ s
  pub stop : stop r ≡ t
  pub requested : requested H r ≡ req
  pub granted : granted H r ≡ gr
  pub flag : has granted_given r ≡ given
  pub ungiven : given ≡ false → (h : ℕ) → h < H → get_or r (hour_at H granted_part h) 0 ≡ 0

module _ {H s t : ℕ} {r : List ℕ} {ty st ref : ℕ} {req gr : List ℕ} {b : Bool} (S : Shown H s t r ty st ref req gr b) where
  pub shown_spanned : Spanned H r
  shown_spanned = record { long = S.long; starts = omega (arith, S.start, S.stop); stops = omega (arith, S.stop) }

  -- a word is stored that is neither type, related, start nor stop
  pub shown_set : (k x st' : ℕ) (c : Bool) → k < row_words → k ≢ 0 → k ≢ 4 → k ≢ 5 → k ≢ 6 → get_or (set r k x) 1 0 ≡ st' → has_flag granted_given (get_or (set r k x) 7 0) ≡ c → (c ≡ false → b ≡ false) → Shown H s t (set r k x) ty st' ref req gr c
  shown_set k x st' c lt n0 n4 n5 n6 e f g = record {
    long = length-set r k x ∙ S.long;
    low = S.low;
    high = S.high;
    type = get_or-set_other r k 0 x 0 (λ z. n0 (sym z)) ∙ S.type;
    status = e;
    related = get_or-set_other r k 4 x 0 (λ z. n4 (sym z)) ∙ S.related;
    start = get_or-set_other r k 5 x 0 (λ z. n5 (sym z)) ∙ S.start;
    stop = get_or-set_other r k 6 x 0 (λ z. n6 (sym z)) ∙ S.stop;
    requested = span_set H requested_part r k x lt n5 n6 ∙ S.requested;
    granted = span_set H granted_part r k x lt n5 n6 ∙ S.granted;
    flag = f;
    ungiven = λ z h hlt. get_or-set_other r k (hour_at H granted_part h) x 0 (λ y. omega arith) ∙ S.ungiven (g z) h hlt;
  }

  -- a price or the limit
  pub shown_word : (k x : ℕ) → 8 ≤ k → k < row_words → Shown H s t (set r k x) ty st ref req gr b
  shown_word k x least most =
      shown_set k x st b most (λ z. omega arith) (λ z. omega arith) (λ z. omega arith) (λ z. omega arith)
      (get_or-set_other r k 1 x 0 (λ z. omega arith) ∙ S.status) (ap (has_flag granted_given) (get_or-set_other r k 7 x 0 (λ z. omega arith)) ∙ S.flag) (λ z. z)

  pub shown_status : (x : ℕ) → Shown H s t (set r 1 x) ty x ref req gr b
  shown_status x =
      shown_set 1 x x b (lit< tt) (λ z. omega (arith, z)) (λ z. omega (arith, z)) (λ z. omega (arith, z)) (λ z. omega (arith, z))
      (get_or-set_same r 1 x 0 (omega (arith, S.long))) (ap (has_flag granted_given) (get_or-set_other r 1 7 x 0 (λ z. omega (arith, z))) ∙ S.flag) (λ z. z)

  pub shown_flags : (x : ℕ) (c : Bool) → has_flag granted_given x ≡ c → (c ≡ false → b ≡ false) → Shown H s t (set r 7 x) ty st ref req gr c
  shown_flags x c e f =
      shown_set 7 x st c (lit< tt) (λ z. omega (arith, z)) (λ z. omega (arith, z)) (λ z. omega (arith, z)) (λ z. omega (arith, z))
      (get_or-set_other r 7 1 x 0 (λ z. omega (arith, z)) ∙ S.status) (ap (has_flag granted_given) (get_or-set_same r 7 x 0 (omega (arith, S.long))) ∙ e) f

  pub shown_approved : Shown H s t (raise approved r) ty st ref req gr b
  shown_approved = shown_flags (flagged approved (flags r)) b (lower_kept approved 1 (flags r) (lit< tt) ∙ S.flag) (λ f. f)

  pub shown_higher : (k : ℕ) → Shown H s t (raise (k * 16) r) ty st ref req gr b
  shown_higher k = shown_flags (flagged (k * 16) (flags r)) b (higher_kept k (flags r) ∙ S.flag) (λ f. f)

  shown_countered : (c : Bool) → Shown H s t (when c (raise countered) r) ty st ref req gr b
  shown_countered true = shown_higher 2
  shown_countered false = S

  -- requested is replaced
  pub shown_requested : (v : List ℕ) → length v ≡ t - s → Shown H s t (set_hours H requested_part s v r) ty st ref v gr b
  shown_requested v e = record {
    long = q.long;
    low = S.low;
    high = S.high;
    type = w 0 (lit< tt) ∙ S.type;
    status = w 1 (lit< tt) ∙ S.status;
    related = w 4 (lit< tt) ∙ S.related;
    start = w 5 (lit< tt) ∙ S.start;
    stop = w 6 (lit< tt) ∙ S.stop;
    requested = subst (λ (i : ℕ). span H requested_part (set_hours H requested_part i v r) ≡ v) S.start (put_own shown_spanned requested_part v (lit< tt) (omega (arith, S.start, S.stop)));
    granted = put_other shown_spanned requested_part s v (lit< tt) room granted_part (lit< tt) (λ z. omega (arith, z)) ∙ S.granted;
    flag = ap (has_flag granted_given) (w 7 (lit< tt)) ∙ S.flag;
    ungiven = λ f h hlt. put_hour shown_spanned requested_part s v (lit< tt) room granted_part h (λ z. omega (arith, z)) hlt ∙ S.ungiven f h hlt;
  }
    where
      room : s + length v ≤ H
      room = omega (arith, S.low, S.high)

      q : Spanned H (set_hours H requested_part s v r)
      q = put_spanned shown_spanned requested_part s v (lit< tt) room

      w : (k : ℕ) → k < row_words → get_or (set_hours H requested_part s v r) k 0 ≡ get_or r k 0
      w = put_word shown_spanned requested_part s v (lit< tt) room

  -- a profile that no entry is compared with
  pub shown_aside : (q : List ℕ) → Spanned H q → ((k : ℕ) → k < row_words → get_or q k 0 ≡ get_or r k 0) → requested H q ≡ requested H r → granted H q ≡ granted H r → ((h : ℕ) → h < H → get_or q (hour_at H granted_part h) 0 ≡ get_or r (hour_at H granted_part h) 0)
      → Shown H s t q ty st ref req gr b
  shown_aside q m w u v x = record {
    long = m.long;
    low = S.low;
    high = S.high;
    type = w 0 (lit< tt) ∙ S.type;
    status = w 1 (lit< tt) ∙ S.status;
    related = w 4 (lit< tt) ∙ S.related;
    start = w 5 (lit< tt) ∙ S.start;
    stop = w 6 (lit< tt) ∙ S.stop;
    requested = u ∙ S.requested;
    granted = v ∙ S.granted;
    flag = ap (has_flag granted_given) (w 7 (lit< tt)) ∙ S.flag;
    ungiven = λ f h hlt. x h hlt ∙ S.ungiven f h hlt;
  }

  module _ (p a : ℕ) (v : List ℕ) (low : available_part ≤ p) (high : p < profiles) (room : a + length v ≤ H) where
    pub shown_put : Shown H s t (set_hours H p a v r) ty st ref req gr b
    shown_put =
        shown_aside (set_hours H p a v r) (put_spanned shown_spanned p a v high room) (put_word shown_spanned p a v high room)
        (put_other shown_spanned p a v high room requested_part (lit< tt) (λ z. omega arith)) (put_other shown_spanned p a v high room granted_part (lit< tt) (λ z. omega arith))
        (λ h hlt. put_hour shown_spanned p a v high room granted_part h (λ z. omega arith) hlt)

    pub shown_add : Shown H s t (add_hours H p a v r) ty st ref req gr b
    shown_add =
        shown_aside (add_hours H p a v r) (add_spanned shown_spanned p a v high room) (add_word shown_spanned p a v high room)
        (add_other shown_spanned p a v high room requested_part (lit< tt) (λ z. omega arith)) (add_other shown_spanned p a v high room granted_part (lit< tt) (λ z. omega arith))
        (λ h hlt. add_hour shown_spanned p a v high room granted_part h (λ z. omega arith) hlt)

    pub shown_less : Shown H s t (less_hours H p a v r) ty st ref req gr b
    shown_less =
        shown_aside (less_hours H p a v r) (less_spanned shown_spanned p a v high room) (less_word shown_spanned p a v high room)
        (less_other shown_spanned p a v high room requested_part (lit< tt) (λ z. omega arith)) (less_other shown_spanned p a v high room granted_part (lit< tt) (λ z. omega arith))
        (λ h hlt. less_hour shown_spanned p a v high room granted_part h (λ z. omega arith) hlt)

  pub shown_clear : (p a n : ℕ) → available_part ≤ p → p < profiles → a + n ≤ H → Shown H s t (clear_hours H p a n r) ty st ref req gr b
  shown_clear p a n low high room =
      shown_aside (clear_hours H p a n r) (clear_spanned shown_spanned p a n high room) (clear_word shown_spanned p a n high room)
      (clear_other shown_spanned p a n high room requested_part (lit< tt) (λ z. omega arith)) (clear_other shown_spanned p a n high room granted_part (lit< tt) (λ z. omega arith))
      (λ h hlt. clear_hour shown_spanned p a n high room granted_part h (λ z. omega arith) hlt)

  -- granted is given
  pub shown_grant : (v : List ℕ) → length v ≡ t - s → Shown H s t (grant H s v r) ty st ref req v true
  unfolding grant
  shown_grant v e = record {
    long = length-set q 7 f ∙ m.long;
    low = S.low;
    high = S.high;
    type = get_or-set_other q 7 0 f 0 (λ z. omega (arith, z)) ∙ w 0 (lit< tt) ∙ S.type;
    status = get_or-set_other q 7 1 f 0 (λ z. omega (arith, z)) ∙ w 1 (lit< tt) ∙ S.status;
    related = get_or-set_other q 7 4 f 0 (λ z. omega (arith, z)) ∙ w 4 (lit< tt) ∙ S.related;
    start = get_or-set_other q 7 5 f 0 (λ z. omega (arith, z)) ∙ w 5 (lit< tt) ∙ S.start;
    stop = get_or-set_other q 7 6 f 0 (λ z. omega (arith, z)) ∙ w 6 (lit< tt) ∙ S.stop;
    requested =
        span_set H requested_part q 7 f (lit< tt) (λ z. omega (arith, z)) (λ z. omega (arith, z))
        ∙ put_other shown_spanned granted_part s v (lit< tt) room requested_part (lit< tt) (λ z. omega (arith, z))
        ∙ S.requested;
    granted =
        span_set H granted_part q 7 f (lit< tt) (λ z. omega (arith, z)) (λ z. omega (arith, z))
        ∙ subst (λ (i : ℕ). span H granted_part (set_hours H granted_part i v r) ≡ v) S.start (put_own shown_spanned granted_part v (lit< tt) (omega (arith, S.start, S.stop)));
    flag = ap (has_flag granted_given) (get_or-set_same q 7 f 0 (omega (arith, m.long))) ∙ flag_raised granted_given (flags q) (lit< tt);
    ungiven = λ z h hlt. cc;
  }
    where
      q : List ℕ
      q = set_hours H granted_part s v r

      f : ℕ
      f = flagged granted_given (flags q)

      room : s + length v ≤ H
      room = omega (arith, S.low, S.high)

      m : Spanned H q
      m = put_spanned shown_spanned granted_part s v (lit< tt) room

      w : (k : ℕ) → k < row_words → get_or q k 0 ≡ get_or r k 0
      w = put_word shown_spanned granted_part s v (lit< tt) room

-- ---- the rules' writes
shown_entered : {H s t : ℕ} {r : List ℕ} {ty st ref : ℕ} {req gr : List ℕ} {b : Bool} → Shown H s t r ty st ref req gr b → (c : Bool) (x : ℕ) → Shown H s t (entered c x r) ty x ref req gr b
unfolding entered
shown_entered S c x = shown_status (shown_countered S c) x

module _ {H s t : ℕ} {r : List ℕ} {ty st ref : ℕ} {req gr : List ℕ} {b : Bool} (S : Shown H s t r ty st ref req gr b) where
  pub shown_held : (v : List ℕ) → length v ≡ t - s → Shown H s t (held H s v r) ty CONFIRMED ref req v true
  unfolding held
  shown_held v e =
      shown_status (shown_grant (shown_put S available_part s v (lit≤ tt) (lit< tt) (omega (arith, S.low, S.high))) v e) CONFIRMED

  pub shown_emptied : (v : List ℕ) → length v ≡ t - s → Shown H s t (emptied H s v r) ty CONFIRMED ref req v true
  unfolding emptied
  shown_emptied v e =
      shown_status (shown_grant (shown_clear S available_part s (length v) (lit≤ tt) (lit< tt) (omega (arith, S.low, S.high))) v e) CONFIRMED

  pub shown_taken : (v : List ℕ) → length v ≡ t - s → Shown H s t (take_from H s v r) ty st ref req gr b
  unfolding take_from
  shown_taken v e = shown_less S available_part s v (lit≤ tt) (lit< tt) (omega (arith, S.low, S.high))

  pub shown_reduced : (v : List ℕ) → length v ≡ t - s → Shown H s t (reduced_row H s v r) ty st ref req gr b
  unfolding reduced_row
  shown_reduced v e = shown_add (shown_taken v e) reduced_part s v (lit≤ tt) (lit< tt) (omega (arith, S.low, S.high))

  clears : (q : List ℕ) → Shown H s t q ty st ref req gr b → Shown H s t (clear_hours H available_part (start r) (span_hours r) q) ty st ref req gr b
  clears q T = shown_clear T available_part (start r) (span_hours r) (lit≤ tt) (lit< tt) (omega (arith, S.start, S.stop, S.low, S.high))

  pub shown_displaced : Shown H s t (displaced_row H r) ty DISPLACED ref req gr b
  unfolding displaced_row
  shown_displaced =
      let m = shown_spanned S in
      let n : length (available H r) ≡ span_hours r = span_length m available_part (lit< tt) in
      shown_status (clears _ (shown_add S displaced_part (start r) (available H r) (lit≤ tt) (lit< tt) (omega (arith, n, S.start, S.stop, S.low, S.high)))) DISPLACED

  pub shown_annulled : Shown H s t (annulled_row H r) ty ANNULLED ref req gr b
  unfolding annulled_row
  shown_annulled = shown_status (clears r S) ANNULLED

  -- the customer's bid, with a profile or without
  pub shown_bidden : (w : List ℕ) (a : Action) → comes a ≡ false → Shown H s t (bidden H w a r) ty st ref req gr b
  unfolding bidden
  shown_bidden w a c = subst (λ (x : Bool). Shown H s t (when x (set_hours H requested_part (start r) (profile w a)) (set r 8 a.price)) ty st ref req gr b) (sym c) (shown_word S 8 a.price (lit≤ tt) (lit< tt))

  pub shown_rebidden : (w : List ℕ) (a : Action) → comes a ≡ true → length (profile w a) ≡ t - s → Shown H s t (bidden H w a r) ty st ref (profile w a) gr b
  unfolding bidden
  shown_rebidden w a c e =
      subst (λ (x : Bool). Shown H s t (when x (set_hours H requested_part (start r) (profile w a)) (set r 8 a.price)) ty st ref (profile w a) gr b) (sym c)
      (subst (λ (i : ℕ). Shown H s t (set_hours H requested_part i (profile w a) (set r 8 a.price)) ty st ref (profile w a) gr b) (sym S.start)
      (shown_requested (shown_word S 8 a.price (lit≤ tt) (lit< tt)) (profile w a) e))

  -- the seller's offer, which grants or does not
  pub shown_offered : (expires : ℕ) (a : Action) (mw : List ℕ) → (comes a || accepts a) ≡ false → Shown H s t (offered H expires a mw r) ty a.status ref req gr b
  unfolding offered
  shown_offered expires a mw c =
      shown_entered
      (shown_word
      (subst (λ (x : Bool). Shown H s t (when x (grant H (start r) mw) (raise offer_given (set r 9 a.price))) ty st ref req gr b) (sym c)
      (shown_higher (shown_word S 9 a.price (lit≤ tt) (lit< tt)) 1))
      10 expires (lit≤ tt) (lit< tt))
      _ a.status

  pub shown_granted : (expires : ℕ) (a : Action) (mw : List ℕ) → (comes a || accepts a) ≡ true → length mw ≡ t - s → Shown H s t (offered H expires a mw r) ty a.status ref req mw true
  unfolding offered
  shown_granted expires a mw c e =
      shown_entered
      (shown_word
      (subst (λ (x : Bool). Shown H s t (when x (grant H (start r) mw) (raise offer_given (set r 9 a.price))) ty st ref req mw true) (sym c)
      (subst (λ (i : ℕ). Shown H s t (grant H i mw (raise offer_given (set r 9 a.price))) ty st ref req mw true) (sym S.start)
      (shown_grant (shown_higher (shown_word S 9 a.price (lit≤ tt) (lit< tt)) 1) mw e)))
      10 expires (lit≤ tt) (lit< tt))
      _ a.status
