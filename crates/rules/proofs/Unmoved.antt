-- A write in a row that moves no megawatts: it keeps type, related reference, span, path and the profiles from
-- available on, all that confirming and the checks of paths and of the last 1 read of the row.
use mathlib.Core.Path.{◌≡◌, refl, sym, ap, ◌∙◌}
use mathlib.Core.Logic.{◌≢◌}
use mathlib.Core.Bool.{Bool, true, false, ◌||◌}
use mathlib.Core.List.{List}
use Prim.Native.Nat.{ℕ, ◌+◌, ◌≤◌, ◌<◌}
use native.Mathlib.Omega.{arith}
use lib.Dec.{lit<}
use lib.ListN.{length, get_or, set, length-set}
use lib.Seq.{get_or-set_other}
use Rattle.words.proofs.Laws.{splice_before, splice_after}
use Rattle.rules.specs.Pick.{when}
use Rattle.rules.specs.Numbers.{row_words, granted_part, available_part, requested_part, granted_given, offer_given, countered}
use Rattle.rules.specs.Layout.{row_size, row, on_row, row_of, related_row, Sized, reqtype, related, start, stop, path, flags, flagged, raise, set_status, set_offer, set_limit, hour_at, set_hours}
use Rattle.rules.specs.Megawatts.{grant}
use Rattle.rules.specs.Checks.{profile, comes}
use Rattle.rules.specs.SellerStatus.{accepts, entered, offered}
use Rattle.rules.specs.CustomerStatus.{bidden}
use Rattle.rules.specs.declared.Action.{Action}
use Rattle.rules.proofs.Turned.{Turned, turned, kept_word}
use Rattle.rules.proofs.Seen.{hour_apart, set_length}

-- row q is row r in these
pub record Unmoved (H : ℕ) (r q : List ℕ) : Type 0 where
  pub long : length q ≡ row_size H
  pub same_type : reqtype q ≡ reqtype r
  pub same_related : related q ≡ related r
  pub same_start : start q ≡ start r
  pub same_stop : stop q ≡ stop r
  pub same_path : path q ≡ path r
  pub same_hour : (p h : ℕ) → available_part ≤ p → get_or q (hour_at H p h) 0 ≡ get_or r (hour_at H p h) 0

-- no write, and one write after another
pub unmoved_self : {H : ℕ} {r : List ℕ} → length r ≡ row_size H → Unmoved H r r
unmoved_self e = record {
  long = e;
  same_type = refl;
  same_related = refl;
  same_start = refl;
  same_stop = refl;
  same_path = refl;
  same_hour = λ p h low. refl;
}

pub unmoved_then : {H : ℕ} {r q t : List ℕ} → Unmoved H r q → Unmoved H q t → Unmoved H r t
unmoved_then a b = record {
  long = b.long;
  same_type = b.same_type ∙ a.same_type;
  same_related = b.same_related ∙ a.same_related;
  same_start = b.same_start ∙ a.same_start;
  same_stop = b.same_stop ∙ a.same_stop;
  same_path = b.same_path ∙ a.same_path;
  same_hour = λ p h low. b.same_hour p h low ∙ a.same_hour p h low;
}

-- a write that is made only where the test holds
pub unmoved_when : {H : ℕ} {r : List ℕ} (t : Bool) (f : List ℕ → List ℕ) → length r ≡ row_size H → (t ≡ true → Unmoved H r (f r)) → Unmoved H r (when t f r)
unmoved_when true f e q = q refl
unmoved_when false f e q = unmoved_self e

module _ {H : ℕ} {r : List ℕ} (e : length r ≡ row_size H) where
  -- a word of the sixteen
  pub unmoved_set : (k v : ℕ) → k < row_words → k ≢ 0 → k ≢ 4 → k ≢ 5 → k ≢ 6 → k ≢ 11 → Unmoved H r (set r k v)
  unmoved_set k v lt n0 n4 n5 n6 n11 = record {
    long = length-set r k v ∙ e;
    same_type = get_or-set_other r k 0 v 0 (λ z. n0 (sym z));
    same_related = get_or-set_other r k 4 v 0 (λ z. n4 (sym z));
    same_start = get_or-set_other r k 5 v 0 (λ z. n5 (sym z));
    same_stop = get_or-set_other r k 6 v 0 (λ z. n6 (sym z));
    same_path = get_or-set_other r k 11 v 0 (λ z. n11 (sym z));
    same_hour = λ p h low. get_or-set_other r k (hour_at H p h) v 0 (λ z. omega (arith, z, lt));
  }

  -- hours of requested or granted
  pub unmoved_hours : (p s : ℕ) (v : List ℕ) → p < available_part → s + length v ≤ H → Unmoved H r (set_hours H p s v r)
  unfolding set_hours
  unmoved_hours p s v plt fits = record {
    long = set_long;
    same_type = splice_before r (hour_at H p s) v room 0 (omega arith);
    same_related = splice_before r (hour_at H p s) v room 4 (omega arith);
    same_start = splice_before r (hour_at H p s) v room 5 (omega arith);
    same_stop = splice_before r (hour_at H p s) v room 6 (omega arith);
    same_path = splice_before r (hour_at H p s) v room 11 (omega arith);
    same_hour = λ q h low. let apart : p < q = omega (arith, plt, low) in splice_after r (hour_at H p s) v room (hour_at H q h) (omega (arith, hour_apart H apart, fits));
  }
    where
      room : hour_at H p s + length v ≤ length r
      room = omega (arith, hour_apart H plt, e, fits)

      set_long : length (set_hours H p s v r) ≡ row_size H
      set_long = set_length (record { long = e; fits = fits }) (omega (arith, plt))

-- ---- the rules' own such writes
module _ {H : ℕ} {r : List ℕ} (e : length r ≡ row_size H) where
  pub unmoved_status : (s : ℕ) → Unmoved H r (set_status s r)
  unmoved_status s = unmoved_set e 1 s (lit< tt) (λ z. omega (arith, z)) (λ z. omega (arith, z)) (λ z. omega (arith, z)) (λ z. omega (arith, z)) (λ z. omega (arith, z))

  -- flags, prices, limit
  pub unmoved_later : (k v : ℕ) → 6 < k → k < 11 → Unmoved H r (set r k v)
  unmoved_later k v low lt = unmoved_set e k v (omega (arith, lt)) (λ z. omega (arith, z)) (λ z. omega (arith, z)) (λ z. omega (arith, z)) (λ z. omega (arith, z)) (λ z. omega (arith, z))

  pub unmoved_raise : (flag : ℕ) → Unmoved H r (raise flag r)
  unmoved_raise flag = unmoved_later 7 (flagged flag (flags r)) (lit< tt) (lit< tt)

unmoved_entered : {H : ℕ} {r : List ℕ} → length r ≡ row_size H → (b : Bool) (s : ℕ) → Unmoved H r (entered b s r)
unfolding entered
unmoved_entered {H} {r} e b s =
    let q = unmoved_when {H = H} {r = r} b (raise countered) e (λ z. unmoved_raise e countered) in
    unmoved_then q (unmoved_status q.long s)

pub unmoved_grant : {H : ℕ} {r : List ℕ} → length r ≡ row_size H → (s : ℕ) (mw : List ℕ) → s + length mw ≤ H → Unmoved H r (grant H s mw r)
unfolding grant
unmoved_grant {H} {r} e s mw fits =
    let q = unmoved_hours {H = H} {r = r} e granted_part s mw (lit< tt) fits in
    unmoved_then q (unmoved_raise q.long granted_given)

-- the seller's moves to 6, 7, 10, 11, up to the limit, and whole
pub unmoved_limited : {H : ℕ} {r : List ℕ} → length r ≡ row_size H → (expires : ℕ) (a : Action) (mw : List ℕ) → start r + length mw ≤ H
    → Unmoved H r (set_limit expires (when (comes a || accepts a) (grant H (start r) mw) (raise offer_given (set_offer a.price r))))
unmoved_limited {H} {r} e expires a mw fits =
    let q1 = unmoved_later {H = H} {r = r} e 9 a.price (lit< tt) (lit< tt) in
    let q2 = unmoved_then q1 (unmoved_raise q1.long offer_given) in
    let q3 = unmoved_then q2 (unmoved_when (comes a || accepts a) (grant H (start r) mw) q2.long (λ z. unmoved_grant q2.long (start r) mw fits)) in
    unmoved_then q3 (unmoved_later q3.long 10 expires (lit< tt) (lit< tt))

pub unmoved_offered : {H : ℕ} {r : List ℕ} → length r ≡ row_size H → (expires : ℕ) (a : Action) (mw : List ℕ) → start r + length mw ≤ H → Unmoved H r (offered H expires a mw r)
unfolding offered
unmoved_offered e expires a mw fits =
    let q = unmoved_limited e expires a mw fits in
    unmoved_then q (unmoved_entered q.long _ a.status)

-- the customer's moves to 8 and 13
pub unmoved_bidden : {H : ℕ} {r : List ℕ} → length r ≡ row_size H → (w : List ℕ) (a : Action) → (comes a ≡ true → start r + length (profile w a) ≤ H) → Unmoved H r (bidden H w a r)
unfolding bidden
unmoved_bidden {H} {r} e w a fits =
    let q = unmoved_later {H = H} {r = r} e 8 a.price (lit< tt) (lit< tt) in
    unmoved_then q (unmoved_when (comes a) (set_hours H requested_part (start r) (profile w a)) q.long (λ z. unmoved_hours q.long requested_part (start r) (profile w a) (lit< tt) (fits z)))

-- ---- a ledger in which such a write was made in row n: every row keeps its type, its span and the row that it is related to
module _ {R H : ℕ} {l : List ℕ} {n : ℕ} (z : Sized l R H) (lt : n < R) (f : List ℕ → List ℕ) (q : Unmoved H (row H l n) (f (row H l n))) where
  pub unmoved_turned : Turned R H l (on_row H n f l) n (f (row H l n))
  unmoved_turned = turned z lt f refl q.long

  pub types_stay : (m : ℕ) → reqtype (row H (on_row H n f l) m) ≡ reqtype (row H l m)
  types_stay = kept_word unmoved_turned refl 0 q.same_type

  pub starts_stay : (m : ℕ) → start (row H (on_row H n f l) m) ≡ start (row H l m)
  starts_stay = kept_word unmoved_turned refl 5 q.same_start

  pub stops_stay : (m : ℕ) → stop (row H (on_row H n f l) m) ≡ stop (row H l m)
  stops_stay = kept_word unmoved_turned refl 6 q.same_stop

  pub paths_stay : (m : ℕ) → path (row H (on_row H n f l) m) ≡ path (row H l m)
  paths_stay = kept_word unmoved_turned refl 11 q.same_path

  pub related_stays : (m : ℕ) → related_row H (on_row H n f l) m ≡ related_row H l m
  unfolding related_row
  related_stays m = ap (λ (x : ℕ). row_of x) (kept_word unmoved_turned refl 4 q.same_related m)
