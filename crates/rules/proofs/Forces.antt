-- Laws of the profile in force after the writes of a row.
use mathlib.Core.Path.{◌≡◌, refl, sym, ap, ◌∙◌}
use mathlib.Core.Logic.{◌≢◌}
use mathlib.Core.Bool.{Bool, true, false, ◌||◌, or-true}
use mathlib.Core.List.{List}
use Prim.Native.Nat.{ℕ, ◌*◌, ◌<◌}
use native.Mathlib.Omega.{arith}
use lib.Dec.{lit<}
use lib.ListN.{length, set, length-set}
use borrow.Author.Tests.{eq-eqb}
use lib.Seq.{get_or-set_other}
use Rattle.rules.specs.Pick.{pick, when}
use Rattle.rules.specs.Numbers.{row_words, requested_part, granted_part, granted_given, offer_given, countered, ACCEPTED}
use Rattle.rules.specs.Layout.{start, stop, span_hours, requested, granted, set_hours, set_offer, has_flag, has, raise}
use Rattle.rules.specs.Megawatts.{in_force, grant}
use Rattle.rules.specs.Checks.{profile, comes}
use Rattle.rules.specs.SellerStatus.{accepts, granted_after, entered, offered}
use Rattle.rules.specs.declared.Action.{Action}
use Rattle.rules.proofs.Passed.{ProfilePassed, profile_length}
use Rattle.rules.proofs.Spans.{Spanned, set_spanned, span_set, span_length, own_spanned, put_own, raise_has, raise_higher}
use Rattle.rules.proofs.Unmoved.{unmoved_limited}

-- a word is stored that is neither start nor stop, and granted is given as it was
module _ (H : ℕ) (r : List ℕ) (k x : ℕ) (lt : k < row_words) (s : k ≢ 5) (t : k ≢ 6) where
  force_set : has granted_given (set r k x) ≡ has granted_given r → in_force H (set r k x) ≡ in_force H r
  unfolding in_force
  force_set f =
      ap (λ (b : Bool). pick b (granted H (set r k x)) (requested H (set r k x))) f
      ∙ ap (λ (v : List ℕ). pick (has granted_given r) v (requested H (set r k x))) (span_set H granted_part r k x lt s t)
      ∙ ap (λ (v : List ℕ). pick (has granted_given r) (granted H r) v) (span_set H requested_part r k x lt s t)

  pub force_word : k ≢ 7 → in_force H (set r k x) ≡ in_force H r
  force_word ne = force_set (ap (has_flag granted_given) (get_or-set_other r k 7 x 0 (λ e. ne (sym e))))

-- so it is where a flag above granted given is raised
force_higher : (H k : ℕ) (r : List ℕ) → 7 < length r → in_force H (raise (k * 16) r) ≡ in_force H r
force_higher H k r lt = force_set H r 7 _ (lit< tt) (λ e. omega (arith, e)) (λ e. omega (arith, e)) (raise_higher k r lt)

force_entered : (H : ℕ) (b : Bool) (s : ℕ) (r : List ℕ) → 7 < length r → in_force H (entered b s r) ≡ in_force H r
unfolding entered
force_entered H b s r lt =
    force_word H (when b (raise countered) r) 1 s (lit< tt) (λ e. omega (arith, e)) (λ e. omega (arith, e)) (λ e. omega (arith, e)) ∙ go b
  where
    go : (c : Bool) → in_force H (when c (raise countered) r) ≡ in_force H r
    go true = force_higher H 2 r lt
    go false = refl

-- it has the hours of the span
pub force_length : {H : ℕ} {r : List ℕ} → Spanned H r → length (in_force H r) ≡ span_hours r
unfolding in_force
force_length {H} {r} m = go (has granted_given r)
  where
    go : (b : Bool) → length (pick b (granted H r) (requested H r)) ≡ span_hours r
    go true = span_length m granted_part (lit< tt)
    go false = span_length m requested_part (lit< tt)

-- granted is in force once given
pub force_grant : {H : ℕ} {r : List ℕ} → Spanned H r → (mw : List ℕ) → length mw ≡ span_hours r → in_force H (grant H (start r) mw r) ≡ mw
unfolding in_force grant
force_grant {H} {r} m mw e =
    let q : List ℕ = set_hours H granted_part (start r) mw r in
    let o = own_spanned m granted_part mw (lit< tt) e in
    ap (λ (b : Bool). pick b (granted H (raise granted_given q)) (requested H (raise granted_given q))) (raise_has granted_given q (lit< tt) (omega (arith, o.long)))
    ∙ span_set H granted_part q 7 _ (lit< tt) (λ z. omega (arith, z)) (λ z. omega (arith, z))
    ∙ put_own m granted_part mw (lit< tt) e

-- ---- granted after a seller's move
pub granted_comes : (H : ℕ) (w : List ℕ) (a : Action) (r : List ℕ) → comes a ≡ true → granted_after H w a r ≡ profile w a
unfolding granted_after
granted_comes H w a r c = ap (λ (b : Bool). pick b (profile w a) (in_force H r)) c

pub granted_stays : (H : ℕ) (w : List ℕ) (a : Action) (r : List ℕ) → comes a ≡ false → granted_after H w a r ≡ in_force H r
unfolding granted_after
granted_stays H w a r c = ap (λ (b : Bool). pick b (profile w a) (in_force H r)) c

pub granted_length : {H : ℕ} {r : List ℕ} → Spanned H r → (w : List ℕ) (a : Action) → (comes a ≡ true → ProfilePassed w a (span_hours r)) → length (granted_after H w a r) ≡ span_hours r
granted_length {H} {r} m w a came = go (comes a) refl
  where
    go : (b : Bool) → comes a ≡ b → length (granted_after H w a r) ≡ span_hours r
    go true c = ap length (granted_comes H w a r c) ∙ profile_length (came c)
    go false c = ap length (granted_stays H w a r c) ∙ force_length m

-- 10 grants
pub accepted_grants : (a : Action) → a.status ≡ ACCEPTED → (comes a || accepts a) ≡ true
unfolding accepts
accepted_grants a on = simp (eq-eqb a.status 10 on, or-true)

-- the seller's offer of row r, with the price and its flag written first
module _ {H : ℕ} {r : List ℕ} (m : Spanned H r) (p : ℕ) where
  pub priced_force : in_force H (raise offer_given (set_offer p r)) ≡ in_force H r
  priced_force =
      force_higher H 1 (set r 9 p) (omega (arith, length-set r 9 p, m.long))
      ∙ force_word H r 9 p (lit< tt) (λ e. omega (arith, e)) (λ e. omega (arith, e)) (λ e. omega (arith, e))

  priced_spanned : Spanned H (raise offer_given (set_offer p r))
  priced_spanned = set_spanned (set_spanned m 9 p (λ e. omega (arith, e)) (λ e. omega (arith, e))) 7 _ (λ e. omega (arith, e)) (λ e. omega (arith, e))

  priced_start : start (raise offer_given (set_offer p r)) ≡ start r
  priced_start = get_or-set_other (set r 9 p) 7 5 _ 0 (λ e. omega (arith, e)) ∙ get_or-set_other r 9 5 p 0 (λ e. omega (arith, e))

  priced_stop : stop (raise offer_given (set_offer p r)) ≡ stop r
  priced_stop = get_or-set_other (set r 9 p) 7 6 _ 0 (λ e. omega (arith, e)) ∙ get_or-set_other r 9 6 p 0 (λ e. omega (arith, e))

  pub priced_granted : (w : List ℕ) (a : Action) → granted_after H w a (raise offer_given (set_offer p r)) ≡ granted_after H w a r
  unfolding granted_after
  priced_granted w a = ap (λ (v : List ℕ). pick (comes a) (profile w a) v) priced_force

-- what it grants is in force
pub force_offered : {H : ℕ} {r : List ℕ} → Spanned H r → (expires : ℕ) (a : Action) (mw : List ℕ) → length mw ≡ span_hours r → (comes a || accepts a) ≡ true → in_force H (offered H expires a mw r) ≡ mw
unfolding offered
force_offered {H} {r} m expires a mw e grants =
    let q : List ℕ = raise offer_given (set_offer a.price r) in
    let given : List ℕ = when (comes a || accepts a) (grant H (start r) mw) q in
    let n : length mw ≡ span_hours q = omega (arith, e, priced_start m a.price, priced_stop m a.price) in
    force_entered H _ a.status (set given 10 expires) (omega (arith, (unmoved_limited {r = r} m.long expires a mw (omega (arith, e, m.starts, m.stops))).long))
    ∙ force_word H given 10 expires (lit< tt) (λ z. omega (arith, z)) (λ z. omega (arith, z)) (λ z. omega (arith, z))
    ∙ ap (λ (b : Bool). in_force H (when b (grant H (start r) mw) q)) grants
    ∙ ap (λ (s : ℕ). in_force H (grant H s mw q)) (sym (priced_start m a.price))
    ∙ force_grant (priced_spanned m a.price) mw n
