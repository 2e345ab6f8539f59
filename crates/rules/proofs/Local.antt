-- What an action on row n writes: row n and the rows above it that it reaches, in the same way on ledgers that agree
-- there.
use mathlib.Core.Path.{◌≡◌, refl}
use mathlib.Core.Logic.{◌≢◌}
use mathlib.Core.Bool.{Bool, true, false, not}
use mathlib.Core.List.{List}
use Prim.Native.Nat.{ℕ, ◌+◌, ◌≤◌}
use native.Mathlib.Omega.{arith}
use borrow.Author.Tests.{eqb-true, not-true}
use lib.Dec.{eqb, lit<}
use lib.ListN.{length}
use Rattle.rules.specs.Pick.{pick}
use Rattle.rules.specs.Numbers.{approved, granted_part, ACCEPTED, CR_ACCEPTED, DISPLACED, RETRACTED, RELINQUISH}
use Rattle.rules.specs.Layout.{window, clock, row, on_row, reqtype, start, related_row, span_hours, raise, granted, set_status}
use Rattle.rules.specs.Sound.{original}
use Rattle.rules.specs.Megawatts.{in_force, take_from, give_back, displaced_row, displace, annulled_row, annul, reduced_row, reduce}
use Rattle.rules.specs.Confirming.{held, emptied, confirm_original, confirm_derived, confirm_relinquish, confirm}
use Rattle.rules.specs.Checks.{named, named_row, profile, waits_at}
use Rattle.rules.specs.SellerStatus.{offers, granted_after, goes_on, annuls_confirmed, offered, offer_after, other_after, seller_after}
use Rattle.rules.specs.CustomerStatus.{bids, confirms, bidden, bid_after, customer_after}
use Rattle.rules.specs.Approve.{approve_after}
use Rattle.rules.specs.Reduce.{reduce_after}
use Rattle.rules.specs.Lapse.{lapse_after}
use Rattle.rules.specs.Act.{kind_number, kind_after}
use Rattle.rules.specs.declared.Action.{Action}
use Rattle.rules.proofs.Spans.{Spanned, span_length}
use Rattle.rules.proofs.Kept.{Same, spanned, fitting_force, fitting_granted}
use Rattle.rules.proofs.Passed.{profile_length, SellerPassed, seller_status_passed, CustomerPassed, customer_status_passed, ReducePassed, reduce_passed}
use Rattle.rules.proofs.Lasting.{Lasting, lasting_status, lasting_raise, lasting_taken, lasting_reduced, lasting_given, lasting_held, lasting_emptied, lasting_displaced, lasting_annulled, lasting_offered, lasting_bidden}
use Rattle.rules.proofs.Wrote.{Agree, Wrote, none, frame, agree, written, wrote_then}
use Rattle.rules.proofs.Reach.{Reach, reach_last, agree_related, same_row, same_related}

-- a choice, made alike on both sides
choose : {K : ℕ → Bool} {R H : ℕ} {l m x x' y y' : List ℕ} (b : Bool) → (b ≡ true → Wrote K R H l m x y) → (b ≡ false → Wrote K R H l m x' y') → Wrote K R H l m (pick b x x') (pick b y y')
choose true f g = f refl
choose false f g = g refl

choose_by : {K : ℕ → Bool} {R H : ℕ} {l m x y : List ℕ} (b : Bool) (f g : List ℕ → List ℕ) → (b ≡ true → Wrote K R H l m (f x) (f y)) → (b ≡ false → Wrote K R H l m (g x) (g y)) → Wrote K R H l m (pick b f g x) (pick b f g y)
choose_by true f g p q = p refl
choose_by false f g p q = q refl

-- the span lasts
spanned_last : {H : ℕ} {r q : List ℕ} → Spanned H r → Lasting H r q → Spanned H q
spanned_last {H} {r} {q} s t =
    let a : start q ≡ start r = t.word 5 (lit< tt) refl in
    record { long = t.long; starts = omega (arith, a, t.word 6 (lit< tt) refl); stops = omega (arith, t.word 6 (lit< tt) refl) }

-- ---- the effects
module _ {K : ℕ → Bool} {R H : ℕ} {l m : List ℕ} {n : ℕ} (G : Agree K R H l m) (X : Reach K R H l n) where
  -- a write in the row itself
  own_wrote : (f : List ℕ → List ℕ) → (Lasting H (row H l n) (row H l n) → Lasting H (row H l n) (f (row H l n))) → Wrote K R H l m (on_row H n f l) (on_row H n f m)
  own_wrote f q = written G.first none X.own X.own_row f q

  pub status_wrote : (v : ℕ) → Wrote K R H l m (on_row H n (set_status v) l) (on_row H n (set_status v) m)
  status_wrote v = own_wrote (set_status v) (λ t. lasting_status t.long v)

  module _ (mw : List ℕ) (fits : start (row H l n) + length mw ≤ H) where
    pub reduce_wrote : Wrote K R H l m (reduce H n mw l) (reduce H n mw m)
    unfolding reduce
    reduce_wrote = rw (← same_row G X) (own_wrote (reduced_row H (start (row H l n)) mw) (λ t. lasting_reduced t.long (start (row H l n)) mw fits))

    original_wrote : Wrote K R H l m (confirm_original H n mw l) (confirm_original H n mw m)
    unfolding confirm_original
    original_wrote = rw (← same_row G X) (own_wrote (held H (start (row H l n)) mw) (λ t. lasting_held t.long (start (row H l n)) mw fits))

    module _ (t : original (reqtype (row H l n)) ≡ false) where
      taken_wrote : Wrote K R H l m (on_row H (related_row H l n) (take_from H (start (row H l n)) mw) l) (on_row H (related_row H l n) (take_from H (start (row H l n)) mw) m)
      taken_wrote = written G.first none (X.above t) (X.above_row t) (take_from H (start (row H l n)) mw) (λ t. lasting_taken t.long (start (row H l n)) mw fits)

      derived_wrote : Wrote K R H l m (confirm_derived H n mw l) (confirm_derived H n mw m)
      unfolding confirm_derived
      derived_wrote =
          rw (← same_row G X, ← same_related G X)
          (written G.first taken_wrote X.own X.own_row (held H (start (row H l n)) mw) (λ t. lasting_held t.long (start (row H l n)) mw fits))

      relinquish_wrote : eqb (reqtype (row H l n)) RELINQUISH ≡ true → Wrote K R H l m (confirm_relinquish H n mw l) (confirm_relinquish H n mw m)
      unfolding confirm_relinquish
      relinquish_wrote e =
          rw (← same_row G X, ← same_related G X, ← agree_related G (X.above t))
          (written G.first
          (written G.first taken_wrote (X.grand e) (X.grand_row e) (give_back H (start (row H l n)) mw) (λ t. lasting_given t.long (start (row H l n)) mw fits))
          X.own X.own_row (emptied H (start (row H l n)) mw) (λ t. lasting_emptied t.long (start (row H l n)) mw fits))

    pub confirm_wrote : Wrote K R H l m (confirm H n mw l) (confirm H n mw m)
    unfolding confirm
    confirm_wrote =
        rw (← same_row G X)
        (choose (original (reqtype (row H l n))) (λ t. original_wrote)
        (λ t. choose (eqb (reqtype (row H l n)) RELINQUISH) (λ e. relinquish_wrote t e) (λ e. derived_wrote t)))

  -- of a row of the ledger's hours
  module _ (S : Spanned H (row H l n)) where
    pub displace_wrote : Wrote K R H l m (displace H n l) (displace H n m)
    unfolding displace
    displace_wrote = own_wrote (displaced_row H) (λ t. lasting_displaced S)

    pub annul_wrote : Wrote K R H l m (annul H n l) (annul H n m)
    unfolding annul
    annul_wrote =
        rw (← same_row G X, ← same_related G X)
        (written G.first (choose (not (original (reqtype (row H l n)))) back (λ t. none)) X.own X.own_row (annulled_row H) (λ t. lasting_annulled (spanned_last S t)))
      where
        back : not (original (reqtype (row H l n))) ≡ true → Wrote K R H l m (on_row H (related_row H l n) (give_back H (start (row H l n)) (granted H (row H l n))) l) (on_row H (related_row H l n) (give_back H (start (row H l n)) (granted H (row H l n))) m)
        back e =
            let o = not-true (original (reqtype (row H l n))) e in
            written G.first none (X.above o) (X.above_row o) (give_back H (start (row H l n)) (granted H (row H l n)))
            (λ t. lasting_given t.long (start (row H l n)) (granted H (row H l n)) (omega (arith, S.starts, S.stops, span_length S granted_part (lit< tt))))

-- a write in the row, and then it is confirmed
then_confirm : {K : ℕ → Bool} {R H : ℕ} {l m l' m' : List ℕ} {n : ℕ} → Agree K R H l m → Reach K R H l n → Wrote K R H l m l' m' → (mw : List ℕ) → start (row H l n) + length mw ≤ H → Wrote K R H l m (confirm H n mw l') (confirm H n mw m')
then_confirm {n = n} G X W mw fits =
    let F = frame G.first W in
    wrote_then W (confirm_wrote (agree (λ k t. t) G W) (reach_last F X) mw (omega (arith, fits, F.word n 5 (lit< tt) refl)))

-- ---- the kinds
module _ {K : ℕ → Bool} {R H : ℕ} {l m : List ℕ} (w : List ℕ) (a : Action) (G : Agree K R H l m) (X : Reach K R H l (named a)) (same : Same H (named_row H l a) (named_row H l a)) where
  S : Spanned H (named_row H l a)
  S = spanned same

  -- a profile of as many hours as the row's fits into it, as does the one in force
  fits : (mw : List ℕ) → length mw ≡ span_hours (named_row H l a) → start (named_row H l a) + length mw ≤ H
  fits mw e = omega (arith, e, S.starts, S.stops)

  force_fits : start (named_row H l a) + length (in_force H (named_row H l a)) ≤ H
  force_fits = fits (in_force H (named_row H l a)) (fitting_force same).counted

  seller_wrote : SellerPassed H l w a → Wrote K R H l m (seller_after H l w a) (seller_after H m w a)
  unfolding seller_after offer_after other_after
  seller_wrote P =
      rw (← same_row G X, ← G.head 5 (lit< tt), ← G.head 3 (lit< tt))
      (choose (offers a)
      (λ o.
      let mw = granted_after H w a (named_row H l a) in
      let e : start (named_row H l a) + length mw ≤ H = fits mw (fitting_granted same w a (P.offer o).profile).counted in
      let W : Wrote K R H l m (on_row H (named a) (offered H (clock l + window l) a mw) l) (on_row H (named a) (offered H (clock l + window l) a mw) m) = own_wrote G X (offered H (clock l + window l) a mw) (λ t. lasting_offered t.long (clock l + window l) a mw e) in
      choose (goes_on a (named_row H l a)) (λ g. then_confirm G X W mw e) (λ g. W))
      (λ o.
      choose (eqb a.status DISPLACED) (λ d. displace_wrote G X S)
      (λ d. choose (annuls_confirmed a (named_row H l a)) (λ c. annul_wrote G X S) (λ c. status_wrote G X a.status))))

  customer_wrote : CustomerPassed H l w a → Wrote K R H l m (customer_after H l w a) (customer_after H m w a)
  unfolding customer_after bid_after
  customer_wrote P =
      rw (← same_row G X)
      (choose (bids a)
      (λ o.
      let W : Wrote K R H l m (on_row H (named a) (bidden H w a) l) (on_row H (named a) (bidden H w a) m) = own_wrote G X (bidden H w a) (λ t. lasting_bidden t.long w a (λ c. fits (profile w a) (profile_length ((P.bid o).profile c)))) in
      choose_by (confirms a) (confirm H (named a) (in_force H (named_row H l a))) (on_row H (named a) (set_status a.status))
      (λ c. then_confirm G X W (in_force H (named_row H l a)) force_fits)
      (λ c. written G.first W X.own X.own_row (set_status a.status) (λ t. lasting_status t.long a.status)))
      (λ o. status_wrote G X a.status))

  approve_wrote : Wrote K R H l m (approve_after H l a) (approve_after H m a)
  unfolding approve_after
  approve_wrote =
      let W : Wrote K R H l m (on_row H (named a) (raise approved) l) (on_row H (named a) (raise approved) m) = own_wrote G X (raise approved) (λ t. lasting_raise t.long approved 4 (lit< tt) refl) in
      rw (← same_row G X)
      (choose (waits_at ACCEPTED (named_row H l a)) (λ g. then_confirm G X W (in_force H (named_row H l a)) force_fits) (λ g. W))

  reduced_wrote : ReducePassed H l w a → Wrote K R H l m (reduce_after H l w a) (reduce_after H m w a)
  unfolding reduce_after
  reduced_wrote P = reduce_wrote G X (profile w a) (fits (profile w a) (profile_length P.profile))

  lapse_wrote : Wrote K R H l m (lapse_after H l a) (lapse_after H m a)
  unfolding lapse_after
  lapse_wrote =
      rw (← same_row G X)
      (choose (waits_at CR_ACCEPTED (named_row H l a)) (λ g. confirm_wrote G X (in_force H (named_row H l a)) force_fits) (λ g. status_wrote G X RETRACTED))

  -- of kinds 2 to 6; any other kind but 1 and 7 writes nothing
  pub kind_wrote : a.kind ≢ 1 → a.kind ≢ 7 → kind_number H l w a ≡ 0 → Wrote K R H l m (kind_after H l w a) (kind_after H m w a)
  unfolding kind_number kind_after
  kind_wrote n1 n7 =
      by (eqb a.kind 1) (λ t e. absurd (n1 (eqb-true _ _ t)))
      (by (eqb a.kind 2) (λ t e. seller_wrote (seller_status_passed H l w a e))
      (by (eqb a.kind 3) (λ t e. customer_wrote (customer_status_passed H l w a e))
      (by (eqb a.kind 4) (λ t e. approve_wrote)
      (by (eqb a.kind 5) (λ t e. reduced_wrote (reduce_passed H l w a e))
      (by (eqb a.kind 6) (λ t e. lapse_wrote)
      (by (eqb a.kind 7) (λ t e. absurd (n7 (eqb-true _ _ t)))
      (λ e. none)))))))
    where
      by : {i j : ℕ} {x x' y y' : List ℕ} (b : Bool) → (b ≡ true → i ≡ 0 → Wrote K R H l m x y) → (j ≡ 0 → Wrote K R H l m x' y') → pick b i j ≡ 0 → Wrote K R H l m (pick b x x') (pick b y y')
      by true f g e = f refl e
      by false f g e = g e
