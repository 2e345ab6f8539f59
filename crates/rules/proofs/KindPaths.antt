-- Number 22 by the kind of the action, from the ledger before it.
use mathlib.Core.Path.{◌≡◌, refl, sym, ap, subst, ◌∙◌}
use mathlib.Core.Logic.{◌≢◌}
use mathlib.Core.Bool.{Bool, true, false, ◌&&◌}
use mathlib.Core.List.{List}
use Prim.Native.Nat.{ℕ, ◌+◌, ◌-◌, ◌≤◌, ◌<◌}
use native.Mathlib.Decide.{ℕ_discrete}
use native.Mathlib.Omega.{arith}
use borrow.Author.Tests.{eqb-true, eqb-false}
use lib.Dec.{eqb, lit<}
use lib.ListN.{length}
use Rattle.column.specs.Column.{Off}
use Rattle.rules.specs.Pick.{pick, when}
use Rattle.rules.specs.Numbers.{most_status, approved, ACCEPTED, CR_ACCEPTED, CONFIRMED, DISPLACED, ANNULLED, RETRACTED}
use Rattle.rules.specs.Layout.{rows, hours, window, clock, used, row_of, row, on_row, status, start, span_hours, has, raise, set_status}
use Rattle.rules.specs.Moves.{confirmed_or_annulled}
use Rattle.rules.specs.Megawatts.{in_force, displace, annul, reduce}
use Rattle.rules.specs.Confirming.{confirm, confirm_number}
use Rattle.rules.specs.Checks.{named, named_row, profile, comes, waits_at}
use Rattle.rules.specs.SellerStatus.{offers, granted_after, goes_on, annuls_confirmed, offered, offer_after, other_after, seller_after}
use Rattle.rules.specs.CustomerStatus.{bids, confirms, bidden, bid_after, customer_after}
use Rattle.rules.specs.Approve.{approve_after}
use Rattle.rules.specs.Reduce.{reduce_after}
use Rattle.rules.specs.Lapse.{lapse_after}
use Rattle.rules.specs.Submit.{new_words, submit_after}
use Rattle.rules.specs.Clock.{clock_after}
use Rattle.rules.specs.Paths.{over_posted, over_at}
use Rattle.rules.specs.Act.{subject, status_before, uses_path, over_use}
use Rattle.rules.specs.declared.Action.{Action}
use Rattle.rules.proofs.Rows.{row_length, head_row}
use Rattle.rules.proofs.Seen.{Room}
use Rattle.rules.proofs.SoundFacts.{SoundLedger, sized}
use Rattle.rules.proofs.Formed.{Formed, formed}
use Rattle.rules.proofs.Leaves.{Leaves}
use Rattle.rules.proofs.Effects.{own_leaves, displace_leaves, annul_leaves, reduce_leaves, confirm_leaves, kin_reduced, inside_own, row_spanned, displaced_length, annulled_length}
use Rattle.rules.proofs.Passed.{SubmitPassed, ConfirmPassed, confirm_passed, SellerPassed, CustomerPassed, BidPassed, ApprovePassed, ReducePassed, LapsePassed, SellerMove, seller_move, CustomerMove, customer_move, annuls_from, annuls_open, open_off, lapsing_off, profile_length}
use Rattle.rules.proofs.Submitted.{submit_opens, new_field}
use Rattle.rules.proofs.Placed.{placed}
use Rattle.rules.proofs.Quiet.{offered_calm, bidden_calm, approved_calm}
use Rattle.rules.proofs.Unmoved.{Unmoved, unmoved_offered, unmoved_bidden, unmoved_raise}
use Rattle.rules.proofs.Kept.{Same, Fitting, next_own, same_self, same_status, same_approved, same_offered, same_bidden, fitting_profile, fitting_force, fitting_granted}
use Rattle.rules.proofs.Naming.{set_status_lem, confirmed_status_lem}
use Rattle.rules.proofs.SellerGood.{row_displaced, row_annulled, offer_most}
use Rattle.rules.proofs.CustomerGood.{no_bid, no_confirm}
use Rattle.rules.proofs.Tests.{takes_confirmed, takes_annulled, takes_none, takes_kept, use_named}
use Rattle.rules.proofs.After.{use_confirming, use_annulling}
use Rattle.rules.proofs.OverPaths.{exceeds_at, paths_confirming, paths_then_confirming, paths_annulling}

-- ---- an action that names its row, by what it does to the row
module _ {l : List ℕ} (s : SoundLedger l) (a : Action) (lt : named a < used l) (ps : List ℕ) (n1 : a.kind ≢ 1) (n8 : a.kind ≢ 8) where
  abbrev H : ℕ
  H = hours l

  abbrev n : ℕ
  n = named a

  abbrev r : List ℕ
  r = named_row (hours l) l a

  F : Formed l
  F = formed s

  -- the row is confirmed, or annulled from 13: its paths are tested
  takes : (next : List ℕ) → confirmed_or_annulled (status (named_row (hours l) l a)) (status (row (hours l) next (named a))) ≡ true → over_use (hours l) l a next ps ≡ over_at (hours l) l (named a) next ps
  takes next e = use_named H l a next ps n1 n8 ∙ ap (λ (b : Bool). b && over_at H l n next ps) e

  -- or neither
  spares : (next : List ℕ) → confirmed_or_annulled (status (named_row (hours l) l a)) (status (row (hours l) next (named a))) ≡ false → over_use (hours l) l a next ps ≡ false
  spares next e = use_named H l a next ps n1 n8 ∙ ap (λ (b : Bool). b && over_at H l n next ps) e

  -- what it goes by, once row n is confirmed with mw
  abbrev confirmed : List ℕ → Bool
  confirmed mw = exceeds_at (hours l) l (named a) ps (λ x h. use_confirming (hours l) l (named a) mw x h)

  own_room : (mw : List ℕ) → length mw ≡ span_hours (named_row (hours l) l a) → Room (hours l) (start (named_row (hours l) l a)) mw (named_row (hours l) l a)
  own_room mw long = record { long = (row_spanned F lt).long; fits = omega (arith, long, (row_spanned F lt).starts, (row_spanned F lt).stops) }

  module _ (before : Off (status (named_row (hours l) l a))) (mw : List ℕ) (long : length mw ≡ span_hours (named_row (hours l) l a)) (isApproved : Bool) (passed : confirm_number (hours l) l (named a) mw isApproved ≡ 0) where
    C : ConfirmPassed (hours l) l (named a) mw isApproved
    C = confirm_passed H l n mw isApproved passed

    use_confirms : over_use (hours l) l a (confirm (hours l) (named a) mw l) ps ≡ confirmed mw
    use_confirms =
        let now : status (row H (confirm H n mw l) n) ≡ CONFIRMED = ap status (confirm_leaves F lt mw long).own ∙ confirmed_status_lem (own_room mw long) in
        takes (confirm H n mw l) (takes_confirmed _ _ before.0 now) ∙ paths_confirming s lt ps before mw long C.unconfirmed C.short

    -- after a write in the row
    use_then_confirms : (f : List ℕ → List ℕ) → Unmoved (hours l) (named_row (hours l) l a) (f (named_row (hours l) l a)) → Same (hours l) (named_row (hours l) l a) (f (named_row (hours l) l a)) → Off (status (f (named_row (hours l) l a)))
        → over_use (hours l) l a (confirm (hours l) (named a) mw (on_row (hours l) (named a) f l)) ps ≡ confirmed mw
    use_then_confirms f q same after =
        takes (confirm H n mw (on_row H n f l)) (takes_confirmed _ _ before.0 now) ∙ paths_then_confirming s lt ps before mw long C.unconfirmed C.short f q same after
      where
        L : Leaves (rows l) H l (on_row H n f l) n (f r)
        L = own_leaves F lt f same.long

        now : status (row H (confirm H n mw (on_row H n f l)) n) ≡ CONFIRMED
        now =
            let N = next_own F lt f same in
            let e : hours (on_row H n f l) ≡ H = L.head 1 (lit< tt) in
            let u : n < used (on_row H n f l) = omega (arith, L.head 6 (lit< tt), lt) in
            let m : length mw ≡ span_hours (f r) = omega (arith, long, same.start, same.stop) in
            subst (λ (J : ℕ). length mw ≡ span_hours (row J (on_row H n f l) n) → Room J (start (row J (on_row H n f l) n)) mw (row J (on_row H n f l) n) → status (row J (confirm J n mw (on_row H n f l)) n) ≡ CONFIRMED) e
            (λ i j. ap status (confirm_leaves N.formed u mw i).own ∙ confirmed_status_lem j)
            (m ∙ ap span_hours (sym L.own))
            (subst (λ (z : List ℕ). Room H (start z) mw z) (sym L.own) (record { long = same.long; fits = omega (arith, long, same.start, (row_spanned F lt).starts, (row_spanned F lt).stops) }))

  -- a status is set
  now_set : {v : ℕ} → 1 ≤ v → v ≤ most_status → status (row (hours l) (on_row (hours l) (named a) (set_status v) l) (named a)) ≡ v
  now_set {v} least most = let k = same_status (same_self F lt) least most in ap status (own_leaves F lt (set_status v) k.long).own ∙ set_status_lem r v H k.long

  -- and the row was not CONFIRMED and is not
  use_status : (next : List ℕ) {v : ℕ} → status (row (hours l) next (named a)) ≡ v → status (named_row (hours l) l a) ≢ CONFIRMED → v ≢ CONFIRMED → over_use (hours l) l a next ps ≡ false
  use_status next now x y = spares next (takes_none _ _ x (λ z. y (sym now ∙ z)))

  -- ---- 2 Seller status
  module _ (w : List ℕ) (P : SellerPassed (hours l) l w a) where
    move : SellerMove (named_row (hours l) l a) a.status
    move = seller_move r a.status P.may

    module _ (o : offers a ≡ true) where
      offs : Off (status (named_row (hours l) l a)) × Off a.status
      offs = move.others (λ z. omega (arith, z, offer_most a o)) (λ z. omega (arith, z, offer_most a o))

      abbrev mw : List ℕ
      mw = granted_after (hours l) w a (named_row (hours l) l a)

      abbrev f : List ℕ → List ℕ
      f = offered (hours l) (clock l + window l) a (granted_after (hours l) w a (named_row (hours l) l a))

      fits : Fitting (granted_after (hours l) w a (named_row (hours l) l a)) (named_row (hours l) l a)
      fits = fitting_granted (same_self F lt) w a (P.offer o).profile

      same : Same (hours l) (named_row (hours l) l a) (offered (hours l) (clock l + window l) a (granted_after (hours l) w a (named_row (hours l) l a)) (named_row (hours l) l a))
      same = same_offered (same_self F lt) (clock l + window l) (omega (arith, F.head.clock, F.head.window.1)) a (P.offer o).price P.status.0 P.status.1 fits

      is_offered : status (offered (hours l) (clock l + window l) a (granted_after (hours l) w a (named_row (hours l) l a)) (named_row (hours l) l a)) ≡ a.status
      is_offered = (offered_calm (placed F lt) 0 (clock l + window l) a mw fits.counted).status

      use_offer : over_use (hours l) l a (offer_after (hours l) l a (granted_after (hours l) w a (named_row (hours l) l a))) ps ≡ (goes_on a (named_row (hours l) l a) && confirmed (granted_after (hours l) w a (named_row (hours l) l a)))
      unfolding offer_after
      use_offer = go (goes_on a r) refl
        where
          go : (b : Bool) → goes_on a r ≡ b → over_use H l a (when b (confirm H n mw) (on_row H n f l)) ps ≡ (b && confirmed mw)
          go true g =
              use_then_confirms offs.0 mw fits.counted (has approved r) ((P.offer o).confirms g) f
              (unmoved_offered (row_spanned F lt).long (clock l + window l) a mw (omega (arith, fits.counted, (row_spanned F lt).starts, (row_spanned F lt).stops))) same (subst Off (sym is_offered) offs.1)
          go false g = use_status (on_row H n f l) (ap status (own_leaves F lt f same.long).own ∙ is_offered) offs.0.0 offs.1.0

    use_other : offers a ≡ false → over_use (hours l) l a (other_after (hours l) l a) ps ≡ (annuls_confirmed a (named_row (hours l) l a) && exceeds_at (hours l) l (named a) ps (λ x h. use_annulling (hours l) l (named a) x h))
    unfolding other_after
    use_other o = go (eqb a.status DISPLACED) (annuls_confirmed a r) refl refl
      where
        u : Bool
        u = exceeds_at H l n ps (λ x h. use_annulling H l n x h)

        quiet : a.status ≢ DISPLACED → annuls_confirmed a r ≡ false → (status r ≢ CONFIRMED) × (a.status ≢ CONFIRMED)
        quiet ne e = by (ℕ_discrete a.status ANNULLED)
          where
            by : Dec (a.status ≡ ANNULLED) → (status r ≢ CONFIRMED) × (a.status ≢ CONFIRMED)
            by (yes q) = (annuls_open a r e q, λ z. omega (arith, z, q))
            by (no q) = let m = move.others ne q in (m.0.0, m.1.0)

        go : (b c : Bool) → eqb a.status DISPLACED ≡ b → annuls_confirmed a r ≡ c → over_use H l a (pick b (displace H n l) (pick c (annul H n l) (on_row H n (set_status a.status) l))) ps ≡ (c && u)
        go true true x y =
            let d : a.status ≡ DISPLACED = eqb-true _ _ x in
            absurd (omega (arith, (annuls_from a r y).0, d))
        go true false x y =
            let now : status (row H (displace H n l) n) ≡ DISPLACED = ap status (displace_leaves F lt).own ∙ row_displaced H r (displaced_length (row_spanned F lt)) in
            spares (displace H n l) (takes_kept _ _ (move.displaces (eqb-true _ _ x)).0 (λ z. omega (arith, z, now)))
        go false true x y =
            let at = annuls_from a r y in
            let now : status (row H (annul H n l) n) ≡ ANNULLED = ap status (annul_leaves F lt).own ∙ row_annulled H r (annulled_length (row_spanned F lt)) in
            takes (annul H n l) (takes_annulled _ _ at.1 now) ∙ paths_annulling s lt ps (move.annuls_confirmed_lem at.0 at.1) at.1 (P.whole y)
        go false false x y = let m = quiet (eqb-false _ _ x) y in use_status (on_row H n (set_status a.status) l) (now_set P.status.0 P.status.1) m.0 m.1

    pub seller_use : over_use (hours l) l a (seller_after (hours l) l w a) ps
        ≡ pick (offers a) (goes_on a (named_row (hours l) l a) && exceeds_at (hours l) l (named a) ps (λ x h. use_confirming (hours l) l (named a) (granted_after (hours l) w a (named_row (hours l) l a)) x h))
        (annuls_confirmed a (named_row (hours l) l a) && exceeds_at (hours l) l (named a) ps (λ x h. use_annulling (hours l) l (named a) x h))
    unfolding seller_after
    seller_use = go (offers a) refl
      where
        go : (b : Bool) → offers a ≡ b → over_use H l a (pick b (offer_after H l a (granted_after H w a r)) (other_after H l a)) ps ≡ pick b (goes_on a r && confirmed (granted_after H w a r)) (annuls_confirmed a r && exceeds_at H l n ps (λ x h. use_annulling H l n x h))
        go true o = use_offer o
        go false o = use_other o

  -- ---- 3 Customer status
  module _ (w : List ℕ) (P : CustomerPassed (hours l) l w a) where
    bought : CustomerMove (named_row (hours l) l a) a.status
    bought = customer_move r a.status P.may

    use_bid : bids a ≡ true → over_use (hours l) l a (bid_after (hours l) l w a) ps ≡ (confirms a && confirmed (in_force (hours l) (named_row (hours l) l a)))
    unfolding bid_after
    use_bid o = go (confirms a) refl
      where
        Q : BidPassed H l w a
        Q = P.bid o

        same : Same H r (bidden H w a r)
        same = same_bidden (same_self F lt) w a Q.price (λ c. fitting_profile r (Q.profile c))

        fits : comes a ≡ true → length (profile w a) ≡ span_hours r
        fits c = profile_length (Q.profile c)

        is_bidden : status (bidden H w a r) ≡ status r
        is_bidden = (bidden_calm (placed F lt) 0 w a fits).status

        again : status (row H (on_row H n (set_status a.status) (on_row H n (bidden H w a) l)) n) ≡ a.status
        again =
            let L = own_leaves F lt (bidden H w a) same.long in
            let N = next_own F lt (bidden H w a) same in
            let e : hours (on_row H n (bidden H w a) l) ≡ H = L.head 1 (lit< tt) in
            let u : n < used (on_row H n (bidden H w a) l) = omega (arith, L.head 6 (lit< tt), lt) in
            let k = same_status (same_self N.formed u) P.status.0 P.status.1 in
            subst (λ (J : ℕ). status (row J (on_row J n (set_status a.status) (on_row H n (bidden H w a) l)) n) ≡ a.status) e
            (ap status (own_leaves N.formed u (set_status a.status) k.long).own ∙ set_status_lem (row (hours (on_row H n (bidden H w a) l)) (on_row H n (bidden H w a) l) n) a.status (hours (on_row H n (bidden H w a) l)) k.long)

        go : (b : Bool) → confirms a ≡ b → over_use H l a (pick b (confirm H n (in_force H r)) (on_row H n (set_status a.status)) (on_row H n (bidden H w a) l)) ps ≡ (b && confirmed (in_force H r))
        go true c =
            use_then_confirms bought.before (in_force H r) (fitting_force (same_self F lt)).counted (has approved r) (Q.confirms c) (bidden H w a)
            (unmoved_bidden (row_spanned F lt).long w a (λ c. omega (arith, fits c, (row_spanned F lt).starts, (row_spanned F lt).stops))) same (subst Off (sym is_bidden) bought.before)
        go false c = use_status (on_row H n (set_status a.status) (on_row H n (bidden H w a) l)) again bought.before.0 (λ z. omega (arith, z, no_confirm a o c))

    pub customer_use : over_use (hours l) l a (customer_after (hours l) l w a) ps
        ≡ (bids a && (confirms a && exceeds_at (hours l) l (named a) ps (λ x h. use_confirming (hours l) l (named a) (in_force (hours l) (named_row (hours l) l a)) x h)))
    unfolding customer_after
    customer_use = go (bids a) refl
      where
        go : (b : Bool) → bids a ≡ b → over_use H l a (pick b (bid_after H l w a) (on_row H n (set_status a.status) l)) ps ≡ (b && (confirms a && confirmed (in_force H r)))
        go true o = use_bid o
        go false o = use_status (on_row H n (set_status a.status) l) (now_set P.status.0 P.status.1) bought.before.0 (no_bid a o).1

  -- ---- 4 Approve
  pub approve_use : ApprovePassed (hours l) l a → over_use (hours l) l a (approve_after (hours l) l a) ps
      ≡ (waits_at ACCEPTED (named_row (hours l) l a) && exceeds_at (hours l) l (named a) ps (λ x h. use_confirming (hours l) l (named a) (in_force (hours l) (named_row (hours l) l a)) x h))
  unfolding approve_after
  approve_use P = go (waits_at ACCEPTED r) refl
    where
      off : Off (status r)
      off = open_off r P.is_open_lem

      same : Same H r (raise approved r)
      same = same_approved (same_self F lt)

      stays : status (raise approved r) ≡ status r
      stays = (approved_calm (placed F lt) 0).status

      go : (b : Bool) → waits_at ACCEPTED r ≡ b → over_use H l a (when b (confirm H n (in_force H r)) (on_row H n (raise approved) l)) ps ≡ (b && confirmed (in_force H r))
      go true q =
          use_then_confirms off (in_force H r) (fitting_force (same_self F lt)).counted true (P.confirms q) (raise approved) (unmoved_raise (row_spanned F lt).long approved) same (subst Off (sym stays) off)
      go false q = use_status (on_row H n (raise approved) l) (ap status (own_leaves F lt (raise approved) same.long).own ∙ stays) off.0 off.0

  -- ---- 5 Reduce
  pub reduce_use : (w : List ℕ) → ReducePassed (hours l) l w a → over_use (hours l) l a (reduce_after (hours l) l w a) ps ≡ false
  unfolding reduce_after
  reduce_use w P =
      let long : length (profile w a) ≡ span_hours r = profile_length P.profile in
      let now : status (row H (reduce H n (profile w a) l) n) ≡ status r = ap status (reduce_leaves F lt (profile w a) long).own ∙ (kin_reduced (inside_own F lt (profile w a) long)).field 1 (lit< tt) in
      spares (reduce H n (profile w a) l) (takes_kept _ _ P.confirmed (λ z. omega (arith, z, now, P.confirmed)))

  -- ---- 6 Lapse
  pub lapse_use : LapsePassed (hours l) l a → over_use (hours l) l a (lapse_after (hours l) l a) ps
      ≡ (waits_at CR_ACCEPTED (named_row (hours l) l a) && exceeds_at (hours l) l (named a) ps (λ x h. use_confirming (hours l) l (named a) (in_force (hours l) (named_row (hours l) l a)) x h))
  unfolding lapse_after
  lapse_use P = go (waits_at CR_ACCEPTED r) refl
    where
      off : Off (status r)
      off = lapsing_off P.status

      go : (b : Bool) → waits_at CR_ACCEPTED r ≡ b → over_use H l a (pick b (confirm H n (in_force H r) l) (on_row H n (set_status RETRACTED) l)) ps ≡ (b && confirmed (in_force H r))
      go true q = use_confirms off (in_force H r) (fitting_force (same_self F lt)).counted (has approved r) (P.confirms q)
      go false q = use_status (on_row H n (set_status RETRACTED) l) (now_set (omega arith) (omega arith)) off.0 (λ z. omega (arith, z))

-- ---- the kinds that name no row
-- a status that stays
takes_same : (v : ℕ) → confirmed_or_annulled v v ≡ false
takes_same v = go (ℕ_discrete v CONFIRMED)
  where
    go : Dec (v ≡ CONFIRMED) → confirmed_or_annulled v v ≡ false
    go (yes e) = takes_kept v v e (λ z. omega (arith, z, e))
    go (no ne) = takes_none v v ne ne

-- ---- 1 Submit: from 0 to QUEUED
pub submit_use : {l w : List ℕ} {a : Action} → SoundLedger l → SubmitPassed (hours l) l w a → (ps : List ℕ) → a.kind ≡ 1 → over_use (hours l) l a (submit_after (hours l) l w a) ps ≡ false
unfolding over_use uses_path subject status_before new_words
submit_use {l} {w} {a} s P ps k =
    ap (λ (j : ℕ). pick (eqb j 8) (over_posted H next ps a.path) (confirmed_or_annulled (pick (eqb j 1) 0 (status (named_row H l a))) (status (row H next (row_of (pick (eqb j 1) (used l + 1) a.reference)))) && over_at H l (row_of (pick (eqb j 1) (used l + 1) a.reference)) next ps)) k
    ∙ ap (λ (b : Bool). b && over_at H l (row_of (used l + 1)) next ps) (takes_none 0 _ (λ z. omega (arith, z)) (λ z. omega (arith, z, now)))
  where
    H : ℕ
    H = hours l

    next : List ℕ
    next = submit_after (hours l) l w a

    now : status (row (hours l) (submit_after (hours l) l w a) (row_of (used l + 1))) ≡ 1
    now =
        let last : used l + 1 - 1 ≡ used l = omega arith in
        let left : used l < rows l = omega (arith, P.room, s.head.used) in
        ap (λ (m : ℕ). status (row (hours l) (submit_after (hours l) l w a) m)) last
        ∙ ap status (submit_opens (formed s) P).own
        ∙ new_field P (row (hours l) l (used l)) (row_length (sized s) left) 1 (lit< tt)

-- ---- 7 Clock: no row changes, nor by an action of no kind
pub still_use : (H : ℕ) (l : List ℕ) (a : Action) (next ps : List ℕ) → a.kind ≢ 1 → a.kind ≢ 8 → row H next (named a) ≡ row H l (named a) → over_use H l a next ps ≡ false
still_use H l a next ps n1 n8 e =
    use_named H l a next ps n1 n8
    ∙ ap (λ (v : ℕ). confirmed_or_annulled (status (named_row H l a)) v && over_at H l (named a) next ps) (ap status e)
    ∙ ap (λ (b : Bool). b && over_at H l (named a) next ps) (takes_same (status (named_row H l a)))

pub clock_use : (H : ℕ) (l : List ℕ) (a : Action) (ps : List ℕ) → a.kind ≡ 7 → over_use H l a (clock_after l a) ps ≡ false
unfolding clock_after
clock_use H l a ps k = still_use H l a (clock_after l a) ps (λ z. omega (arith, z, k)) (λ z. omega (arith, z, k)) (head_row H l 5 a.time (named a) (lit< tt))
