-- The entry of a row agrees with it after every action.
use mathlib.Core.Path.{◌≡◌, refl, sym, ap, subst, ◌∙◌}
use mathlib.Core.Logic.{◌≢◌, ◌⊎◌, ⊎_elim, inl, inr}
use mathlib.Core.Bool.{Bool, true, false, ◌||◌, and-false, or-true}
use mathlib.Core.List.{List, [], ◌∷◌}
use Prim.Native.Nat.{ℕ, ◌+◌, ◌/◌, ◌%◌, ◌≤◌, ◌<◌}
use native.Mathlib.Omega.{arith}
use borrow.Author.Tests.{eqb-true, eqb-false, eq-eqb, ne_eqb, not-false}
use lib.Dec.{T, eqb, lit<}
use lib.ListN.{length, get_or}
use Rattle.words.specs.Lists.{zeros, equal, every, splice}
use Rattle.words.proofs.Laws.{lt_or_le, equal_lists, splice_length, splice_in, splice_after, and_left, and_right}
use Rattle.rules.specs.Pick.{pick, ◌among◌}
use Rattle.rules.specs.Numbers.{requested_part, granted_part, approved, granted_given, ACCEPTED, CONFIRMED, DISPLACED, ANNULLED, QUEUED}
use Rattle.rules.specs.Layout.{row_size, reqtype, status, related, start, stop, span_hours, hour_at, requested, granted, has_flag, has, raise, set_status, offer, standing}
use Rattle.rules.specs.Moves.{seller_may}
use Rattle.rules.specs.Megawatts.{in_force, displaced_row, annulled_row, reduced_row}
use Rattle.rules.specs.Confirming.{held, emptied}
use Rattle.rules.specs.Checks.{profile, comes}
use Rattle.rules.specs.Submit.{new_words, new_row}
use Rattle.rules.specs.SellerStatus.{counters, accepts, offers, granted_after, goes_on, offered}
use Rattle.rules.specs.CustomerStatus.{bids, requested_after, unfit_bid, bidden}
use Rattle.rules.specs.Tally.{Entry, granted_in, opened, requested_by, granted_by, copied, changed}
use Rattle.rules.specs.declared.Action.{Action}
use Rattle.rules.specs.declared.Answer.{Answer}
use Rattle.rules.proofs.Seen.{standing_before, standing_after}
use Rattle.rules.proofs.Leaves.{Kin}
use Rattle.rules.proofs.SoundFacts.{SoundWords}
use Rattle.rules.proofs.Good.{Agrees}
use Rattle.rules.proofs.Passed.{ProfilePassed, profile_length, SubmitPassed, is_one, last_one, or_none, or_some, seller_move}
use Rattle.rules.proofs.TallyLaws.{Like}
use Rattle.rules.proofs.Spans.{Spanned, span_kin, hour_standing}
use Rattle.rules.proofs.Forces.{force_length, granted_comes, granted_stays, granted_length, accepted_grants}
use Rattle.rules.proofs.Shown.{Shown, shown_aside, shown_status, shown_approved, shown_requested, shown_held, shown_emptied, shown_reduced, shown_displaced, shown_annulled, shown_bidden, shown_rebidden, shown_offered, shown_granted}

-- statuses that settle what is granted; and the others
abbrev pub Settles : ℕ → Type 0
Settles s = (s ≡ 10) ⊎ ((s ≡ 11) ⊎ (s ≡ 13))

abbrev pub Unsettled : ℕ → Type 0
Unsettled s = (s ≢ 10) × (s ≢ 11) × (s ≢ 13)

-- ---- a row and an entry that agree
module _ {H : ℕ} {r : List ℕ} {e : Entry} (A : Agrees H r e) (m : Spanned H r) where
  pub shown : Shown H (start r) (stop r) r (reqtype r) (status r) (related r) (requested H r) (granted H r) (has granted_given r)
  shown = record {
    long = m.long;
    low = m.starts;
    high = m.stops;
    type = refl;
    status = refl;
    related = refl;
    start = refl;
    stop = refl;
    requested = refl;
    granted = refl;
    flag = refl;
    ungiven = A.ungiven;
  }

  pub force_some : zeros (in_force H r) ≡ false
  unfolding in_force
  force_some = go (has granted_given r) refl
    where
      go : (b : Bool) → has granted_given r ≡ b → zeros (pick b (granted H r) (requested H r)) ≡ false
      go true q = A.given q
      go false q = A.asked

agrees_shown : {H s t : ℕ} {q : List ℕ} {ty st ref : ℕ} {req gr : List ℕ} {b : Bool} {e : Entry} → Shown H s t q ty st ref req gr b
    → e.reqtype ≡ ty → e.status ≡ st → e.related ≡ ref → e.start ≡ s → e.requested ≡ req → e.granted ≡ pick b gr []
    → zeros req ≡ false → (b ≡ true → zeros gr ≡ false) → (Settles st → b ≡ true) → Agrees H q e
agrees_shown {H} {q = q} {b = b} S et es er ea eq eg some full settles = record {
  same_type = et ∙ sym S.type;
  same_status = es ∙ sym S.status;
  same_related = er ∙ sym S.related;
  same_start = ea ∙ sym S.start;
  same_requested = eq ∙ sym S.requested;
  same_granted = eg ∙ ap (λ (v : List ℕ). pick b v []) (sym S.granted) ∙ ap (λ (c : Bool). pick c (granted H q) []) (sym S.flag);
  asked = ap zeros S.requested ∙ some;
  given = λ f. ap zeros S.granted ∙ full (sym S.flag ∙ f);
  ungiven = λ f. S.ungiven (sym S.flag ∙ f);
  settled = λ z. S.flag ∙ settles (⊎_elim (λ x. inl (sym S.status ∙ x)) (λ y. inr (⊎_elim (λ x. inl (sym S.status ∙ x)) (λ x. inr (sym S.status ∙ x)) y)) z);
}

-- ---- what a later action makes of an entry
requested_kept : (a : Action) (w : List ℕ) (e : Entry) → (a.kind ≢ 3) ⊎ ((bids a ≡ false) ⊎ (comes a ≡ false)) → requested_by a w e ≡ e.requested
unfolding requested_by
requested_kept a w e (inl k) = simp (ne_eqb a.kind 3 k)
requested_kept a w e (inr (inl f)) = simp (f, and-false)
requested_kept a w e (inr (inr f)) = simp (f, and-false)

requested_new : (a : Action) (w : List ℕ) (e : Entry) → a.kind ≡ 3 → bids a ≡ true → comes a ≡ true → requested_by a w e ≡ profile w a
unfolding requested_by
requested_new a w e k f c = simp (eq-eqb a.kind 3 k, f, c)

granted_kept : (a : Action) (w : List ℕ) (e : Entry) → (a.kind ≢ 2) ⊎ ((offers a ≡ false) ⊎ (comes a ≡ false)) → granted_by a w e ≡ e.granted
unfolding granted_by
granted_kept a w e (inl k) = simp (ne_eqb a.kind 2 k)
granted_kept a w e (inr (inl f)) = simp (f, and-false)
granted_kept a w e (inr (inr f)) = simp (f, and-false)

granted_new : (a : Action) (w : List ℕ) (e : Entry) → a.kind ≡ 2 → offers a ≡ true → comes a ≡ true → granted_by a w e ≡ profile w a
unfolding granted_by
granted_new a w e k f c = simp (eq-eqb a.kind 2 k, f, c)

copied_off : (new : ℕ) (req g : List ℕ) → Unsettled new → copied new req g ≡ g
unfolding copied
copied_off new req g u = simp (ne_eqb new 10 u.0, ne_eqb new 11 u.1, ne_eqb new 13 u.2)

copied_full : (new : ℕ) (req g : List ℕ) → zeros g ≡ false → copied new req g ≡ g
unfolding copied
copied_full new req g z = simp (z, and-false)

copied_empty : (new : ℕ) (req : List ℕ) → Settles new → copied new req [] ≡ req
unfolding copied zeros every
copied_empty new req (inl x) = simp (eq-eqb new 10 x)
copied_empty new req (inr (inl x)) = simp (eq-eqb new 11 x, or-true)
copied_empty new req (inr (inr x)) = simp (eq-eqb new 13 x, or-true)

unsettled : (s : ℕ) → (Settles s → ⊥) → Unsettled s
unsettled s f = (λ x. f (inl x), λ x. f (inr (inl x)), λ x. f (inr (inr x)))

never_settles : {s : ℕ} → Unsettled s → (b : Bool) → Settles s → b ≡ true
never_settles u b (inl x) = absurd (u.0 x)
never_settles u b (inr (inl x)) = absurd (u.1 x)
never_settles u b (inr (inr x)) = absurd (u.2 x)

module _ {H : ℕ} {r : List ℕ} {e : Entry} (A : Agrees H r e) (m : Spanned H r) (a : Action) (w : List ℕ) (answer : Answer) where
  -- any row q that was r
  changed_agrees : {q : List ℕ} {st : ℕ} {req gr : List ℕ} {b : Bool} → Shown H (start r) (stop r) q (reqtype r) st (related r) req gr b → answer.after ≡ st
      → requested_by a w e ≡ req → copied st req (granted_by a w e) ≡ pick b gr [] → zeros req ≡ false → (b ≡ true → zeros gr ≡ false) → (Settles st → b ≡ true) → Agrees H q (changed a w answer e)
  unfolding changed
  changed_agrees {st = st} {req} S f u v some full settles =
      agrees_shown S A.same_type f A.same_related A.same_start u
      (ap (λ (s : ℕ). copied s (requested_by a w e) (granted_by a w e)) f ∙ ap (λ (x : List ℕ). copied st x (granted_by a w e)) u ∙ v) some full settles

  -- a status that settles nothing
  quiet_agrees : {q : List ℕ} {st : ℕ} {req : List ℕ} → Shown H (start r) (stop r) q (reqtype r) st (related r) req (granted H r) (has granted_given r) → answer.after ≡ st → Unsettled st
      → requested_by a w e ≡ req → zeros req ≡ false → granted_by a w e ≡ e.granted → Agrees H q (changed a w answer e)
  quiet_agrees {st = st} {req} S f u x some y =
      changed_agrees S f x (copied_off st req (granted_by a w e) u ∙ y ∙ A.same_granted) some A.given (never_settles u (has granted_given r))

  same_agrees : {q : List ℕ} {st : ℕ} → Shown H (start r) (stop r) q (reqtype r) st (related r) (requested H r) (granted H r) (has granted_given r) → answer.after ≡ st → Unsettled st
      → requested_by a w e ≡ e.requested → granted_by a w e ≡ e.granted → Agrees H q (changed a w answer e)
  same_agrees S f u x y = quiet_agrees S f u (x ∙ A.same_requested) A.asked y

  -- the same status
  still_agrees : {q : List ℕ} → Shown H (start r) (stop r) q (reqtype r) (status r) (related r) (requested H r) (granted H r) (has granted_given r) → answer.after ≡ status r
      → requested_by a w e ≡ e.requested → granted_by a w e ≡ e.granted → Agrees H q (changed a w answer e)
  still_agrees {q = p} S f x y = go (has granted_given r) refl
    where
      go : (b : Bool) → has granted_given r ≡ b → Agrees H p (changed a w answer e)
      go true q =
          changed_agrees S f (x ∙ A.same_requested)
          (ap (copied (status r) (requested H r)) (y ∙ A.same_granted)
          ∙ copied_full (status r) (requested H r) (pick (has granted_given r) (granted H r) []) (ap (λ (b : Bool). zeros (pick b (granted H r) [])) q ∙ A.given q))
          A.asked A.given A.settled
      go false q = same_agrees S f (unsettled (status r) (λ z. subst T (sym (A.settled z) ∙ q) tt)) x y

  -- granted is settled as the profile in force
  force_agrees : {q : List ℕ} {st : ℕ} {req : List ℕ} → Shown H (start r) (stop r) q (reqtype r) st (related r) req (in_force H r) true → answer.after ≡ st → Settles st
      → requested_by a w e ≡ req → zeros req ≡ false → (has granted_given r ≡ false → req ≡ in_force H r) → granted_by a w e ≡ e.granted → Agrees H q (changed a w answer e)
  unfolding in_force
  force_agrees {st = st} {req} S f z x some same y =
      changed_agrees S f x (ap (copied st req) (y ∙ A.same_granted) ∙ go (has granted_given r) refl) some (λ _. force_some A m) (λ _. refl)
    where
      go : (b : Bool) → has granted_given r ≡ b → copied st req (pick (has granted_given r) (granted H r) []) ≡ in_force H r
      go true q =
          ap (λ (b : Bool). copied st req (pick b (granted H r) [])) q
          ∙ copied_full st req (granted H r) (A.given q)
          ∙ sym (ap (λ (b : Bool). pick b (granted H r) (requested H r)) q)
      go false q =
          ap (λ (b : Bool). copied st req (pick b (granted H r) [])) q
          ∙ copied_empty st req z
          ∙ same q

  -- granted is the profile that came
  profile_agrees : {q : List ℕ} {st : ℕ} → Shown H (start r) (stop r) q (reqtype r) st (related r) (requested H r) (profile w a) true → answer.after ≡ st
      → requested_by a w e ≡ e.requested → granted_by a w e ≡ profile w a → zeros (profile w a) ≡ false → Agrees H q (changed a w answer e)
  profile_agrees {st = st} S f x y some =
      changed_agrees S f (x ∙ A.same_requested) (ap (copied st (requested H r)) y ∙ copied_full st (requested H r) (profile w a) some) A.asked (λ _. some) (λ _. refl)

-- ---- statuses that an action names
accepts_settles : (a : Action) → accepts a ≡ true → Settles a.status
unfolding accepts
accepts_settles a f = ⊎_elim (λ x. inl x) (λ x. inr (inl (last_one a.status 11 x))) (is_one a.status 10 _ f)

counters_unsettled : (a : Action) → offers a ≡ true → accepts a ≡ false → Unsettled a.status
unfolding offers counters
counters_unsettled a f g =
    ⊎_elim
    (λ x. ⊎_elim (λ y. six (inl y)) (λ y. six (inr (last_one a.status 7 y))) (is_one a.status 6 _ x))
    (λ x. let n : true ≡ false = sym x ∙ g in absurd (subst T n tt))
    (or_some (a.status among (6 ∷ 7 ∷ [])) (accepts a) f)
  where
    six : (a.status ≡ 6) ⊎ (a.status ≡ 7) → Unsettled a.status
    six (inl x) = (λ z. omega arith, λ z. omega arith, λ z. omega arith)
    six (inr x) = (λ z. omega arith, λ z. omega arith, λ z. omega arith)

-- the seller's moves that make no offer, and the customer's 8 and 14
pub other_unsettled : (a : Action) (r : List ℕ) → offers a ≡ false → seller_may r a.status ≡ true → Unsettled a.status
unfolding offers accepts
other_unsettled a r f e =
    let g = (or_none (counters a) (a.status among (10 ∷ 11 ∷ [])) f).1 in
    let h = or_none (eqb a.status 10) _ g in
    let i = or_none (eqb a.status 11) _ h.1 in
    (eqb-false _ _ h.0, eqb-false _ _ i.0, λ z. ((seller_move r a.status e).others (λ x. omega arith) (λ x. omega arith)).1.0 z)

pub bid_unsettled : (s : ℕ) → (s ≡ 8) ⊎ (s ≡ 14) → Unsettled s
bid_unsettled s (inl x) = (λ z. omega arith, λ z. omega arith, λ z. omega arith)
bid_unsettled s (inr x) = (λ z. omega arith, λ z. omega arith, λ z. omega arith)

-- ---- the named row after each action
module _ {H : ℕ} {r : List ℕ} {e : Entry} (A : Agrees H r e) (m : Spanned H r) (a : Action) (w : List ℕ) (answer : Answer) where
  -- the seller's other moves, the customer's 14, a lapse to 17
  pub status_agrees : (s : ℕ) → answer.after ≡ s → Unsettled s → (a.kind ≢ 3) ⊎ (bids a ≡ false) → (a.kind ≢ 2) ⊎ (offers a ≡ false) → Agrees H (set_status s r) (changed a w answer e)
  status_agrees s f u x y =
      same_agrees A m a w answer (shown_status (shown A m) s) f u
      (requested_kept a w e (⊎_elim (λ z. inl z) (λ z. inr (inl z)) x)) (granted_kept a w e (⊎_elim (λ z. inl z) (λ z. inr (inl z)) y))

  pub displaced_agrees : answer.after ≡ DISPLACED → a.kind ≡ 2 → offers a ≡ false → Agrees H (displaced_row H r) (changed a w answer e)
  displaced_agrees f k o =
      same_agrees A m a w answer (shown_displaced (shown A m)) f (λ z. omega (arith, z), λ z. omega (arith, z), λ z. omega (arith, z))
      (requested_kept a w e (inl (λ z. omega arith))) (granted_kept a w e (inr (inl o)))

  pub annulled_agrees : answer.after ≡ ANNULLED → a.kind ≡ 2 → offers a ≡ false → Agrees H (annulled_row H r) (changed a w answer e)
  annulled_agrees f k o =
      same_agrees A m a w answer (shown_annulled (shown A m)) f (λ z. omega (arith, z), λ z. omega (arith, z), λ z. omega (arith, z))
      (requested_kept a w e (inl (λ z. omega arith))) (granted_kept a w e (inr (inl o)))

  -- approve that confirms nothing; reduce
  pub approved_agrees : answer.after ≡ status r → a.kind ≡ 4 → Agrees H (raise approved r) (changed a w answer e)
  approved_agrees f k =
      still_agrees A m a w answer (shown_approved (shown A m)) f (requested_kept a w e (inl (λ z. omega arith))) (granted_kept a w e (inl (λ z. omega arith)))

  pub reduced_agrees : (v : List ℕ) → length v ≡ span_hours r → answer.after ≡ status r → a.kind ≡ 5 → Agrees H (reduced_row H (start r) v r) (changed a w answer e)
  reduced_agrees v n f k =
      still_agrees A m a w answer (shown_reduced (shown A m) v n) f (requested_kept a w e (inl (λ z. omega arith))) (granted_kept a w e (inl (λ z. omega arith)))

  -- confirmed with the profile in force, from a row q that was r
  forced : {q : List ℕ} {st : ℕ} {req gr : List ℕ} {b : Bool} → Shown H (start r) (stop r) q (reqtype r) st (related r) req gr b → (s : ℕ) → s ≡ start r → answer.after ≡ CONFIRMED
      → requested_by a w e ≡ req → zeros req ≡ false → (has granted_given r ≡ false → req ≡ in_force H r) → a.kind ≢ 2
      → Agrees H (held H s (in_force H r) q) (changed a w answer e) × Agrees H (emptied H s (in_force H r) q) (changed a w answer e)
  forced {q} S s z f x some same k =
      subst (λ (i : ℕ). Agrees H (held H i (in_force H r) q) (changed a w answer e) × Agrees H (emptied H i (in_force H r) q) (changed a w answer e)) (sym z) (
        force_agrees A m a w answer (shown_held S (in_force H r) (force_length m)) f (inr (inr refl)) x some same y,
        force_agrees A m a w answer (shown_emptied S (in_force H r) (force_length m)) f (inr (inr refl)) x some same y,
      )
    where
      y : granted_by a w e ≡ e.granted
      y = granted_kept a w e (inl k)

  in_force_lem : has granted_given r ≡ false → requested H r ≡ in_force H r
  unfolding in_force
  in_force_lem q = sym (ap (λ (b : Bool). pick b (granted H r) (requested H r)) q)

  -- lapse, and approve, that confirm
  pub lapsed_agrees : (s : ℕ) → s ≡ start r → answer.after ≡ CONFIRMED → a.kind ≡ 6 → Agrees H (held H s (in_force H r) r) (changed a w answer e) × Agrees H (emptied H s (in_force H r) r) (changed a w answer e)
  lapsed_agrees s z f k =
      forced (shown A m) s z f (requested_kept a w e (inl (λ y. omega arith)) ∙ A.same_requested) A.asked in_force_lem (λ y. omega arith)

  pub approved_start : start (raise approved r) ≡ start r
  approved_start = (shown_approved (shown A m)).start

  pub approved_confirms : (s : ℕ) → s ≡ start r → answer.after ≡ CONFIRMED → a.kind ≡ 4 → Agrees H (held H s (in_force H r) (raise approved r)) (changed a w answer e) × Agrees H (emptied H s (in_force H r) (raise approved r)) (changed a w answer e)
  approved_confirms s z f k =
      forced (shown_approved (shown A m)) s z f (requested_kept a w e (inl (λ y. omega arith)) ∙ A.same_requested) A.asked in_force_lem (λ y. omega arith)

-- ---- the customer's bids
pub bid_equal : (H : ℕ) (w : List ℕ) (a : Action) (r : List ℕ) → unfit_bid H w a r ≡ false → equal (requested_after H w a r) (in_force H r) ≡ true
unfolding unfit_bid
bid_equal H w a r e = and_right (eqb a.price (offer r)) _ (not-false _ e)

requested_comes : (H : ℕ) (w : List ℕ) (a : Action) (r : List ℕ) → comes a ≡ true → requested_after H w a r ≡ profile w a
unfolding requested_after
requested_comes H w a r c = ap (λ (b : Bool). pick b (profile w a) (requested H r)) c

module _ {H : ℕ} {r : List ℕ} {e : Entry} (A : Agrees H r e) (m : Spanned H r) (a : Action) (w : List ℕ) (answer : Answer)
    (kind : a.kind ≡ 3) (bid : bids a ≡ true) (came : comes a ≡ true → ProfilePassed w a (span_hours r)) where
  pub bidden_start : start (bidden H w a r) ≡ start r
  bidden_start = go (comes a) refl
    where
      go : (b : Bool) → comes a ≡ b → start (bidden H w a r) ≡ start r
      go true c = (shown_rebidden (shown A m) w a c (profile_length (came c))).start
      go false c = (shown_bidden (shown A m) w a c).start

  -- to 8
  pub bidden_agrees : (s : ℕ) → answer.after ≡ s → Unsettled s → Agrees H (set_status s (bidden H w a r)) (changed a w answer e)
  bidden_agrees s f u = go (comes a) refl
    where
      y : granted_by a w e ≡ e.granted
      y = granted_kept a w e (inl (λ z. omega arith))

      go : (b : Bool) → comes a ≡ b → Agrees H (set_status s (bidden H w a r)) (changed a w answer e)
      go true c =
          quiet_agrees A m a w answer (shown_status (shown_rebidden (shown A m) w a c (profile_length (came c))) s) f u
          (requested_new a w e kind bid c) (came c).some y
      go false c =
          same_agrees A m a w answer (shown_status (shown_bidden (shown A m) w a c) s) f u (requested_kept a w e (inr (inr c))) y

  -- to 13
  pub bidden_confirms : unfit_bid H w a r ≡ false → (s : ℕ) → s ≡ start r → answer.after ≡ CONFIRMED
      → Agrees H (held H s (in_force H r) (bidden H w a r)) (changed a w answer e) × Agrees H (emptied H s (in_force H r) (bidden H w a r)) (changed a w answer e)
  bidden_confirms fit s z f = go (comes a) refl
    where
      go : (b : Bool) → comes a ≡ b → Agrees H (held H s (in_force H r) (bidden H w a r)) (changed a w answer e) × Agrees H (emptied H s (in_force H r) (bidden H w a r)) (changed a w answer e)
      go true c =
          let q : profile w a ≡ in_force H r = equal_lists (profile w a) (in_force H r) (profile_length (came c) ∙ sym (force_length m)) (ap (λ (v : List ℕ). equal v (in_force H r)) (sym (requested_comes H w a r c)) ∙ bid_equal H w a r fit) in
          forced A m a w answer (shown_rebidden (shown A m) w a c (profile_length (came c))) s z f (requested_new a w e kind bid c) (came c).some (λ _. q) (λ y. omega arith)
      go false c =
          forced A m a w answer (shown_bidden (shown A m) w a c) s z f (requested_kept a w e (inr (inr c)) ∙ A.same_requested) A.asked (in_force_lem A m a w answer) (λ y. omega arith)

-- ---- the seller's offers
pub goes_on_lem : (a : Action) (r : List ℕ) → goes_on a r ≡ true → a.status ≡ ACCEPTED
unfolding goes_on
goes_on_lem a r f = eqb-true _ _ (and_left (eqb a.status ACCEPTED) _ f)

module _ {H : ℕ} {r : List ℕ} {e : Entry} (A : Agrees H r e) (m : Spanned H r) (a : Action) (w : List ℕ) (answer : Answer)
    (kind : a.kind ≡ 2) (offer : offers a ≡ true) (came : comes a ≡ true → ProfilePassed w a (span_hours r)) where
  pub after_length : length (granted_after H w a r) ≡ span_hours r
  after_length = granted_length m w a came

  kept : requested_by a w e ≡ e.requested
  kept = requested_kept a w e (inl (λ z. omega arith))

  -- a row that is granted so
  after_agrees : {q : List ℕ} {st : ℕ} → Shown H (start r) (stop r) q (reqtype r) st (related r) (requested H r) (granted_after H w a r) true → answer.after ≡ st → (comes a ≡ false → Settles st) → Agrees H q (changed a w answer e)
  after_agrees {q} {st} S f z = go (comes a) refl
    where
      go : (b : Bool) → comes a ≡ b → Agrees H q (changed a w answer e)
      go true c =
          profile_agrees A m a w answer (subst (λ (v : List ℕ). Shown H (start r) (stop r) q (reqtype r) st (related r) (requested H r) v true) (granted_comes H w a r c) S) f kept
          (granted_new a w e kind offer c) (came c).some
      go false c =
          force_agrees A m a w answer (subst (λ (v : List ℕ). Shown H (start r) (stop r) q (reqtype r) st (related r) (requested H r) v true) (granted_stays H w a r c) S) f (z c) (kept ∙ A.same_requested) A.asked
          (in_force_lem A m a w answer) (granted_kept a w e (inr (inr c)))

  -- to 6, 7, 10, 11
  pub offered_agrees : (expires : ℕ) → answer.after ≡ a.status → Agrees H (offered H expires a (granted_after H w a r) r) (changed a w answer e)
  offered_agrees expires f = go (comes a || accepts a) refl
    where
      go : (b : Bool) → (comes a || accepts a) ≡ b → Agrees H (offered H expires a (granted_after H w a r) r) (changed a w answer e)
      go true c =
          after_agrees (shown_granted (shown A m) expires a (granted_after H w a r) c after_length) f
          (λ n. accepts_settles a (sym (ap (λ (b : Bool). b || accepts a) n) ∙ c))
      go false c =
          let n = or_none (comes a) (accepts a) c in
          same_agrees A m a w answer (shown_offered (shown A m) expires a (granted_after H w a r) c) f (counters_unsettled a offer n.1) kept (granted_kept a w e (inr (inr n.0)))

  -- through 10 to 13
  module _ (expires : ℕ) (on : a.status ≡ ACCEPTED) where
    grants : (comes a || accepts a) ≡ true
    grants = accepted_grants a on

    pub offered_start : start (offered H expires a (granted_after H w a r) r) ≡ start r
    offered_start = (shown_granted (shown A m) expires a (granted_after H w a r) grants after_length).start

    pub offered_confirms : (s : ℕ) → s ≡ start r → answer.after ≡ CONFIRMED
        → Agrees H (held H s (granted_after H w a r) (offered H expires a (granted_after H w a r) r)) (changed a w answer e) × Agrees H (emptied H s (granted_after H w a r) (offered H expires a (granted_after H w a r) r)) (changed a w answer e)
    offered_confirms s z f =
        subst (λ (i : ℕ). Agrees H (held H i (granted_after H w a r) (offered H expires a (granted_after H w a r) r)) (changed a w answer e) × Agrees H (emptied H i (granted_after H w a r) (offered H expires a (granted_after H w a r) r)) (changed a w answer e)) (sym z) (
          after_agrees (shown_held (shown_granted (shown A m) expires a (granted_after H w a r) grants after_length) (granted_after H w a r) after_length) f (λ _. inr (inr refl)),
          after_agrees (shown_emptied (shown_granted (shown A m) expires a (granted_after H w a r) grants after_length) (granted_after H w a r) after_length) f (λ _. inr (inr refl)),
        )

-- ---- the other rows, and their entries
pub agrees_kin : {H : ℕ} {r q : List ℕ} {e : Entry} → Kin H r q → Spanned H r → Agrees H r e → Agrees H q e
agrees_kin {H} {r} {q} {e} K m A =
    agrees_shown S A.same_type A.same_status A.same_related A.same_start A.same_requested A.same_granted A.asked A.given A.settled
  where
    m' : Spanned H q
    m' = record { long = K.long; starts = omega (arith, K.field 5 (lit< tt), K.field 6 (lit< tt)); stops = omega (arith, K.field 6 (lit< tt)) }

    S : Shown H (start r) (stop r) q (reqtype r) (status r) (related r) (requested H r) (granted H r) (has granted_given r)
    S =
        shown_aside (shown A m) q m' K.field
        (span_kin m' m (K.field 5 (lit< tt)) (K.field 6 (lit< tt)) requested_part (lit< tt) (λ h lt. K.hour requested_part h (lit< tt) lt))
        (span_kin m' m (K.field 5 (lit< tt)) (K.field 6 (lit< tt)) granted_part (lit< tt) (λ h lt. K.hour granted_part h (lit< tt) lt))
        (λ h lt. K.hour granted_part h (lit< tt) lt)

pub agrees_like : {H : ℕ} {r : List ℕ} {e f : Entry} → Like f e → Agrees H r e → Agrees H r f
agrees_like L A = record {
  same_type = L.reqtype ∙ A.same_type;
  same_status = L.status ∙ A.same_status;
  same_related = L.related ∙ A.same_related;
  same_start = L.start ∙ A.same_start;
  same_requested = L.requested ∙ A.same_requested;
  same_granted = L.granted ∙ A.same_granted;
  asked = A.asked;
  given = A.given;
  ungiven = A.ungiven;
  settled = A.settled;
}

-- granted of an entry is the row's, hour by hour
pub agrees_granted : {H : ℕ} {r : List ℕ} {e : Entry} → Agrees H r e → Spanned H r → ((h : ℕ) → h < H → (h < start r) ⊎ (stop r ≤ h) → get_or r (hour_at H granted_part h) 0 ≡ 0) → (h : ℕ) → h < H → granted_in e h ≡ get_or r (hour_at H granted_part h) 0
unfolding granted_in
agrees_granted {H} {r} {e} A m outside h hlt = ap (λ (s : ℕ). standing s e.granted h) A.same_start ∙ ap (λ (v : List ℕ). standing (start r) v h) A.same_granted ∙ go (has granted_given r) refl
  where
    go : (b : Bool) → has granted_given r ≡ b → standing (start r) (pick (has granted_given r) (granted H r) []) h ≡ get_or r (hour_at H granted_part h) 0
    go true q = ap (λ (b : Bool). standing (start r) (pick b (granted H r) []) h) q ∙ sym (hour_standing m granted_part (lit< tt) outside h hlt)
    go false q =
        ap (λ (b : Bool). standing (start r) (pick b (granted H r) []) h) q
        ∙ ⊎_elim (λ x. standing_before (start r) [] x) (λ x. standing_after (start r) [] (omega arith)) (lt_or_le h (start r))
        ∙ sym (A.ungiven q h hlt)

-- ---- a new row
module _ {H : ℕ} {l w : List ℕ} {a : Action} (passed : SubmitPassed H l w a) (z : List ℕ) (long : length z ≡ row_size H) (empty : (k : ℕ) → get_or z k 0 ≡ 0) where
  begun : List ℕ
  begun = splice z 0 (new_words a)

  room : 0 + length (new_words a) ≤ length z
  unfolding new_words
  room = omega (arith, long)

  begun_word : (k : ℕ) → k < length (new_words a) → get_or begun k 0 ≡ get_or (new_words a) k 0
  unfolding begun
  begun_word k lt = let i : 0 + k ≡ k = omega arith in ap (λ (j : ℕ). get_or (splice z 0 (new_words a)) j 0) (sym i) ∙ splice_in z 0 (new_words a) room k lt

  blank : (p h : ℕ) → get_or begun (hour_at H p h) 0 ≡ 0
  unfolding begun new_words
  blank p h = splice_after z 0 (new_words a) room (hour_at H p h) (omega arith) ∙ empty (hour_at H p h)

  small_flags : (f : ℕ) → f ≤ 3 → has_flag granted_given f ≡ false
  unfolding has_flag
  small_flags f lt = let n : f / 8 % 2 ≡ 0 = omega arith in ap (λ (x : ℕ). eqb x 1) n

  begun_shown : Shown H a.start a.stop begun a.reqtype QUEUED a.related (requested H begun) (granted H begun) false
  unfolding new_words begun
  begun_shown = record {
    long = splice_length z 0 (new_words a) room ∙ long;
    low = omega (arith, passed.starts);
    high = passed.stops;
    type = begun_word 0 (lit< tt);
    status = begun_word 1 (lit< tt);
    related = begun_word 4 (lit< tt);
    start = begun_word 5 (lit< tt);
    stop = begun_word 6 (lit< tt);
    requested = refl;
    granted = refl;
    flag = ap (has_flag granted_given) (begun_word 7 (lit< tt)) ∙ small_flags a.flags passed.flags;
    ungiven = λ f h hlt. blank granted_part h;
  }

  pub new_agrees : (answer : Answer) → answer.after ≡ QUEUED → Agrees H (new_row H w a z) (opened a w answer)
  unfolding new_row opened begun
  new_agrees answer f =
      agrees_shown (shown_requested begun_shown (profile w a) (profile_length passed.profile)) refl f refl refl refl refl passed.profile.some (λ x. cc)
      (never_settles {s = QUEUED} (λ y. omega (arith, y), λ y. omega (arith, y), λ y. omega (arith, y)) false)

-- a row whose words are sound has its span in the hours
pub words_spanned : {H : ℕ} {r : List ℕ} → SoundWords H r → length r ≡ row_size H → Spanned H r
words_spanned f long = record { long = long; starts = omega (arith, f.starts); stops = f.stops }
