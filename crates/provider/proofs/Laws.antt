-- What the provider's actions rest on: the row that an action names, the row that is marked approved, the last check.
use mathlib.Core.Path.{◌≡◌, refl, sym, ap, ◌∙◌}
use mathlib.Core.Logic.{◌⊎◌, inl, inr}
use mathlib.Core.Bool.{Bool, true, false, ◌&&◌}
use mathlib.Core.List.{List}
use Prim.Native.Nat.{ℕ, ◌+◌, ◌≤◌, ◌<◌}
use native.Mathlib.Omega.{arith}
use lib.Dec.{lit<}
use lib.ListN.{length}
use Rattle.words.proofs.Laws.{lent_back}
use Rattle.rules.specs.Pick.{pick, when}
use Rattle.rules.specs.Numbers.{requested_part, granted_part, granted_given, approved, ACCEPTED, CR_ACCEPTED, RETRACTED}
use Rattle.rules.specs.Layout.{used, row, on_row, reqtype, flags, flagged, has, raise, set_status, span_hours, requested, granted}
use Rattle.rules.specs.Megawatts.{in_force, carries_over}
use Rattle.rules.specs.Confirming.{confirm, short}
use Rattle.rules.specs.Checks.{named, named_row, profile, waits_at}
use Rattle.rules.specs.Approve.{approve_number, approve_after}
use Rattle.rules.specs.Reduce.{reduce_number, reduce_after}
use Rattle.rules.specs.Lapse.{lapse_number, lapse_after}
use Rattle.rules.specs.Clock.{clock_after}
use Rattle.rules.specs.declared.Action.{Action}
use Rattle.rules.proofs.Picks.{results, choice, hit_by, and_stops, and_goes}
use Rattle.rules.proofs.Spans.{span_hours_lem, span_set, raise_approved}
use Rattle.rules.proofs.Formed.{formed}
use Rattle.rules.proofs.Placed as P
use Rattle.rules.proofs.Turned.{Turned}
use Rattle.rules.proofs.Unmoved.{Unmoved, unmoved_raise, unmoved_turned}
use Rattle.rules.proofs.Passed.{approve_passed, reduce_passed, lapse_passed, confirm_passed, ProfilePassed, profile_passed, profile_length, PostPassed, words_length}
use Rattle.rules.proofs.Kept.{Next, same_self, same_approved, next_own, fitting_force}
use Rattle.rules.proofs.Before as B
use Rattle.rules.proofs.Over.{over_confirming, over_reducing}
use Rattle.rules.proofs.Over as O
use Rattle.layout.specs.SoundAt.{SoundAt}
use Rattle.layout.specs.Placed.{Placed}
use Rattle.layout.proofs.SoundAt.{head_fits}
use Rattle.layout.proofs.Placed.{sized, in_rows, span_fits}
use Rattle.checks.proofs.Requests.{names}
use Rattle.paths.specs.Exceeding.{Postings, PostingAt}
use Rattle.provider.specs.Waiting.{Waiting}

-- ---- the row n that an action names is in use, once the action passed its checks
module _ {l : List ℕ} {R H : ℕ} (s : SoundAt l R H) (a : Action) {n : ℕ} (q : n ≡ named a) where
  pub approve_placed : approve_number H l a ≡ 0 → Placed l R H n
  approve_placed e = names s a (approve_passed H l a e).reference q

  pub reduce_placed : (w : List ℕ) → reduce_number H l w a ≡ 0 → Placed l R H n
  reduce_placed w e = names s a (reduce_passed H l w a e).reference q

  pub lapse_placed : lapse_number H l a ≡ 0 → Placed l R H n
  lapse_placed e = names s a (lapse_passed H l a e).reference q

-- the profile of a reduction is one for its span
pub reduce_profile : (H : ℕ) (l w : List ℕ) (a : Action) → reduce_number H l w a ≡ 0 → ProfilePassed w a (span_hours (named_row H l a))
reduce_profile H l w a e = (reduce_passed H l w a e).profile

-- types 6 and 7 give nothing back
transfer_gives : (H : ℕ) (l : List ℕ) (n : ℕ) (mw : List ℕ) → (reqtype (row H l n) ≡ 6) ⊎ (reqtype (row H l n) ≡ 7) → over_confirming H l n mw ≡ false
unfolding over_confirming
transfer_gives H l n mw (inl e) = simp e
transfer_gives H l n mw (inr e) = simp e

transfer_over : (H : ℕ) (l : List ℕ) (n : ℕ) (mw : List ℕ) (a : Action) → approve_number H l a ≡ 0 → n ≡ named a → over_confirming H l n mw ≡ false
transfer_over H l n mw a e q = rw q (transfer_gives H l (named a) mw (approve_passed H l a e).type)

-- ---- row n, which an approval names, is marked approved in the ledger l₁
-- its profile in force stays
force_stays : (H : ℕ) (r : List ℕ) → 7 < length r → in_force H (raise approved r) ≡ in_force H r
unfolding in_force
force_stays H r lt =
    ap (λ (b : Bool). pick b (granted H (raise approved r)) (requested H (raise approved r))) (raise_approved r lt)
    ∙ ap (λ (v : List ℕ). pick (has granted_given r) v (requested H (raise approved r))) (span_set H granted_part r 7 (flagged approved (flags r)) (lit< tt) (λ z. omega (arith, z)) (λ z. omega (arith, z)))
    ∙ ap (λ (v : List ℕ). pick (has granted_given r) (granted H r) v) (span_set H requested_part r 7 (flagged approved (flags r)) (lit< tt) (λ z. omega (arith, z)) (λ z. omega (arith, z)))

module _ {l l₁ : List ℕ} {R H n : ℕ} (s : SoundAt l R H) (a : Action) (e : approve_number H l a ≡ 0) (q : n ≡ named a) (m : l₁ ≡ on_row H n (raise approved) l) where
  before : Placed l R H n
  before = approve_placed s a q e

  own : P.Placed R H l n
  own = rw (s.rows, s.hours) (P.placed before.formed before.row)

  unmoved : Unmoved H (row H l n) (raise approved (row H l n))
  unmoved = unmoved_raise (P.own_long own) approved

  turned : Turned R H l l₁ n (raise approved (row H l n))
  turned = rw m (unmoved_turned own.sized own.own (raise approved) unmoved)

  next : Next l l₁
  next = rw (m, s.hours) (next_own before.formed before.row (raise approved) (same_approved (same_self before.formed before.row)))

  pub marked_placed : Placed l₁ R H n
  marked_placed = record { formed = next.formed; rows = s.rows ∙ sym next.rows; hours = s.hours ∙ sym next.hours; row = omega (arith, before.row, next.used) }

  pub marked_force : in_force H (row H l₁ n) ≡ in_force H (row H l n)
  marked_force = ap (in_force H) turned.own ∙ force_stays H (row H l n) (omega (arith, P.own_long own))

  pub marked_short : waits_at ACCEPTED (row H l n) ≡ true → short H l₁ n (in_force H (row H l₁ n)) ≡ false
  marked_short w =
      rw (marked_force, m)
      (B.short_stays own (raise approved) unmoved (in_force H (row H l n))
      ∙ rw q (confirm_passed _ _ _ _ _ ((approve_passed H l a e).confirms (rw q at w))).short)

  pub marked_over : over_confirming H l₁ n (in_force H (row H l₁ n)) ≡ false
  marked_over =
      rw (marked_force, m)
      (B.over_confirming_stays own (raise approved) unmoved (in_force H (row H l n)) ∙ transfer_over H l n (in_force H (row H l n)) a e q)

-- ---- the last check: whether a word is carried over 100,000
module _ {l : List ℕ} {R H : ℕ} (s : SoundAt l R H) where
  pub over_reduce : (w : List ℕ) (a : Action) → reduce_number H l w a ≡ 0 → carries_over H (reduce_after H l w a) ≡ over_reducing H (profile w a) (named_row H l a)
  unfolding reduce_after
  over_reduce w a e =
      let p = reduce_passed H l w a e in
      rw s.hours (O.over_reducing_lem s.sound (omega (arith, p.reference)) (profile w a) (rw s.hours at (profile_length p.profile)))

  pub over_clock : (a : Action) → carries_over H (clock_after l a) ≡ false
  over_clock a = rw s.hours (O.over_clock s.sound a)

  -- a lapse gives back only where a relinquish record confirms
  pub over_lapse : (a : Action) → lapse_number H l a ≡ 0
      → carries_over H (lapse_after H l a) ≡ (waits_at CR_ACCEPTED (named_row H l a) && over_confirming H l (named a) (in_force H (named_row H l a)))
  unfolding lapse_after
  over_lapse a e = go (waits_at CR_ACCEPTED (named_row H l a))
    where
      lt : named a < used l
      lt = omega (arith, (lapse_passed H l a e).reference)

      go : (b : Bool) → carries_over H (pick b (confirm H (named a) (in_force H (named_row H l a)) l) (on_row H (named a) (set_status RETRACTED) l)) ≡ (b && over_confirming H l (named a) (in_force H (named_row H l a)))
      go true = let f = fitting_force (same_self (formed s.sound) lt) in rw s.hours (O.over_confirming_lem s.sound lt _ f.counted f.most)
      go false = rw s.hours (O.over_status s.sound lt RETRACTED)

  -- an approval gives nothing back
  pub over_approve : (a : Action) → approve_number H l a ≡ 0 → carries_over H (approve_after H l a) ≡ false
  unfolding approve_after
  over_approve a e = go (waits_at ACCEPTED (named_row H l a))
    where
      lt : named a < used l
      lt = omega (arith, (approve_passed H l a e).reference)

      go : (b : Bool) → carries_over H (when b (confirm H (named a) (in_force H (named_row H l a))) (on_row H (named a) (raise approved) l)) ≡ false
      go true =
          let f = fitting_force (same_self (formed s.sound) lt) in
          rw s.hours (B.over_then_confirming s.sound lt (raise approved) (O.own_approved s.sound lt) _ f.counted f.most)
          ∙ transfer_over H l (named a) (in_force H (named_row H l a)) a e refl
      go false = rw s.hours (O.over_approved s.sound lt)

-- ---- a row that waits passed the 14 of confirming
pub approve_waiting : (H : ℕ) (l : List ℕ) (a : Action) → approve_number H l a ≡ 0 → Waiting H l a ACCEPTED
approve_waiting H l a e = let p = approve_passed H l a e in record { issued = p.reference; ample = λ w. (confirm_passed _ _ _ _ _ (p.confirms w)).short }

pub lapse_waiting : (H : ℕ) (l : List ℕ) (a : Action) → lapse_number H l a ≡ 0 → Waiting H l a CR_ACCEPTED
lapse_waiting H l a e = let p = lapse_passed H l a e in record { issued = p.reference; ample = λ w. (confirm_passed _ _ _ _ _ (p.confirms w)).short }

-- the path's postings from the posting's start on hold the profile
pub posting_ends : {H at : ℕ} {ps : List ℕ} (w : List ℕ) (a : Action) → Postings H ps → PostPassed H w a → PostingAt H a.path a.start at → at + length (profile w a) ≤ length ps
posting_ends w a q p at = omega (arith, at.fits, q.long, words_length p.words, p.starts, p.stops)

-- for what an action that passed its checks asks of the functions that it calls
pub ruleset reducing = (reduce_placed, reduce_passed, reduce_profile, profile_length, over_reduce)

pub ruleset too_much = (profile_passed, profile_length, span_fits, span_hours_lem)

pub ruleset lapsing = (lapse_placed, sized, in_rows, lapse_passed, confirm_passed, over_lapse, results)

pub ruleset posting = (posting_ends, lent_back)

pub ruleset waiting = (and_stops, and_goes, names)

pub ruleset approving = (approve_placed, sized, in_rows, marked_force, marked_short, marked_over, results)

-- for the checks of an action that names a row
pub ruleset chosen = (choice, hit_by, head_fits)
