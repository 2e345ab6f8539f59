-- An accepted action leaves a sound ledger sound.
use mathlib.Core.Path.{◌≡◌, refl, sym, ap, ◌∙◌, subst}
use mathlib.Core.Logic.{◌≢◌, ◌⊎◌, inl, inr}
use mathlib.Core.Bool.{Bool, true, false, ◌&&◌, not}
use mathlib.Core.List.{List}
use Prim.Native.Nat.{ℕ, suc, ◌+◌, ◌≤◌, ◌<◌}
use native.Mathlib.Omega.{arith}
use borrow.Author.Tests.{eqb-true, ne_eqb, leb-true, not-false}
use lib.Dec.{eqb, leb, lit<}
use lib.ListN.{get_or, length-set}
use lib.Seq.{get_or-set_same, get_or-set_other}
use Rattle.words.proofs.Laws.{lt_or_le, and_left, and_right}
use Rattle.rules.specs.Pick.{pick}
use Rattle.rules.specs.Numbers.{profiles, most_entity, most_megawatts, end_second, entity, available_part, approved, ACCEPTED, CR_ACCEPTED, DISPLACED, RETRACTED}
use Rattle.rules.specs.Layout.{rows, hours, window, clock, used, set_clock, row, on_row, reqtype, related, start, stop, hour_at, raise, set_status, Sized}
use Rattle.rules.specs.Sound.{sound}
use Rattle.rules.specs.Megawatts.{in_force, carries_over}
use Rattle.rules.specs.Confirming.{confirm}
use Rattle.rules.specs.Checks.{named, named_row, profile, waits_at}
use Rattle.rules.specs.SellerStatus.{seller_number, offers, granted_after, goes_on, offered, annuls_confirmed, offer_after, other_after, seller_after}
use Rattle.rules.specs.CustomerStatus.{customer_number, bids, confirms, bidden, bid_after, customer_after}
use Rattle.rules.specs.Approve.{approve_number, approve_after}
use Rattle.rules.specs.Reduce.{reduce_number, reduce_after}
use Rattle.rules.specs.Lapse.{lapse_number, lapse_after}
use Rattle.rules.specs.Clock.{clock_number, clock_after}
use Rattle.rules.specs.Submit.{submit_number, submit_after}
use Rattle.rules.specs.Paths.{sound_postings}
use Rattle.rules.specs.Post.{post_number, posted}
use Rattle.rules.specs.Act.{by_kind, kind_number, kind_after, postings_after, common_number, over_use, use_number, last_number, sound_number, number, refused, accepted, step, sound_both}
use Rattle.rules.specs.declared.Action.{Action}
use Rattle.rules.proofs.Rows.{row_least, head_row}
use Rattle.rules.proofs.SoundFacts.{SoundWords, SoundLedger, sound_facts, facts_sound}
use Rattle.rules.proofs.Formed.{FormedHours, Formed, formed}
use Rattle.rules.proofs.Passed.{gives_none, or_else_none, profile_length, SellerPassed, CustomerPassed, ApprovePassed, ReducePassed, LapsePassed, ClockPassed, submit_passed, seller_status_passed, customer_status_passed, approve_passed, reduce_passed, lapse_passed, clock_passed, post_passed}
use Rattle.rules.proofs.Posts.{SoundPostings, postings_facts, facts_postings, posted_sound}
use Rattle.rules.proofs.Submitted.{submit_next}
use Rattle.rules.proofs.Bounded.{AllBounded, carries_false}
use Rattle.rules.proofs.Kept.{Same, Next, Shaped, relation_shaped, formed_by, head_kept, same_self, same_status, same_approved, same_offered, same_bidden, fitting_profile, fitting_force, fitting_granted, next_own, next_displace, next_annul, next_reduce, next_confirm, next_then_confirm, next_then_status}

-- either of two ledgers
next_pick : {l x y : List ℕ} (b : Bool) → (b ≡ true → Next l x) → (b ≡ false → Next l y) → Next l (pick b x y)
next_pick true p q = p refl
next_pick false p q = q refl

-- the row that an issued reference names
issued_row : (l : List ℕ) (a : Action) → (1 ≤ a.reference) × (a.reference ≤ used l) → named a < used l
issued_row l a e = omega (arith, e.0, e.1)

-- ---- 2 Seller status
module _ {l : List ℕ} (F : Formed l) (w : List ℕ) (a : Action) (P : SellerPassed (hours l) l w a) where
  seller_row : named a < used l
  seller_row = issued_row l a P.reference

  offer_next : offers a ≡ true → Next l (offer_after (hours l) l a (granted_after (hours l) w a (named_row (hours l) l a)))
  unfolding offer_after
  offer_next q =
      let mw : List ℕ = granted_after (hours l) w a (named_row (hours l) l a) in
      let o = same_self F seller_row in
      let f = fitting_granted o w a (P.offer q).profile in
      let s = same_offered o (clock l + window l) (omega (arith, F.head.clock, F.head.window.1)) a (P.offer q).price P.status.0 P.status.1 f in
      next_pick (goes_on a (named_row (hours l) l a))
      (λ _. next_then_confirm F seller_row (offered (hours l) (clock l + window l) a mw) s f)
      (λ _. next_own F seller_row (offered (hours l) (clock l + window l) a mw) s)

  other_next : Next l (other_after (hours l) l a)
  unfolding other_after
  other_next =
      next_pick (eqb a.status DISPLACED) (λ _. next_displace F seller_row)
      (λ _. next_pick (annuls_confirmed a (named_row (hours l) l a)) (λ _. next_annul F seller_row)
      (λ _. next_own F seller_row (set_status a.status) (same_status (same_self F seller_row) P.status.0 P.status.1)))

  seller_next : Next l (seller_after (hours l) l w a)
  unfolding seller_after
  seller_next = next_pick (offers a) (λ q. offer_next q) (λ _. other_next)

-- ---- 3 Customer status
module _ {l : List ℕ} (F : Formed l) (w : List ℕ) (a : Action) (P : CustomerPassed (hours l) l w a) where
  customer_row : named a < used l
  customer_row = issued_row l a P.reference

  bid_next : bids a ≡ true → Next l (bid_after (hours l) l w a)
  unfolding bid_after
  bid_next q = go (confirms a)
    where
      o : Same (hours l) (named_row (hours l) l a) (named_row (hours l) l a)
      o = same_self F customer_row

      s : Same (hours l) (named_row (hours l) l a) (bidden (hours l) w a (named_row (hours l) l a))
      s = same_bidden o w a (P.bid q).price (λ c. fitting_profile (named_row (hours l) l a) ((P.bid q).profile c))

      go : (b : Bool) → Next l (pick b (confirm (hours l) (named a) (in_force (hours l) (named_row (hours l) l a))) (on_row (hours l) (named a) (set_status a.status)) (on_row (hours l) (named a) (bidden (hours l) w a) l))
      go true = next_then_confirm F customer_row (bidden (hours l) w a) s (fitting_force o)
      go false = next_then_status F customer_row (bidden (hours l) w a) s P.status.0 P.status.1

  customer_next : Next l (customer_after (hours l) l w a)
  unfolding customer_after
  customer_next =
      next_pick (bids a) (λ q. bid_next q)
      (λ _. next_own F customer_row (set_status a.status) (same_status (same_self F customer_row) P.status.0 P.status.1))

-- ---- 4 Approve, 5 Reduce, 6 Lapse
approve_next : {l : List ℕ} → Formed l → (a : Action) → ApprovePassed (hours l) l a → Next l (approve_after (hours l) l a)
unfolding approve_after
approve_next {l} F a P =
    let lt = issued_row l a P.reference in
    let o = same_self F lt in
    next_pick (waits_at ACCEPTED (named_row (hours l) l a))
    (λ _. next_then_confirm F lt (raise approved) (same_approved o) (fitting_force o))
    (λ _. next_own F lt (raise approved) (same_approved o))

reduce_next : {l : List ℕ} → Formed l → (w : List ℕ) (a : Action) → ReducePassed (hours l) l w a → Next l (reduce_after (hours l) l w a)
unfolding reduce_after
reduce_next {l} F w a P = next_reduce F (issued_row l a P.reference) (profile w a) (profile_length P.profile)

lapse_next : {l : List ℕ} → Formed l → (a : Action) → LapsePassed (hours l) l a → Next l (lapse_after (hours l) l a)
unfolding lapse_after
lapse_next {l} F a P =
    let lt = issued_row l a P.reference in
    let o = same_self F lt in
    next_pick (waits_at CR_ACCEPTED (named_row (hours l) l a)) (λ _. next_confirm F lt (fitting_force o))
    (λ _. next_own F lt (set_status RETRACTED) (same_status o (omega arith) (omega arith)))

-- ---- 7 Clock
clock_next : {l : List ℕ} → Formed l → (a : Action) → ClockPassed l a → Next l (clock_after l a)
unfolding clock_after
clock_next {l} F a P = record {
  formed = formed_by same refl
      (head_kept F.head sized' (λ i lt ne _. get_or-set_other l 5 i a.time 0 ne) now (omega (arith, users, F.head.used)))
      (λ n lt. subst (λ (r : List ℕ). SoundWords (hours l) r) (sym (rows_same n)) (F.words n (omega (arith, users))))
      (λ n lt. subst (λ (r : List ℕ). FormedHours (hours l) r) (sym (rows_same n)) (F.profiles n (omega (arith, users))))
      (λ n lt. relation_shaped shaped n (F.relations n (omega (arith, users))))
      (λ n le k. ap (λ (r : List ℕ). get_or r k 0) (rows_same n) ∙ F.unused n (omega (arith, users)) k);
  hours = same;
  rows = get_or-set_other l 5 0 a.time 0 (λ e. omega arith);
  used = omega (arith, users);
}
  where
    l' : List ℕ
    l' = set_clock a.time l

    same : hours l' ≡ hours l
    same = get_or-set_other l 5 1 a.time 0 (λ e. omega arith)

    users : used l' ≡ used l
    users = get_or-set_other l 5 6 a.time 0 (λ e. omega arith)

    sized' : Sized l' (rows l) (hours l)
    sized' = record { long = length-set l 5 a.time ∙ F.head.long; rows = F.head.rows_most; hours = F.head.hours_most }

    now : get_or l' 5 0 < end_second
    now = omega (arith, get_or-set_same l 5 a.time 0 (omega (arith, F.head.long, row_least (hours l) (rows l))), P.most)

    rows_same : (n : ℕ) → row (hours l) l' n ≡ row (hours l) l n
    rows_same n = head_row (hours l) l 5 a.time n (lit< tt)

    shaped : Shaped (hours l) l l'
    shaped = record {
      type = λ m. ap (λ (r : List ℕ). reqtype r) (rows_same m);
      related = λ m. ap (λ (r : List ℕ). related r) (rows_same m);
      start = λ m. ap (λ (r : List ℕ). start r) (rows_same m);
      stop = λ m. ap (λ (r : List ℕ). stop r) (rows_same m);
    }

-- ---- 8 Posting
next_self : {l : List ℕ} → Formed l → Next l l
next_self F = record { formed = F; hours = refl; rows = refl; used = omega arith }

-- ---- every action
-- soundness, kind and actor
pub common_sound : (b : Bool) (a : Action) → common_number b a ≡ 0 → b ≡ true
unfolding common_number
common_sound b a e = not-false b (gives_none (not b) _ _ e).0

pub common_passed : (a : Action) → common_number true a ≡ 0 → (1 ≤ a.actor) × (a.actor ≤ most_entity)
unfolding common_number entity
common_passed a e =
    let k = gives_none (not (leb 1 a.kind && leb a.kind 8)) _ _ e in
    let s = gives_none (not (leb 1 a.actor && leb a.actor most_entity)) _ _ k.1 in
    let t = not-false _ s.0 in
    (leb-true _ _ (and_left _ _ t), leb-true _ _ (and_right (leb 1 a.actor) _ t))

-- of two kinds the one that is meant
next_choice : {l x y : List ℕ} (b : Bool) (n m : ℕ) → (n ≡ 0 → Next l x) → (m ≡ 0 → Next l y) → pick b n m ≡ 0 → Next l (pick b x y)
next_choice true n m p q e = p e
next_choice false n m p q e = q e

pub kind_next : {l : List ℕ} → Formed l → (w : List ℕ) (a : Action) → (1 ≤ a.actor) × (a.actor ≤ most_entity) → kind_number (hours l) l w a ≡ 0 → Next l (kind_after (hours l) l w a)
unfolding kind_number kind_after
kind_next {l} F w a actor =
    next_choice (eqb a.kind 1) _ _ (λ e. submit_next F (submit_passed (hours l) l w a e) actor)
    (next_choice (eqb a.kind 2) _ _ (λ e. seller_next F w a (seller_status_passed (hours l) l w a e))
    (next_choice (eqb a.kind 3) _ _ (λ e. customer_next F w a (customer_status_passed (hours l) l w a e))
    (next_choice (eqb a.kind 4) _ _ (λ e. approve_next F a (approve_passed (hours l) l a e))
    (next_choice (eqb a.kind 5) _ _ (λ e. reduce_next F w a (reduce_passed (hours l) l w a e))
    (next_choice (eqb a.kind 6) _ _ (λ e. lapse_next F a (lapse_passed (hours l) l a e))
    (next_choice (eqb a.kind 7) _ _ (λ e. clock_next F a (clock_passed l a e)) (λ e. next_self F)))))))

-- ---- a formed ledger is sound where no available, displaced or reduced word in a row's span is over the bound
module _ {l : List ℕ} (F : Formed l) (b : AllBounded (hours l) l) where
  pub bounded_sound : SoundLedger l
  bounded_sound = record {
    head = F.head;
    words = F.words;
    profiles = λ n lt. record { most = λ p h plt hlt. most n lt p h plt hlt (lt_or_le p available_part); outside = (F.profiles n lt).outside };
    relations = F.relations;
    unused = F.unused;
  }
    where
      -- in the span, and outside it
      most : (n : ℕ) → n < used l → (p h : ℕ) → p < profiles → h < hours l → (p < available_part) ⊎ (available_part ≤ p) → get_or (row (hours l) l n) (hour_at (hours l) p h) 0 ≤ most_megawatts
      most n lt p h plt hlt (inl u) = (F.profiles n lt).most p h u hlt
      most n lt p h plt hlt (inr u) = go (lt_or_le h (start (row (hours l) l n))) (lt_or_le h (stop (row (hours l) l n)))
        where
          go : (h < start (row (hours l) l n)) ⊎ (start (row (hours l) l n) ≤ h) → (h < stop (row (hours l) l n)) ⊎ (stop (row (hours l) l n) ≤ h) → get_or (row (hours l) l n) (hour_at (hours l) p h) 0 ≤ most_megawatts
          go (inl x) y = omega (arith, (F.profiles n lt).outside p h plt hlt (inl x))
          go (inr x) (inr y) = omega (arith, (F.profiles n lt).outside p h plt hlt (inr y))
          go (inr x) (inl y) = (b n lt).most p h u plt x y

-- which the last check asks
pub sound_of : {l : List ℕ} → Formed l → carries_over (hours l) l ≡ false → SoundLedger l
sound_of {l} F e = bounded_sound F (carries_false (hours l) l e)

last_passed : (H : ℕ) (l : List ℕ) → last_number H l ≡ 0 → carries_over H l ≡ false
unfolding last_number
last_passed H l e = (gives_none (carries_over H l) _ _ e).0

use_passed : (H : ℕ) (l : List ℕ) (a : Action) (next ps : List ℕ) → use_number H l a next ps ≡ 0 → over_use H l a next ps ≡ false
unfolding use_number
use_passed H l a next ps e = (gives_none (over_use H l a next ps) _ _ e).0

-- an accepted action's checks, one group after the other
pub record NumberPassed (l ps w : List ℕ) (a : Action) : Type 0 where
  pub common : common_number true a ≡ 0
  pub kind : kind_number (hours l) l w a ≡ 0
  pub paths : over_use (hours l) l a (kind_after (hours l) l w a) (postings_after (hours l) ps w a) ≡ false
  pub last : carries_over (hours l) (kind_after (hours l) l w a) ≡ false

pub number_passed : (l ps w : List ℕ) (a : Action) → number true l ps w a ≡ 0 → NumberPassed l ps w a
unfolding number sound_number
number_passed l ps w a e =
    let c = or_else_none (common_number true a) _ e in
    let k = or_else_none (kind_number (hours l) l w a) _ c.1 in
    let u = or_else_none (use_number (hours l) l a (kind_after (hours l) l w a) (postings_after (hours l) ps w a)) _ k.1 in
    record {
      common = c.0;
      kind = k.0;
      paths = use_passed (hours l) l a (kind_after (hours l) l w a) (postings_after (hours l) ps w a) u.0;
      last = last_passed (hours l) (kind_after (hours l) l w a) u.1;
    }

-- what an action leaves that passed the checks of its kind and the one that is judged last
pub left_sound : {l : List ℕ} → SoundLedger l → (w : List ℕ) (a : Action) → common_number true a ≡ 0 → kind_number (hours l) l w a ≡ 0 → carries_over (hours l) (kind_after (hours l) l w a) ≡ false → SoundLedger (kind_after (hours l) l w a)
left_sound {l} s w a c k e =
    let n = kind_next (formed s) w a (common_passed a c) k in
    sound_of n.formed (subst (λ (H : ℕ). carries_over H (kind_after (hours l) l w a) ≡ false) (sym n.hours) e)

pub sound_next : {l : List ℕ} → SoundLedger l → (ps w : List ℕ) (a : Action) → number true l ps w a ≡ 0 → SoundLedger (kind_after (hours l) l w a)
sound_next {l} s ps w a e =
    let p = number_passed l ps w a e in
    left_sound s w a p.common p.kind p.last

-- rows, hours and the rows in use stay
pub head_next : {l : List ℕ} → SoundLedger l → (ps w : List ℕ) (a : Action) → number true l ps w a ≡ 0 → Next l (kind_after (hours l) l w a)
head_next {l} s ps w a e =
    let p = number_passed l ps w a e in
    kind_next (formed s) w a (common_passed a p.common) p.kind

pub sound_kept : (l ps w : List ℕ) (a : Action) → sound l ≡ true → number true l ps w a ≡ 0 → sound (kind_after (hours l) l w a) ≡ true
sound_kept l ps w a s e = facts_sound (sound_next (sound_facts s) ps w a e)

-- the kind of an action that passed
pub kind_passed : (a : Action) → common_number true a ≡ 0 → (1 ≤ a.kind) × (a.kind ≤ 8)
unfolding common_number
kind_passed a e =
    let k = gives_none (not (leb 1 a.kind && leb a.kind 8)) _ _ e in
    let t = not-false _ k.0 in
    (leb-true _ _ (and_left _ _ t), leb-true _ _ (and_right (leb 1 a.kind) _ t))

-- one kind after another: a kind that is not m is past it
pub past : {m k : ℕ} → k ≢ m → m ≤ k → suc m ≤ k
past ne le = omega (arith, ne)

-- the number of an action, by its kind
pub number_of : (H : ℕ) (l w : List ℕ) (a : Action) {k : ℕ} → a.kind ≡ k → kind_number H l w a ≡ by_kind k (submit_number H l w a) (seller_number H l w a) (customer_number H l w a) (approve_number H l a) (reduce_number H l w a) (lapse_number H l a) (clock_number l a) (post_number H l w a)
unfolding kind_number
number_of H l w a q = ap (λ (k : ℕ). by_kind k (submit_number H l w a) (seller_number H l w a) (customer_number H l w a) (approve_number H l a) (reduce_number H l w a) (lapse_number H l a) (clock_number l a) (post_number H l w a)) q

-- and what it leaves
pub after_of : (H : ℕ) (l w : List ℕ) (a : Action) {k : ℕ} → a.kind ≡ k → kind_after H l w a ≡ by_kind k (submit_after H l w a) (seller_after H l w a) (customer_after H l w a) (approve_after H l a) (reduce_after H l w a) (lapse_after H l a) (clock_after l a) l
unfolding kind_after
after_of H l w a q = ap (λ (k : ℕ). by_kind k (submit_after H l w a) (seller_after H l w a) (customer_after H l w a) (approve_after H l a) (reduce_after H l w a) (lapse_after H l a) (clock_after l a) l) q

-- only a posting alters the postings
pub postings_stay : (H : ℕ) (ps w : List ℕ) (a : Action) → a.kind ≢ 8 → postings_after H ps w a ≡ ps
unfolding postings_after
postings_stay H ps w a n8 = ap (λ (b : Bool). pick b (posted H ps w a) ps) (ne_eqb a.kind 8 n8)

-- and leaves them sound
pub postings_kept : (l ps w : List ℕ) (a : Action) → kind_number (hours l) l w a ≡ 0 → SoundPostings (hours l) ps → SoundPostings (hours l) (postings_after (hours l) ps w a)
unfolding postings_after
postings_kept l ps w a e S = go (eqb a.kind 8) refl
  where
    go : (b : Bool) → eqb a.kind 8 ≡ b → SoundPostings (hours l) (pick b (posted (hours l) ps w a) ps)
    go true q = posted_sound S (post_passed (hours l) l w a (sym (number_of (hours l) l w a (eqb-true _ _ q)) ∙ e))
    go false q = S

pub both_facts : (l ps : List ℕ) → sound_both l ps ≡ true → (sound l ≡ true) × (sound_postings (hours l) ps ≡ true)
unfolding sound_both
both_facts l ps e = (and_left _ _ e, and_right (sound l) _ e)

facts_both : (l ps : List ℕ) → sound l ≡ true → sound_postings (hours l) ps ≡ true → sound_both l ps ≡ true
unfolding sound_both
facts_both l ps s p = ap (λ (b : Bool). b && sound_postings (hours l) ps) s ∙ p

pub both_kept : (l ps w : List ℕ) (a : Action) → sound_both l ps ≡ true → number true l ps w a ≡ 0 → sound_both (kind_after (hours l) l w a) (postings_after (hours l) ps w a) ≡ true
both_kept l ps w a s e =
    let f = both_facts l ps s in
    let h = (head_next (sound_facts f.0) ps w a e).hours in
    facts_both _ _ (sound_kept l ps w a f.0 e)
    (subst (λ (H : ℕ). sound_postings H (postings_after (hours l) ps w a) ≡ true) (sym h)
    (facts_postings (hours l) _ (postings_kept l ps w a (number_passed l ps w a e).kind (postings_facts (hours l) ps f.1))))

-- a refused action leaves the ledger and the postings as they were
pub step_true : (l ps w : List ℕ) (a : Action) → sound_both l ps ≡ true → sound_both (step true l ps w a).ledger (step true l ps w a).postings ≡ true
unfolding step accepted refused
step_true l ps w a s = go (eqb (number true l ps w a) 0) refl
  where
    go : (b : Bool) → eqb (number true l ps w a) 0 ≡ b → sound_both (pick b (accepted l ps w a (kind_after (hours l) l w a)) (refused l ps (number true l ps w a))).ledger (pick b (accepted l ps w a (kind_after (hours l) l w a)) (refused l ps (number true l ps w a))).postings ≡ true
    go true q = both_kept l ps w a s (eqb-true _ _ q)
    go false q = s

pub sound_step : (l ps w : List ℕ) (a : Action) → sound_both l ps ≡ true → sound_both (step (sound_both l ps) l ps w a).ledger (step (sound_both l ps) l ps w a).postings ≡ true
sound_step l ps w a s = subst (λ (b : Bool). sound_both (step b l ps w a).ledger (step b l ps w a).postings ≡ true) (sym s) (step_true l ps w a s)
