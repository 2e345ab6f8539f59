-- The ledger after a bid in row n, and what an accepted move of the customer leaves.
use mathlib.Core.Path.{◌≡◌, refl, sym, ap, subst, ◌∙◌}
use mathlib.Core.Logic.{◌≢◌}
use mathlib.Core.Bool.{Bool, true, false}
use mathlib.Core.List.{List, [], ◌∷◌}
use Prim.Native.Nat.{ℕ, ◌+◌, ◌≤◌, ◌<◌}
use native.Mathlib.Omega.{arith}
use lib.Dec.{lit<}
use lib.ListN.{length, length-set, get_or, set}
use lib.Seq.{get_or-set_other}
use borrow.Author.Tests.{eqb-true}
use Rattle.words.specs.Lists.{equal}
use Rattle.words.proofs.Laws.{equal_lists}
use Rattle.rules.specs.Pick.{pick, when, ◌among◌}
use Rattle.rules.specs.Numbers.{most_price, requested_part, granted_part, approved, granted_given, CONFIRMED}
use Rattle.rules.specs.Layout.{rows, hours, used, row, on_row, start, flags, span_hours, span, requested, granted, has, has_flag, set_status, set_bid, set_hours}
use Rattle.rules.specs.Megawatts.{in_force, carries_over}
use Rattle.rules.specs.Confirming.{confirm, short}
use Rattle.rules.specs.Checks.{named, named_row, profile, comes}
use Rattle.rules.specs.CustomerStatus.{bids, confirms, requested_after, unfit_bid, bidden, bid_after, customer_number, customer_after}
use Rattle.rules.specs.declared.Action.{Action}
use Rattle.rules.proofs.Picks.{choice, hit, hit_by, told, and_stops, and_goes}
use Rattle.rules.proofs.Spans.{Spanned, set_spanned, span_set, span_length, put_word, put_other, put_own}
use Rattle.rules.proofs.Seen.{Room}
use Rattle.rules.proofs.SoundFacts.{SoundLedger}
use Rattle.rules.proofs.Formed.{Formed, formed}
use Rattle.rules.proofs.Effects.{own_leaves}
use Rattle.rules.proofs.Passed.{CustomerPassed, customer_status_passed, confirm_passed, profile_length}
use Rattle.rules.proofs.Entries.{bid_equal}
use Rattle.rules.proofs.Placed.{placed}
use Rattle.rules.proofs.Unmoved.{Unmoved, unmoved_bidden}
use Rattle.rules.proofs.Kept.{Same, same_self, same_bidden, next_own, fitting_profile, fitting_force}
use Rattle.rules.proofs.Over.{over_confirming, over_status, own_bidden}
use Rattle.rules.proofs.Before.{short_stays, over_confirming_stays, over_then_confirming, over_then_status}
use Rattle.layout.specs.SoundAt.{SoundAt}
use Rattle.layout.specs.Bounds as Whole
use Rattle.layout.specs.Placed.{Placed}
use Rattle.layout.proofs.Lent.{row_lent, row_back}
use Rattle.layout.proofs.Placed.{placed_at, sized, own_length, own_words, spanned_as}
use Rattle.checks.specs.Suits.{Suits}
use Rattle.checks.proofs.Profiles.{suits}
use Rattle.checks.proofs.Requests.{of_named}

-- ---- the profile in force of a row after a bid in it
module _ {H : ℕ} {r : List ℕ} (m : Spanned H r) (w : List ℕ) (a : Action) (came : comes a ≡ true → length (profile w a) ≡ span_hours r) where
  -- the row with its bid, before the profile that comes
  abbrev bid_only : List ℕ
  bid_only = set_bid a.price r

  only_spanned : Spanned H bid_only
  only_spanned = set_spanned m 8 a.price (λ e. omega (arith, e)) (λ e. omega (arith, e))

  only_word : (k : ℕ) → k ≢ 8 → get_or bid_only k 0 ≡ get_or r k 0
  only_word k ne = get_or-set_other r 8 k a.price 0 ne

  only_span : (p : ℕ) → span H p bid_only ≡ span H p r
  only_span p = span_set H p r 8 a.price (lit< tt) (λ e. omega (arith, e)) (λ e. omega (arith, e))

  -- what the bid leaves of the flags and of granted, and requested after it
  parts : (b : Bool) → comes a ≡ b → let q = when b (set_hours H requested_part (start r) (profile w a)) bid_only in let v = pick b (profile w a) (requested H r) in
      (flags q ≡ flags r) × (granted H q ≡ granted H r) × (requested H q ≡ v) × (length v ≡ span_hours r)
  parts true c =
      let fits : start r + length (profile w a) ≤ H = omega (arith, came c) in
      let s = only_word 5 (λ e. omega (arith, e)) in
      let t = only_word 6 (λ e. omega (arith, e)) in (
        put_word only_spanned requested_part (start r) (profile w a) (lit< tt) fits 7 (lit< tt) ∙ only_word 7 (λ e. omega (arith, e)),
        put_other only_spanned requested_part (start r) (profile w a) (lit< tt) fits granted_part (lit< tt) (λ e. omega (arith, e)) ∙ only_span granted_part,
        subst (λ (i : ℕ). span H requested_part (set_hours H requested_part i (profile w a) bid_only) ≡ profile w a) s
            (put_own only_spanned requested_part (profile w a) (lit< tt) (omega (arith, came c, s, t))),
        came c,
      )
  parts false c = (only_word 7 (λ e. omega (arith, e)), only_span granted_part, only_span requested_part, span_length m requested_part (lit< tt))

  bid_parts : (flags (bidden H w a r) ≡ flags r) × (granted H (bidden H w a r) ≡ granted H r) × (requested H (bidden H w a r) ≡ requested_after H w a r) × (length (requested_after H w a r) ≡ span_hours r)
  unfolding bidden requested_after
  bid_parts = parts (comes a) refl

  requested_long : length (requested_after H w a r) ≡ span_hours r
  requested_long = bid_parts.3

  -- by 12 the profile in force is the one before
  bid_force : unfit_bid H w a r ≡ false → in_force H (bidden H w a r) ≡ in_force H r
  unfolding in_force
  bid_force e =
      let p = bid_parts in
      ap (λ (f : ℕ). pick (has_flag granted_given f) (granted H (bidden H w a r)) (requested H (bidden H w a r))) p.0
      ∙ go (has granted_given r) (bid_equal H w a r e)
    where
      go : (b : Bool) → equal (requested_after H w a r) (pick b (granted H r) (requested H r)) ≡ true → pick b (granted H (bidden H w a r)) (requested H (bidden H w a r)) ≡ pick b (granted H r) (requested H r)
      go true q = bid_parts.1
      go false q = bid_parts.2 ∙ equal_lists (requested_after H w a r) (requested H r) (requested_long ∙ sym (span_length m requested_part (lit< tt))) q

-- a profile that comes for a row is one for the row as it is lent
pub suits_as : {w : List ℕ} {a : Action} {r r' : List ℕ} → Suits w a r → r' ≡ r → Suits w a r'
suits_as {w} {a} q e = subst (λ (x : List ℕ). Suits w a x) (sym e) q

-- the row with its bid has room for such a profile
pub bid_room : {H : ℕ} {w r v : List ℕ} {a : Action} → Whole.Spanned H r → Suits w a r → comes a ≡ true → v ≡ profile w a → Room H (start r) v (set r 8 a.price)
bid_room {r = r} {a = a} m q came e =
    record { long = length-set r 8 a.price ∙ m.long; fits = omega (arith, ap length e, profile_length (q.profile came), m.starts, m.stops) }

-- requested after the action is as long as the span
pub after_length : {l : List ℕ} {R H n : ℕ} → Placed l R H n → (w : List ℕ) (a : Action) → Suits w a (row H l n) → length (requested_after H w a (row H l n)) ≡ span_hours (row H l n)
after_length p w a q =
    requested_long (record { long = own_length p; starts = omega (arith, (own_words p).starts); stops = (own_words p).stops }) w a (λ c. profile_length (q.profile c))

-- ---- a bid in row n that 12 passed leaves l': the profile in force is as it was, and so is what confirming asks
record Bid (l l' : List ℕ) (R H n : ℕ) : Type 0 where
  pub placed : Placed l' R H n
  pub force : in_force H (row H l' n) ≡ in_force H (row H l n)
  pub short : (mw : List ℕ) → short H l' n mw ≡ short H l n mw
  pub over : (mw : List ℕ) → over_confirming H l' n mw ≡ over_confirming H l n mw

own_bid : {l : List ℕ} {n : ℕ} → Formed l → n < used l → (w : List ℕ) (a : Action) → a.price ≤ most_price → Suits w a (row (hours l) l n) → unfit_bid (hours l) w a (row (hours l) l n) ≡ false
    → Bid l (on_row (hours l) n (bidden (hours l) w a) l) (rows l) (hours l) n
own_bid {l} {n} F lt w a price q fit =
    let r = row (hours l) l n in
    let own = same_self F lt in
    let v = F.words n lt in
    let same : Same (hours l) r (bidden (hours l) w a r) = same_bidden own w a price (λ c. fitting_profile r (q.profile c)) in
    let unmoved : Unmoved (hours l) r (bidden (hours l) w a r) = unmoved_bidden {r = r} own.long w a (λ c. omega (arith, profile_length (q.profile c), v.starts, v.stops)) in
    let next = next_own F lt (bidden (hours l) w a) same in
    record {
      placed = record { formed = next.formed; rows = sym next.rows; hours = sym next.hours; row = omega (arith, lt, next.used) };
      force =
          ap (in_force (hours l)) (own_leaves F lt (bidden (hours l) w a) same.long).own
          ∙ bid_force (record { long = own.long; starts = omega (arith, v.starts); stops = v.stops }) w a (λ c. profile_length (q.profile c)) fit;
      short = short_stays (placed F lt) (bidden (hours l) w a) unmoved;
      over = over_confirming_stays (placed F lt) (bidden (hours l) w a) unmoved;
    }

after_bid : {l : List ℕ} {R H n : ℕ} → Placed l R H n → (w : List ℕ) (a : Action) → a.price ≤ most_price → Suits w a (row H l n) → unfit_bid H w a (row H l n) ≡ false → Bid l (on_row H n (bidden H w a) l) R H n
after_bid {l} {R} {H} {n} p w a price =
    subst (λ (x : ℕ). Suits w a (row x l n) → unfit_bid x w a (row x l n) ≡ false → Bid l (on_row x n (bidden x w a) l) R x n) (sym p.hours)
    (λ q fit. subst (λ (x : ℕ). Bid l (on_row (hours l) n (bidden (hours l) w a) l) x (hours l) n) (sym p.rows) (own_bid p.formed p.row w a price q fit))

module _ {l l' : List ℕ} {R H n : ℕ} (p : Placed l R H n) (w : List ℕ) (a : Action) (price : a.price ≤ most_price) (q : Suits w a (row H l n)) (fit : unfit_bid H w a (row H l n) ≡ false) (e : l' ≡ on_row H n (bidden H w a) l) where
  here : Bid l l' R H n
  here = subst (λ (x : List ℕ). Bid l x R H n) (sym e) (after_bid p w a price q fit)

  pub placed_after : Placed l' R H n
  placed_after = here.placed

  pub short_after : short H l n (in_force H (row H l n)) ≡ false → short H l' n (in_force H (row H l' n)) ≡ false
  short_after s = ap (short H l' n) here.force ∙ here.short (in_force H (row H l n)) ∙ s

  pub over_after : over_confirming H l n (in_force H (row H l n)) ≡ false → over_confirming H l' n (in_force H (row H l' n)) ≡ false
  over_after o = ap (over_confirming H l' n) here.force ∙ here.over (in_force H (row H l n)) ∙ o

  -- what confirming then leaves is confirmed with it
  pub confirm_after : {l'' : List ℕ} → l'' ≡ confirm H n (in_force H (row H l' n)) l' → l'' ≡ confirm H n (in_force H (row H l n)) (on_row H n (bidden H w a) l)
  confirm_after c = cc (c, e, here.force)

-- ---- an accepted move of the customer
pub confirms_bids : (a : Action) → confirms a ≡ true → bids a ≡ true
unfolding confirms bids
confirms_bids a e = ap (λ (s : ℕ). s among (8 ∷ 13 ∷ [])) (eqb-true a.status CONFIRMED e)

module _ {l : List ℕ} {R H : ℕ} (s : SoundAt l R H) (w : List ℕ) (a : Action) (e : customer_number H l w a ≡ 0) where
  passed : CustomerPassed H l w a
  passed = customer_status_passed H l w a e

  pub accepted_in_use : {n : ℕ} → n ≡ named a → n < used l
  accepted_in_use q = omega (arith, q, passed.reference.0, passed.reference.1)

  pub accepted_named : {n : ℕ} → n ≡ named a → Placed l R H n
  accepted_named q = placed_at s (accepted_in_use q)

  pub accepted_price : bids a ≡ true → a.price ≤ most_price
  accepted_price o = (passed.bid o).price

  pub accepted_suits : {n : ℕ} → n ≡ named a → bids a ≡ true → Suits w a (row H l n)
  accepted_suits q o = subst (λ (n : ℕ). Suits w a (row H l n)) (sym q) (record { profile = (passed.bid o).profile })

  pub accepted_fit : confirms a ≡ true → unfit_bid H w a (named_row H l a) ≡ false
  accepted_fit c = (passed.bid (confirms_bids a c)).fit c

  pub accepted_short : confirms a ≡ true → short H l (named a) (in_force H (named_row H l a)) ≡ false
  accepted_short c = (confirm_passed H l (named a) (in_force H (named_row H l a)) (has approved (named_row H l a)) ((passed.bid (confirms_bids a c)).confirms c)).short

-- ---- what it leaves
module _ (H : ℕ) (l w : List ℕ) (a : Action) where
  pub after_confirming : confirms a ≡ true → customer_after H l w a ≡ confirm H (named a) (in_force H (named_row H l a)) (on_row H (named a) (bidden H w a) l)
  unfolding customer_after bid_after
  after_confirming c = simp (confirms_bids a c, c)

  pub after_rebid : bids a ≡ true → confirms a ≡ false → customer_after H l w a ≡ on_row H (named a) (set_status a.status) (on_row H (named a) (bidden H w a) l)
  unfolding customer_after bid_after
  after_rebid o c = simp (o, c)

  pub after_other : bids a ≡ false → customer_after H l w a ≡ on_row H (named a) (set_status a.status) l
  unfolding customer_after
  after_other o = simp o

-- ---- the last check: only a confirmation adds
module _ {l : List ℕ} (s : SoundLedger l) (w : List ℕ) (a : Action) (P : CustomerPassed (hours l) l w a) where
  lt : named a < used l
  lt = omega (arith, P.reference.0, P.reference.1)

  unmoved_bid : bids a ≡ true → Unmoved (hours l) (named_row (hours l) l a) (bidden (hours l) w a (named_row (hours l) l a))
  unmoved_bid o = own_bidden s lt w a (λ c. profile_length ((P.bid o).profile c))

  over_confirms : confirms a ≡ true → carries_over (hours l) (customer_after (hours l) l w a) ≡ over_confirming (hours l) l (named a) (in_force (hours l) (named_row (hours l) l a))
  over_confirms c =
      let f = fitting_force (same_self (formed s) lt) in
      ap (carries_over (hours l)) (after_confirming (hours l) l w a c)
      ∙ over_then_confirming s lt (bidden (hours l) w a) (unmoved_bid (confirms_bids a c)) (in_force (hours l) (named_row (hours l) l a)) f.counted f.most

  over_rests : confirms a ≡ false → carries_over (hours l) (customer_after (hours l) l w a) ≡ false
  over_rests c = go (bids a) refl
    where
      go : (b : Bool) → bids a ≡ b → carries_over (hours l) (customer_after (hours l) l w a) ≡ false
      go true o = ap (carries_over (hours l)) (after_rebid (hours l) l w a o c) ∙ over_then_status s lt (bidden (hours l) w a) (unmoved_bid o) a.status
      go false o = ap (carries_over (hours l)) (after_other (hours l) l w a o) ∙ over_status s lt a.status

module _ {l : List ℕ} {R H : ℕ} (s : SoundAt l R H) (w : List ℕ) (a : Action) (e : customer_number H l w a ≡ 0) where
  number : customer_number (hours l) l w a ≡ 0
  number = ap (λ (x : ℕ). customer_number x l w a) (sym s.hours) ∙ e

  pub over_confirmed : confirms a ≡ true → carries_over H (customer_after H l w a) ≡ over_confirming H l (named a) (in_force H (named_row H l a))
  over_confirmed c =
      subst (λ (x : ℕ). carries_over x (customer_after x l w a) ≡ over_confirming x l (named a) (in_force x (named_row x l a))) (sym s.hours)
      (over_confirms s.sound w a (customer_status_passed (hours l) l w a number) c)

  pub over_never : confirms a ≡ false → carries_over H (customer_after H l w a) ≡ false
  over_never c =
      subst (λ (x : ℕ). carries_over x (customer_after x l w a) ≡ false) (sym s.hours)
      (over_rests s.sound w a (customer_status_passed (hours l) l w a number) c)

-- for the checks of an action
pub ruleset chosen = (choice, hit_by, of_named, suits)

-- for what is written in a row; for a row that is lent, and comes back; for a confirmation after a bid
pub ruleset bidding = (told, bid_room)

pub ruleset lent = (sized, row_lent, row_back, spanned_as, suits_as)

pub ruleset confirming = (placed_after, short_after, over_after, confirm_after)

-- for an accepted action, and for the profile that comes with it
pub ruleset accepting = (and_stops, and_goes, accepted_in_use, accepted_named, accepted_price, accepted_fit, accepted_short, confirms_bids, over_confirmed, over_never, after_confirming)

pub ruleset suiting = (told, accepted_suits, confirms_bids)
