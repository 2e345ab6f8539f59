-- The customer's moves keep what is kept.
use mathlib.Core.Path.{◌≡◌, refl, sym, ap, ◌∙◌}
use mathlib.Core.Logic.{◌≢◌, ◌⊎◌, ⊎_elim, inl, inr}
use mathlib.Core.Bool.{Bool, true, false}
use mathlib.Core.List.{List, [], ◌∷◌}
use Prim.Native.Nat.{ℕ, ◌<◌}
use native.Mathlib.Omega.{arith}
use borrow.Author.Tests.{eqb-false}
use lib.ListN.{length}
use Rattle.rules.specs.Pick.{pick, ◌among◌}
use Rattle.rules.specs.Numbers.{approved, CONFIRMED}
use Rattle.rules.specs.Layout.{hours, used, row, on_row, status, start, span_hours, has, set_status}
use Rattle.rules.specs.Megawatts.{in_force}
use Rattle.rules.specs.Confirming.{confirm}
use Rattle.rules.specs.Checks.{named, named_row, comes, profile}
use Rattle.rules.specs.CustomerStatus.{bids, confirms, bidden, bid_after, customer_after}
use Rattle.rules.specs.Tally.{Tally, feed}
use Rattle.rules.specs.declared.Action.{Action}
use Rattle.rules.specs.declared.Answer.{Answer}
use Rattle.rules.proofs.Formed.{Formed, formed}
use Rattle.rules.proofs.View.{out_of, red_of}
use Rattle.rules.proofs.Effects.{own_leaves}
use Rattle.rules.proofs.Passed.{CustomerPassed, BidPassed, confirm_passed, CustomerMove, customer_move, profile_length, is_one, last_one}
use Rattle.rules.proofs.Placed.{placed}
use Rattle.rules.proofs.Quiet.{status_step, bidden_calm}
use Rattle.rules.proofs.Unmoved.{unmoved_bidden}
use Rattle.rules.proofs.Before.{unconfirmed_stays, short_stays}
use Rattle.rules.proofs.Kept.{Same, same_self, same_status, same_bidden, fitting_profile}
use Rattle.rules.proofs.TallyLaws.{fed_red, fed_quiet}
use Rattle.rules.proofs.Forces.{force_length}
use Rattle.rules.proofs.Entries.{bid_unsettled, status_agrees, bidden_start, bidden_agrees, bidden_confirms}
use Rattle.rules.proofs.Good.{Good}
use Rattle.rules.proofs.Tests.{Left}
use Rattle.rules.proofs.Answers.{AnswerOf, answer_counts}
use Rattle.rules.proofs.Confirmed.{Ready}
use Rattle.rules.proofs.Readying.{ready_on}
use Rattle.rules.proofs.Naming.{set_status_lem, ready_status, either_agrees, is_used, spanned, own_agrees, stepped_good, readied_good, confirmed_good}

-- a bid is 8 or 13
bid_status : (a : Action) → bids a ≡ true → (a.status ≡ 8) ⊎ (a.status ≡ 13)
unfolding bids
bid_status a e = ⊎_elim (λ x. inl x) (λ x. inr (last_one a.status 13 x)) (is_one a.status 8 _ e)

pub no_bid : (a : Action) → bids a ≡ false → (a.status ≢ 8) × (a.status ≢ 13)
unfolding bids
no_bid a e = (λ z. apart (ap (λ (s : ℕ). s among (8 ∷ 13 ∷ [])) z) e, λ z. apart (ap (λ (s : ℕ). s among (8 ∷ 13 ∷ [])) z) e)
  where
    apart : {b : Bool} → b ≡ true → b ≡ false → ⊥
    apart p q = let z : ◌≡◌ {A = Bool} true false = sym p ∙ q in let y : ◌≡◌ {A = ℕ} 0 1 = cc in omega arith

pub no_confirm : (a : Action) → bids a ≡ true → confirms a ≡ false → a.status ≡ 8
unfolding confirms
no_confirm a o c = ⊎_elim (λ x. x) (λ x. absurd (eqb-false a.status CONFIRMED c x)) (bid_status a o)

module _ {B : ℕ → ℕ → ℕ} {l : List ℕ} {t : Tally} (G : Good B l t) (w : List ℕ) (a : Action) (P : CustomerPassed (hours l) l w a) (k : a.kind ≡ 3) where
  abbrev H : ℕ
  H = hours l

  abbrev n : ℕ
  n = named a

  abbrev r : List ℕ
  r = named_row (hours l) l a

  F : Formed l
  F = formed G.sound

  lt : named a < used l
  lt = is_used G a P.reference.0 P.reference.1

  later : a.kind ≢ 1
  later z = omega (arith, z, k)

  five : a.kind ≢ 5
  five z = omega (arith, z, k)

  move : CustomerMove (named_row (hours l) l a) a.status
  move = customer_move (named_row (hours l) l a) a.status P.may

  abbrev Kept : List ℕ → Type 0
  Kept next = Left B l next (named a) (status (named_row (hours l) l a)) (status (row (hours l) next (named a))) → (answer : Answer) → AnswerOf answer a.reference (status (named_row (hours l) l a)) (status (row (hours l) next (named a))) → Good B next (feed a w answer t)

  -- ---- 8, 13
  module _ (o : bids a ≡ true) where
    Q : BidPassed (hours l) l w a
    Q = P.bid o

    same : Same H r (bidden H w a r)
    same = same_bidden (same_self F lt) w a Q.price (λ c. fitting_profile r (Q.profile c))

    fits : comes a ≡ true → length (profile w a) ≡ span_hours r
    fits c = profile_length (Q.profile c)

    Y : Ready B l (on_row H n (bidden H w a) l) t n (bidden H w a r)
    Y = ready_on G lt move.before (bidden H w a) same (status r) (λ h. bidden_calm (placed F lt) h w a fits) move.before

    -- to 13
    confirms_kept : confirms a ≡ true → Kept (confirm H n (in_force H r) (on_row H n (bidden H w a) l))
    confirms_kept c S answer A =
        let mw : List ℕ = in_force H r in
        let q : List ℕ = bidden H w a r in
        let C = confirm_passed H l n mw (has approved r) (Q.confirms c) in
        let E = own_agrees G a P.reference.0 P.reference.1 w A later in
        let m = spanned G a P.reference.0 P.reference.1 in
        let long : length mw ≡ span_hours r = force_length m in
        let long1 : length mw ≡ span_hours q = omega (arith, long, same.start, same.stop) in
        let now = ready_status G lt Y mw long1 (record { long = same.long; fits = omega (arith, long, same.start, m.starts, m.stops) }) in
        let u = unmoved_bidden {r = named_row (hours l) l a} m.long w a (λ c. omega (arith, fits c, m.starts, m.stops)) in
        confirmed_good G a P.reference.0 P.reference.1 w A later five move.before.0 now Y mw long1
        (unconfirmed_stays (placed F lt) (bidden H w a) u ∙ C.unconfirmed)
        (short_stays (placed F lt) (bidden H w a) u mw ∙ C.short) S
        (either_agrees mw q (bidden_confirms E m a w answer k o Q.profile (Q.fit c) (start q) (bidden_start E m a w answer k o Q.profile) (A.after ∙ now)))

    -- to 8
    rebid_kept : a.status ≡ 8 → Kept (on_row H n (set_status a.status) (on_row H n (bidden H w a) l))
    rebid_kept e S answer A =
        let E = own_agrees G a P.reference.0 P.reference.1 w A later in
        let m = spanned G a P.reference.0 P.reference.1 in
        readied_good G a P.reference.0 P.reference.1 w A later five move.before.0 Y (λ z. omega (arith, z, e), λ z. omega (arith, z, e)) S.formed
        (λ f. bidden_agrees E m a w answer k o Q.profile a.status f (bid_unsettled a.status (inl e)))

    bid_kept : Kept (bid_after H l w a)
    unfolding bid_after
    bid_kept = go (confirms a) refl
      where
        go : (b : Bool) → confirms a ≡ b → Kept (pick b (confirm H n (in_force H r)) (on_row H n (set_status a.status)) (on_row H n (bidden H w a) l))
        go true c = confirms_kept c
        go false c = rebid_kept (no_confirm a o c)

  -- ---- 14
  withdrawn_kept : bids a ≡ false → Kept (on_row H n (set_status a.status) l)
  withdrawn_kept o S answer A =
      let E = own_agrees G a P.reference.0 P.reference.1 w A later in
      let m = spanned G a P.reference.0 P.reference.1 in
      let s = same_status (same_self F lt) P.status.0 P.status.1 in
      let L = own_leaves F lt (set_status a.status) s.long in
      let now : status (row H (on_row H n (set_status a.status) l) n) ≡ a.status = ap status L.own ∙ set_status_lem r a.status H s.long in
      let after : answer.after ≡ a.status = A.after ∙ now in
      let is14 = withdraws move.after (no_bid a o) in
      stepped_good G a P.reference.0 P.reference.1 w A later S.formed L (status_agrees E m a w answer a.status after (bid_unsettled a.status (inr is14)) (inr o) (inl (λ z. omega (arith, z, k))))
      (λ h hlt. status_step F lt move.before hlt (out_of t h) (out_of (feed a w answer t) h) (red_of t h) (red_of (feed a w answer t) h) a.status (λ z. omega (arith, z, is14), λ z. omega (arith, z, is14))
      (record { out = λ j m. fed_quiet a w answer t (answer_counts A P.reference.0) later (λ z. omega (arith, z, after, is14)) (inl (λ z. move.before.0 (sym A.before ∙ z))) five h j m })
      (record { red = λ m. fed_red a w answer t (answer_counts A P.reference.0) later five h m }))
    where
      withdraws : (a.status ≡ 8) ⊎ ((a.status ≡ 13) ⊎ (a.status ≡ 14)) → (a.status ≢ 8) × (a.status ≢ 13) → a.status ≡ 14
      withdraws (inl x) p = absurd (p.0 x)
      withdraws (inr (inl x)) p = absurd (p.1 x)
      withdraws (inr (inr x)) p = x

  customer_kept : Kept (customer_after H l w a)
  unfolding customer_after
  customer_kept = go (bids a) refl
    where
      go : (b : Bool) → bids a ≡ b → Kept (pick b (bid_after H l w a) (on_row H n (set_status a.status) l))
      go true o = bid_kept o
      go false o = withdrawn_kept o

pub customer_good : {B : ℕ → ℕ → ℕ} {l : List ℕ} {t : Tally} → Good B l t → (w : List ℕ) (a : Action) → CustomerPassed (hours l) l w a → Left B l (customer_after (hours l) l w a) (named a) (status (named_row (hours l) l a)) (status (row (hours l) (customer_after (hours l) l w a) (named a)))
    → {answer : Answer} → AnswerOf answer a.reference (status (named_row (hours l) l a)) (status (row (hours l) (customer_after (hours l) l w a) (named a)))
    → a.kind ≡ 3 → Good B (customer_after (hours l) l w a) (feed a w answer t)
customer_good G w a P S {answer} A k = customer_kept G w a P k S answer A
