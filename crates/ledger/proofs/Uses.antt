-- Number 22 of an action: what the test of its kind says is what the rules say of the ledger and the postings that it
-- would leave.
use mathlib.Core.Path.{◌≡◌, sym, ap, subst, ◌∙◌}
use mathlib.Core.Logic.{◌≢◌}
use mathlib.Core.Bool.{Bool, false, ◌&&◌}
use mathlib.Core.List.{List}
use Prim.Native.Nat.{ℕ}
use native.Mathlib.Decide.{ℕ_discrete}
use native.Mathlib.Omega.{arith}
use borrow.Author.Tests.{ne_eqb}
use lib.Dec.{eqb}
use Rattle.rules.specs.Pick.{pick}
use Rattle.rules.specs.Numbers.{ACCEPTED, CR_ACCEPTED}
use Rattle.rules.specs.Layout.{hours, row}
use Rattle.rules.specs.Checks.{named, named_row, waits_at}
use Rattle.rules.specs.CustomerStatus.{bids, confirms}
use Rattle.rules.specs.Post.{posted}
use Rattle.rules.specs.Paths.{over_posted}
use Rattle.rules.specs.Act.{kind_number, kind_after, postings_after, over_use}
use Rattle.rules.specs.declared.Action.{Action}
use Rattle.rules.proofs.SoundFacts.{SoundLedger}
use Rattle.rules.proofs.Passed.{submit_passed, seller_status_passed, customer_status_passed, approve_passed, reduce_passed, lapse_passed}
use Rattle.rules.proofs.Tests.{use_posting}
use Rattle.rules.proofs.KindPaths.{submit_use, seller_use, customer_use, approve_use, reduce_use, lapse_use, clock_use, still_use}
use Rattle.layout.specs.SoundAt.{SoundAt}
use Rattle.paths.specs.Own.{exceeds_own}
use Rattle.seller.specs.Uses.{offer_uses, seller_uses}
use Rattle.ledger.proofs.Laws.{after_by, submit_none, seller_none, customer_none, approve_none, reduce_none, lapse_none}

none_after : (H : ℕ) (l w : List ℕ) (a : Action) → a.kind ≢ 1 → a.kind ≢ 2 → a.kind ≢ 3 → a.kind ≢ 4 → a.kind ≢ 5 → a.kind ≢ 6 → a.kind ≢ 7 → kind_after H l w a ≡ l
unfolding kind_after
none_after H l w a n1 n2 n3 n4 n5 n6 n7 =
    simp (ne_eqb a.kind 1 n1, ne_eqb a.kind 2 n2, ne_eqb a.kind 3 n3, ne_eqb a.kind 4 n4, ne_eqb a.kind 5 n5, ne_eqb a.kind 6 n6, ne_eqb a.kind 7 n7)

-- ---- by the kind's number, and of the ledger's own hours
module _ {l : List ℕ} (s : SoundLedger l) (w ps : List ℕ) (a : Action) (z : kind_number (hours l) l w a ≡ 0) where
  abbrev H : ℕ
  H = hours l

  abbrev uses_by : ℕ → Bool
  uses_by k = over_use (hours l) l a (after_by (hours l) l w a k) (pick (eqb k 8) (posted (hours l) ps w a) ps)

  -- 22 as the rules have it
  abbrev over : Bool
  over = over_use (hours l) l a (kind_after (hours l) l w a) (postings_after (hours l) ps w a)

  over_by : {k : ℕ} → a.kind ≡ k → over ≡ uses_by k
  unfolding kind_after postings_after
  over_by e = ap uses_by e

  -- a kind that is neither 1 nor 8
  other : {k j : ℕ} → a.kind ≡ k → k ≢ j → a.kind ≢ j
  other e ne z = ne (sym e ∙ z)

  seller_over_use : a.kind ≡ 2 → over ≡ seller_uses (hours l) l w a ps
  unfolding seller_uses offer_uses
  seller_over_use e =
      let P = seller_status_passed H l w a (seller_none H l w a z e) in
      over_by e ∙ seller_use s a (omega (arith, P.reference)) ps (other e (λ q. omega (arith, q))) (other e (λ q. omega (arith, q))) w P

  customer_over_use : a.kind ≡ 3 → over ≡ (bids a && (confirms a && exceeds_own (hours l) l (named a) ps))
  customer_over_use e =
      let P = customer_status_passed H l w a (customer_none H l w a z e) in
      over_by e ∙ customer_use s a (omega (arith, P.reference)) ps (other e (λ q. omega (arith, q))) (other e (λ q. omega (arith, q))) w P

  approve_over_use : a.kind ≡ 4 → over ≡ (waits_at ACCEPTED (named_row (hours l) l a) && exceeds_own (hours l) l (named a) ps)
  approve_over_use e =
      let P = approve_passed H l a (approve_none H l w a z e) in
      over_by e ∙ approve_use s a (omega (arith, P.reference)) ps (other e (λ q. omega (arith, q))) (other e (λ q. omega (arith, q))) P

  lapse_over_use : a.kind ≡ 6 → over ≡ (waits_at CR_ACCEPTED (named_row (hours l) l a) && exceeds_own (hours l) l (named a) ps)
  lapse_over_use e =
      let P = lapse_passed H l a (lapse_none H l w a z e) in
      over_by e ∙ lapse_use s a (omega (arith, P.reference)) ps (other e (λ q. omega (arith, q))) (other e (λ q. omega (arith, q))) P

  post_over_use : a.kind ≡ 8 → over ≡ over_posted (hours l) l (posted (hours l) ps w a) a.path
  post_over_use e = over_by e ∙ use_posting H l a l (posted H ps w a) e

  -- the others take no path
  submit_over_use : a.kind ≡ 1 → over ≡ false
  submit_over_use e = over_by e ∙ submit_use s (submit_passed H l w a (submit_none H l w a z e)) ps e

  reduce_over_use : a.kind ≡ 5 → over ≡ false
  reduce_over_use e =
      let P = reduce_passed H l w a (reduce_none H l w a z e) in
      over_by e ∙ reduce_use s a (omega (arith, P.reference)) ps (other e (λ q. omega (arith, q))) (other e (λ q. omega (arith, q))) w P

  clock_over_use : a.kind ≡ 7 → over ≡ false
  clock_over_use e = over_by e ∙ clock_use H l a ps e

  -- a number of no kind leaves the ledger as it is
  no_over_use : a.kind ≢ 1 → a.kind ≢ 8 → kind_after (hours l) l w a ≡ l → over ≡ false
  no_over_use n1 n8 e = still_use H l a (kind_after H l w a) (postings_after H ps w a) n1 n8 (ap (λ (x : List ℕ). row H x (named a)) e)

  rest_over_use : a.kind ≢ 2 → a.kind ≢ 3 → a.kind ≢ 4 → a.kind ≢ 6 → a.kind ≢ 8 → over ≡ false
  rest_over_use n2 n3 n4 n6 n8 = go (ℕ_discrete a.kind 1) (ℕ_discrete a.kind 5) (ℕ_discrete a.kind 7)
    where
      go : Dec (a.kind ≡ 1) → Dec (a.kind ≡ 5) → Dec (a.kind ≡ 7) → over ≡ false
      go (yes e) x y = submit_over_use e
      go (no n1) (yes e) y = reduce_over_use e
      go (no n1) (no n5) (yes e) = clock_over_use e
      go (no n1) (no n5) (no n7) = no_over_use n1 n8 (none_after H l w a n1 n2 n3 n4 n5 n6 n7)

-- ---- what the function for every kind returns
module _ {l : List ℕ} {R H : ℕ} (s : SoundAt l R H) (w ps : List ℕ) (a : Action) (z : kind_number H l w a ≡ 0) where
  -- said of the ledger's own hours, it is said of H
  at_hours : (P : ℕ → Type 0) → (kind_number (hours l) l w a ≡ 0 → P (hours l)) → P H
  at_hours P f = subst (λ (x : ℕ). kind_number x l w a ≡ 0 → P x) (sym s.hours) f z

  abbrev Tells : Bool → ℕ → Type 0
  Tells b x = b ≡ over_use x l a (kind_after x l w a) (postings_after x ps w a)

  pub seller_uses_lem : {b : Bool} → a.kind ≡ 2 → b ≡ seller_uses H l w a ps → b ≡ over_use H l a (kind_after H l w a) (postings_after H ps w a)
  seller_uses_lem {b} e = at_hours (λ x. b ≡ seller_uses x l w a ps → Tells b x) (λ y h. h ∙ sym (seller_over_use s.sound w ps a y e))

  pub customer_uses : {b : Bool} → a.kind ≡ 3 → b ≡ (bids a && (confirms a && exceeds_own H l (named a) ps)) → b ≡ over_use H l a (kind_after H l w a) (postings_after H ps w a)
  customer_uses {b} e = at_hours (λ x. b ≡ (bids a && (confirms a && exceeds_own x l (named a) ps)) → Tells b x) (λ y h. h ∙ sym (customer_over_use s.sound w ps a y e))

  pub approve_uses : {b : Bool} → a.kind ≡ 4 → b ≡ (waits_at ACCEPTED (named_row H l a) && exceeds_own H l (named a) ps) → b ≡ over_use H l a (kind_after H l w a) (postings_after H ps w a)
  approve_uses {b} e = at_hours (λ x. b ≡ (waits_at ACCEPTED (named_row x l a) && exceeds_own x l (named a) ps) → Tells b x) (λ y h. h ∙ sym (approve_over_use s.sound w ps a y e))

  pub lapse_uses : {b : Bool} → a.kind ≡ 6 → b ≡ (waits_at CR_ACCEPTED (named_row H l a) && exceeds_own H l (named a) ps) → b ≡ over_use H l a (kind_after H l w a) (postings_after H ps w a)
  lapse_uses {b} e = at_hours (λ x. b ≡ (waits_at CR_ACCEPTED (named_row x l a) && exceeds_own x l (named a) ps) → Tells b x) (λ y h. h ∙ sym (lapse_over_use s.sound w ps a y e))

  pub post_uses : {b : Bool} → a.kind ≡ 8 → b ≡ over_posted H l (posted H ps w a) a.path → b ≡ over_use H l a (kind_after H l w a) (postings_after H ps w a)
  post_uses {b} e = at_hours (λ x. b ≡ over_posted x l (posted x ps w a) a.path → Tells b x) (λ y h. h ∙ sym (post_over_use s.sound w ps a y e))

  -- no other kind is tested
  pub rest_uses : a.kind ≢ 2 → a.kind ≢ 3 → a.kind ≢ 4 → a.kind ≢ 6 → a.kind ≢ 8 → false ≡ over_use H l a (kind_after H l w a) (postings_after H ps w a)
  rest_uses n2 n3 n4 n6 n8 = at_hours (λ x. Tells false x) (λ y. sym (rest_over_use s.sound w ps a y n2 n3 n4 n6 n8))
