-- What an accepted action has passed, as facts.
use mathlib.Core.Path.{◌≡◌, refl, ap, ◌∙◌}
use mathlib.Core.Bool.{Bool, true, false, ◌&&◌, ◌||◌, not}
use mathlib.Core.Logic.{◌≢◌, ◌⊎◌, ⊎_elim, inl, inr}
use mathlib.Core.List.{List, [], ◌∷◌}
use Prim.Native.Nat.{ℕ, suc, ◌+◌, ◌-◌, ◌≤◌, ◌<◌}
use native.Mathlib.Omega.{arith}
use lib.Dec.{eqb, leb}
use lib.ListN.{length}
use borrow.Author.Tests.{leb-true, ltb-true, ltb-false, leb-false, eqb-true, eqb-false, eq-eqb, ne_eqb, not-true, not-false}
use Rattle.words.specs.Lists.{within, zeros, covered, equal, every}
use Rattle.words.proofs.Laws.{and_left, and_right, part_length}
use Rattle.column.specs.Column.{Off}
use Rattle.rules.specs.Pick.{pick, ◌only_if◌, ◌among◌}
use Rattle.rules.specs.Numbers.{most_type, most_status, most_entity, most_price, most_megawatts, most_path, end_second, entity, preconfirmed, coordinated, approved, ACCEPTED, CR_ACCEPTED, CONFIRMED, ANNULLED, NONFIRM_REDIRECT, RELINQUISH}
use Rattle.rules.specs.Layout.{rows, clock, used, issued, row_of, row, reqtype, status, start, stop, span_hours, has, granted, available}
use Rattle.rules.specs.Sound.{original, transfer, relates, inside, firm, redirect}
use Rattle.rules.specs.Moves.{is_open, is_confirmed, Move, opens, allowed, seller_moves, customer_moves, seller_may, customer_may}
use Rattle.rules.specs.Megawatts.{in_force}
use Rattle.rules.specs.Confirming.{unapproved, unconfirmed, short, partial, confirm_number}
use Rattle.rules.specs.Checks.{named, named_row, profile, comes, bad_profile, bad_if_comes, bad_words, bad_span, unknown_path, bad_price, no_reference, not_provider, bad_status, waits_at, waiting_number}
use Rattle.rules.specs.Submit.{bad_type, bad_seller, bad_flags, bad_path, good_related, bad_related, bad_parties, no_row_left, submit_number}
use Rattle.rules.specs.SellerStatus.{not_seller, no_seller_move, offers, granted_after, unfit_offer, goes_on, fit_number, offer_number, annuls_confirmed, partly_used, seller_number}
use Rattle.rules.specs.CustomerStatus.{not_customer, no_customer_move, bids, confirms, unfit_bid, bid_confirm_number, bid_number, customer_number}
use Rattle.rules.specs.Approve.{not_approvable, approve_number}
use Rattle.rules.specs.Reduce.{not_reducible, reduces_too_much, reduce_number}
use Rattle.rules.specs.Lapse.{not_lapsing, too_early, lapse_number}
use Rattle.rules.specs.Clock.{bad_time, clock_number}
use Rattle.rules.specs.Post.{post_number}
use Rattle.rules.specs.declared.Action.{Action}
use Rattle.rules.proofs.Types.{original_type, derived_type}

-- ---- tests and chains of checks that give 0
pub gives_none : (t : Bool) (k m : ℕ) → pick t (suc k) m ≡ 0 → (t ≡ false) × (m ≡ 0)
gives_none true k m e = absurd (omega (arith, e))
gives_none false k m e = (refl, e)

pub only_none : (n : ℕ) (t : Bool) → pick t n 0 ≡ 0 → t ≡ true → n ≡ 0
only_none n true e q = e
only_none n false e q = cc

pub or_else_none : (n m : ℕ) → pick (eqb n 0) m n ≡ 0 → (n ≡ 0) × (m ≡ 0)
or_else_none n m e = go (eqb n 0) refl e
  where
    go : (b : Bool) → eqb n 0 ≡ b → pick b m n ≡ 0 → (n ≡ 0) × (m ≡ 0)
    go true q f = (eqb-true n 0 q, f)
    go false q f = absurd (eqb-false n 0 q f)

pub or_none : (b c : Bool) → (b || c) ≡ false → (b ≡ false) × (c ≡ false)
or_none true c e = (e, cc)
or_none false c e = (refl, e)

pub and_both : (b c : Bool) → (b && c) ≡ true → (b ≡ true) × (c ≡ true)
and_both b c e = (and_left b c e, and_right b c e)

pub or_some : (b c : Bool) → (b || c) ≡ true → (b ≡ true) ⊎ (c ≡ true)
or_some true c e = inl refl
or_some false c e = inr e

-- one of a list, or the last of it
pub is_one : (x y : ℕ) (b : Bool) → (eqb x y || b) ≡ true → (x ≡ y) ⊎ (b ≡ true)
is_one x y b e = ⊎_elim (λ q. inl (eqb-true x y q)) (λ q. inr q) (or_some (eqb x y) b e)

pub last_one : (x y : ℕ) → (eqb x y || false) ≡ true → x ≡ y
last_one x y e = ⊎_elim (λ q. q) (λ q. cc) (is_one x y false e)

pub not_or : (b c : Bool) → (not b || c) ≡ true → b ≡ true → c ≡ true
not_or true c e q = e
not_or false c e q = cc

-- not both, and the first
pub and_none : (b c : Bool) → (b && c) ≡ false → b ≡ true → c ≡ false
and_none true c e q = e
and_none false c e q = cc

range : (a x b : ℕ) → not (leb a x && leb x b) ≡ false → (a ≤ x) × (x ≤ b)
range a x b e = let w = and_both _ _ (not-false _ e) in (leb-true a x w.0, leb-true x b w.1)

-- ---- a profile that comes
-- which may be all 0
pub record WordsPassed (w : List ℕ) (a : Action) (n : ℕ) : Type 0 where
  pub fits : a.offset + a.length ≤ length w
  pub counted : a.length ≡ n
  pub most : within most_megawatts (profile w a) ≡ true

pub words_passed : (w : List ℕ) (a : Action) (n : ℕ) → bad_words w a n ≡ false → WordsPassed w a n
unfolding bad_words
words_passed w a n e =
    let f = or_none _ _ e in
    let g = or_none _ _ f.1 in
    record {
      fits = ltb-false _ _ f.0;
      counted = eqb-true _ _ (not-false _ g.0);
      most = not-false _ g.1;
    }

pub words_length : {w : List ℕ} {a : Action} {n : ℕ} → WordsPassed w a n → length (profile w a) ≡ n
unfolding profile
words_length {w} {a} p = part_length w a.offset a.length p.fits ∙ p.counted

pub record ProfilePassed (w : List ℕ) (a : Action) (n : ℕ) : Type 0 where
  pub fits : a.offset + a.length ≤ length w
  pub counted : a.length ≡ n
  pub most : within most_megawatts (profile w a) ≡ true
  pub some : zeros (profile w a) ≡ false

pub profile_passed : (w : List ℕ) (a : Action) (n : ℕ) → bad_profile w a n ≡ false → ProfilePassed w a n
unfolding bad_profile
profile_passed w a n e =
    let f = or_none _ _ e in
    let p = words_passed w a n f.0 in
    record { fits = p.fits; counted = p.counted; most = p.most; some = f.1 }

pub profile_length : {w : List ℕ} {a : Action} {n : ℕ} → ProfilePassed w a n → length (profile w a) ≡ n
unfolding profile
profile_length {w} {a} p = part_length w a.offset a.length p.fits ∙ p.counted

pub comes_passed : (w : List ℕ) (a : Action) (r : List ℕ) → bad_if_comes w a r ≡ false → comes a ≡ true → ProfilePassed w a (span_hours r)
unfolding bad_if_comes
comes_passed w a r e c = profile_passed w a (span_hours r) (and_none _ _ e c)

price_passed : (a : Action) → bad_price a ≡ false → a.price ≤ most_price
unfolding bad_price
price_passed a e = ltb-false _ _ e

reference_passed : (l : List ℕ) (a : Action) → no_reference l a ≡ false → (1 ≤ a.reference) × (a.reference ≤ used l)
unfolding no_reference issued
reference_passed l a e = range 1 a.reference (used l) e

status_passed : (a : Action) → bad_status a ≡ false → (1 ≤ a.status) × (a.status ≤ most_status)
unfolding bad_status
status_passed a e = range 1 a.status most_status e

-- ---- confirming
pub record ConfirmPassed (H : ℕ) (l : List ℕ) (n : ℕ) (mw : List ℕ) (isApproved : Bool) : Type 0 where
  pub unapproved : unapproved H l n isApproved ≡ false
  pub unconfirmed : unconfirmed H l n ≡ false
  pub short : short H l n mw ≡ false
  pub partial : partial H l n mw ≡ false

pub confirm_passed : (H : ℕ) (l : List ℕ) (n : ℕ) (mw : List ℕ) (isApproved : Bool) → confirm_number H l n mw isApproved ≡ 0 → ConfirmPassed H l n mw isApproved
unfolding confirm_number
confirm_passed H l n mw isApproved e =
    let a = gives_none (unapproved H l n isApproved) _ _ e in
    let b = gives_none (unconfirmed H l n) _ _ a.1 in
    let c = gives_none (short H l n mw) _ _ b.1 in
    let d = gives_none (partial H l n mw) _ _ c.1 in
    record { unapproved = a.0; unconfirmed = b.0; short = c.0; partial = d.0 }

-- ---- submit
-- of types 3 to 8: the related row
pub record RelatedPassed (H : ℕ) (l : List ℕ) (a : Action) : Type 0 where
  pub issued : (1 ≤ a.related) × (a.related ≤ used l)
  pub confirmed : status (row H l (row_of a.related)) ≡ CONFIRMED
  pub redirect : a.reqtype ≡ RELINQUISH → reqtype (row H l (row_of a.related)) ≡ NONFIRM_REDIRECT
  pub others : a.reqtype ≢ RELINQUISH → (reqtype (row H l (row_of a.related)) ≢ NONFIRM_REDIRECT) × (reqtype (row H l (row_of a.related)) ≢ RELINQUISH)
  pub span : (start (row H l (row_of a.related)) ≤ a.start) × (a.stop ≤ stop (row H l (row_of a.related)))

pub record SubmitPassed (H : ℕ) (l w : List ℕ) (a : Action) : Type 0 where
  pub type : (1 ≤ a.reqtype) × (a.reqtype ≤ most_type)
  pub seller : (1 ≤ a.seller) × (a.seller ≤ most_entity)
  pub starts : a.start < a.stop
  pub stops : a.stop ≤ H
  pub profile : ProfilePassed w a (a.stop - a.start)
  pub flags : a.flags ≤ 3
  pub path : (1 ≤ a.path) × (a.path ≤ most_path)
  pub price : a.price ≤ most_price
  pub original : a.reqtype ≤ 2 → a.related ≡ 0
  pub derived : 3 ≤ a.reqtype → RelatedPassed H l a
  pub room : used l ≢ rows l

relates_redirect : (t u : ℕ) → relates t u ≡ true → t ≡ RELINQUISH → u ≡ NONFIRM_REDIRECT
unfolding relates
relates_redirect t u e q = eqb-true _ _ (simp (eq-eqb t RELINQUISH q) at e)

relates_others : (t u : ℕ) → relates t u ≡ true → t ≢ RELINQUISH → (u ≢ NONFIRM_REDIRECT) × (u ≢ RELINQUISH)
unfolding relates
relates_others t u e ne =
    let f = or_none _ _ (not-true _ (simp (ne_eqb t RELINQUISH ne) at e)) in
    let g = or_none _ _ f.1 in
    (eqb-false _ _ f.0, eqb-false _ _ g.0)

pub issued_range : (l : List ℕ) (r : ℕ) → issued l r ≡ true → (1 ≤ r) × (r ≤ used l)
unfolding issued
issued_range l r e = let f = and_both _ _ e in (leb-true _ _ f.0, leb-true _ _ f.1)

pub confirmed_status_lem : (r : List ℕ) → is_confirmed r ≡ true → status r ≡ CONFIRMED
unfolding is_confirmed
confirmed_status_lem r e = eqb-true _ _ e

inside_span : (a b : ℕ) (r : List ℕ) → inside a b r ≡ true → (start r ≤ a) × (b ≤ stop r)
unfolding inside
inside_span a b r e = let f = and_both _ _ e in (leb-true _ _ f.0, leb-true _ _ f.1)

related_passed : (H : ℕ) (l : List ℕ) (a : Action) → good_related H l a ≡ true → RelatedPassed H l a
unfolding good_related
related_passed H l a e =
    let n = row_of a.related in
    let f = and_both (issued l a.related) _ e in
    let g = and_both (is_confirmed (row H l n)) _ f.1 in
    let h = and_both (relates a.reqtype (reqtype (row H l n))) _ g.1 in
    let i = and_both (not (redirect a.reqtype) || firm H l n) _ h.1 in
    record {
      issued = issued_range l a.related f.0;
      confirmed = confirmed_status_lem (row H l (row_of a.related)) g.0;
      redirect = λ q. relates_redirect a.reqtype (reqtype (row H l (row_of a.related))) h.0 q;
      others = λ q. relates_others a.reqtype (reqtype (row H l (row_of a.related))) h.0 q;
      span = inside_span a.start a.stop (row H l (row_of a.related)) i.1;
    }

-- related 0 for types 1, 2, and otherwise a good one
related_test : (H : ℕ) (l : List ℕ) (a : Action) → bad_related H l a ≡ false → pick (original a.reqtype) (eqb a.related 0) (good_related H l a) ≡ true
unfolding bad_related
related_test H l a e = not-false _ e

original_related : (H : ℕ) (l : List ℕ) (a : Action) → bad_related H l a ≡ false → 1 ≤ a.reqtype → a.reqtype ≤ 2 → a.related ≡ 0
original_related H l a e least most = eqb-true _ _ (simp (original_type a.reqtype least most) at (related_test H l a e))

derived_related : (H : ℕ) (l : List ℕ) (a : Action) → bad_related H l a ≡ false → 3 ≤ a.reqtype → RelatedPassed H l a
derived_related H l a e least = related_passed H l a (simp (derived_type a.reqtype least) at (related_test H l a e))

span_passed : (H : ℕ) (a : Action) → bad_span H a ≡ false → (a.start < a.stop) × (a.stop ≤ H)
unfolding bad_span
span_passed H a e = let f = and_both _ _ (not-false _ e) in (ltb-true _ _ f.0, leb-true _ _ f.1)

type_passed : (a : Action) → bad_type a ≡ false → (1 ≤ a.reqtype) × (a.reqtype ≤ most_type)
unfolding bad_type
type_passed a e = range 1 a.reqtype most_type e

flags_passed : (a : Action) → bad_flags a ≡ false → a.flags ≤ 3
unfolding bad_flags
flags_passed a e = ltb-false _ _ (or_none _ _ e).0

path_known : (a : Action) → unknown_path a ≡ false → (1 ≤ a.path) × (a.path ≤ most_path)
unfolding unknown_path
path_known a e = range 1 a.path most_path e

path_passed : (H : ℕ) (l : List ℕ) (a : Action) → bad_path H l a ≡ false → (1 ≤ a.path) × (a.path ≤ most_path)
unfolding bad_path
path_passed H l a e = path_known a (or_none _ _ e).0

seller_passed : (a : Action) → bad_seller a ≡ false → (1 ≤ a.seller) × (a.seller ≤ most_entity)
unfolding bad_seller entity
seller_passed a e = range 1 a.seller most_entity e

room_passed : (l : List ℕ) → no_row_left l ≡ false → used l ≢ rows l
unfolding no_row_left
room_passed l e = eqb-false _ _ e

pub submit_passed : (H : ℕ) (l w : List ℕ) (a : Action) → submit_number H l w a ≡ 0 → SubmitPassed H l w a
unfolding submit_number
submit_passed H l w a e =
    let t = gives_none (bad_type a) _ _ e in
    let s = gives_none (bad_seller a) _ _ t.1 in
    let h = gives_none (bad_span H a) _ _ s.1 in
    let p = gives_none (bad_profile w a (a.stop - a.start)) _ _ h.1 in
    let f = gives_none (bad_flags a) _ _ p.1 in
    let x = gives_none (bad_path H l a) _ _ f.1 in
    let m = gives_none (bad_price a) _ _ x.1 in
    let r = gives_none (bad_related H l a) _ _ m.1 in
    let q = gives_none (bad_parties H l a) _ _ r.1 in
    let o = gives_none (no_row_left l) _ _ q.1 in
    let type = type_passed a t.0 in
    record {
      type = type;
      seller = seller_passed a s.0;
      starts = (span_passed H a h.0).0;
      stops = (span_passed H a h.0).1;
      profile = profile_passed w a (a.stop - a.start) p.0;
      flags = flags_passed a f.0;
      path = path_passed H l a x.0;
      price = price_passed a m.0;
      original = λ two. original_related H l a r.0 type.0 two;
      derived = λ three. derived_related H l a r.0 three;
      room = room_passed l o.0;
    }

-- ---- seller status
-- 6, 7, 10, 11
pub record OfferPassed (H : ℕ) (l w : List ℕ) (a : Action) : Type 0 where
  pub profile : comes a ≡ true → ProfilePassed w a (span_hours (named_row H l a))
  pub price : a.price ≤ most_price
  pub fit : unfit_offer H a (granted_after H w a (named_row H l a)) (named_row H l a) ≡ false
  pub confirms : goes_on a (named_row H l a) ≡ true → confirm_number H l (named a) (granted_after H w a (named_row H l a)) (has approved (named_row H l a)) ≡ 0

pub record SellerPassed (H : ℕ) (l w : List ℕ) (a : Action) : Type 0 where
  pub reference : (1 ≤ a.reference) × (a.reference ≤ used l)
  pub status : (1 ≤ a.status) × (a.status ≤ most_status)
  pub may : seller_may (named_row H l a) a.status ≡ true
  pub offer : offers a ≡ true → OfferPassed H l w a
  pub whole : annuls_confirmed a (named_row H l a) ≡ true → equal (available H (named_row H l a)) (granted H (named_row H l a)) ≡ true

offer_passed : (H : ℕ) (l w : List ℕ) (a : Action) → offer_number H l w a ≡ 0 → OfferPassed H l w a
unfolding offer_number fit_number
offer_passed H l w a e =
    let p = gives_none (bad_if_comes w a (named_row H l a)) _ _ e in
    let m = gives_none (bad_price a) _ _ p.1 in
    let u = gives_none (unfit_offer H a (granted_after H w a (named_row H l a)) (named_row H l a)) _ _ m.1 in
    record {
      profile = comes_passed w a (named_row H l a) p.0;
      price = price_passed a m.0;
      fit = u.0;
      confirms = λ g. only_none _ (goes_on a (named_row H l a)) u.1 g;
    }

whole_passed : (H : ℕ) (a : Action) (r : List ℕ) → partly_used H a r ≡ false → annuls_confirmed a r ≡ true → equal (available H r) (granted H r) ≡ true
unfolding partly_used
whole_passed H a r e c = not-false _ (and_none _ _ e c)

seller_may_lem : (a : Action) (r : List ℕ) → no_seller_move a r ≡ false → seller_may r a.status ≡ true
unfolding no_seller_move
seller_may_lem a r e = not-false _ e

pub seller_status_passed : (H : ℕ) (l w : List ℕ) (a : Action) → seller_number H l w a ≡ 0 → SellerPassed H l w a
unfolding seller_number
seller_status_passed H l w a e =
    let r = gives_none (no_reference l a) _ _ e in
    let s = gives_none (bad_status a) _ _ r.1 in
    let n = gives_none (not_seller l a (named_row H l a)) _ _ s.1 in
    let m = gives_none (no_seller_move a (named_row H l a)) _ _ n.1 in
    let o = or_else_none (offer_number H l w a only_if offers a) _ m.1 in
    let p = gives_none (partly_used H a (named_row H l a)) _ _ o.1 in
    record {
      reference = reference_passed l a r.0;
      status = status_passed a s.0;
      may = seller_may_lem a (named_row H l a) m.0;
      offer = λ q. offer_passed H l w a (only_none (offer_number H l w a) (offers a) o.0 q);
      whole = whole_passed H a (named_row H l a) p.0;
    }

-- ---- customer status
-- 8, 13
pub record BidPassed (H : ℕ) (l w : List ℕ) (a : Action) : Type 0 where
  pub profile : comes a ≡ true → ProfilePassed w a (span_hours (named_row H l a))
  pub price : a.price ≤ most_price
  pub fit : confirms a ≡ true → unfit_bid H w a (named_row H l a) ≡ false
  pub confirms : confirms a ≡ true → confirm_number H l (named a) (in_force H (named_row H l a)) (has approved (named_row H l a)) ≡ 0

pub record CustomerPassed (H : ℕ) (l w : List ℕ) (a : Action) : Type 0 where
  pub reference : (1 ≤ a.reference) × (a.reference ≤ used l)
  pub status : (1 ≤ a.status) × (a.status ≤ most_status)
  pub may : customer_may (named_row H l a) a.status ≡ true
  pub bid : bids a ≡ true → BidPassed H l w a

bid_confirms : (H : ℕ) (l w : List ℕ) (a : Action) → bid_confirm_number H l w a ≡ 0 → (unfit_bid H w a (named_row H l a) ≡ false) × (confirm_number H l (named a) (in_force H (named_row H l a)) (has approved (named_row H l a)) ≡ 0)
unfolding bid_confirm_number
bid_confirms H l w a e = gives_none (unfit_bid H w a (named_row H l a)) _ _ e

bid_passed : (H : ℕ) (l w : List ℕ) (a : Action) → bid_number H l w a ≡ 0 → BidPassed H l w a
unfolding bid_number
bid_passed H l w a e =
    let p = gives_none (bad_if_comes w a (named_row H l a)) _ _ e in
    let m = gives_none (bad_price a) _ _ p.1 in
    record {
      profile = comes_passed w a (named_row H l a) p.0;
      price = price_passed a m.0;
      fit = λ c. (bid_confirms H l w a (only_none (bid_confirm_number H l w a) (confirms a) m.1 c)).0;
      confirms = λ c. (bid_confirms H l w a (only_none (bid_confirm_number H l w a) (confirms a) m.1 c)).1;
    }

customer_may_lem : (a : Action) (r : List ℕ) → no_customer_move a r ≡ false → customer_may r a.status ≡ true
unfolding no_customer_move
customer_may_lem a r e = not-false _ e

pub customer_status_passed : (H : ℕ) (l w : List ℕ) (a : Action) → customer_number H l w a ≡ 0 → CustomerPassed H l w a
unfolding customer_number
customer_status_passed H l w a e =
    let r = gives_none (no_reference l a) _ _ e in
    let s = gives_none (bad_status a) _ _ r.1 in
    let n = gives_none (not_customer a (named_row H l a)) _ _ s.1 in
    let m = gives_none (no_customer_move a (named_row H l a)) _ _ n.1 in
    record {
      reference = reference_passed l a r.0;
      status = status_passed a s.0;
      may = customer_may_lem a (named_row H l a) m.0;
      bid = λ q. bid_passed H l w a (only_none (bid_number H l w a) (bids a) m.1 q);
    }

-- ---- approve, reduce, lapse, clock
pub record ApprovePassed (H : ℕ) (l : List ℕ) (a : Action) : Type 0 where
  pub reference : (1 ≤ a.reference) × (a.reference ≤ used l)
  pub type : (reqtype (named_row H l a) ≡ 6) ⊎ (reqtype (named_row H l a) ≡ 7)
  pub is_open_lem : is_open (named_row H l a) ≡ true
  pub unapproved : has approved (named_row H l a) ≡ false
  pub confirms : waits_at ACCEPTED (named_row H l a) ≡ true → confirm_number H l (named a) (in_force H (named_row H l a)) true ≡ 0

transfer_type : (t : ℕ) → transfer t ≡ true → (t ≡ 6) ⊎ (t ≡ 7)
unfolding transfer
transfer_type t e = ⊎_elim (λ x. inl x) (λ x. inr (last_one t 7 x)) (is_one t 6 _ e)

approvable : (r : List ℕ) → not_approvable r ≡ false → (transfer (reqtype r) ≡ true) × (is_open r ≡ true) × (has approved r ≡ false)
unfolding not_approvable
approvable r e =
    let f = or_none _ _ e in
    let g = or_none _ _ f.1 in
    (not-false _ f.0, not-false _ g.0, g.1)

pub approve_passed : (H : ℕ) (l : List ℕ) (a : Action) → approve_number H l a ≡ 0 → ApprovePassed H l a
unfolding approve_number waiting_number
approve_passed H l a e =
    let r = gives_none (no_reference l a) _ _ e in
    let p = gives_none (not_provider l a) _ _ r.1 in
    let n = gives_none (not_approvable (named_row H l a)) _ _ p.1 in
    let m = approvable (named_row H l a) n.0 in
    record {
      reference = reference_passed l a r.0;
      type = transfer_type (reqtype (named_row H l a)) m.0;
      is_open_lem = m.1;
      unapproved = m.2;
      confirms = λ q. only_none _ (waits_at ACCEPTED (named_row H l a)) n.1 q;
    }

pub record ReducePassed (H : ℕ) (l w : List ℕ) (a : Action) : Type 0 where
  pub reference : (1 ≤ a.reference) × (a.reference ≤ used l)
  pub confirmed : status (named_row H l a) ≡ CONFIRMED
  pub type : reqtype (named_row H l a) ≢ RELINQUISH
  pub covers : covered (profile w a) (available H (named_row H l a)) ≡ true
  pub profile : ProfilePassed w a (span_hours (named_row H l a))

reducible : (r : List ℕ) → not_reducible r ≡ false → (status r ≡ CONFIRMED) × (reqtype r ≢ RELINQUISH)
unfolding not_reducible
reducible r e = let f = or_none _ _ e in (confirmed_status_lem r (not-false _ f.0), eqb-false _ _ f.1)

reduces : (H : ℕ) (w : List ℕ) (a : Action) (r : List ℕ) → reduces_too_much H w a r ≡ false → covered (profile w a) (available H r) ≡ true
unfolding reduces_too_much
reduces H w a r e = not-false _ e

pub reduce_passed : (H : ℕ) (l w : List ℕ) (a : Action) → reduce_number H l w a ≡ 0 → ReducePassed H l w a
unfolding reduce_number
reduce_passed H l w a e =
    let r = gives_none (no_reference l a) _ _ e in
    let p = gives_none (not_provider l a) _ _ r.1 in
    let n = gives_none (not_reducible (named_row H l a)) _ _ p.1 in
    let f = gives_none (bad_profile w a (span_hours (named_row H l a))) _ _ n.1 in
    let t = gives_none (reduces_too_much H w a (named_row H l a)) _ _ f.1 in
    let m = reducible (named_row H l a) n.0 in
    record {
      reference = reference_passed l a r.0;
      confirmed = m.0;
      type = m.1;
      profile = profile_passed w a (span_hours (named_row H l a)) f.0;
      covers = reduces H w a (named_row H l a) t.0;
    }

pub record LapsePassed (H : ℕ) (l : List ℕ) (a : Action) : Type 0 where
  pub reference : (1 ≤ a.reference) × (a.reference ≤ used l)
  pub status : (status (named_row H l a) ≡ 6) ⊎ ((status (named_row H l a) ≡ 7) ⊎ ((status (named_row H l a) ≡ 10) ⊎ (status (named_row H l a) ≡ 11)))
  pub confirms : waits_at CR_ACCEPTED (named_row H l a) ≡ true → confirm_number H l (named a) (in_force H (named_row H l a)) (has approved (named_row H l a)) ≡ 0

lapsing : (r : List ℕ) → not_lapsing r ≡ false → (status r ≡ 6) ⊎ ((status r ≡ 7) ⊎ ((status r ≡ 10) ⊎ (status r ≡ 11)))
unfolding not_lapsing
lapsing r e =
    let s : status r among (6 ∷ 7 ∷ 10 ∷ 11 ∷ []) ≡ true = not-false _ (or_none _ _ e).0 in
    ⊎_elim
    (λ x. inl x)
    (λ x.
    inr
    (⊎_elim
    (λ y. inl y)
    (λ y. inr (⊎_elim (λ z. inl z) (λ z. inr (last_one (status r) 11 z)) (is_one (status r) 10 _ y)))
    (is_one (status r) 7 _ x)))
    (is_one (status r) 6 _ s)

pub lapse_passed : (H : ℕ) (l : List ℕ) (a : Action) → lapse_number H l a ≡ 0 → LapsePassed H l a
unfolding lapse_number waiting_number
lapse_passed H l a e =
    let r = gives_none (no_reference l a) _ _ e in
    let p = gives_none (not_provider l a) _ _ r.1 in
    let n = gives_none (not_lapsing (named_row H l a)) _ _ p.1 in
    let t = gives_none (too_early l (named_row H l a)) _ _ n.1 in
    record {
      reference = reference_passed l a r.0;
      status = lapsing (named_row H l a) n.0;
      confirms = λ q. only_none _ (waits_at CR_ACCEPTED (named_row H l a)) t.1 q;
    }

pub record ClockPassed (l : List ℕ) (a : Action) : Type 0 where
  pub least : clock l ≤ a.time
  pub most : a.time < end_second

time_passed : (l : List ℕ) (a : Action) → bad_time l a ≡ false → ClockPassed l a
unfolding bad_time
time_passed l a e = let f = or_none _ _ e in record { least = ltb-false _ _ f.0; most = leb-false _ _ f.1 }

pub clock_passed : (l : List ℕ) (a : Action) → clock_number l a ≡ 0 → ClockPassed l a
unfolding clock_number
clock_passed l a e =
    let p = gives_none (not_provider l a) _ _ e in
    let t = gives_none (bad_time l a) _ _ p.1 in
    time_passed l a t.0

-- a preconfirmed row that waits at s is at s
pub waits_at_lem : (s : ℕ) (r : List ℕ) → waits_at s r ≡ true → status r ≡ s
unfolding waits_at
waits_at_lem s r e = eqb-true _ _ (and_right (has preconfirmed r) _ e)

-- ---- moves: what holds of each of the moves of a list holds of one that is allowed
among_all : (p : ℕ → Bool) (xs : List ℕ) (x : ℕ) → (x among xs) ≡ true → every p xs ≡ true → p x ≡ true
unfolding every
among_all p [] x e f = cc
among_all p (y ∷ ys) x e f =
    ⊎_elim
    (λ q. ap p q ∙ and_left (p y) _ f)
    (λ q. among_all p ys x q (and_right (p y) _ f))
    (is_one x y _ e)

fits : (ℕ → ℕ → Bool) → Move → Bool
fits p m = not m.holds || every (λ new. every (p new) m.comes) m.goes

all_fit : (ℕ → ℕ → Bool) → List Move → Bool
all_fit p [] = true
all_fit p (m ∷ ms) = fits p m && all_fit p ms

move_fits : (p : ℕ → ℕ → Bool) (m : Move) (new old : ℕ) → fits p m ≡ true → (new among m.goes && (old among m.comes && m.holds)) ≡ true → p new old ≡ true
unfolding fits
move_fits p m new old f e =
    let g = and_both _ _ e in
    let h = and_both _ _ g.1 in
    let i = not_or m.holds (every (λ n. every (p n) m.comes) m.goes) f h.1 in
    among_all (p new) m.comes old h.0 (among_all (λ n. every (p n) m.comes) m.goes new g.0 i)

allowed_fits : (p : ℕ → ℕ → Bool) (ms : List Move) (new old : ℕ) → all_fit p ms ≡ true → allowed ms new old ≡ true → p new old ≡ true
unfolding all_fit allowed
allowed_fits p [] new old f e = cc
allowed_fits p (m ∷ ms) new old f e =
    ⊎_elim
    (λ q. move_fits p m new old (and_left (fits p m) _ f) q)
    (λ q. allowed_fits p ms new old (and_right (fits p m) _ f) q)
    (or_some (new among m.goes && (old among m.comes && m.holds)) _ e)

-- neither CONFIRMED nor DISPLACED
off : ℕ → Bool
off s = not (eqb s 13) && not (eqb s 15)

off_facts : (s : ℕ) → off s ≡ true → Off s
unfolding off
off_facts s e =
    let f = and_both _ _ e in
    (eqb-false _ _ (not-true _ f.0), eqb-false _ _ (not-true _ f.1))

-- the seller's moves: 15 from 13, 16 not from 15, neither from 13 for type 8; all others between statuses that are neither 13 nor 15
seller_fits : Bool → ℕ → ℕ → Bool
seller_fits relinquish new old =
    pick (eqb new 15) (eqb old 13 && not relinquish) (
    pick (eqb new 16) (not (eqb old 15) && not (eqb old 13 && relinquish))
    (off old && off new))

seller_fits_lem : (pre coord relinquish : Bool) → all_fit (seller_fits relinquish) (seller_moves pre coord relinquish) ≡ true
unfolding all_fit fits every seller_fits seller_moves off
seller_fits_lem true true true = refl
seller_fits_lem true true false = refl
seller_fits_lem true false true = refl
seller_fits_lem true false false = refl
seller_fits_lem false true true = refl
seller_fits_lem false true false = refl
seller_fits_lem false false true = refl
seller_fits_lem false false false = refl

pub record SellerMove (r : List ℕ) (new : ℕ) : Type 0 where
  pub displaces : new ≡ 15 → (status r ≡ 13) × (reqtype r ≢ RELINQUISH)
  pub annuls : new ≡ 16 → status r ≢ 15
  pub annuls_confirmed_lem : new ≡ 16 → status r ≡ 13 → reqtype r ≢ RELINQUISH
  pub others : new ≢ 15 → new ≢ 16 → Off (status r) × Off new

seller_test : (r : List ℕ) (new : ℕ) → seller_may r new ≡ true → seller_fits (eqb (reqtype r) RELINQUISH) new (status r) ≡ true
unfolding seller_may
seller_test r new e =
    allowed_fits (seller_fits (eqb (reqtype r) RELINQUISH)) _ new (status r)
    (seller_fits_lem (has preconfirmed r) (has coordinated r) (eqb (reqtype r) RELINQUISH)) e

annul_test : (r : List ℕ) (new : ℕ) → seller_may r new ≡ true → new ≡ 16 → (not (eqb (status r) 15) && not (eqb (status r) 13 && eqb (reqtype r) RELINQUISH)) ≡ true
unfolding seller_fits
annul_test r new e q =
    let ne : new ≢ 15 = λ x. omega arith in
    simp (ne_eqb new 15 ne, eq-eqb new 16 q) at (seller_test r new e)

pub seller_move : (r : List ℕ) (new : ℕ) → seller_may r new ≡ true → SellerMove r new
unfolding seller_fits
seller_move r new e =
    let t = seller_test r new e in
    record {
      displaces = λ q. let f = and_both _ _ (simp (eq-eqb new 15 q) at t) in (eqb-true _ _ f.0, eqb-false _ _ (not-true _ f.1));
      annuls = λ q. eqb-false _ _ (not-true _ (and_left _ _ (annul_test r new e q)));
      annuls_confirmed_lem = λ q s. eqb-false _ _ (and_none _ _ (not-true _ (and_right (not (eqb (status r) 15)) _ (annul_test r new e q))) (eq-eqb _ _ s));
      others = λ x y. let f = and_both _ _ (simp (ne_eqb new 15 x, ne_eqb new 16 y) at t) in (off_facts _ f.0, off_facts _ f.1);
    }

-- an open row is neither CONFIRMED nor DISPLACED
pub open_off : (r : List ℕ) → is_open r ≡ true → Off (status r)
unfolding is_open every off
open_off r e = off_facts (status r) (among_all off opens (status r) e refl)

-- the customer's: from an open status to 8, 13 or 14
customer_fits : ℕ → ℕ → Bool
customer_fits new old = (old among opens) && (new among (8 ∷ 13 ∷ 14 ∷ []))

customer_fits_lem : (pre ever : Bool) → all_fit customer_fits (customer_moves pre ever) ≡ true
unfolding all_fit fits every customer_fits customer_moves
customer_fits_lem true true = refl
customer_fits_lem true false = refl
customer_fits_lem false ever = refl

pub record CustomerMove (r : List ℕ) (new : ℕ) : Type 0 where
  pub is_open_lem : is_open r ≡ true
  pub before : Off (status r)
  pub after : (new ≡ 8) ⊎ ((new ≡ 13) ⊎ (new ≡ 14))

customer_test : (r : List ℕ) (new : ℕ) → customer_may r new ≡ true → customer_fits new (status r) ≡ true
unfolding customer_may
customer_test r new e = allowed_fits customer_fits _ new (status r) (customer_fits_lem _ _) e

pub customer_move : (r : List ℕ) (new : ℕ) → customer_may r new ≡ true → CustomerMove r new
unfolding customer_fits is_open
customer_move r new e =
    let t = and_both (status r among opens) _ (customer_test r new e) in
    record {
      is_open_lem = t.0;
      before = open_off r t.0;
      after = ⊎_elim (λ x. inl x) (λ x. inr (⊎_elim (λ y. inl y) (λ y. inr (last_one new 14 y)) (is_one new 13 _ x))) (is_one new 8 _ t.1);
    }

-- a row that lapses is neither CONFIRMED nor DISPLACED
pub lapsing_off : {s : ℕ} → (s ≡ 6) ⊎ ((s ≡ 7) ⊎ ((s ≡ 10) ⊎ (s ≡ 11))) → Off s
lapsing_off (inl e) = (λ z. omega (arith, e, z), λ z. omega (arith, e, z))
lapsing_off (inr (inl e)) = (λ z. omega (arith, e, z), λ z. omega (arith, e, z))
lapsing_off (inr (inr (inl e))) = (λ z. omega (arith, e, z), λ z. omega (arith, e, z))
lapsing_off (inr (inr (inr e))) = (λ z. omega (arith, e, z), λ z. omega (arith, e, z))

-- annulling from 13, or not
pub annuls_from : (a : Action) (r : List ℕ) → annuls_confirmed a r ≡ true → (a.status ≡ ANNULLED) × (status r ≡ CONFIRMED)
unfolding annuls_confirmed
annuls_from a r e = let f = and_both (eqb a.status ANNULLED) (is_confirmed r) e in (eqb-true _ _ f.0, confirmed_status_lem r f.1)

pub annuls_open : (a : Action) (r : List ℕ) → annuls_confirmed a r ≡ false → a.status ≡ ANNULLED → status r ≢ CONFIRMED
unfolding annuls_confirmed is_confirmed
annuls_open a r e q = eqb-false _ _ (and_none (eqb a.status ANNULLED) _ e (eq-eqb _ _ q))

-- ---- posting
pub record PostPassed (H : ℕ) (w : List ℕ) (a : Action) : Type 0 where
  pub path : (1 ≤ a.path) × (a.path ≤ most_path)
  pub starts : a.start < a.stop
  pub stops : a.stop ≤ H
  pub words : WordsPassed w a (a.stop - a.start)

pub post_passed : (H : ℕ) (l w : List ℕ) (a : Action) → post_number H l w a ≡ 0 → PostPassed H w a
unfolding post_number
post_passed H l w a e =
    let p = gives_none (not_provider l a) _ _ e in
    let x = gives_none (unknown_path a) _ _ p.1 in
    let s = gives_none (bad_span H a) _ _ x.1 in
    let m = gives_none (bad_words w a (a.stop - a.start)) _ _ s.1 in
    record { path = path_known a x.0; starts = (span_passed H a s.0).0; stops = (span_passed H a s.0).1; words = words_passed w a (a.stop - a.start) m.0 }
