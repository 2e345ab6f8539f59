-- What a sound ledger and a seller status that no check refused give the functions.
use mathlib.Core.Path.{◌≡◌, refl, sym, ap, subst, ◌∙◌}
use mathlib.Core.Logic.{◌≢◌}
use mathlib.Core.Bool.{Bool, true, false, ◌&&◌, ◌||◌}
use mathlib.Core.List.{List}
use Prim.Native.Nat.{ℕ, ◌+◌, ◌≤◌, ◌<◌}
use native.Mathlib.Omega.{arith}
use lib.Dec.{eqb, lit<}
use lib.ListN.{length, get_or, set, length-set}
use lib.Seq.{get_or-set_other}
use Rattle.rules.specs.Pick.{pick, when}
use Rattle.rules.specs.Numbers.{most_price, most_flags, offer_given, countered, DISPLACED}
use Rattle.rules.specs.Layout.{rows, hours, window, clock, used, row_size, row, on_row, start, flags, raise, set_status, set_offer, set_limit, span_hours}
use Rattle.rules.specs.Megawatts.{in_force, grant, displace, annul, carries_over}
use Rattle.rules.specs.Confirming.{confirm, short}
use Rattle.rules.specs.Checks.{named, named_row, comes}
use Rattle.rules.specs.SellerStatus.{counters, accepts, offers, granted_after, goes_on, annuls_confirmed, seller_number, entered, offered, offer_after, other_after, seller_after}
use Rattle.rules.specs.declared.Action.{Action}
use Rattle.rules.proofs.Picks.{choice}
use Rattle.rules.proofs.Refused.{questions}
use Rattle.rules.proofs.SoundFacts.{SoundWords, SoundLedger}
use Rattle.rules.proofs.Formed.{formed}
use Rattle.rules.proofs.Spans.{Spanned}
use Rattle.rules.proofs.Forces.{granted_length, priced_granted, accepted_grants, force_offered}
use Rattle.rules.proofs.Leaves.{Leaves}
use Rattle.rules.proofs.Effects.{own_leaves}
use Rattle.rules.proofs.Passed.{and_none, ProfilePassed, SellerPassed, OfferPassed, confirm_passed, seller_status_passed}
use Rattle.rules.proofs.Placed.{placed as set-in}
use Rattle.rules.proofs.Unmoved.{Unmoved}
use Rattle.rules.proofs.Kept.{Same, Fitting, words_priced, words_granted, same_self, same_offered, spanned, next_own, fitting_granted}
use Rattle.rules.proofs.Over.{over_confirming, over_annulling, over_displacing, own_offered, over_offered, over_displacing_lem, over_annulling_lem, over_status}
use Rattle.rules.proofs.Before.{short_stays, over_confirming_stays, over_then_confirming}
use Rattle.rules.proofs.Entries.{words_spanned, goes_on_lem}
use Rattle.layout.specs.SoundAt.{SoundAt}
use Rattle.layout.proofs.Lent.{row_lent, row_back}
use Rattle.layout.proofs.Placed.{sized, own_words, placed_at}
use Rattle.layout.specs.Placed.{Placed}
use Rattle.checks.specs.Suits.{Suits}
use Rattle.checks.proofs.Profiles.{suits}
use Rattle.seller.specs.Offer.{over_offer, over_other, Confirms, Offering}

-- ---- a row in use
-- granted after the move is a profile for the row's span
pub granted_fits : {l w : List ℕ} {R H n : ℕ} {a : Action} → Placed l R H n → Suits w a (row H l n) → Fitting (granted_after H w a (row H l n)) (row H l n)
granted_fits {l} {w} {R} {H} {n} {a} p s = rw p.hours (fitting_granted (same_self p.formed p.row) w a (rw p.hours at s).profile)

pub after_length : {l w : List ℕ} {R H n : ℕ} {a : Action} → Placed l R H n → Suits w a (row H l n) → length (granted_after H w a (row H l n)) ≡ span_hours (row H l n)
after_length p s = (granted_fits p s).counted

-- the same where it is lent
pub words_as : {H : ℕ} {r r' : List ℕ} → SoundWords H r → r' ≡ r → SoundWords H r'
words_as {H} m e = subst (λ (x : List ℕ). SoundWords H x) (sym e) m

pub suits_as : {w : List ℕ} {a : Action} {r r' : List ℕ} → Suits w a r → r' ≡ r → Suits w a r'
suits_as {w} {a} m e = subst (λ (x : List ℕ). Suits w a x) (sym e) m

-- ---- a row whose offer and its flag are written
module _ {H p : ℕ} {r q : List ℕ} (long : length r ≡ row_size H) (words : SoundWords H r) (price : p ≤ most_price) (e : q ≡ raise offer_given (set_offer p r)) where
  priced_kept : (k : ℕ) → k ≢ 7 → k ≢ 9 → get_or q k 0 ≡ get_or r k 0
  priced_kept k ne me = rw e (get_or-set_other (set r 9 p) 7 k _ 0 ne ∙ get_or-set_other r 9 k p 0 me)

  pub priced_long : length q ≡ row_size H
  priced_long = rw e (length-set (set r 9 p) 7 _ ∙ length-set r 9 p ∙ long)

  pub priced_words : SoundWords H q
  priced_words = rw e (words_priced long words price)

  priced_start : start q ≡ start r
  priced_start = priced_kept 5 (λ z. omega (arith, z)) (λ z. omega (arith, z))

  priced_hours : span_hours r ≡ span_hours q
  priced_hours = omega (arith, priced_start, priced_kept 6 (λ z. omega (arith, z)) (λ z. omega (arith, z)))

module _ {H : ℕ} {r q w : List ℕ} {a : Action} (long : length r ≡ row_size H) (words : SoundWords H r) (suits : Suits w a r) (price : a.price ≤ most_price)
    (e : q ≡ raise offer_given (set_offer a.price r)) where
  pub priced_suits : Suits w a q
  priced_suits = record { profile = λ c. subst (λ (k : ℕ). ProfilePassed w a k) (priced_hours long words price e) (suits.profile c) }

  -- once granted is replaced the flags are still within their bound
  pub priced_flags : (expires : ℕ) {v : List ℕ} → v ≡ when (comes a || accepts a) (grant H (start q) (granted_after H w a q)) q → flags (set_limit expires v) ≤ most_flags
  priced_flags expires {v} h = omega (arith, get_or-set_other v 10 7 expires 0 (λ z. omega (arith, z)), ap flags h, go (comes a || accepts a))
    where
      t : SoundWords H q
      t = priced_words long words price e

      m : Spanned H q
      m = words_spanned t (priced_long long words price e)

      go : (b : Bool) → flags (when b (grant H (start q) (granted_after H w a q)) q) ≤ most_flags
      go true = (words_granted m.long t (start q) (granted_after H w a q) (omega (arith, granted_length m w a priced_suits.profile, m.starts, m.stops))).flags
      go false = t.flags

  pub priced_offered : (expires : ℕ) {v : List ℕ} → v ≡ when (comes a || accepts a) (grant H (start q) (granted_after H w a q)) q
      → {u : List ℕ} → u ≡ when (counters a) (raise countered) (set_limit expires v)
      → set_status a.status u ≡ offered H expires a (granted_after H w a r) r
  unfolding entered offered
  priced_offered expires h i =
      let g : granted_after H w a q ≡ granted_after H w a r = rw e (priced_granted (words_spanned words long) a.price w a) in
      rw (i, h, priced_start long words price e, g, e) refl

-- ---- a move that no check refused
module _ {l : List ℕ} (s : SoundLedger l) (w : List ℕ) (a : Action) (e : seller_number (hours l) l w a ≡ 0) where
  abbrev H : ℕ
  H = hours l

  abbrev n : ℕ
  n = named a

  abbrev r : List ℕ
  r = named_row (hours l) l a

  P : SellerPassed (hours l) l w a
  P = seller_status_passed (hours l) l w a e

  in_use : named a < used l
  in_use = omega (arith, P.reference)

  module _ (o : offers a ≡ true) where
    Q : OfferPassed (hours l) l w a
    Q = P.offer o

    abbrev mw : List ℕ
    mw = granted_after (hours l) w a (named_row (hours l) l a)

    abbrev f : List ℕ → List ℕ
    f = offered (hours l) (clock l + window l) a (granted_after (hours l) w a (named_row (hours l) l a))

    abbrev after : List ℕ
    after = on_row (hours l) (named a) (offered (hours l) (clock l + window l) a (granted_after (hours l) w a (named_row (hours l) l a))) l

    fits : Fitting mw r
    fits = fitting_granted (same_self (formed s) in_use) w a Q.profile

    same : Same H r (f r)
    same = same_offered (same_self (formed s) in_use) (clock l + window l) (omega (arith, s.head.clock, s.head.window.1)) a Q.price P.status.0 P.status.1 fits

    unmoved : Unmoved H r (f r)
    unmoved = own_offered s in_use (clock l + window l) a mw fits.counted

    written : Leaves (rows l) H l after n (f r)
    written = own_leaves (formed s) in_use f same.long

    -- the last check
    offer_over : carries_over H (seller_after H l w a) ≡ over_offer H l n a mw
    unfolding seller_after offer_after over_offer
    offer_over = rw o (go (goes_on a r))
      where
        go : (b : Bool) → carries_over H (when b (confirm H n mw) after) ≡ (b && over_confirming H l n mw)
        go true = over_then_confirming s in_use f unmoved mw fits.counted fits.most
        go false = over_offered s in_use (clock l + window l) a mw fits.counted

    -- the row, once offered, may be confirmed
    confirms : carries_over H (seller_after H l w a) ≡ false → goes_on a r ≡ true → Confirms after (rows l) H n mw
    unfolding over_offer
    confirms c g = record {
      placed = record {
        formed = (next_own (formed s) in_use f same).formed;
        rows = sym (written.head 0 (lit< tt));
        hours = sym (written.head 1 (lit< tt));
        row = omega (arith, written.head 6 (lit< tt), in_use);
      };
      force = ap (in_force H) written.own ∙ force_offered (spanned (same_self (formed s) in_use)) (clock l + window l) a mw fits.counted (accepted_grants a (goes_on_lem a r g));
      short = short_stays (set-in (formed s) in_use) f unmoved mw ∙ (confirm_passed H l n mw _ (Q.confirms g)).short;
      over = over_confirming_stays (set-in (formed s) in_use) f unmoved mw ∙ and_none _ _ (sym offer_over ∙ c) g;
    }

    offering : carries_over H (seller_after H l w a) ≡ false → Offering l w (rows l) H n a
    offering c = record {
      placed = record { formed = formed s; rows = refl; hours = refl; row = in_use };
      named = refl;
      suits = record { profile = Q.profile };
      price = Q.price;
      confirms = confirms c;
    }

  other_over : offers a ≡ false → carries_over H (seller_after H l w a) ≡ over_other H l n a
  unfolding seller_after other_after over_other
  other_over o = rw o (go (eqb a.status DISPLACED) (annuls_confirmed a r))
    where
      go : (b c : Bool) → carries_over H (pick b (displace H n l) (pick c (annul H n l) (on_row H n (set_status a.status) l))) ≡ pick b (over_displacing H r) (pick c (over_annulling H l n) false)
      go true c = over_displacing_lem s in_use
      go false true = over_annulling_lem s in_use
      go false false = over_status s in_use a.status

-- ---- the same of a ledger of R rows and H hours, and of a row number n that is named
module _ {l : List ℕ} {R H : ℕ} (s : SoundAt l R H) (w : List ℕ) (a : Action) (e : seller_number H l w a ≡ 0) {n : ℕ} (q : n ≡ named a) where
  P' : SellerPassed H l w a
  P' = seller_status_passed H l w a e

  pub passed_used : n < used l
  passed_used = omega (arith, P'.reference, q)

  pub passed_placed : Placed l R H n
  passed_placed = placed_at s passed_used

  pub passed_suits : offers a ≡ true → {r : List ℕ} → r ≡ row H l n → Suits w a r
  passed_suits o h = rw (h, q) (record { profile = (P'.offer o).profile })

  -- where it goes on, granted is not short
  pub passed_short : offers a ≡ true → goes_on a (row H l n) ≡ true → short H l n (granted_after H w a (row H l n)) ≡ false
  passed_short o g = rw q (confirm_passed _ _ _ _ _ ((P'.offer o).confirms (rw q at g))).short

  pub over_offers : offers a ≡ true → over_offer H l n a (granted_after H w a (row H l n)) ≡ carries_over H (seller_after H l w a)
  over_offers o = rw (q, s.hours) (sym (offer_over s.sound w a (rw s.hours at e) o))

  pub over_others : offers a ≡ false → over_other H l n a ≡ carries_over H (seller_after H l w a)
  over_others o = rw (q, s.hours) (sym (other_over s.sound w a (rw s.hours at e) o))

  pub offering_at : offers a ≡ true → carries_over H (seller_after H l w a) ≡ false → Offering l w R H n a
  offering_at o c = rw (q, s.rows, s.hours) (offering s.sound w a (rw s.hours at e) o (rw s.hours at c))

-- ---- what the rules write
module _ (H : ℕ) (l w : List ℕ) (a : Action) where
  pub after_offer : offers a ≡ true → offer_after H l a (granted_after H w a (named_row H l a)) ≡ seller_after H l w a
  unfolding seller_after
  after_offer o = rw o

  pub after_other : offers a ≡ false → other_after H l a ≡ seller_after H l w a
  unfolding seller_after
  after_other o = rw o

-- for the checks
pub ruleset checking = (choice, questions)

pub ruleset granting = (after_length, suits)

-- for a row that is lent, and comes back; for its offer
pub ruleset lent = (sized, own_words, row_lent, row_back, words_as, suits_as)

pub ruleset priced = (priced_long, priced_words, priced_suits, priced_flags, priced_offered)

-- for a move that no check refused: the last check, what it uses of a path, what it writes
pub ruleset judging = (passed_used, over_offers, over_others)

pub ruleset going_on = (passed_used, passed_placed, passed_suits, passed_short, granted_fits)

pub ruleset moving = (passed_placed, over_others, after_offer, after_other)
