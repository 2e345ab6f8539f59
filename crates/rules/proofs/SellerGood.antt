-- The seller's moves keep what is kept.
use mathlib.Core.Path.{◌≡◌, refl, sym, ap, ◌∙◌}
use mathlib.Core.Logic.{◌≢◌, ⊎_elim, inl, inr}
use mathlib.Core.Bool.{Bool, true, false}
use mathlib.Core.List.{List, [], ◌∷◌}
use Prim.Native.Nat.{ℕ, ◌+◌, ◌≤◌, ◌<◌}
use native.Mathlib.Decide.{ℕ_discrete}
use native.Mathlib.Omega.{arith}
use borrow.Author.Tests.{eqb-true, eqb-false}
use lib.Dec.{eqb, lit<}
use lib.ListN.{length, get_or}
use Rattle.column.specs.Column.{Off}
use Rattle.rules.specs.Pick.{pick, when, ◌among◌}
use Rattle.rules.specs.Numbers.{approved, granted_given, granted_part, available_part, displaced_part, CONFIRMED, DISPLACED, ANNULLED}
use Rattle.rules.specs.Layout.{hours, window, clock, used, row_size, row, on_row, reqtype, status, related, start, span_hours, hour_at, has, set_status, granted, available, add_hours, clear_hours, standing}
use Rattle.rules.specs.Megawatts.{displaced_row, annulled_row, displace, annul}
use Rattle.rules.specs.Confirming.{confirm}
use Rattle.rules.specs.Checks.{named, named_row}
use Rattle.rules.specs.SellerStatus.{counters, accepts, offers, granted_after, goes_on, annuls_confirmed, offered, offer_after, other_after, seller_after}
use Rattle.rules.specs.Tally.{Tally, granted_in, changed, feed}
use Rattle.rules.specs.declared.Action.{Action}
use Rattle.rules.specs.declared.Answer.{Answer}
use Rattle.rules.proofs.Formed.{Formed, formed}
use Rattle.rules.proofs.View.{out_of, red_of}
use Rattle.rules.proofs.Effects.{own_leaves, displace_leaves, annul_leaves, displaced_length, annulled_length, row_spanned}
use Rattle.rules.proofs.Passed.{SellerPassed, OfferPassed, confirm_passed, SellerMove, seller_move, annuls_from, annuls_open, or_some, is_one, last_one}
use Rattle.rules.proofs.Placed.{placed}
use Rattle.rules.proofs.Others.{displace_step, annul_step}
use Rattle.rules.proofs.Quiet.{status_step, offered_step, offered_calm}
use Rattle.rules.proofs.Unmoved.{unmoved_offered}
use Rattle.rules.proofs.Before.{unconfirmed_stays, short_stays}
use Rattle.rules.proofs.Kept.{Same, same_self, same_status, same_offered, fitting_granted}
use Rattle.rules.proofs.TallyLaws.{entry_after, fed_red, fed_quiet, fed_annul_top, fed_annul_child}
use Rattle.rules.proofs.Entries.{shown, other_unsettled, status_agrees, displaced_agrees, annulled_agrees, goes_on_lem, offered_agrees, offered_start, offered_confirms, agrees_granted}
use Rattle.rules.proofs.Shown.{shown_annulled}
use Rattle.rules.proofs.Good.{Good}
use Rattle.rules.proofs.Tests.{Left, takes_annulled}
use Rattle.rules.proofs.Answers.{AnswerOf, answer_counts}
use Rattle.rules.proofs.Readying.{ready_on}
use Rattle.rules.proofs.Naming.{set_status_lem, ready_status, either_agrees, is_used, spanned, own_agrees, stepped_good, confirmed_good}

-- a row that is displaced, or annulled, has that status
pub row_displaced : (H : ℕ) (r : List ℕ) → length (displaced_row H r) ≡ row_size H → status (displaced_row H r) ≡ DISPLACED
unfolding displaced_row
row_displaced H r e = set_status_lem (clear_hours H available_part (start r) (span_hours r) (add_hours H displaced_part (start r) (available H r) r)) DISPLACED H e

pub row_annulled : (H : ℕ) (r : List ℕ) → length (annulled_row H r) ≡ row_size H → status (annulled_row H r) ≡ ANNULLED
unfolding annulled_row
row_annulled H r e = set_status_lem (clear_hours H available_part (start r) (span_hours r) r) ANNULLED H e

-- 6, 7, 10 or 11
pub offer_most : (a : Action) → offers a ≡ true → a.status ≤ 11
unfolding offers counters accepts
offer_most a o =
    ⊎_elim
    (λ x. ⊎_elim (λ y. omega (arith, y)) (λ y. omega (arith, last_one a.status 7 y)) (is_one a.status 6 _ x))
    (λ x. ⊎_elim (λ y. omega (arith, y)) (λ y. omega (arith, last_one a.status 11 y)) (is_one a.status 10 _ x))
    (or_some (a.status among (6 ∷ 7 ∷ [])) _ o)

module _ {B : ℕ → ℕ → ℕ} {l : List ℕ} {t : Tally} (G : Good B l t) (w : List ℕ) (a : Action) (P : SellerPassed (hours l) l w a) (k : a.kind ≡ 2) where
  abbrev H : ℕ
  H = hours l

  abbrev n : ℕ
  n = named a

  abbrev r : List ℕ
  r = named_row (hours l) l a

  F : Formed l
  F = formed G.sound

  lt : named a < used l
  lt = is_used G a P.reference.0 P.reference.1

  later : a.kind ≢ 1
  later z = omega (arith, z, k)

  five : a.kind ≢ 5
  five z = omega (arith, z, k)

  move : SellerMove (named_row (hours l) l a) a.status
  move = seller_move (named_row (hours l) l a) a.status P.may

  -- what is to be shown of the ledger that a move leaves
  abbrev Kept : List ℕ → Type 0
  Kept next = Left B l next (named a) (status (named_row (hours l) l a)) (status (row (hours l) next (named a))) → (answer : Answer) → AnswerOf answer a.reference (status (named_row (hours l) l a)) (status (row (hours l) next (named a))) → Good B next (feed a w answer t)

  -- ---- 6, 7, 10, 11
  module _ (o : offers a ≡ true) where
    Q : OfferPassed (hours l) l w a
    Q = P.offer o

    offs : Off (status (named_row (hours l) l a)) × Off a.status
    offs = move.others (λ z. omega (arith, z, offer_most a o)) (λ z. omega (arith, z, offer_most a o))

    abbrev mw : List ℕ
    mw = granted_after H w a r

    same : Same H r (offered H (clock l + window l) a mw r)
    same =
        let s = same_self F lt in
        same_offered s (clock l + window l) (omega (arith, F.head.clock, F.head.window.1)) a Q.price P.status.0 P.status.1 (fitting_granted s w a Q.profile)

    long : length mw ≡ span_hours r
    long = (fitting_granted (same_self F lt) w a Q.profile).counted

    -- the row's write is made
    offered_kept : Kept (on_row H n (offered H (clock l + window l) a mw) l)
    offered_kept S answer A =
        let E = own_agrees G a P.reference.0 P.reference.1 w A later in
        let m = spanned G a P.reference.0 P.reference.1 in
        let L = own_leaves F lt (offered H (clock l + window l) a mw) same.long in
        let now : status (row H (on_row H n (offered H (clock l + window l) a mw) l) n) ≡ a.status = ap status L.own ∙ (offered_calm (placed F lt) 0 (clock l + window l) a mw long).status in
        let after : answer.after ≡ a.status = A.after ∙ now in
        stepped_good G a P.reference.0 P.reference.1 w A later S.formed L (offered_agrees E m a w answer k o Q.profile (clock l + window l) after)
        (λ h hlt. offered_step F lt offs.0 hlt (out_of t h) (out_of (feed a w answer t) h) (red_of t h) (red_of (feed a w answer t) h) (clock l + window l) a mw long offs.1
        (record { out = λ j m. fed_quiet a w answer t (answer_counts A P.reference.0) later (λ z. offs.1.0 (sym after ∙ z)) (inl (λ z. offs.0.0 (sym A.before ∙ z))) five h j m })
        (record { red = λ m. fed_red a w answer t (answer_counts A P.reference.0) later five h m }))

    -- and the row goes on to 13
    goes_kept : goes_on a r ≡ true → Kept (confirm H n mw (on_row H n (offered H (clock l + window l) a mw) l))
    goes_kept g S answer A =
        let q : List ℕ = offered H (clock l + window l) a mw r in
        let C = confirm_passed H l n mw (has approved r) (Q.confirms g) in
        let E = own_agrees G a P.reference.0 P.reference.1 w A later in
        let m = spanned G a P.reference.0 P.reference.1 in
        let Y = ready_on G lt offs.0 (offered H (clock l + window l) a mw) same a.status (λ h. offered_calm (placed F lt) h (clock l + window l) a mw long) offs.1 in
        let long1 : length mw ≡ span_hours q = omega (arith, long, same.start, same.stop) in
        let now = ready_status G lt Y mw long1 (record { long = same.long; fits = omega (arith, long, same.start, m.starts, m.stops) }) in
        let u = unmoved_offered {r = named_row (hours l) l a} m.long (clock l + window l) a mw (omega (arith, long, m.starts, m.stops)) in
        confirmed_good G a P.reference.0 P.reference.1 w A later five offs.0.0 now Y mw long1
        (unconfirmed_stays (placed F lt) (offered H (clock l + window l) a mw) u ∙ C.unconfirmed)
        (short_stays (placed F lt) (offered H (clock l + window l) a mw) u mw ∙ C.short) S
        (either_agrees mw q (offered_confirms E m a w answer k o Q.profile (clock l + window l) (goes_on_lem a r g) (start q) (offered_start E m a w answer k o Q.profile (clock l + window l) (goes_on_lem a r g)) (A.after ∙ now)))

    offer_kept : Kept (offer_after H l a mw)
    unfolding offer_after
    offer_kept = go (goes_on a r) refl
      where
        go : (b : Bool) → goes_on a r ≡ b → Kept (when b (confirm H n mw) (on_row H n (offered H (clock l + window l) a mw) l))
        go true g = goes_kept g
        go false g = offered_kept

  -- ---- the other moves
  module _ (o : offers a ≡ false) where
    displaced_kept : a.status ≡ DISPLACED → Kept (displace H n l)
    displaced_kept e S answer A =
        let E = own_agrees G a P.reference.0 P.reference.1 w A later in
        let m = spanned G a P.reference.0 P.reference.1 in
        let L = displace_leaves F lt in
        let now : status (row H (displace H n l) n) ≡ DISPLACED = ap status L.own ∙ displaced_status in
        let after : answer.after ≡ DISPLACED = A.after ∙ now in
        stepped_good G a P.reference.0 P.reference.1 w A later S.formed L (displaced_agrees E m a w answer after k o)
        (λ h hlt. displace_step F lt (move.displaces e).1 (move.displaces e).0 hlt (out_of t h) (out_of (feed a w answer t) h) (red_of t h) (red_of (feed a w answer t) h)
        (record { out = λ j m. fed_quiet a w answer t (answer_counts A P.reference.0) later (λ z. omega (arith, z, after)) (inr (λ z. omega (arith, z, after))) five h j m })
        (record { red = λ m. fed_red a w answer t (answer_counts A P.reference.0) later five h m }))
      where
        displaced_status : status (displaced_row H r) ≡ DISPLACED
        displaced_status = row_displaced H r (displaced_length (row_spanned F lt))

    annulled_kept : annuls_confirmed a r ≡ true → Kept (annul H n l)
    unfolding changed granted_in
    annulled_kept e S answer A =
        let at = annuls_from a r e in
        let E = own_agrees G a P.reference.0 P.reference.1 w A later in
        let m = spanned G a P.reference.0 P.reference.1 in
        let L = annul_leaves F lt in
        let now : status (row H (annul H n l) n) ≡ ANNULLED = ap status L.own ∙ row_annulled H r (annulled_length (row_spanned F lt)) in
        let after : answer.after ≡ ANNULLED = A.after ∙ now in
        let before : answer.before ≡ CONFIRMED = A.before ∙ at.1 in
        let count = answer_counts A P.reference.0 in
        let N = annulled_agrees E m a w answer after k o in
        let N' = shown_annulled (shown E m) in
        let same_granted : (entry_after a w answer t).granted ≡ (t answer.reference).granted =
        N.same_granted ∙ ap (λ (b : Bool). pick b (granted H (annulled_row H r)) []) N'.flag ∙ ap (λ (v : List ℕ). pick (has granted_given r) v []) N'.granted ∙ sym E.same_granted in
        let full : (h : ℕ) → h < H → granted_in (entry_after a w answer t) h ≡ get_or r (hour_at H granted_part h) 0 =
        λ h hlt. ap (λ (v : List ℕ). standing (t answer.reference).start v h) same_granted ∙ agrees_granted E m (λ h hlt. (F.profiles n lt).outside granted_part h (lit< tt) hlt) h hlt in
        stepped_good G a P.reference.0 P.reference.1 w A later S.formed L N
        (λ h hlt. annul_step F lt (move.annuls_confirmed_lem at.0 at.1) at.1 hlt (out_of t h) (out_of (feed a w answer t) h) (red_of t h) (red_of (feed a w answer t) h) (P.whole e)
        (λ most. record { out = λ j m. fed_annul_top a w answer t count later (reqtype r) (related r) h (get_or r (hour_at H granted_part h) 0) E.same_type E.same_related (full h hlt) before after (F.words n lt).type_least most j m })
        (λ least j m. fed_annul_child a w answer t count later (reqtype r) (related r) h (get_or r (hour_at H granted_part h) 0) E.same_type E.same_related (full h hlt) before after least (move.annuls_confirmed_lem at.0 at.1) ((F.relations n lt).up least).0 j m)
        (record { red = λ m. fed_red a w answer t count later five h m })
        (S.tested (takes_annulled _ _ at.1 now) h hlt (out_of t h) (out_of (feed a w answer t) h) (red_of t h) (red_of (feed a w answer t) h)))

    status_kept : a.status ≢ DISPLACED → annuls_confirmed a r ≡ false → Kept (on_row H n (set_status a.status) l)
    status_kept ne e S answer A =
        let E = own_agrees G a P.reference.0 P.reference.1 w A later in
        let m = spanned G a P.reference.0 P.reference.1 in
        let s = same_status (same_self F lt) P.status.0 P.status.1 in
        let L = own_leaves F lt (set_status a.status) s.long in
        let now : status (row H (on_row H n (set_status a.status) l) n) ≡ a.status = ap status L.own ∙ set_status_lem r a.status H s.long in
        let after : answer.after ≡ a.status = A.after ∙ now in
        let off = quiet_offs ne e in
        let u = other_unsettled a r o P.may in
        stepped_good G a P.reference.0 P.reference.1 w A later S.formed L (status_agrees E m a w answer a.status after u (inl (λ z. omega (arith, z, k))) (inr o))
        (λ h hlt. status_step F lt off.0 hlt (out_of t h) (out_of (feed a w answer t) h) (red_of t h) (red_of (feed a w answer t) h) a.status off.1
        (record { out = λ j m. fed_quiet a w answer t (answer_counts A P.reference.0) later (λ z. off.1.0 (sym after ∙ z)) (inl (λ z. off.0.0 (sym A.before ∙ z))) five h j m })
        (record { red = λ m. fed_red a w answer t (answer_counts A P.reference.0) later five h m }))
      where
        quiet_offs : a.status ≢ DISPLACED → annuls_confirmed a r ≡ false → Off (status r) × Off a.status
        quiet_offs ne e = go (ℕ_discrete a.status ANNULLED)
          where
            go : Dec (a.status ≡ ANNULLED) → Off (status r) × Off a.status
            go (yes q) = ((annuls_open a r e q, move.annuls q), (λ z. omega (arith, z, q), λ z. omega (arith, z, q)))
            go (no q) = move.others ne q

    other_kept : Kept (other_after H l a)
    unfolding other_after
    other_kept = go (eqb a.status DISPLACED) (annuls_confirmed a r) refl refl
      where
        go : (b c : Bool) → eqb a.status DISPLACED ≡ b → annuls_confirmed a r ≡ c → Kept (pick b (displace H n l) (pick c (annul H n l) (on_row H n (set_status a.status) l)))
        go true c x y = displaced_kept (eqb-true _ _ x)
        go false true x y = annulled_kept y
        go false false x y = status_kept (eqb-false _ _ x) y

  seller_kept : Kept (seller_after H l w a)
  unfolding seller_after
  seller_kept = go (offers a) refl
    where
      go : (b : Bool) → offers a ≡ b → Kept (pick b (offer_after H l a (granted_after H w a r)) (other_after H l a))
      go true o = offer_kept o
      go false o = other_kept o

pub seller_good : {B : ℕ → ℕ → ℕ} {l : List ℕ} {t : Tally} → Good B l t → (w : List ℕ) (a : Action) → SellerPassed (hours l) l w a → Left B l (seller_after (hours l) l w a) (named a) (status (named_row (hours l) l a)) (status (row (hours l) (seller_after (hours l) l w a) (named a)))
    → {answer : Answer} → AnswerOf answer a.reference (status (named_row (hours l) l a)) (status (row (hours l) (seller_after (hours l) l w a) (named a)))
    → a.kind ≡ 2 → Good B (seller_after (hours l) l w a) (feed a w answer t)
seller_good G w a P S {answer} A k = seller_kept G w a P k S answer A
