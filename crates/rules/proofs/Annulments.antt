-- Annulments in order: the plain meaning is the test from the ledger before them, turn by turn.
use mathlib.Core.Path.{◌≡◌, refl, sym, ap, subst, ◌∙◌}
use mathlib.Core.Logic.{◌≢◌, ◌⊎◌, inl, inr}
use mathlib.Core.Bool.{Bool, true, false, ◌&&◌, ◌||◌, not}
use mathlib.Core.List.{List, [], ◌∷◌}
use Prim.Native.Nat.{ℕ, zero, suc, ◌<◌}
use native.Mathlib.Omega.{arith}
use borrow.Author.Tests.{eqb-true, eq-eqb, le-leb, not-true}
use lib.Dec.{eqb, leb, lit<}
use lib.ListN.{length}
use Rattle.words.specs.Lists.{word_at, all_below, equal}
use Rattle.words.proofs.Laws.{and_left, and_right, all_none}
use Rattle.rules.specs.Pick.{pick}
use Rattle.rules.specs.Numbers.{entity, most_entity, preconfirmed, coordinated, CONFIRMED, ANNULLED, RELINQUISH}
use Rattle.rules.specs.Layout.{hours, provider, used, row_of, issued, row, on_row, reqtype, status, seller, set_status, has, granted, available}
use Rattle.rules.specs.Sound.{sound}
use Rattle.rules.specs.Moves.{is_confirmed, allowed, seller_moves, seller_may}
use Rattle.rules.specs.Megawatts.{annul, carries_over}
use Rattle.rules.specs.Checks.{no_reference, bad_status}
use Rattle.rules.specs.SellerStatus.{not_seller, no_seller_move, counters, accepts, offers, annuls_confirmed, partly_used, seller_number, other_after, seller_after}
use Rattle.rules.specs.Paths.{over_at}
use Rattle.rules.specs.Act.{kind_number, kind_after, postings_after, common_number, over_use, use_number, last_number, sound_number, number, refusal, acceptance, answered, Outcome, refused, accepted, step, sound_both, outcome}
use Rattle.rules.specs.Annulments.{annulment, annuls_in_order}
use Rattle.rules.specs.declared.Action.{Action}
use Rattle.rules.proofs.SoundFacts.{SoundLedger, sound_facts, range}
use Rattle.rules.proofs.Formed.{Formed, formed}
use Rattle.rules.proofs.Effects.{own_leaves, annul_leaves, row_spanned, annulled_length}
use Rattle.rules.proofs.Kept.{same_self, same_status}
use Rattle.rules.proofs.Naming.{set_status_lem}
use Rattle.rules.proofs.SellerGood.{row_annulled}
use Rattle.rules.proofs.Tests.{takes_annulled, takes_none, use_named}
use Rattle.rules.proofs.Over.{over_annulling, over_annulling_lem, over_status}
use Rattle.rules.proofs.Posts.{SoundPostings, postings_facts}
use Rattle.rules.proofs.Soundness.{sound_step}
use Rattle.rules.proofs.Unwound.{adding, lets_go, turn, none, gone_by, gone_at, passes, Unwound, unwound_start, by, and_false}
use Rattle.rules.proofs.Unwinding.{and_known, or_known, never, unwound_annul, unwound_open, may_now, whole_now, paths_now, last_now, stays_now}

-- the ledger that an accepted annulment of row n leaves
unfoldable after : ℕ → List ℕ → ℕ → List ℕ
after H l n = pick (is_confirmed (row H l n)) (annul H n l) (on_row H n (set_status ANNULLED) l)

-- its checks but for 4, of a CONFIRMED row, and of any
unfoldable lets : ℕ → List ℕ → List ℕ → ℕ → Bool
lets H l ps n = equal (available H (row H l n)) (granted H (row H l n)) && (not (over_at H l n (annul H n l) ps) && not (over_annulling H l n))

unfoldable step_test : ℕ → List ℕ → List ℕ → ℕ → Bool
step_test H l ps n = seller_may (row H l n) ANNULLED && (not (is_confirmed (row H l n)) || lets H l ps n)

-- the checks of an annulment, by their tests: entity, 4, 3, 11, 15, 22, the last 1
accept : (e r s m p u c : Bool)
    → eqb (pick (eqb (pick (not e) 3 0) 0)
    (pick (eqb (pick r 4 (pick s 3 (pick m 11 (pick p 15 0)))) 0) (pick (eqb (pick u 22 0) 0) (pick c 1 0) (pick u 22 0)) (pick r 4 (pick s 3 (pick m 11 (pick p 15 0)))))
    (pick (not e) 3 0)) 0
    ≡ (e && (not r && (not s && (not m && (not p && (not u && not c))))))
accept false r s m p u c = refl
accept true true s m p u c = refl
accept true false true m p u c = refl
accept true false false true p u c = refl
accept true false false false true u c = refl
accept true false false false false true c = refl
accept true false false false false false true = refl
accept true false false false false false false = refl

module _ (l ps : List ℕ) (r : ℕ) where
  abbrev H : ℕ
  H = hours l

  abbrev n : ℕ
  n = row_of r

  abbrev a : Action
  a = annulment l r

  abbrev q : List ℕ
  q = row (hours l) l (row_of r)

  after_is : kind_after (hours l) l [] (annulment l r) ≡ after (hours l) l (row_of r)
  unfolding kind_after seller_after other_after offers counters accepts annuls_confirmed after
  after_is = refl

  postings_are : postings_after (hours l) ps [] (annulment l r) ≡ ps
  unfolding postings_after
  postings_are = refl

  number_tests : eqb (number true l ps [] (annulment l r)) 0
      ≡ (entity (seller q) && (not (no_reference l a) && (not (not_seller l a q) && (not (no_seller_move a q) && (not (partly_used (hours l) a q)
      && (not (over_use (hours l) l a (kind_after (hours l) l [] a) (postings_after (hours l) ps [] a)) && not (carries_over (hours l) (kind_after (hours l) l [] a))))))))
  unfolding number common_number sound_number kind_number seller_number use_number last_number bad_status offers counters accepts
  number_tests = accept (entity (seller q)) (no_reference l a) (not_seller l a q) (no_seller_move a q) (partly_used H a q) (over_use H l a (kind_after H l [] a) (postings_after H ps [] a)) (carries_over H (kind_after H l [] a))

  -- the row of an issued reference
  module _ (S : SoundLedger l) (i : issued l r ≡ true) where
    lt : row_of r < used l
    unfolding issued
    lt = let b = range 1 r (used l) i in omega (arith, b.0, b.1)

    F : Formed l
    F = formed S

    is_entity : entity (seller q) ≡ true
    unfolding entity
    is_entity =
        let w = (S.words n lt).seller in
        ap (λ (b : Bool). b && leb (seller q) most_entity) (le-leb 1 (seller q) w.0) ∙ le-leb (seller q) most_entity w.1

    is_seller : not_seller l a q ≡ false
    unfolding not_seller
    is_seller = ap (λ (b : Bool). not b && not (eqb (seller q) (provider l) && (eqb ANNULLED ANNULLED && eqb (reqtype q) 3))) (eq-eqb (seller q) (seller q) refl)

    -- a CONFIRMED row
    module _ (sure : is_confirmed q ≡ true) where
      confirmed_status_lem : status q ≡ CONFIRMED
      unfolding is_confirmed
      confirmed_status_lem = eqb-true (status q) CONFIRMED sure

      annuls_it : after (hours l) l (row_of r) ≡ annul (hours l) (row_of r) l
      unfolding after
      annuls_it = ap (λ (b : Bool). pick b (annul H n l) (on_row H n (set_status ANNULLED) l)) sure

      use_annul : over_use (hours l) l a (annul (hours l) (row_of r) l) ps ≡ over_at (hours l) l (row_of r) (annul (hours l) (row_of r) l) ps
      use_annul =
          let now : status (row H (annul H n l) n) ≡ ANNULLED = ap status (annul_leaves F lt).own ∙ row_annulled H q (annulled_length (row_spanned F lt)) in
          use_named H l a (annul H n l) ps (λ z. omega (arith, z)) (λ z. omega (arith, z))
          ∙ ap (λ (b : Bool). b && over_at H l n (annul H n l) ps) (takes_annulled _ _ confirmed_status_lem now)

    -- another row
    module _ (off : is_confirmed q ≡ false) where
      open_status : status q ≢ CONFIRMED
      unfolding is_confirmed
      open_status z = never (sym (eq-eqb (status q) CONFIRMED z) ∙ off)

      sets_it : after (hours l) l (row_of r) ≡ on_row (hours l) (row_of r) (set_status ANNULLED) l
      unfolding after
      sets_it = ap (λ (b : Bool). pick b (annul H n l) (on_row H n (set_status ANNULLED) l)) off

      use_open : over_use (hours l) l a (on_row (hours l) (row_of r) (set_status ANNULLED) l) ps ≡ false
      use_open =
          let k = same_status (same_self F lt) {s = ANNULLED} (omega arith) (omega arith) in
          let now : status (row H (on_row H n (set_status ANNULLED) l) n) ≡ ANNULLED = ap status (own_leaves F lt (set_status ANNULLED) k.long).own ∙ set_status_lem q ANNULLED H k.long in
          use_named H l a (on_row H n (set_status ANNULLED) l) ps (λ z. omega (arith, z)) (λ z. omega (arith, z))
          ∙ ap (λ (b : Bool). b && over_at H l n (on_row H n (set_status ANNULLED) l) ps) (takes_none _ _ open_status (λ z. omega (arith, z, now)))

    -- 15, 22 and the last 1
    rest : (not (partly_used (hours l) a q) && (not (over_use (hours l) l a (after (hours l) l (row_of r)) ps) && not (carries_over (hours l) (after (hours l) l (row_of r))))) ≡ (not (is_confirmed q) || lets (hours l) l ps (row_of r))
    unfolding partly_used annuls_confirmed lets
    rest = go (by (is_confirmed q))
      where
        twice : (b : Bool) → not (not b) ≡ b
        twice true = refl
        twice false = refl

        go : (is_confirmed q ≡ true) ⊎ (is_confirmed q ≡ false)
            → (not (is_confirmed q && not (equal (available H q) (granted H q))) && (not (over_use H l a (after H l n) ps) && not (carries_over H (after H l n))))
            ≡ (not (is_confirmed q) || (equal (available H q) (granted H q) && (not (over_at H l n (annul H n l) ps) && not (over_annulling H l n))))
        go (inl c) =
            ap (λ (b : Bool). not (b && not (equal (available H q) (granted H q))) && (not (over_use H l a (after H l n) ps) && not (carries_over H (after H l n)))) c
            ∙ ap (λ (b : Bool). b && (not (over_use H l a (after H l n) ps) && not (carries_over H (after H l n)))) (twice (equal (available H q) (granted H q)))
            ∙ ap (λ (z : List ℕ). equal (available H q) (granted H q) && (not (over_use H l a z ps) && not (carries_over H z))) (annuls_it c)
            ∙ ap (λ (b : Bool). equal (available H q) (granted H q) && (not b && not (carries_over H (annul H n l)))) (use_annul c)
            ∙ ap (λ (b : Bool). equal (available H q) (granted H q) && (not (over_at H l n (annul H n l) ps) && not b)) (over_annulling_lem S lt)
            ∙ sym (ap (λ (b : Bool). not b || (equal (available H q) (granted H q) && (not (over_at H l n (annul H n l) ps) && not (over_annulling H l n)))) c)
        go (inr c) =
            ap (λ (b : Bool). not (b && not (equal (available H q) (granted H q))) && (not (over_use H l a (after H l n) ps) && not (carries_over H (after H l n)))) c
            ∙ ap (λ (z : List ℕ). not (over_use H l a z ps) && not (carries_over H z)) (sets_it c)
            ∙ ap (λ (b : Bool). not b && not (carries_over H (on_row H n (set_status ANNULLED) l))) (use_open c)
            ∙ ap (λ (b : Bool). not b) (over_status S lt ANNULLED)
            ∙ sym (ap (λ (b : Bool). not b || (equal (available H q) (granted H q) && (not (over_at H l n (annul H n l) ps) && not (over_annulling H l n)))) c)

  -- an annulment is accepted
  number_step : SoundLedger l → eqb (number true l ps [] (annulment l r)) 0 ≡ (issued l r && step_test (hours l) l ps (row_of r))
  unfolding no_seller_move step_test no_reference
  number_step S =
      number_tests
      ∙ ap (λ (z : List ℕ). entity (seller q) && (not (no_reference l a) && (not (not_seller l a q) && (not (no_seller_move a q) && (not (partly_used H a q) && (not (over_use H l a z (postings_after H ps [] a)) && not (carries_over H z))))))) after_is
      ∙ ap (λ (z : List ℕ). entity (seller q) && (not (no_reference l a) && (not (not_seller l a q) && (not (no_seller_move a q) && (not (partly_used H a q) && (not (over_use H l a (after H l n) z) && not (carries_over H (after H l n)))))))) postings_are
      ∙ go (by (issued l r))
    where
      three : Bool
      three = not (partly_used H a q) && (not (over_use H l a (after H l n) ps) && not (carries_over H (after H l n)))

      twice : (b : Bool) → not (not b) ≡ b
      twice true = refl
      twice false = refl

      go : (issued l r ≡ true) ⊎ (issued l r ≡ false)
          → (entity (seller q) && (not (not (issued l r)) && (not (not_seller l a q) && (not (not (seller_may q ANNULLED)) && three))))
          ≡ (issued l r && (seller_may q ANNULLED && (not (is_confirmed q) || lets H l ps n)))
      go (inl i) =
          ap (λ (b : Bool). b && (not (not (issued l r)) && (not (not_seller l a q) && (not (not (seller_may q ANNULLED)) && three)))) (is_entity S i)
          ∙ ap (λ (b : Bool). b && (not (not_seller l a q) && (not (not (seller_may q ANNULLED)) && three))) (twice (issued l r))
          ∙ ap (λ (b : Bool). issued l r && (not b && (not (not (seller_may q ANNULLED)) && three))) (is_seller S i)
          ∙ ap (λ (b : Bool). issued l r && (b && three)) (twice (seller_may q ANNULLED))
          ∙ ap (λ (b : Bool). issued l r && (seller_may q ANNULLED && b)) (rest S i)
      go (inr i) =
          ap (λ (b : Bool). entity (seller q) && (not (not b) && (not (not_seller l a q) && (not (not (seller_may q ANNULLED)) && three)))) i
          ∙ and_false (entity (seller q))
          ∙ sym (ap (λ (b : Bool). b && (seller_may q ANNULLED && (not (is_confirmed q) || lets H l ps n))) i)

-- ---- a turn, from the ledger before
module _ {l : List ℕ} (S : SoundLedger l) {gone : ℕ → Bool} {l' : List ℕ} (U : Unwound (hours l) l gone l') (S' : SoundLedger l') (ps : List ℕ) (Q : SoundPostings (hours l) ps) (r : ℕ) where
  -- a row that is annulled has no move
  gone_stuck : gone (row_of r) ≡ true → seller_may (row (hours l) l' (row_of r)) ANNULLED ≡ false
  unfolding seller_may allowed seller_moves
  gone_stuck e =
      ap (λ (s : ℕ). allowed (seller_moves (has preconfirmed (row (hours l) l' (row_of r))) (has coordinated (row (hours l) l' (row_of r))) (eqb (reqtype (row (hours l) l' (row_of r))) RELINQUISH)) ANNULLED s)
      (U.now (row_of r) ∙ ap (λ (b : Bool). pick b ANNULLED (status (row (hours l) l (row_of r)))) e)

  same_issued : issued l' r ≡ issued l r
  unfolding issued
  same_issued = ap (λ (u : ℕ). leb 1 r && leb r u) (U.head 6 (lit< tt))

  row_lt : issued l r ≡ true → row_of r < used l
  unfolding issued
  row_lt i = let b = range 1 r (used l) i in omega (arith, b.0, b.1)

  turn_is : (issued l' r && step_test (hours l') l' ps (row_of r)) ≡ turn (hours l) l ps gone r
  unfolding turn step_test lets lets_go
  turn_is =
      ap (λ (J : ℕ). issued l' r && step_test J l' ps (row_of r)) (U.head 1 (lit< tt))
      ∙ and_known _ _ _ _ same_issued (λ i. go i (by (gone (row_of r))))
    where
      H : ℕ
      H = hours l

      n : ℕ
      n = row_of r

      go : issued l r ≡ true → (gone n ≡ true) ⊎ (gone n ≡ false) → step_test H l' ps n ≡ (not (gone n) && (seller_may (row H l n) ANNULLED && (not (is_confirmed (row H l n)) || lets_go H l ps gone n)))
      go i (inl e) =
          ap (λ (b : Bool). b && (not (is_confirmed (row H l' n)) || lets H l' ps n)) (gone_stuck e)
          ∙ sym (ap (λ (b : Bool). not b && (seller_may (row H l n) ANNULLED && (not (is_confirmed (row H l n)) || lets_go H l ps gone n))) e)
      go i (inr e) =
          let lt = row_lt i in
          and_known _ _ _ _ (may_now S U S' lt e)
          (λ _. or_known _ _ _ _ (stays_now S U S' lt e)
          (λ sure. and_known _ _ _ _ (whole_now S U S' lt e sure)
          (λ whole. and_known _ _ _ _ (ap not (paths_now S U S' lt e sure (whole_now S U S' lt e sure ∙ whole) ps)) (last_now S U S' lt e sure ps Q))))
          ∙ sym (ap (λ (b : Bool). not b && (seller_may (row H l n) ANNULLED && (not (is_confirmed (row H l n)) || lets_go H l ps gone n))) e)

  -- a turn that passes leaves the closed form of one row more
  turned_on : turn (hours l) l ps gone r ≡ true → Unwound (hours l) l (adding gone (row_of r)) (after (hours l') l' (row_of r))
  unfolding turn lets_go after
  turned_on t =
      subst (λ (J : ℕ). Unwound H l (adding gone n) (pick (is_confirmed (row J l' n)) (annul J n l') (on_row J n (set_status ANNULLED) l'))) (sym (U.head 1 (lit< tt)))
      (go (by (is_confirmed (row H l n))))
    where
      H : ℕ
      H = hours l

      n : ℕ
      n = row_of r

      lt : n < used l
      lt = row_lt (and_left _ _ t)

      second : (not (gone n) && (seller_may (row H l n) ANNULLED && (not (is_confirmed (row H l n)) || lets_go H l ps gone n))) ≡ true
      second = and_right (issued l r) _ t

      e : gone n ≡ false
      e = not-true _ (and_left _ _ second)

      last : (not (is_confirmed (row H l n)) || lets_go H l ps gone n) ≡ true
      last = and_right (seller_may (row H l n) ANNULLED) _ (and_right (not (gone n)) _ second)

      go : (is_confirmed (row H l n) ≡ true) ⊎ (is_confirmed (row H l n) ≡ false) → Unwound H l (adding gone n) (pick (is_confirmed (row H l' n)) (annul H n l') (on_row H n (set_status ANNULLED) l'))
      go (inl c) =
          let go_on : lets_go H l ps gone n ≡ true = sym (ap (λ (b : Bool). not b || lets_go H l ps gone n) c) ∙ last in
          subst (λ (b : Bool). Unwound H l (adding gone n) (pick b (annul H n l') (on_row H n (set_status ANNULLED) l'))) (sym (stays_now S U S' lt e ∙ c))
          (unwound_annul S U S' lt e c (whole_now S U S' lt e c ∙ and_left _ _ go_on))
      go (inr c) =
          subst (λ (b : Bool). Unwound H l (adding gone n) (pick b (annul H n l') (on_row H n (set_status ANNULLED) l'))) (sym (stays_now S U S' lt e ∙ c))
          (unwound_open S U S' lt e c)

-- ---- what an annulment answers and leaves
module _ (l ps : List ℕ) (r : ℕ) (s : sound_both l ps ≡ true) where
  pub ledger_sound : SoundLedger l
  unfolding sound_both
  ledger_sound = sound_facts (and_left _ _ s)

  postings_sound : SoundPostings (hours l) ps
  unfolding sound_both
  postings_sound = postings_facts (hours l) ps (and_right (sound l) _ s)

  abbrev N : ℕ
  N = number true l ps [] (annulment l r)

  by_number : Bool → Outcome
  by_number b = pick b (accepted l ps [] (annulment l r) (kind_after (hours l) l [] (annulment l r))) (refused l ps N)

  is_step : outcome l ps [] (annulment l r) ≡ by_number (eqb N 0)
  unfolding outcome step by_number
  is_step = ap (λ (b : Bool). step b l ps [] (annulment l r)) s

  out_number : eqb (outcome l ps [] (annulment l r)).answer.number 0 ≡ eqb N 0
  unfolding by_number accepted refused answered acceptance refusal
  out_number = ap (λ (o : Outcome). eqb o.answer.number 0) is_step ∙ go (eqb N 0) refl
    where
      go : (b : Bool) → eqb N 0 ≡ b → eqb (by_number b).answer.number 0 ≡ b
      go true e = refl
      go false e = e

  out_ledger : eqb N 0 ≡ true → (outcome l ps [] (annulment l r)).ledger ≡ after (hours l) l (row_of r)
  unfolding by_number accepted
  out_ledger e = ap (λ (o : Outcome). o.ledger) (is_step ∙ ap by_number e) ∙ after_is l ps r

  out_postings : eqb N 0 ≡ true → (outcome l ps [] (annulment l r)).postings ≡ ps
  unfolding by_number accepted
  out_postings e = ap (λ (o : Outcome). o.postings) (is_step ∙ ap by_number e) ∙ postings_are l ps r

  out_sound : sound_both (outcome l ps [] (annulment l r)).ledger (outcome l ps [] (annulment l r)).postings ≡ true
  unfolding outcome
  out_sound = sound_step l ps [] (annulment l r) s

-- ---- the theorem
module _ {l : List ℕ} (S : SoundLedger l) (ps : List ℕ) (Q : SoundPostings (hours l) ps) where
  in_order : (refs : List ℕ) {gone : ℕ → Bool} {l' : List ℕ} → Unwound (hours l) l gone l' → sound_both l' ps ≡ true → annuls_in_order l' ps refs ≡ passes (hours l) l ps gone refs
  unfolding annuls_in_order passes
  in_order [] U s = refl
  in_order (r ∷ rs) {gone} {l'} U s =
      let S' = ledger_sound l' ps r s in
      let same = number_step l' ps r S' ∙ turn_is S U S' ps Q r in
      and_known _ _ _ _ (out_number l' ps r s ∙ same)
      (λ t.
      let z = same ∙ t in
      let f = out_ledger l' ps r s z in
      let p = out_postings l' ps r s z in
      ap (λ (m : List ℕ). annuls_in_order m (outcome l' ps [] (annulment l' r)).postings rs) f
      ∙ ap (λ (m : List ℕ). annuls_in_order (after (hours l') l' (row_of r)) m rs) p
      ∙ in_order rs (turned_on S U S' ps Q r t)
      (subst (λ (m : List ℕ). sound_both m ps ≡ true) f (subst (λ (m : List ℕ). sound_both (outcome l' ps [] (annulment l' r)).ledger m ≡ true) p (out_sound l' ps r s))))

-- ---- by the turns' numbers
all_first : (n : ℕ) (p : ℕ → Bool) → all_below (suc n) p ≡ (p 0 && all_below n (λ k. p (suc k)))
unfolding all_below
all_first zero p = go (p 0)
  where
    go : (b : Bool) → (true && b) ≡ (b && true)
    go true = refl
    go false = refl
all_first (suc n) p = ap (λ (b : Bool). b && p (suc n)) (all_first n p) ∙ and_assoc (p 0) (all_below n (λ k. p (suc k))) (p (suc n))
  where
    and_assoc : (a b c : Bool) → ((a && b) && c) ≡ (a && (b && c))
    and_assoc true b c = refl
    and_assoc false b c = refl

passes_all : (H : ℕ) (l ps refs : List ℕ) (gone : ℕ → Bool)
    → passes H l ps gone refs ≡ all_below (length refs) (λ k. turn H l ps (gone_by gone refs k) (word_at refs k))
unfolding passes gone_by
passes_all H l ps [] gone = sym (all_none _)
passes_all H l ps (r ∷ rs) gone =
    ap (λ (b : Bool). turn H l ps gone r && b) (passes_all H l ps rs (adding gone (row_of r)))
    ∙ sym (all_first (length rs) (λ k. turn H l ps (gone_by gone (r ∷ rs) k) (word_at (r ∷ rs) k)))

pub annuls_in_order_lem : (l ps refs : List ℕ) → sound_both l ps ≡ true → annuls_in_order l ps refs ≡ all_below (length refs) (λ k. turn (hours l) l ps (gone_at refs k) (word_at refs k))
unfolding none
annuls_in_order_lem l ps refs s =
    in_order (ledger_sound l ps 0 s) ps (postings_sound l ps 0 s) refs (unwound_start (hours l) l none (λ m. refl)) s
    ∙ passes_all (hours l) l ps refs none

-- words that are not sound
pub annuls_unsound : (l ps : List ℕ) (r : ℕ) (rs : List ℕ) → sound_both l ps ≡ false → annuls_in_order l ps (r ∷ rs) ≡ false
unfolding annuls_in_order outcome step number common_number refused refusal
annuls_unsound l ps r rs s = ap (λ (b : Bool). eqb (step b l ps [] (annulment l r)).answer.number 0 && annuls_in_order (step b l ps [] (annulment l r)).ledger (step b l ps [] (annulment l r)).postings rs) s
