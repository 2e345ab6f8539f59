-- Confirming keeps what is kept: the four callers write in their row first, or not at all.
use mathlib.Core.Path.{◌≡◌, sym, ap, subst, ◌∙◌}
use mathlib.Core.Logic.{◌≢◌, ◌⊎◌}
use mathlib.Core.Bool.{true, false}
use mathlib.Core.List.{List}
use Prim.Native.Nat.{ℕ, suc, ◌≤◌, ◌<◌}
use native.Mathlib.Omega.{arith}
use lib.Dec.{eqb, lit<}
use lib.ListN.{length, get_or}
use Rattle.column.specs.Column.{Off}
use Rattle.column.specs.Use.{Tested, use_of}
use Rattle.column.specs.Step.{Step}
use Rattle.rules.specs.Pick.{pick}
use Rattle.rules.specs.Numbers.{granted_part, CONFIRMED, RELINQUISH, NONFIRM_REDIRECT}
use Rattle.rules.specs.Layout.{rows, hours, used, row, reqtype, status, related, path, start, stop, related_row, span_hours, hour_at}
use Rattle.rules.specs.Confirming.{held, emptied, confirm, unconfirmed, short}
use Rattle.rules.specs.Tally.{Entry, Tally, granted_in, changed, counts, feed}
use Rattle.rules.specs.declared.Action.{Action}
use Rattle.rules.specs.declared.Answer.{Answer}
use Rattle.rules.proofs.SoundFacts.{SoundWords, SoundRelation}
use Rattle.rules.proofs.Rows.{row_length}
use Rattle.rules.proofs.Formed.{Formed}
use Rattle.rules.proofs.Leaves.{Leaves}
use Rattle.rules.proofs.View.{view, view_of, out_of, red_of}
use Rattle.rules.proofs.Spans.{Spanned}
use Rattle.rules.proofs.Effects.{confirm_leaves, leaves_trans}
use Rattle.rules.proofs.Placed.{Placed, placed_in}
use Rattle.rules.proofs.Steps.{Tallied, confirm_at}
use Rattle.rules.proofs.TallyLaws.{Like, entry_after, fed_own, fed_other, fed_red, fed_top, fed_child, fed_give}
use Rattle.rules.proofs.Good.{Agrees, Ordered, Good}
use Rattle.rules.proofs.Entries.{agrees_like, agrees_granted, words_spanned}
use Rattle.rules.proofs.Keeping.{ordered, stepped, good_leaves}

-- a ledger before the confirmation: l with its row n written, or l itself
pub record Ready (B : ℕ → ℕ → ℕ) (l l1 : List ℕ) (t : Tally) (n : ℕ) (r1 : List ℕ) : Type 0 where
  pub formed : Formed l1
  pub leaves : Leaves (rows l) (hours l) l l1 n r1
  pub same_type : reqtype r1 ≡ reqtype (row (hours l) l n)
  pub same_related : related r1 ≡ related (row (hours l) l n)
  pub same_path : path r1 ≡ path (row (hours l) l n)
  pub ordered : (h : ℕ) → h < hours l → Ordered (B h) (view (hours l) h l1 (out_of t h) (red_of t h))
  pub off : Off (status r1)

-- the row as it is confirmed
abbrev pub confirmed_row : ℕ → List ℕ → List ℕ → List ℕ
confirmed_row H mw r = pick (eqb (reqtype r) RELINQUISH) (emptied H (start r) mw r) (held H (start r) mw r)

-- a later action of kind 2 to 6 on row n was accepted, and its answer is fed
module _ {B : ℕ → ℕ → ℕ} {l : List ℕ} {t : Tally} (G : Good B l t) {n : ℕ} (lt : n < used l) (a : Action) (w : List ℕ) (answer : Answer) (count : counts answer ≡ true) (later : a.kind ≢ 1) (reference : answer.reference ≡ suc n) where
  abbrev H : ℕ
  H = hours l

  abbrev fed : Tally
  fed = feed a w answer t

  abbrev own : Entry
  own = entry_after a w answer t

  own_type : own.reqtype ≡ reqtype (row H l n)
  unfolding changed
  own_type = ap (λ (q : ℕ). (t q).reqtype) reference ∙ (G.good.entries n lt).same_type

  own_related : own.related ≡ related (row H l n)
  unfolding changed
  own_related = ap (λ (q : ℕ). (t q).related) reference ∙ (G.good.entries n lt).same_related

  others : (q : ℕ) → q ≢ suc n → Like (fed q) (t q)
  others q ne = fed_other a w answer t count later q (λ e. ne (e ∙ reference))

  agreed : {r : List ℕ} → Agrees H r own → Agrees H r (fed (suc n))
  agreed {r} A = subst (λ (q : ℕ). Agrees H r (fed q)) reference (agrees_like (fed_own a w answer t count later) A)

  -- with each hour's column in order after it
  pub follow_good : {l' r : List ℕ} → Formed l' → Leaves (rows l) H l l' n r → Agrees H r own → ((h : ℕ) → h < H → Ordered (B h) (view H h l' (out_of fed h) (red_of fed h))) → Good B l' fed
  follow_good S L A K = good_leaves G lt S L (agreed A) others K

  -- with a step of each hour's column
  pub step_good : {l' r : List ℕ} → Formed l' → Leaves (rows l) H l l' n r → Agrees H r own
      → ((h : ℕ) → h < H → Step (B h) (view_of H h l t) (view H h l' (out_of fed h) (red_of fed h))) → Good B l' fed
  step_good S L A K = follow_good S L A (λ h hlt. stepped (K h hlt) (ordered G h hlt))

  -- with a confirmation, after a write in the row or none
  module _ (five : a.kind ≢ 5) (before : answer.before ≢ CONFIRMED) (at : answer.after ≡ CONFIRMED) {l1 r1 : List ℕ} (Y : Ready B l l1 t n r1) (mw : List ℕ) (long : length mw ≡ span_hours r1)
      (c9 : unconfirmed H l1 n ≡ false) (c14 : short H l1 n mw ≡ false) (S : Formed (confirm H n mw l1)) (T : (h : ℕ) → h < H → Tested (B h) (view H h l (out_of t h) (red_of t h)) (view H h (confirm H n mw l1) (out_of fed h) (red_of fed h)) n) (A : Agrees H (confirmed_row H mw r1) own) where
    abbrev l2 : List ℕ
    l2 = confirm H n mw l1

    hours_1 : hours l1 ≡ H
    hours_1 = Y.leaves.head 1 (lit< tt)

    used_1 : n < used l1
    used_1 = omega (arith, Y.leaves.head 6 (lit< tt), lt)

    P : Placed (rows l1) H l1 n
    P = placed_in Y.formed hours_1 used_1

    own_1 : row H l1 n ≡ r1
    own_1 = Y.leaves.own

    leaves_2 : Leaves (rows l) H l l2 n (confirmed_row H mw r1)
    leaves_2 =
        leaves_trans Y.leaves
        (subst (λ (R : ℕ). Leaves R H l1 l2 n (confirmed_row H mw r1)) (Y.leaves.head 0 (lit< tt))
        (subst (λ (r : List ℕ). Leaves (rows l1) H l1 l2 n (confirmed_row H mw r)) own_1
        (subst (λ (J : ℕ). length mw ≡ span_hours (row J l1 n) → Leaves (rows l1) J l1 (confirm J n mw l1) n (confirmed_row J mw (row J l1 n))) hours_1
        (confirm_leaves Y.formed used_1 mw)
        (long ∙ ap span_hours (sym own_1)))))

    hours_2 : hours l2 ≡ H
    hours_2 = leaves_2.head 1 (lit< tt)

    used_2 : n < used l2
    used_2 = omega (arith, leaves_2.head 6 (lit< tt), lt)

    -- the row in its new ledger, and its granted
    spanned_2 : Spanned H (row H l2 n)
    spanned_2 =
        words_spanned (subst (λ (J : ℕ). SoundWords J (row J l2 n)) hours_2 (S.words n used_2)) (row_length leaves_2.sized (omega (arith, G.sound.head.used)))

    granted_2 : (h : ℕ) → h < H → granted_in own h ≡ get_or (row H l2 n) (hour_at H granted_part h) 0
    granted_2 h hlt =
        agrees_granted (subst (λ (r : List ℕ). Agrees H r own) (sym leaves_2.own) A) spanned_2
        (subst (λ (J : ℕ). (h : ℕ) → h < J → (h < start (row J l2 n)) ⊎ (stop (row J l2 n) ≤ h) → get_or (row J l2 n) (hour_at J granted_part h) 0 ≡ 0) hours_2 (λ h lt. (S.profiles n used_2).outside granted_part h (lit< tt) lt)) h hlt

    type_1 : own.reqtype ≡ reqtype (row H l1 n)
    type_1 = own_type ∙ sym Y.same_type ∙ sym (ap reqtype own_1)

    related_1 : own.related ≡ related (row H l1 n)
    related_1 = own_related ∙ sym Y.same_related ∙ sym (ap related own_1)

    -- the row above and its entry
    above_type : (m : ℕ) → m < n → (t (suc m)).reqtype ≡ reqtype (row H l1 m)
    above_type m mlt = (G.good.entries m (omega arith)).same_type ∙ sym ((Y.leaves.kin m (λ e. omega (arith, e)) (omega (arith, G.sound.head.used))).field 0 (lit< tt))

    above_related : (m : ℕ) → m < n → (t (suc m)).related ≡ related (row H l1 m)
    above_related m mlt = (G.good.entries m (omega arith)).same_related ∙ sym ((Y.leaves.kin m (λ e. omega (arith, e)) (omega (arith, G.sound.head.used))).field 4 (lit< tt))

    module _ (h : ℕ) (hlt : h < H) where
      x : ℕ
      x = get_or (row H l2 n) (hour_at H granted_part h) 0

      tallied : Tallied (B h) (view H h l1 (out_of t h) (red_of t h)) (view H h l2 (out_of fed h) (red_of fed h)) n (related_row H l1 n)
      unfolding x
      tallied = record {
        paths = paths;
        tops = λ most. record { out = λ k m. fed_top a w answer t count later _ _ h x type_1 related_1 (granted_2 h hlt) before at P.type_least most k m };
        children = λ least ne k m. fed_child a w answer t count later _ _ h x type_1 related_1 (granted_2 h hlt) before at least ne (omega (arith, P.above least)) k m;
        givers = λ is8 k m.
            let least : 3 ≤ reqtype (row H l1 n) = omega (arith, is8) in
            let p : ℕ = related_row H l1 n in
            let low : p < n = P.lower least in
            let up : related (row H l1 n) ≡ suc p = P.above least in
            fed_give a w answer t count later _ _ h x type_1 related_1 (granted_2 h hlt) before at is8 (omega (arith, up)) (λ e. omega (arith, e, up, low, reference))
            (reqtype (row H l1 p)) (related (row H l1 p)) (ap (λ (q : ℕ). (t q).reqtype) up ∙ above_type p low) (redirected is8)
            (ap (λ (q : ℕ). (t q).related) up ∙ above_related p low) (omega (arith, P.over is8)) k m;
        reds = record { red = λ m. fed_red a w answer t count later five h m };
      }
        where
          -- no path has changed before the confirmation
          paths : Tested (B h) (view H h l1 (out_of t h) (red_of t h)) (view H h l2 (out_of fed h) (red_of fed h)) n
          paths = record {
            own = subst (λ (y : ℕ). use_of (view H h l2 (out_of fed h) (red_of fed h)) y ≤ B h y) (sym (ap path own_1 ∙ Y.same_path)) (T h hlt).own;
            above = λ m e.
                let up : related (row H l n) ≡ suc m = sym Y.same_related ∙ sym (ap related own_1) ∙ e in
                let low : m < n = omega (arith, up, (G.good.columns h hlt).shape.lower n) in
                subst (λ (y : ℕ). use_of (view H h l2 (out_of fed h) (red_of fed h)) y ≤ B h y)
                (sym ((Y.leaves.kin m (λ z. omega (arith, z, low)) (omega (arith, low, lt, G.sound.head.used))).field 11 (lit< tt)))
                ((T h hlt).above m up);
          }

          redirected : reqtype (row H l1 n) ≡ RELINQUISH → reqtype (row H l1 (related_row H l1 n)) ≡ NONFIRM_REDIRECT
          redirected is8 = (subst (λ (J : ℕ). SoundRelation J l1 n) hours_1 (Y.formed.relations n used_1)).redirect is8

    pub confirm_good : Good B l2 fed
    confirm_good =
        good_leaves G lt S leaves_2 (agreed A) others
        (λ h hlt. stepped (confirm_at P (subst (λ (r : List ℕ). Off (status r)) (sym own_1) Y.off) mw (long ∙ ap span_hours (sym own_1)) c9 c14 hlt (out_of t h) (out_of fed h) (red_of t h) (red_of fed h) (tallied h hlt)) (Y.ordered h hlt))
