-- An accepted action that names its row: what its kind's proof starts from.
use mathlib.Core.Path.{◌≡◌, sym, ap, subst, ◌∙◌}
use mathlib.Core.Logic.{◌≢◌, inl}
use mathlib.Core.Bool.{Bool, true, false}
use mathlib.Core.List.{List}
use Prim.Native.Nat.{ℕ, suc, ◌≤◌, ◌<◌}
use native.Mathlib.Omega.{arith}
use lib.Dec.{eqb, lit<}
use lib.ListN.{length, set, length-set}
use lib.Seq.{get_or-set_same}
use Rattle.column.specs.Column.{Off}
use Rattle.column.specs.Step.{Step}
use Rattle.rules.specs.Pick.{pick}
use Rattle.rules.specs.Numbers.{available_part, CONFIRMED, RELINQUISH}
use Rattle.rules.specs.Layout.{rows, hours, used, row_size, row, on_row, reqtype, status, start, span_hours, set_status, set_hours, clear_hours}
use Rattle.rules.specs.Megawatts.{grant}
use Rattle.rules.specs.Confirming.{held, emptied, confirm, unconfirmed, short}
use Rattle.rules.specs.Checks.{named, named_row}
use Rattle.rules.specs.Tally.{Entry, Tally, feed}
use Rattle.rules.specs.declared.Action.{Action}
use Rattle.rules.specs.declared.Answer.{Answer}
use Rattle.rules.proofs.Rows.{row_length}
use Rattle.rules.proofs.Seen.{Room}
use Rattle.rules.proofs.SoundFacts.{sized}
use Rattle.rules.proofs.Formed.{Formed}
use Rattle.rules.proofs.Leaves.{Leaves}
use Rattle.rules.proofs.View.{view, view_of, out_of, red_of}
use Rattle.rules.proofs.Spans.{Spanned}
use Rattle.rules.proofs.Effects.{held_length, emptied_length, confirm_leaves, own_leaves, leaves_trans}
use Rattle.rules.proofs.Placed.{placed_in, own_long}
use Rattle.rules.proofs.Quiet.{calm_step, status_calm}
use Rattle.rules.proofs.Keeping.{stepped}
use Rattle.rules.proofs.TallyLaws.{entry_after, fed_red, fed_quiet}
use Rattle.rules.proofs.Entries.{words_spanned}
use Rattle.rules.proofs.Good.{Agrees, Good}
use Rattle.rules.proofs.Tests.{Left, takes_confirmed}
use Rattle.rules.proofs.Answers.{AnswerOf, answer_counts}
use Rattle.rules.proofs.Confirmed.{Ready, confirmed_row, step_good, follow_good, confirm_good}

-- a row that is confirmed is CONFIRMED
pub set_status_lem : (q : List ℕ) (v H : ℕ) → length (set q 1 v) ≡ row_size H → status (set q 1 v) ≡ v
set_status_lem q v H e = get_or-set_same q 1 v 0 (omega (arith, length-set q 1 v, e))

held_status : {H s : ℕ} {mw r : List ℕ} → Room H s mw r → status (held H s mw r) ≡ CONFIRMED
unfolding held
held_status {H} {s} {mw} {r} m = set_status_lem (grant H s mw (set_hours H available_part s mw r)) CONFIRMED H (held_length m)

emptied_status : {H s : ℕ} {mw r : List ℕ} → Room H s mw r → status (emptied H s mw r) ≡ CONFIRMED
unfolding emptied
emptied_status {H} {s} {mw} {r} m = set_status_lem (grant H s mw (clear_hours H available_part s (length mw) r)) CONFIRMED H (emptied_length m)

pub confirmed_status_lem : {H : ℕ} {mw r : List ℕ} → Room H (start r) mw r → status (confirmed_row H mw r) ≡ CONFIRMED
confirmed_status_lem {H} {mw} {r} m = go (eqb (reqtype r) RELINQUISH)
  where
    go : (b : Bool) → status (pick b (emptied H (start r) mw r) (held H (start r) mw r)) ≡ CONFIRMED
    go true = emptied_status m
    go false = held_status m

-- either of the two ways
pub either_agrees : {H : ℕ} (mw r : List ℕ) {e : Entry} → Agrees H (held H (start r) mw r) e × Agrees H (emptied H (start r) mw r) e → Agrees H (confirmed_row H mw r) e
either_agrees {H} mw r {e} p = go (eqb (reqtype r) RELINQUISH)
  where
    go : (b : Bool) → Agrees H (pick b (emptied H (start r) mw r) (held H (start r) mw r)) e
    go true = p.1
    go false = p.0

module _ {B : ℕ → ℕ → ℕ} {l : List ℕ} {t : Tally} (G : Good B l t) (a : Action) (low : 1 ≤ a.reference) (high : a.reference ≤ used l) where
  pub is_used : named a < used l
  is_used = omega (arith, low, high)

  pub spanned : Spanned (hours l) (named_row (hours l) l a)
  spanned = words_spanned (G.sound.words (named a) is_used) (row_length (sized G.sound) (omega (arith, G.sound.head.used, is_used)))

  pub room : (mw : List ℕ) → length mw ≡ span_hours (named_row (hours l) l a) → Room (hours l) (start (named_row (hours l) l a)) mw (named_row (hours l) l a)
  room mw e = record { long = spanned.long; fits = omega (arith, e, spanned.starts, spanned.stops) }

  module _ (w : List ℕ) {answer : Answer} {old new : ℕ} (A : AnswerOf answer a.reference old new) (later : a.kind ≢ 1) where
    pub is_reference : answer.reference ≡ suc (named a)
    is_reference = let e : a.reference ≡ suc (named a) = omega (arith, low) in A.reference ∙ e

    pub own_agrees : Agrees (hours l) (named_row (hours l) l a) (t answer.reference)
    own_agrees = subst (λ (q : ℕ). Agrees (hours l) (named_row (hours l) l a) (t q)) (sym is_reference) (G.good.entries (named a) is_used)

    -- one step of each hour's column
    pub stepped_good : {l' r : List ℕ} → Formed l' → Leaves (rows l) (hours l) l l' (named a) r → Agrees (hours l) r (entry_after a w answer t)
        → ((h : ℕ) → h < hours l → Step (B h) (view_of (hours l) h l t) (view (hours l) h l' (out_of (feed a w answer t) h) (red_of (feed a w answer t) h))) → Good B l' (feed a w answer t)
    stepped_good = step_good G is_used a w answer (answer_counts A low) later is_reference

    -- a confirmation
    pub confirmed_good : a.kind ≢ 5 → old ≢ CONFIRMED → new ≡ CONFIRMED → {l1 r1 : List ℕ} → Ready B l l1 t (named a) r1 → (mw : List ℕ) → length mw ≡ span_hours r1
        → unconfirmed (hours l) l1 (named a) ≡ false → short (hours l) l1 (named a) mw ≡ false → Left B l (confirm (hours l) (named a) mw l1) (named a) old new
        → Agrees (hours l) (confirmed_row (hours l) mw r1) (entry_after a w answer t) → Good B (confirm (hours l) (named a) mw l1) (feed a w answer t)
    confirmed_good five before after Y mw long c9 c14 S =
        confirm_good G is_used a w answer (answer_counts A low) later is_reference five (λ e. before (sym A.before ∙ e)) (A.after ∙ after) Y mw long c9 c14 S.formed
        (λ h hlt. S.tested (takes_confirmed old new before after) h hlt _ _ _ _)

-- the row that is confirmed from a ledger that is ready is CONFIRMED
pub ready_status : {B : ℕ → ℕ → ℕ} {l l1 : List ℕ} {t : Tally} (G : Good B l t) {n : ℕ} → n < used l → {r1 : List ℕ} → Ready B l l1 t n r1 → (mw : List ℕ) → length mw ≡ span_hours r1 → Room (hours l) (start r1) mw r1
    → status (row (hours l) (confirm (hours l) n mw l1) n) ≡ CONFIRMED
ready_status {B} {l} {l1} G {n} lt {r1} Y mw long room =
    let hours_1 : hours l1 ≡ hours l = Y.leaves.head 1 (lit< tt) in
    let used_1 : n < used l1 = omega (arith, Y.leaves.head 6 (lit< tt), lt) in
    let own : row (hours l) (confirm (hours l) n mw l1) n ≡ confirmed_row (hours l) mw (row (hours l) l1 n) =
    subst (λ (J : ℕ). length mw ≡ span_hours (row J l1 n) → row J (confirm J n mw l1) n ≡ confirmed_row J mw (row J l1 n)) hours_1 (λ e. (confirm_leaves Y.formed used_1 mw e).own) (long ∙ ap span_hours (sym Y.leaves.own)) in
    ap status own ∙ ap (λ (r : List ℕ). status (confirmed_row (hours l) mw r)) Y.leaves.own ∙ confirmed_status_lem room

-- a status is set in a ledger that is ready, and the row stays neither CONFIRMED nor DISPLACED
pub readied_good : {B : ℕ → ℕ → ℕ} {l : List ℕ} {t : Tally} (G : Good B l t) (a : Action) (low : 1 ≤ a.reference) (high : a.reference ≤ used l) (w : List ℕ) {l1 r1 : List ℕ} {answer : Answer} {old : ℕ} {s : ℕ}
    → AnswerOf answer a.reference old (status (row (hours l) (on_row (hours l) (named a) (set_status s) l1) (named a))) → a.kind ≢ 1 → a.kind ≢ 5 → old ≢ CONFIRMED
    → Ready B l l1 t (named a) r1 → Off s → Formed (on_row (hours l) (named a) (set_status s) l1)
    → (answer.after ≡ s → Agrees (hours l) (set_status s r1) (entry_after a w answer t)) → Good B (on_row (hours l) (named a) (set_status s) l1) (feed a w answer t)
readied_good {B} {l} {t} G a low high w {l1} {r1} {answer} {old} {s} A later five before Y off S E =
    let lt = is_used G a low high in
    let hours_1 : hours l1 ≡ hours l = Y.leaves.head 1 (lit< tt) in
    let used_1 : named a < used l1 = omega (arith, Y.leaves.head 6 (lit< tt), lt) in
    let P = placed_in Y.formed hours_1 used_1 in
    let long1 : length r1 ≡ row_size (hours l) = ap length (sym Y.leaves.own) ∙ own_long P in
    let L1 : Leaves (rows l1) (hours l) l1 (on_row (hours l) (named a) (set_status s) l1) (named a) (set_status s r1) =
    subst (λ (r : List ℕ). Leaves (rows l1) (hours l) l1 (on_row (hours l) (named a) (set_status s) l1) (named a) (set_status s r)) Y.leaves.own
    (subst (λ (J : ℕ). length (set_status s (row J l1 (named a))) ≡ row_size J → Leaves (rows l1) J l1 (on_row J (named a) (set_status s) l1) (named a) (set_status s (row J l1 (named a)))) hours_1
    (own_leaves Y.formed used_1 (set_status s)) (length-set (row (hours l) l1 (named a)) 1 s ∙ own_long P)) in
    let L : Leaves (rows l) (hours l) l (on_row (hours l) (named a) (set_status s) l1) (named a) (set_status s r1) =
    leaves_trans Y.leaves (subst (λ (R : ℕ). Leaves R (hours l) l1 (on_row (hours l) (named a) (set_status s) l1) (named a) (set_status s r1)) (Y.leaves.head 0 (lit< tt)) L1) in
    let after : answer.after ≡ s = A.after ∙ ap status L.own ∙ set_status_lem r1 s (hours l) (length-set r1 1 s ∙ long1) in
    let count = answer_counts A low in
    follow_good G lt a w answer count later (is_reference G a low high w A later) S L (E after)
    (λ h hlt. stepped (calm_step P (set_status s) (status_calm P h s) (subst (λ (r : List ℕ). Off (status r)) (sym Y.leaves.own) Y.off) off (out_of t h) (out_of (feed a w answer t) h) (red_of t h) (red_of (feed a w answer t) h)
    (record { out = λ j m. fed_quiet a w answer t count later (λ z. off.0 (sym after ∙ z)) (inl (λ z. before (sym A.before ∙ z))) five h j m })
    (record { red = λ m. fed_red a w answer t count later five h m })) (Y.ordered h hlt))
