-- The provider's actions keep what is kept: approve, reduce, lapse, clock.
use mathlib.Core.Path.{◌≡◌, refl, sym, ap, subst, ◌∙◌}
use mathlib.Core.Logic.{◌≢◌, ⊎_elim, inl, inr}
use mathlib.Core.Bool.{Bool, true, false, ◌||◌}
use mathlib.Core.List.{List}
use Prim.Native.Nat.{ℕ, suc, ◌<◌}
use native.Mathlib.Omega.{arith}
use borrow.Author.Tests.{eq-eqb}
use lib.Dec.{eqb, lit<}
use lib.ListN.{length}
use lib.Seq.{get_or-set_other}
use lib.IntN.{pos, ◌+ℤ◌}
use Rattle.column.specs.Column.{Off}
use Rattle.rules.specs.Pick.{pick, when}
use Rattle.rules.specs.Numbers.{approved, ACCEPTED, CR_ACCEPTED, CONFIRMED, RETRACTED}
use Rattle.rules.specs.Layout.{hours, used, row, on_row, status, start, span_hours, has, raise, set_status, set_clock, standing}
use Rattle.rules.specs.Megawatts.{in_force}
use Rattle.rules.specs.Confirming.{confirm}
use Rattle.rules.specs.Checks.{named, named_row, profile, waits_at}
use Rattle.rules.specs.Approve.{approve_after}
use Rattle.rules.specs.Reduce.{reduce_after}
use Rattle.rules.specs.Lapse.{lapse_after}
use Rattle.rules.specs.Clock.{clock_after}
use Rattle.rules.specs.Act.{refusal, acceptance, answered}
use Rattle.rules.specs.Tally.{Tally, counts, changed, feed}
use Rattle.rules.specs.declared.Action.{Action}
use Rattle.rules.specs.declared.Answer.{Answer}
use Rattle.rules.proofs.Rows.{head_row}
use Rattle.rules.proofs.Formed.{Formed, formed}
use Rattle.rules.proofs.View.{view, view_of, out_of, red_of}
use Rattle.rules.proofs.Effects.{own_leaves, reduce_leaves, confirm_leaves, kin_reduced, inside_own}
use Rattle.rules.proofs.Passed.{ApprovePassed, ReducePassed, LapsePassed, confirm_passed, profile_length, open_off, lapsing_off}
use Rattle.rules.proofs.Placed.{placed}
use Rattle.rules.proofs.Others.{reduce_step}
use Rattle.rules.proofs.Quiet.{status_step, approved_step, approved_calm}
use Rattle.rules.proofs.Begins.{clock_step}
use Rattle.rules.proofs.Unmoved.{unmoved_raise}
use Rattle.rules.proofs.Before.{unconfirmed_stays, short_stays}
use Rattle.rules.proofs.Kept.{same_self, same_approved, same_status}
use Rattle.rules.proofs.TallyLaws.{feed_none, fed_red, fed_quiet, fed_reduced, fed_unreduced, fed_reduced_out}
use Rattle.rules.proofs.Forces.{force_length}
use Rattle.rules.proofs.Entries.{status_agrees, approved_agrees, reduced_agrees, lapsed_agrees, approved_start, approved_confirms}
use Rattle.rules.proofs.Good.{Agrees, Ordered, GoodAt, Good}
use Rattle.rules.proofs.Keeping.{stepped, ordered, columns_sound}
use Rattle.rules.proofs.Tests.{Left}
use Rattle.rules.proofs.Answers.{AnswerOf, answer_counts}
use Rattle.rules.proofs.Readying.{ready_self, ready_on}
use Rattle.rules.proofs.Naming.{set_status_lem, confirmed_status_lem, ready_status, either_agrees, is_used, spanned, room, is_reference, own_agrees, stepped_good, confirmed_good}

-- ---- 6 Lapse
module _ {B : ℕ → ℕ → ℕ} {l : List ℕ} {t : Tally} (G : Good B l t) (w : List ℕ) (a : Action) (P : LapsePassed (hours l) l a) where
  abbrev H : ℕ
  H = hours l

  abbrev n : ℕ
  n = named a

  abbrev r : List ℕ
  r = named_row (hours l) l a

  lapse_used : named a < used l
  lapse_used = is_used G a P.reference.0 P.reference.1

  lapse_off : Off (status (named_row (hours l) l a))
  lapse_off = lapsing_off P.status

  -- a preconfirmed 11 confirms
  lapse_confirms : waits_at CR_ACCEPTED (named_row (hours l) l a) ≡ true → Left B l (confirm (hours l) (named a) (in_force (hours l) (named_row (hours l) l a)) l) (named a) (status (named_row (hours l) l a)) (status (row (hours l) (confirm (hours l) (named a) (in_force (hours l) (named_row (hours l) l a)) l) (named a)))
      → {answer : Answer} → AnswerOf answer a.reference (status (named_row (hours l) l a)) (status (row (hours l) (confirm (hours l) (named a) (in_force (hours l) (named_row (hours l) l a)) l) (named a)))
      → a.kind ≡ 6 → Good B (confirm (hours l) (named a) (in_force (hours l) (named_row (hours l) l a)) l) (feed a w answer t)
  lapse_confirms q S {answer} A k =
      let C = confirm_passed H l n (in_force H r) (has approved r) (P.confirms q) in
      let later : a.kind ≢ 1 = λ z. omega (arith, z, k) in
      let E = own_agrees G a P.reference.0 P.reference.1 w A later in
      let m = spanned G a P.reference.0 P.reference.1 in
      let long : length (in_force H r) ≡ span_hours r = force_length m in
      let now : status (row H (confirm H n (in_force H r) l) n) ≡ CONFIRMED = ap status (confirm_leaves (formed G.sound) lapse_used (in_force H r) long).own ∙ confirmed_status_lem (room G a P.reference.0 P.reference.1 (in_force H r) long) in
      confirmed_good G a P.reference.0 P.reference.1 w A later (λ z. omega (arith, z, k)) lapse_off.0 now
      (ready_self G lapse_used lapse_off) (in_force H r) long C.unconfirmed C.short S
      (either_agrees (in_force H r) r (lapsed_agrees E m a w answer (start r) refl (A.after ∙ now) k))

  -- the others go to 17
  lapse_retracts : Left B l (on_row (hours l) (named a) (set_status RETRACTED) l) (named a) (status (named_row (hours l) l a)) (status (row (hours l) (on_row (hours l) (named a) (set_status RETRACTED) l) (named a)))
      → {answer : Answer} → AnswerOf answer a.reference (status (named_row (hours l) l a)) (status (row (hours l) (on_row (hours l) (named a) (set_status RETRACTED) l) (named a)))
      → a.kind ≡ 6 → Good B (on_row (hours l) (named a) (set_status RETRACTED) l) (feed a w answer t)
  lapse_retracts S {answer} A k =
      let F = formed G.sound in
      let later : a.kind ≢ 1 = λ z. omega (arith, z, k) in
      let E = own_agrees G a P.reference.0 P.reference.1 w A later in
      let m = spanned G a P.reference.0 P.reference.1 in
      let L = own_leaves F lapse_used (set_status RETRACTED) (same_status (same_self F lapse_used) (omega arith) (omega arith)).long in
      let now : status (row H (on_row H n (set_status RETRACTED) l) n) ≡ RETRACTED = ap status L.own ∙ set_status_lem r RETRACTED H (same_status (same_self F lapse_used) (omega arith) (omega arith)).long in
      let after : answer.after ≡ RETRACTED = A.after ∙ now in
      let five : a.kind ≢ 5 = λ z. omega (arith, z, k) in
      stepped_good G a P.reference.0 P.reference.1 w A later S.formed L
      (status_agrees E m a w answer RETRACTED after (λ z. omega (arith, z), λ z. omega (arith, z), λ z. omega (arith, z)) (inl (λ z. omega (arith, z, k))) (inl (λ z. omega (arith, z, k))))
      (λ h hlt. status_step F lapse_used lapse_off hlt (out_of t h) (out_of (feed a w answer t) h) (red_of t h) (red_of (feed a w answer t) h) RETRACTED (λ z. omega (arith, z), λ z. omega (arith, z))
      (record { out = λ k m. fed_quiet a w answer t (answer_counts A P.reference.0) later (λ z. omega (arith, z, after)) (inr (λ z. omega (arith, z, after))) five h k m })
      (record { red = λ m. fed_red a w answer t (answer_counts A P.reference.0) later five h m }))

  pub lapse_good : Left B l (lapse_after (hours l) l a) (named a) (status (named_row (hours l) l a)) (status (row (hours l) (lapse_after (hours l) l a) (named a))) → {answer : Answer} → AnswerOf answer a.reference (status (named_row (hours l) l a)) (status (row (hours l) (lapse_after (hours l) l a) (named a)))
      → a.kind ≡ 6 → Good B (lapse_after (hours l) l a) (feed a w answer t)
  unfolding lapse_after
  lapse_good S {answer} A k = go (waits_at CR_ACCEPTED (named_row (hours l) l a)) refl S A
    where
      next : Bool → List ℕ
      next b = pick b (confirm (hours l) (named a) (in_force (hours l) (named_row (hours l) l a)) l) (on_row (hours l) (named a) (set_status RETRACTED) l)

      go : (b : Bool) → waits_at CR_ACCEPTED (named_row (hours l) l a) ≡ b → Left B l (next b) (named a) (status (named_row (hours l) l a)) (status (row (hours l) (next b) (named a))) → AnswerOf answer a.reference (status (named_row (hours l) l a)) (status (row (hours l) (next b) (named a))) → Good B (next b) (feed a w answer t)
      go true q s x = lapse_confirms q s x k
      go false q s x = lapse_retracts s x k

-- ---- 4 Approve
module _ {B : ℕ → ℕ → ℕ} {l : List ℕ} {t : Tally} (G : Good B l t) (w : List ℕ) (a : Action) (P : ApprovePassed (hours l) l a) where
  approve_used : named a < used l
  approve_used = is_used G a P.reference.0 P.reference.1

  approve_off : Off (status (named_row (hours l) l a))
  approve_off = open_off (named_row (hours l) l a) P.is_open_lem

  abbrev raised : List ℕ
  raised = on_row (hours l) (named a) (raise approved) l

  approve_confirms : waits_at ACCEPTED (named_row (hours l) l a) ≡ true → Left B l (confirm (hours l) (named a) (in_force (hours l) (named_row (hours l) l a)) (on_row (hours l) (named a) (raise approved) l)) (named a) (status (named_row (hours l) l a)) (status (row (hours l) (confirm (hours l) (named a) (in_force (hours l) (named_row (hours l) l a)) (on_row (hours l) (named a) (raise approved) l)) (named a)))
      → {answer : Answer} → AnswerOf answer a.reference (status (named_row (hours l) l a)) (status (row (hours l) (confirm (hours l) (named a) (in_force (hours l) (named_row (hours l) l a)) (on_row (hours l) (named a) (raise approved) l)) (named a)))
      → a.kind ≡ 4 → Good B (confirm (hours l) (named a) (in_force (hours l) (named_row (hours l) l a)) (on_row (hours l) (named a) (raise approved) l)) (feed a w answer t)
  approve_confirms q S {answer} A k =
      let F = formed G.sound in
      let mw : List ℕ = in_force (hours l) (named_row (hours l) l a) in
      let C = confirm_passed (hours l) l (named a) mw true (P.confirms q) in
      let later : a.kind ≢ 1 = λ z. omega (arith, z, k) in
      let E = own_agrees G a P.reference.0 P.reference.1 w A later in
      let m = spanned G a P.reference.0 P.reference.1 in
      let long : length mw ≡ span_hours (named_row (hours l) l a) = force_length m in
      let s = same_approved (same_self F approve_used) in
      let Y = ready_on G approve_used approve_off (raise approved) s (status (named_row (hours l) l a)) (λ h. approved_calm (placed F approve_used) h) approve_off in
      let long1 : length mw ≡ span_hours (raise approved (named_row (hours l) l a)) = omega (arith, long, s.start, s.stop) in
      let now = ready_status G approve_used Y mw long1 (record { long = s.long; fits = omega (arith, long, s.start, m.starts, m.stops) }) in
      confirmed_good G a P.reference.0 P.reference.1 w A later (λ z. omega (arith, z, k)) approve_off.0 now Y mw long1
      (unconfirmed_stays (placed F approve_used) (raise approved) (unmoved_raise (spanned G a P.reference.0 P.reference.1).long approved) ∙ C.unconfirmed)
      (short_stays (placed F approve_used) (raise approved) (unmoved_raise (spanned G a P.reference.0 P.reference.1).long approved) mw ∙ C.short) S
      (either_agrees mw (raise approved (named_row (hours l) l a)) (approved_confirms E m a w answer (start (raise approved (named_row (hours l) l a))) (approved_start E m a w answer) (A.after ∙ now) k))

  approve_raises : Left B l (on_row (hours l) (named a) (raise approved) l) (named a) (status (named_row (hours l) l a)) (status (row (hours l) (on_row (hours l) (named a) (raise approved) l) (named a)))
      → {answer : Answer} → AnswerOf answer a.reference (status (named_row (hours l) l a)) (status (row (hours l) (on_row (hours l) (named a) (raise approved) l) (named a)))
      → a.kind ≡ 4 → Good B (on_row (hours l) (named a) (raise approved) l) (feed a w answer t)
  approve_raises S {answer} A k =
      let F = formed G.sound in
      let later : a.kind ≢ 1 = λ z. omega (arith, z, k) in
      let five : a.kind ≢ 5 = λ z. omega (arith, z, k) in
      let E = own_agrees G a P.reference.0 P.reference.1 w A later in
      let m = spanned G a P.reference.0 P.reference.1 in
      let L = own_leaves F approve_used (raise approved) (same_approved (same_self F approve_used)).long in
      let now : status (row (hours l) (on_row (hours l) (named a) (raise approved) l) (named a)) ≡ status (named_row (hours l) l a) = ap status L.own ∙ (approved_calm (placed F approve_used) 0).status in
      let after : answer.after ≡ status (named_row (hours l) l a) = A.after ∙ now in
      stepped_good G a P.reference.0 P.reference.1 w A later S.formed L (approved_agrees E m a w answer after k)
      (λ h hlt. approved_step F approve_used approve_off hlt (out_of t h) (out_of (feed a w answer t) h) (red_of t h) (red_of (feed a w answer t) h)
      (record { out = λ k m. fed_quiet a w answer t (answer_counts A P.reference.0) later (λ z. approve_off.0 (sym after ∙ z)) (inl (λ z. approve_off.0 (sym A.before ∙ z))) five h k m })
      (record { red = λ m. fed_red a w answer t (answer_counts A P.reference.0) later five h m }))

  pub approve_good : Left B l (approve_after (hours l) l a) (named a) (status (named_row (hours l) l a)) (status (row (hours l) (approve_after (hours l) l a) (named a))) → {answer : Answer} → AnswerOf answer a.reference (status (named_row (hours l) l a)) (status (row (hours l) (approve_after (hours l) l a) (named a)))
      → a.kind ≡ 4 → Good B (approve_after (hours l) l a) (feed a w answer t)
  unfolding approve_after
  approve_good S {answer} A k = go (waits_at ACCEPTED (named_row (hours l) l a)) refl S A
    where
      next : Bool → List ℕ
      next b = when b (confirm (hours l) (named a) (in_force (hours l) (named_row (hours l) l a))) (on_row (hours l) (named a) (raise approved) l)

      go : (b : Bool) → waits_at ACCEPTED (named_row (hours l) l a) ≡ b → Left B l (next b) (named a) (status (named_row (hours l) l a)) (status (row (hours l) (next b) (named a))) → AnswerOf answer a.reference (status (named_row (hours l) l a)) (status (row (hours l) (next b) (named a))) → Good B (next b) (feed a w answer t)
      go true q s x = approve_confirms q s x k
      go false q s x = approve_raises s x k

-- ---- 5 Reduce
pub reduce_good : {B : ℕ → ℕ → ℕ} {l : List ℕ} {t : Tally} → Good B l t → (w : List ℕ) (a : Action) → ReducePassed (hours l) l w a → Formed (reduce_after (hours l) l w a)
    → {answer : Answer} → AnswerOf answer a.reference (status (named_row (hours l) l a)) (status (row (hours l) (reduce_after (hours l) l w a) (named a)))
    → a.kind ≡ 5 → Good B (reduce_after (hours l) l w a) (feed a w answer t)
unfolding reduce_after changed
reduce_good {B} {l} {t} G w a P S {answer} A k =
    let F = formed G.sound in
    let lt = is_used G a P.reference.0 P.reference.1 in
    let later : a.kind ≢ 1 = λ z. omega (arith, z, k) in
    let E = own_agrees G a P.reference.0 P.reference.1 w A later in
    let m = spanned G a P.reference.0 P.reference.1 in
    let count = answer_counts A P.reference.0 in
    let long : length (profile w a) ≡ span_hours (named_row (hours l) l a) = profile_length P.profile in
    let L = reduce_leaves F lt (profile w a) long in
    let now : status (row (hours l) (reduce_after (hours l) l w a) (named a)) ≡ status (named_row (hours l) l a) = ap status L.own ∙ (kin_reduced (inside_own F lt (profile w a) long)).field 1 (lit< tt) in
    let after : answer.after ≡ CONFIRMED = A.after ∙ now ∙ P.confirmed in
    let before : answer.before ≡ CONFIRMED = A.before ∙ P.confirmed in
    let ref : answer.reference ≡ suc (named a) = is_reference G a P.reference.0 P.reference.1 w A later in
    stepped_good G a P.reference.0 P.reference.1 w A later S L (reduced_agrees E m a w answer (profile w a) long (A.after ∙ now) k)
    (λ h hlt. reduce_step F lt P.type P.confirmed hlt (out_of t h) (out_of (feed a w answer t) h) (red_of t h) (red_of (feed a w answer t) h) (profile w a) long P.covers
    (record { out = λ j m. fed_reduced_out a w answer t count later before after k (named a) ref h j m })
    (fed_reduced a w answer t count later before after k (named a) ref h ∙ ap (λ (s : ℕ). red_of t h (named a) +ℤ pos (standing s (profile w a) h)) E.same_start)
    (λ m ne. fed_unreduced a w answer t count later before after k (named a) ref h m ne))

-- ---- 7 Clock: a row is as it was, and the answer is not counted
pub clock_good : {B : ℕ → ℕ → ℕ} {l : List ℕ} {t : Tally} → Good B l t → (w : List ℕ) (a : Action) → Formed (clock_after l a) → a.kind ≡ 7 → Good B (clock_after l a) (feed a w (answered (hours l) l w a (clock_after l a)) t)
unfolding answered refusal counts clock_after
clock_good {B} {l} {t} G w a S k =
    subst (λ (u : Tally). Good B l' u)
    (sym (feed_none a w _ t (ap (λ (x : Answer). counts x) (ap (λ (b : Bool). pick (b || eqb a.kind 8) (refusal 0) (acceptance (hours l) l w a l')) (eq-eqb a.kind 7 k)))))
    (record {
      sound = columns_sound t S (subst (λ (H : ℕ). (h : ℕ) → h < H → Ordered (B h) (view_of H h l' t)) (sym (get_or-set_other l 5 1 a.time 0 (λ e. omega (arith, e)))) moved);
      good = subst (λ (H : ℕ). GoodAt B H l' t) (sym (get_or-set_other l 5 1 a.time 0 (λ e. omega (arith, e))))
          (record {
            entries = λ n lt. subst (λ (r : List ℕ). Agrees (hours l) r (t (suc n))) (sym (same n)) (G.good.entries n (omega (arith, users)));
            others = λ r z. G.good.others r (⊎_elim (λ u. inl u) (λ u. inr (omega (arith, u, users))) z);
            columns = moved;
          });
    })
  where
    l' : List ℕ
    l' = set_clock a.time l

    users : used l' ≡ used l
    users = get_or-set_other l 5 6 a.time 0 (λ e. omega (arith, e))

    same : (n : ℕ) → row (hours l) l' n ≡ row (hours l) l n
    same n = head_row (hours l) l 5 a.time n (lit< tt)

    moved : (h : ℕ) → h < hours l → Ordered (B h) (view (hours l) h l' (out_of t h) (red_of t h))
    moved h lt = stepped (clock_step (hours l) h l a (out_of t h) (out_of t h) (red_of t h) (red_of t h) (record { out = λ k m. refl }) (record { red = λ m. refl })) (ordered G h lt)
