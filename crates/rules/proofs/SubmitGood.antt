-- A submission keeps what is kept.
use mathlib.Core.Path.{◌≡◌, sym, ap, subst, ◌∙◌}
use mathlib.Core.Logic.{◌≢◌, ◌⊎◌, ⊎_elim, inl, inr}
use mathlib.Core.Bool.{true}
use mathlib.Core.List.{List}
use Prim.Native.Nat.{ℕ, suc, ◌+◌, ◌<◌}
use native.Mathlib.Decide.{ℕ_discrete}
use native.Mathlib.Omega.{arith}
use lib.Dec.{lit<}
use lib.ListN.{length}
use Rattle.words.proofs.Laws.{lt_or_le}
use Rattle.column.proofs.Final.{unused_out, unused_red}
use Rattle.rules.specs.Numbers.{QUEUED}
use Rattle.rules.specs.Layout.{rows, hours, used, row_size, row, status}
use Rattle.rules.specs.Submit.{new_words, new_row, submit_after}
use Rattle.rules.specs.Tally.{Entry, Tally, opened, counts, feed}
use Rattle.rules.specs.declared.Action.{Action}
use Rattle.rules.specs.declared.Answer.{Answer}
use Rattle.rules.proofs.Rows.{row_length}
use Rattle.rules.proofs.SoundFacts.{sized}
use Rattle.rules.proofs.Formed.{Formed, formed}
use Rattle.rules.proofs.View.{view, view_of, out_of, red_of}
use Rattle.rules.proofs.Effects.{Opens}
use Rattle.rules.proofs.Passed.{SubmitPassed, profile_length}
use Rattle.rules.proofs.Submitted.{submit_opens, new_field}
use Rattle.rules.proofs.Begins.{NewRelation, submit_step}
use Rattle.rules.proofs.TallyLaws.{opened_own, opened_other, opened_out, opened_red}
use Rattle.rules.proofs.Entries.{new_agrees}
use Rattle.rules.proofs.Good.{Agrees, Ordered, GoodAt, Good}
use Rattle.rules.proofs.Keeping.{stepped, ordered, columns_sound}
use Rattle.rules.proofs.Answers.{AnswerOf, answer_counts}

-- what the relations of a new row are
new_relation : {H : ℕ} {l w : List ℕ} {a : Action} → SubmitPassed H l w a → NewRelation H l a
new_relation {H} {l} {w} {a} P = record {
  originals = P.original;
  lower = ⊎_elim (λ u. omega (arith, P.original (omega (arith, u)))) (λ u. (P.derived u).issued.1) (lt_or_le a.reqtype 3);
  redirect = λ e. (P.derived (omega (arith, e))).redirect e;
  others = λ least ne. (P.derived least).others ne;
}

module _ {B : ℕ → ℕ → ℕ} {l : List ℕ} {t : Tally} (G : Good B l t) (w : List ℕ) (a : Action) (P : SubmitPassed (hours l) l w a) (S : Formed (submit_after (hours l) l w a))
    {answer : Answer} (A : AnswerOf answer (used l + 1) 0 (status (row (hours l) (submit_after (hours l) l w a) (used l)))) (k : a.kind ≡ 1) where
  abbrev H : ℕ
  H = hours l

  abbrev l' : List ℕ
  l' = submit_after (hours l) l w a

  abbrev fed : Tally
  fed = feed a w answer t

  F : Formed l
  F = formed G.sound

  O : Opens (rows l) (hours l) l (submit_after (hours l) l w a) (new_row (hours l) w a (row (hours l) l (used l)))
  O = submit_opens F P

  left : used l < rows l
  left = omega (arith, P.room, G.sound.head.used)

  long : length (row (hours l) l (used l)) ≡ row_size (hours l)
  long = row_length (sized G.sound) left

  count : counts answer ≡ true
  count = answer_counts A (omega arith)

  reference : answer.reference ≡ suc (used l)
  reference = let e : used l + 1 ≡ suc (used l) = omega arith in A.reference ∙ e

  -- the new row and its entry
  own : Agrees H (row H l' (used l)) (fed (suc (used l)))
  unfolding new_words
  own =
      let now : answer.after ≡ QUEUED = A.after ∙ ap status O.own ∙ new_field P (row H l (used l)) long 1 (lit< tt) in
      subst (λ (q : ℕ). Agrees H (row H l' (used l)) (fed q)) reference
      (subst (λ (e : Entry). Agrees H (row H l' (used l)) e) (sym (opened_own a w answer t count k))
      (subst (λ (r : List ℕ). Agrees H r (opened a w answer)) (sym O.own)
      (new_agrees P (row H l (used l)) long (λ j. G.sound.unused (used l) (omega arith) j) answer now)))

  other : (q : ℕ) → q ≢ suc (used l) → fed q ≡ t q
  other q ne = opened_other a w answer t count k q (λ e. ne (e ∙ reference))

  entry : (n : ℕ) → n < suc (used l) → Agrees H (row H l' n) (fed (suc n))
  entry n lt = go (ℕ_discrete n (used l))
    where
      go : Dec (n ≡ used l) → Agrees H (row H l' n) (fed (suc n))
      go (yes e) = subst (λ (i : ℕ). Agrees H (row H l' i) (fed (suc i))) (sym e) own
      go (no ne) =
          subst (λ (r : List ℕ). Agrees H r (fed (suc n))) (sym (O.other n ne))
          (subst (λ (e : Entry). Agrees H (row H l n) e) (sym (other (suc n) (λ e. ne (omega (arith, e))))) (G.good.entries n (omega (arith, ne))))

  column : (h : ℕ) → h < H → Ordered (B h) (view H h l' (out_of fed h) (red_of fed h))
  column h hlt =
      let C = ordered G h hlt in
      stepped (submit_step F left w a (omega (arith, profile_length P.profile, P.starts, P.stops)) (new_relation P) hlt (out_of t h) (out_of fed h) (red_of t h) (red_of fed h)
      (record { out = λ j m. opened_out a w answer t count k (used l) reference h (unused_out C.shape C.inv) j m })
      (record { red = λ m. opened_red a w answer t count k (used l) reference h (unused_red C.shape C.inv) m }))
      C

  more : used l' ≡ suc (used l)
  more = let e : used l + 1 ≡ suc (used l) = omega arith in O.more ∙ e

  submit_kept : Good B l' fed
  submit_kept = record {
    sound = columns_sound fed S (subst (λ (J : ℕ). (h : ℕ) → h < J → Ordered (B h) (view_of J h l' fed)) (sym (O.head 1 (lit< tt) (λ e. omega (arith, e)))) column);
    good = subst (λ (J : ℕ). GoodAt B J l' fed) (sym (O.head 1 (lit< tt) (λ e. omega (arith, e)))) (record {
      entries = λ n lt. entry n (omega (arith, more));
      others = λ q z. ap (λ (e : Entry). e.reqtype) (other q (λ e. apart q e z)) ∙ G.good.others q (⊎_elim (λ u. inl u) (λ u. inr (omega (arith, u, more))) z);
      columns = column;
    });
  }
    where
      apart : (q : ℕ) → q ≡ suc (used l) → (q ≡ 0) ⊎ (used l' < q) → ⊥
      apart q e (inl u) = omega (arith, e, u)
      apart q e (inr u) = omega (arith, e, u, more)

pub submit_good : {B : ℕ → ℕ → ℕ} {l : List ℕ} {t : Tally} → Good B l t → (w : List ℕ) (a : Action) → SubmitPassed (hours l) l w a → Formed (submit_after (hours l) l w a)
    → {answer : Answer} → AnswerOf answer (used l + 1) 0 (status (row (hours l) (submit_after (hours l) l w a) (used l))) → a.kind ≡ 1 → Good B (submit_after (hours l) l w a) (feed a w answer t)
submit_good G w a P S A k = submit_kept G w a P S A k
