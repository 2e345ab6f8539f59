-- THE FRAME LAW: an action that is neither a submission, a posting nor a clock change alters nothing but the row that
-- it names, the row that this one is related to unless it is an original, and, of a relinquish record, the row above.
use mathlib.Core.Path.{◌≡◌, refl, ap}
use mathlib.Core.Bool.{Bool, true, false, ◌&&◌, ◌||◌, not}
use mathlib.Core.List.{List}
use Prim.Native.Nat.{ℕ, ◌<◌}
use native.Mathlib.Omega.{arith}
use borrow.Author.Tests.{eqb-true, eq-eqb}
use lib.Dec.{eqb}
use Rattle.rules.specs.Pick.{pick}
use Rattle.rules.specs.Numbers.{RELINQUISH}
use Rattle.rules.specs.Layout.{rows, hours, used, issued, row_of, row, reqtype, related_row}
use Rattle.rules.specs.Sound.{original}
use Rattle.rules.specs.Checks.{named}
use Rattle.rules.specs.Act.{kind_number, kind_after, common_number, number, refused, accepted, step}
use Rattle.rules.specs.Parallel.{Plain}
use Rattle.rules.specs.declared.Action.{Action}
use Rattle.rules.proofs.Picks.{or_first, or_second, and_all}
use Rattle.rules.proofs.Types.{derived_type, derived_least}
use Rattle.rules.proofs.SoundFacts.{SoundLedger, sized}
use Rattle.rules.proofs.Formed.{formed}
use Rattle.rules.proofs.Effects.{above_before}
use Rattle.rules.proofs.Passed.{issued_range}
use Rattle.rules.proofs.Kept.{same_self}
use Rattle.rules.proofs.Soundness.{kind_passed, number_passed}
use Rattle.rules.proofs.Wrote.{Frame, frame, frame_self, agree_self}
use Rattle.rules.proofs.Reach.{Reach, kind_none}
use Rattle.rules.proofs.Local.{kind_wrote}

-- the row of an issued reference is in use
pub issued_used : (l : List ℕ) (r : ℕ) → issued l r ≡ true → row_of r < used l
issued_used l r e = let i = issued_range l r e in omega (arith, i.0, i.1)

-- an action that passes the checks of its kind names a row
module _ (a : Action) (plain : Plain a) (c : common_number true a ≡ 0) (H : ℕ) (l w : List ℕ) where
  pub unnamed_is_4 : issued l a.reference ≡ false → kind_number H l w a ≡ 4
  unnamed_is_4 e = let k = kind_passed a c in kind_none H l w a e plain.submission plain.clock plain.posting k.0 k.1

  pub passed_is_named : kind_number H l w a ≡ 0 → issued l a.reference ≡ true
  passed_is_named e = go (issued l a.reference) refl
    where
      go : (b : Bool) → issued l a.reference ≡ b → b ≡ true
      go true q = refl
      go false q = absurd (omega (arith, e, unnamed_is_4 q))

-- ---- the rows that an action on row n reaches
unfoldable pub reached : ℕ → List ℕ → ℕ → ℕ → Bool
reached H l n k =
    eqb k n || (not (original (reqtype (row H l n))) && eqb k (related_row H l n)
    || eqb (reqtype (row H l n)) RELINQUISH && eqb k (related_row H l (related_row H l n)))

module _ {l : List ℕ} (s : SoundLedger l) where
  abbrev H : ℕ
  H = hours l

  pub related_before : (k : ℕ) → k < used l → original (reqtype (row H l k)) ≡ false → related_row H l k < k
  related_before k lt e = above_before (formed s) lt (derived_least (reqtype (row H l k)) (s.words k lt).type_least e)

  -- any rows that hold row n and, with a row, the row that it is related to
  pub sound_reach : {K : ℕ → Bool} {n : ℕ} → n < used l → K n ≡ true
      → ((k : ℕ) → k < used l → K k ≡ true → original (reqtype (row H l k)) ≡ false → K (related_row H l k) ≡ true) → Reach K (rows l) H l n
  sound_reach {K} {n} lt own up = record {
    own = own;
    own_row = omega (arith, lt, s.head.used);
    above = λ t. up n lt own t;
    above_row = λ t. omega (arith, lt, related_before n lt t, s.head.used);
    grand = λ e. up p (used_p e) (up n lt own (type_n e)) (type_p e);
    grand_row = λ e. omega (arith, used_p e, related_before p (used_p e) (type_p e), s.head.used);
  }
    where
      p : ℕ
      p = related_row H l n

      type_n : eqb (reqtype (row H l n)) RELINQUISH ≡ true → original (reqtype (row H l n)) ≡ false
      type_n e = derived_type (reqtype (row H l n)) (omega (arith, eqb-true (reqtype (row H l n)) RELINQUISH e))

      type_p : eqb (reqtype (row H l n)) RELINQUISH ≡ true → original (reqtype (row H l p)) ≡ false
      type_p e = derived_type (reqtype (row H l p)) (omega (arith, (s.relations n lt).redirect (eqb-true (reqtype (row H l n)) RELINQUISH e)))

      used_p : eqb (reqtype (row H l n)) RELINQUISH ≡ true → p < used l
      used_p e = omega (arith, lt, related_before n lt (type_n e))

  reached_reach : {n : ℕ} → n < used l → Reach (reached H l n) (rows l) H l n
  unfolding reached
  reached_reach {n} lt =
      let all = sound_reach {K = λ k. true} lt refl (λ k klt e t. refl) in
      record {
        own = or_first (eqb n n) _ (eq-eqb n n refl);
        own_row = all.own_row;
        above = λ t. or_second (eqb p n) _ (or_first (not (original (reqtype (row H l n))) && eqb p p) _ (and_all _ (ap not t) (eq-eqb p p refl)));
        above_row = all.above_row;
        grand = λ e. or_second (eqb q n) _ (or_second (not (original (reqtype (row H l n))) && eqb q p) _ (and_all _ e (eq-eqb q q refl)));
        grand_row = all.grand_row;
      }
    where
      p : ℕ
      p = related_row H l n

      q : ℕ
      q = related_row H l (related_row H l n)

  -- of any rows that hold those reached: no other is altered, accepted or refused
  pub frame_of : (K : ℕ → Bool) (ps w : List ℕ) (a : Action) → Plain a → (issued l a.reference ≡ true → Reach K (rows l) H l (named a)) → Frame K (rows l) H l (step true l ps w a).ledger
  unfolding step accepted refused
  frame_of K ps w a plain reach = go (eqb (number true l ps w a) 0) refl
    where
      go : (b : Bool) → eqb (number true l ps w a) 0 ≡ b → Frame K (rows l) H l (pick b (accepted l ps w a (kind_after H l w a)) (refused l ps (number true l ps w a))).ledger
      go true e =
          let p = number_passed l ps w a (eqb-true _ _ e) in
          let i = passed_is_named a plain p.common H l w p.kind in
          frame (sized s) (kind_wrote w a (agree_self (sized s)) (reach i) (same_self (formed s) (issued_used l a.reference i)) plain.submission plain.clock p.kind)
      go false e = frame_self (sized s)

  pub frame_law : (ps w : List ℕ) (a : Action) → Plain a → Frame (reached H l (named a)) (rows l) H l (step true l ps w a).ledger
  frame_law ps w a plain = frame_of (reached H l (named a)) ps w a plain (λ i. reached_reach (issued_used l a.reference i))
