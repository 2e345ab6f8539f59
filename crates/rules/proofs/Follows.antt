-- One action on two ledgers that agree where it reads: the same answer, and ledgers that agree there afterwards.
use mathlib.Core.Path.{◌≡◌, refl, sym, ap, subst, ◌∙◌}
use mathlib.Core.Logic.{◌≢◌}
use mathlib.Core.Bool.{Bool, true, false}
use mathlib.Core.List.{List}
use Prim.Native.Nat.{ℕ, ◌<◌}
use native.Mathlib.Omega.{arith}
use borrow.Author.Tests.{eqb-true}
use lib.Dec.{eqb, lit<}
use Rattle.rules.specs.Pick.{pick}
use Rattle.rules.specs.Layout.{hours, used, issued, row, path, related_row}
use Rattle.rules.specs.Checks.{named}
use Rattle.rules.specs.Act.{kind_number, kind_after, number, refused, accepted, Outcome, step}
use Rattle.rules.specs.Parallel.{Plain}
use Rattle.rules.specs.declared.Action.{Action}
use Rattle.rules.proofs.SoundFacts.{SoundLedger}
use Rattle.rules.proofs.Soundness.{number_passed, postings_stay}
use Rattle.rules.proofs.Wrote.{Agree, Frame, frame_self, agree, agree_less}
use Rattle.rules.proofs.Reach.{Reach}
use Rattle.rules.proofs.FrameLaw.{issued_used, passed_is_named}
use Rattle.rules.proofs.ReadLaw.{SameUse, SameUses, same_hours, wrote, first_frame, second_frame, same_number, read_law}
use Rattle.rules.proofs.Apart.{Split, split_last, same_use}

-- what is asked of the rows for action a: it writes where K holds and reads where J does; J parts no tree, and no path
-- stands both in a row of K and in one off J
pub record Desk (K J : ℕ → Bool) (R H : ℕ) (l : List ℕ) (a : Action) : Type 0 where
  pub more : (k : ℕ) → K k ≡ true → J k ≡ true
  pub reach : issued l a.reference ≡ true → Reach K R H l (named a)
  pub split : Split J H l
  pub foreign : (i k : ℕ) → i < used l → k < used l → K i ≡ true → J k ≡ false → path (row H l k) ≢ path (row H l i)

-- what comes of it
pub record Follows (K J : ℕ → Bool) (R H : ℕ) (m : List ℕ) (o q : Outcome) : Type 0 where
  pub answers : o.answer ≡ q.answer
  pub ledgers : Agree J R H o.ledger q.ledger
  pub frame : Frame K R H m q.ledger

-- postings stay
pub step_postings : (l ps w : List ℕ) (a : Action) → a.kind ≢ 8 → (step true l ps w a).postings ≡ ps
unfolding step accepted refused
step_postings l ps w a n8 = go (eqb (number true l ps w a) 0)
  where
    go : (b : Bool) → (pick b (accepted l ps w a (kind_after (hours l) l w a)) (refused l ps (number true l ps w a))).postings ≡ ps
    go true = postings_stay (hours l) ps w a n8
    go false = refl

-- m is what another action left of l, which wrote where B holds
module _ {K J B : ℕ → Bool} {R : ℕ} {l m : List ℕ} (s : SoundLedger l) (t : SoundLedger m) (G : Agree J R (hours l) l m) (M : Frame B R (hours l) l m)
    (a : Action) (plain : Plain a) (D : Desk K J R (hours l) l a) (w : List ℕ) where
  abbrev H : ℕ
  H = hours l

  g : Agree K R H l m
  g = agree_less D.more G

  -- no row off J counts in the use of a path of K
  module _ (i : issued l a.reference ≡ true) (e : kind_number H l w a ≡ 0) where
    F : Frame K R H l (kind_after H l w a)
    F = first_frame s t g a plain D.reach w i e

    E : Frame K R H m (kind_after H m w a)
    E = second_frame s t g a plain D.reach w i e

    N : Agree J R H (kind_after H l w a) (kind_after H m w a)
    N = agree D.more G (wrote s t g a plain D.reach w i e)

    same_path : (x : ℕ) → x < used l → K x ≡ true → SameUse H (kind_after H l w a) (kind_after H m w a) (path (row H l x))
    same_path x lt kx h hlt =
        same_use N (split_last F D.split) (split_last E (split_last M D.split)) (path (row H l x))
        (λ k klt j q. D.foreign x k lt (omega (arith, klt, F.head 6 (lit< tt))) kx j (sym (F.word k 11 (lit< tt) refl) ∙ q))
        (λ k klt j q. D.foreign x k lt (omega (arith, klt, E.head 6 (lit< tt), M.head 6 (lit< tt))) kx j (sym (E.word k 11 (lit< tt) refl ∙ M.word k 11 (lit< tt) refl) ∙ q))
        h

    same_paths : SameUses H l (named a) (kind_after H l w a) (kind_after H m w a)
    same_paths =
        let lt = issued_used l a.reference i in
        record {
          own = same_path (named a) lt (D.reach i).own;
          above = λ d. same_path (related_row H l (named a)) (omega (arith, lt, D.split.before (named a) lt d)) ((D.reach i).above d);
        }

  module _ (ps : List ℕ) where
    -- what is left of l and of m, as l's number has it
    abbrev after_l : Bool → List ℕ
    after_l b = (pick b (accepted l ps w a (kind_after H l w a)) (refused l ps (number true l ps w a))).ledger

    abbrev after_m : Bool → List ℕ
    after_m b = (pick b (accepted m ps w a (kind_after H m w a)) (refused m ps (number true l ps w a))).ledger

    done : (b : Bool) → eqb (number true l ps w a) 0 ≡ b → Agree J R H (after_l b) (after_m b) × Frame K R H m (after_m b)
    unfolding accepted refused
    done true q =
        let p = number_passed l ps w a (eqb-true _ _ q) in
        let i = passed_is_named a plain p.common H l w p.kind in
        (N i p.kind, E i p.kind)
    done false q = (G, frame_self G.second)

    -- m's hours and its number are the same
    same_after : after_m (eqb (number true l ps w a) 0) ≡ (step true m ps w a).ledger
    unfolding step
    same_after =
        ap (λ (h : ℕ). (pick (eqb (number true l ps w a) 0) (accepted m ps w a (kind_after h m w a)) (refused m ps (number true l ps w a))).ledger) (sym (same_hours s t g a plain D.reach w))
        ∙ ap (λ (x : ℕ). (pick (eqb x 0) (accepted m ps w a (kind_after (hours m) m w a)) (refused m ps x)).ledger) (same_number s t g a plain D.reach w same_paths ps)

    pub follows : Follows K J R H m (step true l ps w a) (step true m ps w a)
    unfolding step
    follows =
        let d = done (eqb (number true l ps w a) 0) refl in
        record {
          answers = read_law s t g a plain D.reach w same_paths ps;
          ledgers = subst (λ (x : List ℕ). Agree J R H (step true l ps w a).ledger x) same_after d.0;
          frame = subst (λ (x : List ℕ). Frame K R H m x) same_after d.1;
        }
