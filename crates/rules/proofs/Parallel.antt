-- DESKS THAT WORK IN PARALLEL: two actions on rows of different trees, with no path in both, in either order.
use mathlib.Core.Path.{◌≡◌, refl, sym, ap, subst, ◌∙◌}
use mathlib.Core.Logic.{◌≢◌}
use mathlib.Core.Bool.{Bool, true, false, not, true≢false}
use mathlib.Core.List.{List}
use Prim.Native.Nat.{ℕ, ◌<◌}
use borrow.Author.Tests.{not-true, not-false}
use Rattle.rules.specs.Layout.{rows, hours, used, issued, row, reqtype, path}
use Rattle.rules.specs.Sound.{original}
use Rattle.rules.specs.Create.{fresh}
use Rattle.rules.specs.Checks.{named}
use Rattle.rules.specs.Act.{common_number, number, refused, Outcome, step, sound_both, outcome}
use Rattle.rules.specs.Calls.{run_calls}
use Rattle.rules.specs.Open.{in_tree}
use Rattle.rules.specs.Parallel.{Plain, OfOriginal, Unrelated, after, EitherOrder, InParallel, InParallelOn}
use Rattle.rules.specs.declared.Action.{Action}
use Rattle.rules.proofs.SoundFacts.{SoundLedger, sound_facts, sized}
use Rattle.rules.proofs.Soundness.{step_true, both_facts}
use Rattle.rules.proofs.Trees.{same_tree, one_tree}
use Rattle.rules.proofs.Wrote.{Frame, off, agree_off, same_ledger}
use Rattle.rules.proofs.FrameLaw.{issued_used, related_before, sound_reach, frame_of}
use Rattle.rules.proofs.Follows.{Desk, Follows, step_postings, follows}

-- ---- the rows that each action has for itself
none : ℕ → Bool
none k = false

all : ℕ → Bool
all k = true

-- two actions, each of which writes in rows of its own and reads no row of the other's
record Desks (A B : ℕ → Bool) (l : List ℕ) (a b : Action) : Type 0 where
  first : Desk A (off B) (rows l) (hours l) l a
  second : Desk B (off A) (rows l) (hours l) l b

module _ {l : List ℕ} (s : SoundLedger l) where
  abbrev H : ℕ
  H = hours l

  -- of an action that names a row of the tree of o: the tree to write in, and all but the tree of q to read
  tree_desk : (a : Action) (o q : ℕ) → OfOriginal H l o (named a) → original (reqtype (row H l q)) ≡ true → o ≢ q
      → ((i j : ℕ) → i < used l → j < used l → in_tree H l o i ≡ true → in_tree H l q j ≡ true → path (row H l i) ≢ path (row H l j))
      → Desk (in_tree H l o) (off (in_tree H l q)) (rows l) H l a
  tree_desk a o q x y ne paths = record {
    more = λ k e. go k e (in_tree H l q k) refl;
    reach = λ i. sound_reach s (issued_used l a.reference i) x.1 (λ k lt e t. same_tree s o x.0 k lt t ∙ e);
    split = record { before = related_before s; same = λ k lt t. ap not (same_tree s q y k lt t) };
    foreign = λ i k ilt klt e f z. paths i k ilt klt e (not-false _ f) (sym z);
  }
    where
      go : (k : ℕ) → in_tree H l o k ≡ true → (b : Bool) → in_tree H l q k ≡ b → not b ≡ true
      go k e false f = refl
      go k e true f = absurd (ne (one_tree s o q x.0 y k e f))

  -- of an action beside one that names no row: all rows
  whole_desk : (a : Action) → Desk all (off none) (rows l) H l a
  unfolding all none
  whole_desk a = record {
    more = λ k e. refl;
    reach = λ i. sound_reach s (issued_used l a.reference i) refl (λ k lt e t. refl);
    split = record { before = related_before s; same = λ k lt t. refl };
    foreign = λ i k ilt klt e f z. true≢false f;
  }

  -- and of that one: none
  no_desk : (a : Action) → issued l a.reference ≡ false → Desk none (off all) (rows l) H l a
  unfolding all none
  no_desk a u = record {
    more = λ k e. absurd (true≢false (sym e));
    reach = λ i. absurd (true≢false (sym i ∙ u));
    split = record { before = related_before s; same = λ k lt t. refl };
    foreign = λ i k ilt klt e f z. true≢false (sym e);
  }

-- ---- both orders
told : (l ps w : List ℕ) (a : Action) → sound_both l ps ≡ true → outcome l ps w a ≡ step true l ps w a
unfolding outcome
told l ps w a e = ap (λ (b : Bool). step b l ps w a) e

-- on a sound ledger with sound postings, of actions that have rows for themselves
module _ {l : List ℕ} (ps : List ℕ) (good : sound_both l ps ≡ true) (w v : List ℕ) {a b : Action} (pa : Plain a) (pb : Plain b) {A B : ℕ → Bool} (D : Desks A B l a b) where
  s : SoundLedger l
  s = sound_facts (both_facts l ps good).0

  abbrev la : List ℕ
  la = (step true l ps w a).ledger

  abbrev lb : List ℕ
  lb = (step true l ps v b).ledger

  good_a : sound_both la ps ≡ true
  good_a = subst (λ (x : List ℕ). sound_both la x ≡ true) (step_postings l ps w a pa.posting) (step_true l ps w a good)

  good_b : sound_both lb ps ≡ true
  good_b = subst (λ (x : List ℕ). sound_both lb x ≡ true) (step_postings l ps v b pb.posting) (step_true l ps v b good)

  Fa : Frame A (rows l) (hours l) l la
  Fa = frame_of s A ps w a pa D.first.reach

  Fb : Frame B (rows l) (hours l) l lb
  Fb = frame_of s B ps v b pb D.second.reach

  -- b after a as b alone, and a after b as a alone
  b_follows : Follows B (off A) (rows l) (hours l) la (step true l ps v b) (step true la ps v b)
  b_follows = follows s (sound_facts (both_facts la ps good_a).0) (agree_off (sized s) Fa) Fa b pb D.second v ps

  a_follows : Follows A (off B) (rows l) (hours l) lb (step true l ps w a) (step true lb ps w a)
  a_follows = follows s (sound_facts (both_facts lb ps good_b).0) (agree_off (sized s) Fb) Fb a pa D.first w ps

  -- a's rows are as a leaves them, all others as b does
  same_words : (step true la ps v b).ledger ≡ (step true lb ps w a).ledger
  same_words =
      same_ledger b_follows.frame.sized a_follows.frame.sized
      (λ i lt. b_follows.frame.head i lt ∙ Fa.head i lt ∙ sym (a_follows.frame.head i lt ∙ Fb.head i lt))
      (λ k. go k (A k) refl)
    where
      go : (k : ℕ) (o : Bool) → A k ≡ o → row (hours l) (step true la ps v b).ledger k ≡ row (hours l) (step true lb ps w a).ledger k
      go k true e = b_follows.frame.other k (not-true (B k) (D.first.more k e)) ∙ a_follows.ledgers.rows k (D.first.more k e)
      go k false e = sym (b_follows.ledgers.rows k (ap not e)) ∙ sym (a_follows.frame.other k e)

  then_b : after (outcome l ps w a) v b ≡ step true la ps v b
  then_b =
      ap (λ (o : Outcome). after o v b) (told l ps w a good)
      ∙ ap (λ (x : List ℕ). outcome la x v b) (step_postings l ps w a pa.posting)
      ∙ told la ps v b good_a

  then_a : after (outcome l ps v b) w a ≡ step true lb ps w a
  then_a =
      ap (λ (o : Outcome). after o w a) (told l ps v b good)
      ∙ ap (λ (x : List ℕ). outcome lb x w a) (step_postings l ps v b pb.posting)
      ∙ told lb ps w a good_b

  either_sound : EitherOrder l ps w a v b
  either_sound = record {
    ledgers = ap (λ (o : Outcome). o.ledger) then_b ∙ same_words ∙ sym (ap (λ (o : Outcome). o.ledger) then_a);
    postings =
        ap (λ (o : Outcome). o.postings) then_b ∙ step_postings la ps v b pb.posting
        ∙ sym (ap (λ (o : Outcome). o.postings) then_a ∙ step_postings lb ps w a pa.posting);
    first = ap (λ (o : Outcome). o.answer) (told l ps w a good) ∙ a_follows.answers ∙ sym (ap (λ (o : Outcome). o.answer) then_a);
    second = ap (λ (o : Outcome). o.answer) then_b ∙ sym b_follows.answers ∙ sym (ap (λ (o : Outcome). o.answer) (told l ps v b good));
  }

-- on one that is not, or with other postings: 1, and nothing is done
unsound : (l ps w : List ℕ) (a : Action) → sound_both l ps ≡ false → outcome l ps w a ≡ refused l ps 1
unfolding outcome step number common_number
unsound l ps w a e = ap (λ (b : Bool). step b l ps w a) e

either_unsound : (l ps w v : List ℕ) (a b : Action) → sound_both l ps ≡ false → EitherOrder l ps w a v b
unfolding refused
either_unsound l ps w v a b e =
    let x = unsound l ps w a e in
    let y = unsound l ps v b e in
    let p = ap (λ (o : Outcome). after o v b) x ∙ y in
    let q = ap (λ (o : Outcome). after o w a) y ∙ x in
    record {
      ledgers = ap (λ (o : Outcome). o.ledger) (p ∙ sym q);
      postings = ap (λ (o : Outcome). o.postings) (p ∙ sym q);
      first = ap (λ (o : Outcome). o.answer) (x ∙ sym q);
      second = ap (λ (o : Outcome). o.answer) (p ∙ sym y);
    }

-- any words at all
pub in_parallel_on : (l : List ℕ) → InParallelOn l
in_parallel_on l ps w v a b pa pb f = go (sound_both l ps) refl
  where
    trees : (s : SoundLedger l) (u : Unrelated (hours l) l (named a) (named b)) → Desks (in_tree (hours l) l u.first) (in_tree (hours l) l u.second) l a b
    trees s u = record {
      first = tree_desk s a u.first u.second u.of_first u.of_second.0 u.originals u.paths;
      second = tree_desk s b u.second u.first u.of_second u.of_first.0 (λ e. u.originals (sym e)) (λ i j ilt jlt x y z. u.paths j i jlt ilt y x (sym z));
    }

    by_rows : sound_both l ps ≡ true → (x y : Bool) → issued l a.reference ≡ x → issued l b.reference ≡ y → EitherOrder l ps w a v b
    by_rows e true true i j = either_sound ps e w v pa pb (trees (sound_facts (both_facts l ps e).0) (f i j))
    by_rows e true false i j =
        let s = sound_facts (both_facts l ps e).0 in
        let D : Desks all none l a b = record { first = whole_desk s a; second = no_desk s b j } in
        either_sound ps e w v pa pb D
    by_rows e false y i j =
        let s = sound_facts (both_facts l ps e).0 in
        let D : Desks none all l a b = record { first = no_desk s a i; second = whole_desk s b } in
        either_sound ps e w v pa pb D

    go : (o : Bool) → sound_both l ps ≡ o → EitherOrder l ps w a v b
    go true e = by_rows e (issued l a.reference) (issued l b.reference) refl refl
    go false e = either_unsound l ps w v a b e

pub in_parallel : InParallel
in_parallel R H provider window base good qs calls = in_parallel_on (run_calls (fresh R H provider window base) qs calls).ledger
