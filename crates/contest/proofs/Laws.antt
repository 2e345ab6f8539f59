-- A contest's checks, and what each of its endings answers and leaves.
use mathlib.Core.Path.{◌≡◌, refl, sym, ap, ◌∙◌}
use mathlib.Core.Logic.{◌≢◌}
use mathlib.Core.Bool.{Bool, true, false, ◌||◌, not}
use mathlib.Core.List.{List, []}
use Prim.Native.Nat.{ℕ, ◌≤◌}
use borrow.Author.Tests.{ne_eqb}
use Rattle.words.specs.Lists.{total}
use Rattle.rules.specs.Pick.{pick}
use Rattle.rules.specs.Numbers.{CONFIRMED, DISPLACED}
use Rattle.rules.specs.Layout.{rows, hours, used, row_of, row, available}
use Rattle.rules.specs.Sound.{sound, firm}
use Rattle.rules.specs.Megawatts.{displace}
use Rattle.rules.specs.SellerStatus.{seller_number}
use Rattle.rules.specs.Act.{common_number, refusal, Outcome, refused, sound_both}
use Rattle.rules.specs.Contest.{play, present, ending, not_firm, bad_greatest, displacing, contest_checks, contest_number, row_kept, ended, contested}
use Rattle.rules.specs.declared.Action.{Action}
use Rattle.rules.specs.declared.Answer.{Answer}
use Rattle.rules.specs.declared.Contest.{Contest}
use Rattle.rules.specs.declared.Ending.{Ending}
use Rattle.rules.specs.declared.Ending.TheVariants.{Kept, Lost, Unfinished, Refused}
use Rattle.rules.proofs.Picks.{hit, skip, or_stops, or_goes}
use Rattle.rules.proofs.Refused.{passed_by}
use Rattle.rules.proofs.Passed.{seller_status_passed}
use Rattle.rules.proofs.Soundness.{both_facts}
use Rattle.rules.proofs.Over.{over_displacing}
use Rattle.rules.proofs.Contested.{displaced_by, row_lost, contest_passed, displacement_outcome}
use Rattle.layout.specs.SoundAt.{SoundAt}
use Rattle.layout.specs.declared.size.Size.{Size}
use Rattle.ledger.proofs.Laws.{both_at}

-- ---- the row that a contest names, once its displacement's own checks passed
pub row_issued : (H : ℕ) (l : List ℕ) (k : Contest) → seller_number H l [] (displacing k) ≡ 0 → (1 ≤ k.reference) × (k.reference ≤ used l)
row_issued H l k e = (seller_status_passed H l [] (displacing k) e).reference

-- ---- the checks before the moves, of the values that calls gave
-- those that every action has
pub common_says : (l ps : List ℕ) (k : Contest) {r : ℕ} {b : Bool} {a : Action} → r ≡ common_number b a → b ≡ sound_both l ps → a ≡ displacing k → r ≡ common_number (sound_both l ps) (displacing k)
common_says l ps k {a = a} p s e = p ∙ ap (λ (b : Bool). common_number b a) s ∙ ap (λ (x : Action). common_number (sound_both l ps) x) e

-- those of a displacement
pub seller_says : (H : ℕ) (l : List ℕ) (k : Contest) {r : ℕ} {a : Action} → r ≡ seller_number H l [] a → a ≡ displacing k → r ≡ seller_number H l [] (displacing k)
seller_says H l k p e = p ∙ ap (λ (x : Action). seller_number H l [] x) e

-- they passed, and the row that was asked whether it is firm is the one named
module _ {size : Size} {l : List ℕ} (k : Contest) {a : Action} (p : 0 ≡ seller_number size.hours l [] a) (e : a ≡ displacing k)
    {r : Bool} {s : Size} {ws : List ℕ} {i n : ℕ} (is : r ≡ firm s.hours ws i) (words : ws ≡ l) (sized : s ≡ size) (at_n : i ≡ n) (z : n ≡ row_of k.reference) where
  firm_says : {b : Bool} → not r ≡ b → not_firm size.hours l k ≡ b
  unfolding not_firm
  firm_says q = ap not (sym (is ∙ (λ j. firm (sized j).hours (words j) (at_n j)) ∙ ap (λ (m : ℕ). firm size.hours l m) z)) ∙ q

  -- 11
  pub firm_fails : not r ≡ true → 11 ≡ contest_checks size.hours l k
  unfolding contest_checks
  firm_fails q = passed_by _ _ (seller_says _ _ k p e) (hit _ _ _ (firm_says q))

  -- the greatest terms decide
  pub firm_passes : not r ≡ false → {v : ℕ} → v ≡ pick (bad_greatest size.hours l k) 25 0 → v ≡ contest_checks size.hours l k
  unfolding contest_checks
  firm_passes q h = passed_by _ _ (seller_says _ _ k p e) (skip _ _ _ _ (firm_says q) h)

-- 25, of the greatest terms: a range is left, or kept, and the rest decides
pub left_first : {r : Bool} (a b : Bool) → r ≡ a → not r ≡ true → not r ≡ (not a || b)
left_first a b p q = q ∙ or_stops (not a) b (ap not (sym p) ∙ q)

pub kept_first : {r : Bool} (a b v : Bool) → r ≡ a → not r ≡ false → v ≡ b → v ≡ (not a || b)
kept_first a b v p q h = or_goes (not a) b v (ap not (sym p) ∙ q) h

-- ---- the moves
pub ending_says : (H : ℕ) (l : List ℕ) (k : Contest) (moves replies : List ℕ) {e : Ending} {p : ℕ} → e ≡ play k.challenger k.holder p moves replies → p ≡ present H l k → e ≡ ending H l k moves replies
unfolding ending
ending_says H l k moves replies x y = x ∙ ap (λ (q : ℕ). play k.challenger k.holder q moves replies) y

-- ---- a row lost: a displaced word would pass 100,000, or it is displaced
module _ (H : ℕ) (l : List ℕ) (k : Contest) {n : ℕ} {o : Bool} (z : n ≡ row_of k.reference) (over : o ≡ over_displacing H (row H l n)) where
  judged : {b : Bool} → o ≡ b → over_displacing H (row H l (row_of k.reference)) ≡ b
  judged q = sym (over ∙ ap (λ (m : ℕ). over_displacing H (row H l m)) z) ∙ q

  pub over_lost : o ≡ true → {r : Answer} → r ≡ refusal 1 → (r ≡ (row_lost H l [] k).answer) × (l ≡ (row_lost H l [] k).ledger)
  unfolding row_lost refused
  over_lost q h = rw (judged q) (h, refl)

  pub displaced_lost : o ≡ false → {held : ℕ} {l' : List ℕ} → held ≡ total (available H (row H l n)) → l' ≡ displace H n l
      → (record { number = 0; reference = k.reference; before = CONFIRMED; after = DISPLACED; moved = held } ≡ (row_lost H l [] k).answer) × (l' ≡ (row_lost H l [] k).ledger)
  unfolding row_lost displaced_by
  displaced_lost q h g = rw (judged q, ← z) (ap (λ (v : ℕ). record { number = 0; reference = k.reference; before = CONFIRMED; after = DISPLACED; moved = v }) h, g)

-- ---- a contest
module _ (l ps : List ℕ) (k : Contest) (moves replies : List ℕ) {n : ℕ} (is : n ≡ contest_number l ps k) where
  pub refused_leaves : n ≢ 0 → {r : Answer} → r ≡ refusal n → (r ≡ (contested l ps k moves replies).answer) × (l ≡ (contested l ps k moves replies).ledger)
  unfolding contested refused
  refused_leaves some h = rw (← is, ne_eqb n 0 some) (h, refl)

  module _ (none : n ≡ 0) where
    -- the ledger is sound, and the reference was issued
    pub passed_sound : SoundAt l (rows l) (hours l) × ((1 ≤ k.reference) × (k.reference ≤ used l))
    passed_sound =
        let C = contest_passed l ps k (sym is ∙ none) in
        ((both_at l ps C.both).0, row_issued (hours l) l k C.seller)

    pub sound_passed : sound l ≡ true
    sound_passed = (both_facts l ps (contest_passed l ps k (sym is ∙ none)).both).0

    -- the ending decides
    pub ended_by : {H : ℕ} {e v : Ending} → H ≡ hours l → e ≡ ending H l k moves replies → e ≡ v → contested l ps k moves replies ≡ ended l ps k v
    unfolding contested
    ended_by sized ends told =
        let e = rw sized at ends in
        rw (← e, ← is, none) (ap (λ (x : Ending). ended l ps k x) told)

    pub lost_leaves : contested l ps k moves replies ≡ ended l ps k Lost → {r : Answer} {l' : List ℕ} → r ≡ (row_lost (hours l) l [] k).answer → l' ≡ (row_lost (hours l) l [] k).ledger
        → (r ≡ (contested l ps k moves replies).answer) × (l' ≡ (contested l ps k moves replies).ledger)
    unfolding ended row_lost refused displaced_by
    lost_leaves e h g =
        rw (e ∙ displacement_outcome (contest_passed l ps k (sym is ∙ none)))
        (go (over_displacing (hours l) (row (hours l) l (row_of k.reference))) h g)
      where
        -- whatever the postings are
        left : Bool → List ℕ → Outcome
        left o qs = pick o (refused l qs 1) (displaced_by (hours l) l qs k)

        go : {r : Answer} {l' : List ℕ} (o : Bool) → r ≡ (left o []).answer → l' ≡ (left o []).ledger → (r ≡ (left o ps).answer) × (l' ≡ (left o ps).ledger)
        go true h g = (h, g)
        go false h g = (h, g)

-- nothing is altered by the other endings; o is what the contest answers and leaves
module _ (l ps : List ℕ) (k : Contest) {o : Outcome} {r : Answer} where
  pub kept_leaves : o ≡ ended l ps k Kept → r ≡ (row_kept [] [] k).answer → (r ≡ o.answer) × (l ≡ o.ledger)
  unfolding ended row_kept
  kept_leaves e h = rw e (h, refl)

  pub unfinished_leaves : o ≡ ended l ps k Unfinished → r ≡ (row_kept [] [] k).answer → (r ≡ o.answer) × (l ≡ o.ledger)
  unfolding ended row_kept
  unfinished_leaves e h = rw e (h, refl)

  pub bad_leaves : o ≡ ended l ps k Refused → r ≡ refusal 25 → (r ≡ o.answer) × (l ≡ o.ledger)
  unfolding ended refused
  bad_leaves e h = rw e (h, refl)
