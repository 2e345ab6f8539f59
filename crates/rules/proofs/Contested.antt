-- Contests: the displacement that a lost one ends as, what any of them keeps, and what each party can force.
use mathlib.Core.Path.{◌≡◌, refl, ap, subst, ◌∙◌}
use mathlib.Core.Bool.{Bool, true, false, ◌&&◌, ◌||◌, not}
use mathlib.Core.List.{List, [], ◌∷◌}
use Prim.Native.Nat.{ℕ, ◌-◌, ◌≤◌, ◌<◌}
use native.Mathlib.Omega.{arith}
use borrow.Author.Tests.{eqb-true, ne_eqb, ltb-false, leb-false, not-true, lt-ltb, le-ltb, lt-leb}
use lib.Dec.{eqb, leb, ltb}
use lib.ListN.{length}
use Rattle.words.specs.Lists.{total, every}
use Rattle.words.proofs.Laws.{and_left, and_right}
use Rattle.rules.specs.Pick.{pick, ◌gives◌else◌, ◌is_from◌to◌}
use Rattle.rules.specs.Numbers.{CONFIRMED, DISPLACED}
use Rattle.rules.specs.Layout.{hours, used, row_of, row, status, available}
use Rattle.rules.specs.Moves.{confirmed_or_annulled}
use Rattle.rules.specs.Megawatts.{displace}
use Rattle.rules.specs.SellerStatus.{counters, accepts, offers, annuls_confirmed, seller_number, other_after, seller_after}
use Rattle.rules.specs.Act.{kind_number, kind_after, postings_after, common_number, over_use, use_number, last_number, sound_number, number, subject, status_before, moved_between, moved_by, megawatt_hours, answered, acceptance, Outcome, refusal, refused, accepted, step, sound_both, outcome}
use Rattle.rules.specs.Contest.{stops, yields, bad_term, bad_match, replied, play, present, ending, bad_greatest, displacing, contest_checks, contest_number, row_kept, ended, contested, is_lost, loses}
use Rattle.rules.specs.FirstRefusal.{Strategy, replies_to, moves_against, rises, answers_each, Displaceable, HolderKeeps, ChallengerTakes}
use Rattle.rules.specs.declared.Action.{Action}
use Rattle.rules.specs.declared.Answer.{Answer}
use Rattle.rules.specs.declared.Contest.{Contest}
use Rattle.rules.specs.declared.Ending.{Ending}
use Rattle.rules.specs.declared.Ending.TheVariants.{Kept, Lost, Unfinished, Refused}
use Rattle.rules.proofs.SoundFacts.{SoundLedger, sound_facts}
use Rattle.rules.proofs.Formed.{formed}
use Rattle.rules.proofs.Effects.{displace_leaves, displaced_length, row_spanned}
use Rattle.rules.proofs.Passed.{SellerPassed, or_else_none, or_none, seller_status_passed, seller_move}
use Rattle.rules.proofs.Soundness.{common_sound, both_facts, sound_step}
use Rattle.rules.proofs.Over.{over_displacing, over_displacing_lem}
use Rattle.rules.proofs.SellerGood.{row_displaced}
use Rattle.rules.proofs.KindPaths.{seller_use}

-- ---- the displacement that a lost contest ends as
-- what it answers and leaves where it is accepted: 0, the reference, 13, 15 and all that was available
unfoldable pub displaced_by : ℕ → List ℕ → List ℕ → Contest → Outcome
displaced_by H l ps k =
    record {
      answer = record { number = 0; reference = k.reference; before = CONFIRMED; after = DISPLACED; moved = total (available H (row H l (row_of k.reference))) };
      ledger = displace H (row_of k.reference) l;
      postings = ps;
    }

-- the same for a row lost, where of all checks the one that is judged last is left
unfoldable pub row_lost : ℕ → List ℕ → List ℕ → Contest → Outcome
row_lost H l ps k = pick (over_displacing H (row H l (row_of k.reference))) (refused l ps 1) (displaced_by H l ps k)

-- no check before the moves applied: both slices are sound, and the displacement's own checks passed
pub record ContestPassed (l ps : List ℕ) (k : Contest) : Type 0 where
  pub both : sound_both l ps ≡ true
  pub common : common_number true (displacing k) ≡ 0
  pub seller : seller_number (hours l) l [] (displacing k) ≡ 0

pub contest_passed : (l ps : List ℕ) (k : Contest) → contest_number l ps k ≡ 0 → ContestPassed l ps k
unfolding contest_number contest_checks
contest_passed l ps k e =
    let c = or_else_none (common_number (sound_both l ps) (displacing k)) _ e in
    let b = common_sound (sound_both l ps) (displacing k) c.0 in
    record { both = b; common = subst (λ (x : Bool). common_number x (displacing k) ≡ 0) b c.0; seller = (or_else_none (seller_number (hours l) l [] (displacing k)) _ c.1).0 }

module _ {l ps : List ℕ} {k : Contest} (C : ContestPassed l ps k) where
  abbrev H : ℕ
  H = hours l

  abbrev n : ℕ
  n = row_of k.reference

  abbrev a : Action
  a = displacing k

  P : SellerPassed (hours l) l [] (displacing k)
  P = seller_status_passed (hours l) l [] (displacing k) C.seller

  facts : SoundLedger l
  facts = sound_facts (both_facts l ps C.both).0

  in_use : row_of k.reference < used l
  in_use = omega (arith, P.reference.0, P.reference.1)

  -- it neither confirms nor annuls: no 22
  uses_none : over_use H l a (seller_after H l [] a) ps ≡ false
  unfolding offers counters accepts annuls_confirmed
  uses_none = seller_use facts a in_use ps (λ z. omega (arith, z)) (λ z. omega (arith, z)) [] P

  accepted_is : accepted l ps [] a (kind_after H l [] a) ≡ displaced_by H l ps k
  unfolding accepted answered acceptance subject status_before megawatt_hours moved_by moved_between confirmed_or_annulled postings_after kind_after seller_after offers counters accepts other_after displaced_by
  accepted_is =
      let F = formed facts in
      let before : status (row H l n) ≡ CONFIRMED = ((seller_move _ DISPLACED P.may).displaces refl).0 in
      let after : status (row H (displace H n l) n) ≡ DISPLACED = ap status (displace_leaves F in_use).own ∙ row_displaced H _ (displaced_length (row_spanned F in_use)) in
      rw (before, after)

  -- of its checks only the last is left
  number_is : number (sound_both l ps) l ps [] a ≡ last_number H (displace H n l)
  unfolding number sound_number kind_number kind_after postings_after use_number seller_after offers counters accepts other_after
  number_is = rw (C.both, C.common, C.seller, uses_none)

  pub displacement_outcome : outcome l ps [] (displacing k) ≡ row_lost (hours l) l ps k
  unfolding outcome step last_number row_lost
  displacement_outcome =
      ap by (number_is ∙ ap (λ (b : Bool). pick b 1 0) (over_displacing_lem facts in_use)) ∙ go (over_displacing H (row H l n))
    where
      by : ℕ → Outcome
      by number = pick (eqb number 0) (accepted l ps [] a (kind_after H l [] a)) (refused l ps number)

      go : (b : Bool) → by (pick b 1 0) ≡ pick b (refused l ps 1) (displaced_by H l ps k)
      go true = refl
      go false = accepted_is

-- ---- any contest
-- it is the displacement, where the row is lost, or leaves all as it is
pub contest_by : (l ps : List ℕ) (k : Contest) (moves replies : List ℕ) (P : Bool → Outcome → Type 0)
    → P true (outcome l ps [] (displacing k)) → ((a : Answer) → P false (record { answer = a; ledger = l; postings = ps }))
    → P (loses l ps k moves replies) (contested l ps k moves replies)
unfolding contested ended row_kept refused loses
contest_by l ps k moves replies P lost stays = go (eqb (contest_number l ps k) 0) (ending (hours l) l k moves replies)
  where
    go : (t : Bool) (e : Ending) → P (t && is_lost e) (pick t (ended l ps k e) (refused l ps (contest_number l ps k)))
    go true Kept = stays _
    go true Lost = lost
    go true Unfinished = stays _
    go true Refused = stays _
    go false e = stays _

-- only a row lost alters the ledger
pub contest_stays : (l ps : List ℕ) (k : Contest) (moves replies : List ℕ) → loses l ps k moves replies ≡ false → (contested l ps k moves replies).ledger ≡ l
contest_stays l ps k moves replies = contest_by l ps k moves replies (λ lost left. lost ≡ false → left.ledger ≡ l) (λ e. cc) (λ _ e. refl)

-- no posting is altered
pub contest_postings : (l ps : List ℕ) (k : Contest) (moves replies : List ℕ) → (contested l ps k moves replies).postings ≡ ps
unfolding outcome step accepted postings_after refused
contest_postings l ps k moves replies = contest_by l ps k moves replies (λ _ left. left.postings ≡ ps) (go (eqb n 0)) (λ _. refl)
  where
    n : ℕ
    n = number (sound_both l ps) l ps [] (displacing k)

    go : (t : Bool) → (pick t (accepted l ps [] (displacing k) (kind_after (hours l) l [] (displacing k))) (refused l ps n)).postings ≡ ps
    go true = refl
    go false = refl

-- a sound ledger and sound postings stay sound
pub contest_sound : (l ps : List ℕ) (k : Contest) (moves replies : List ℕ) → sound_both l ps ≡ true → sound_both (contested l ps k moves replies).ledger (contested l ps k moves replies).postings ≡ true
unfolding outcome
contest_sound l ps k moves replies s =
    contest_by l ps k moves replies (λ _ left. sound_both left.ledger left.postings ≡ true) (sound_step l ps [] (displacing k) s) (λ _. s)

-- ---- where the displacement would be accepted
module _ {l ps : List ℕ} {k : Contest} (D : Displaceable l ps k) where
  -- its number is 0
  number_none : number (sound_both l ps) l ps [] (displacing k) ≡ 0
  unfolding outcome step accepted answered acceptance refused refusal
  number_none = go (eqb n 0) refl D.accepts
    where
      n : ℕ
      n = number (sound_both l ps) l ps [] (displacing k)

      go : (t : Bool) → eqb n 0 ≡ t → (pick t (accepted l ps [] (displacing k) (kind_after (hours l) l [] (displacing k))) (refused l ps n)).answer.number ≡ 0 → n ≡ 0
      go true q e = eqb-true _ _ q
      go false q e = e

  -- so of the checks before the moves that of the greatest terms is left
  contest_number_is : contest_number l ps k ≡ (bad_greatest (hours l) l k gives 25 else 0)
  unfolding contest_number contest_checks number sound_number kind_number
  contest_number_is =
      let c = or_else_none (common_number (sound_both l ps) (displacing k)) _ number_none in
      let s = or_else_none (seller_number (hours l) l [] (displacing k)) _ c.1 in
      rw (c.0, s.0, D.is_firm)

  by_ending : (moves replies : List ℕ) → contested l ps k moves replies ≡ pick (bad_greatest (hours l) l k) (refused l ps 25) (ended l ps k (ending (hours l) l k moves replies))
  unfolding contested
  by_ending moves replies = rw contest_number_is (go (bad_greatest (hours l) l k))
    where
      end : Outcome
      end = ended l ps k (ending (hours l) l k moves replies)

      go : (b : Bool) → pick (eqb (b gives 25 else 0) 0) end (refused l ps (b gives 25 else 0)) ≡ pick b (refused l ps 25) end
      go true = refl
      go false = refl

-- ---- who can force what
-- the holder matches whatever is named; the challenger names one term
matching : Strategy
matching seen = 1

naming : ℕ → Strategy
naming term seen = term

-- a term within the challenger's greatest is within the holder's, where that is no less
no_bad_match : (c h last move : ℕ) → c ≤ h → bad_term c last move ≡ false → bad_match h move ≡ false
unfolding bad_term bad_match
no_bad_match c h last move le e = le-ltb h move (omega (arith, le, ltb-false c move (or_none (ltb c move) _ e).0))

matched_ends : (l ps : List ℕ) (k : Contest) (c h : ℕ) → c ≤ h → (last : ℕ) (seen moves : List ℕ)
    → ended l ps k (play c h last moves (replies_to matching seen moves)) ≡ pick (rises c last moves) (row_kept l ps k) (refused l ps 25)
unfolding ended play replied replies_to rises matching
matched_ends l ps k c h le last seen [] = refl
matched_ends l ps k c h le last seen (move ∷ moves) = go (stops move) (bad_term c last move) (bad_match h move) refl refl (matched_ends l ps k c h le move (move ∷ seen) moves)
  where
    rest : Ending
    rest = play c h move moves (replies_to matching (move ∷ seen) moves)

    go : (a b d : Bool) → bad_term c last move ≡ b → bad_match h move ≡ d → ended l ps k rest ≡ pick (rises c move moves) (row_kept l ps k) (refused l ps 25)
        → ended l ps k (pick a Kept (pick b Refused (pick d Refused rest))) ≡ pick (a || (not b && rises c move moves)) (row_kept l ps k) (refused l ps 25)
    go true b d p q i = refl
    go false true d p q i = refl
    go false false true p q i = cc (no_bad_match c h last move le p)
    go false false false p q i = i

-- a holder that answers the greatest term and makes no bad move yields
named_takes : (c h last : ℕ) → h < c → last ≤ h → (replies : List ℕ) → answers_each h (moves_against (naming c) [] replies) replies ≡ true
    → play c h last (moves_against (naming c) [] replies) replies ≡ Lost
unfolding play replied moves_against answers_each naming bad_term bad_match
named_takes c h last lt le [] e = absurd (omega (arith, lt, eqb-true c 0 e))
named_takes c h last lt le (reply ∷ replies) e = go (yields reply) e
  where
    none : eqb c 0 ≡ false
    none = ne_eqb c 0 (λ z. omega (arith, z, lt))

    go : (y : Bool) → (eqb c 0 || (y || (not (ltb h c) && answers_each h (moves_against (naming c) (reply ∷ []) replies) replies))) ≡ true
        → pick (eqb c 0) Kept (pick (ltb c c || leb c last) Refused (pick y Lost (pick (ltb h c) Refused (play c h c (moves_against (naming c) (reply ∷ []) replies) replies)))) ≡ Lost
    go true e = rw (none, le-ltb c c (omega arith), lt-leb c last (omega (arith, lt, le)))
    go false e = let f = rw (none, lt-ltb h c lt) at e in cc

-- no play goes on for ever: a challenger that neither stops nor is refused names a longer term each time
pub plays_end : (c last : ℕ) (moves : List ℕ) → rises c last moves ≡ true → every (λ move. not (stops move)) moves ≡ true → length moves ≤ c - last
unfolding rises bad_term every
plays_end c last [] e f = omega arith
plays_end c last (move ∷ moves) e f =
    let none : stops move ≡ false = not-true _ (and_left _ _ f) in
    let g : (not (ltb c move || leb move last) && rises c move moves) ≡ true = rw none at e in
    let h = or_none (ltb c move) _ (not-true _ (and_left _ _ g)) in
    omega (arith, ltb-false c move h.0, leb-false move last h.1, plays_end c move moves (and_right (not (ltb c move || leb move last)) _ g) (and_right (not (stops move)) _ f))

-- the holder's greatest term is at least its present one
present_within : (H : ℕ) (l : List ℕ) (k : Contest) → bad_greatest H l k ≡ false → present H l k ≤ k.holder
unfolding bad_greatest
present_within H l k e = ltb-false _ _ (or_none (not (k.holder is_from 1 to H)) _ (or_none (not (k.challenger is_from 1 to H)) _ e).1).1

pub holder_keeps : HolderKeeps
unfolding ending
holder_keeps l ps k D le = (matching, λ moves. by_ending D moves (replies_to matching [] moves) ∙ go (bad_greatest (hours l) l k) moves)
  where
    go : (b : Bool) (moves : List ℕ)
        → pick b (refused l ps 25) (ended l ps k (play k.challenger k.holder (present (hours l) l k) moves (replies_to matching [] moves)))
        ≡ pick (not b && rises k.challenger (present (hours l) l k) moves) (row_kept l ps k) (refused l ps 25)
    go true moves = refl
    go false moves = matched_ends l ps k k.challenger k.holder le (present (hours l) l k) [] moves

pub challenger_takes : ChallengerTakes
unfolding ending ended
challenger_takes l ps k D good lt = (naming k.challenger, takes)
  where
    against : List ℕ → List ℕ
    against replies = moves_against (naming k.challenger) [] replies

    takes : (replies : List ℕ) → answers_each k.holder (moves_against (naming k.challenger) [] replies) replies ≡ true
        → contested l ps k (moves_against (naming k.challenger) [] replies) replies ≡ outcome l ps [] (displacing k)
    takes replies e =
        by_ending D (against replies) replies
        ∙ ap (λ (b : Bool). pick b (refused l ps 25) (ended l ps k (ending (hours l) l k (against replies) replies))) good
        ∙ ap (λ (z : Ending). ended l ps k z) (named_takes k.challenger k.holder (present (hours l) l k) lt (present_within (hours l) l k good) replies e)
