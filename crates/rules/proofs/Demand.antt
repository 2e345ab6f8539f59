-- DEMAND 3: every list of calls from a fresh ledger balances. PATH LIMITS: and no use of a path exceeds its posting.
use mathlib.Core.Path.{◌≡◌, refl, sym, ap, subst, ◌∙◌}
use mathlib.Core.Bool.{Bool, true, false, ◌&&◌, ◌||◌}
use mathlib.Core.List.{List}
use Prim.Native.Nat.{ℕ}
use native.Mathlib.Decide.{ℕ_discrete}
use native.Mathlib.Omega.{arith}
use borrow.Author.Tests.{eqb-true, eq-eqb}
use lib.Dec.{eqb}
use Rattle.rules.specs.Pick.{pick}
use Rattle.rules.specs.Layout.{hours}
use Rattle.rules.specs.Paths.{sound_postings, posted_in, unposted, over_posted}
use Rattle.rules.specs.Post.{posted}
use Rattle.rules.specs.Calls.{Run, Call, run_calls}
use Rattle.rules.specs.Create.{good_numbers, fresh}
use Rattle.rules.specs.Act.{kind_after, postings_after, common_number, over_use, number, refusal, acceptance, answered, Outcome, refused, accepted, step, sound_both, outcome}
use Rattle.rules.specs.Tally.{Tally, counts, feed}
use Rattle.rules.specs.declared.Action.{Action}
use Rattle.rules.proofs.View.{out_of, red_of}
use Rattle.rules.proofs.SoundFacts.{facts_sound}
use Rattle.rules.proofs.Passed.{PostPassed, post_passed}
use Rattle.rules.proofs.Posts.{SoundPostings, postings_facts, posted_other}
use Rattle.rules.proofs.Tests.{use_column, within_posting, tests, over_posting, over_named}
use Rattle.rules.proofs.Soundness.{NumberPassed, number_passed, head_next, number_of, after_of, postings_stay}
use Rattle.rules.proofs.TallyLaws.{feed_none}
use Rattle.rules.proofs.Good.{Good}
use Rattle.column.proofs.Uses.{post_within}
use Rattle.rules.proofs.Keeping.{good_within}
use Rattle.rules.proofs.KindGood.{Tests, kind_good}
use Rattle.rules.proofs.FreshGood.{fresh_good}
use Rattle.rules.proofs.Lists.{calls_keep}
use Rattle.rules.proofs.Balanced.{balanced}
use Rattle.rules.specs.Balance.{Demand3}
use Rattle.rules.specs.Limits.{UseWithin, PathLimits}
use Rattle.rules.specs.Tally.{no_entries, tally, tally_from}

-- what is posted, by hour and path
abbrev pub bound : ℕ → List ℕ → ℕ → ℕ → ℕ
bound H ps h x = posted_in H ps x h

-- ---- an accepted action
module _ {l ps : List ℕ} {t : Tally} (G : Good (bound (hours l) ps) l t) (S : SoundPostings (hours l) ps) (w : List ℕ) (a : Action) (e : number true l ps w a ≡ 0) where
  abbrev H : ℕ
  H = hours l

  N : NumberPassed l ps w a
  N = number_passed l ps w a e

  tested : Tests G w a N.common N.kind (kind_after H l w a)
  tested n1 n8 i r h hlt out out' red red' =
      let f = subst (λ (x : List ℕ). over_use H l a (kind_after H l w a) x ≡ false) (postings_stay H ps w a n8) N.paths in
      tests G.sound (omega (arith, i.0, i.1)) (kind_after H l w a) ps (over_named H l a (kind_after H l w a) ps f n1 n8 r) h hlt out out' red red'

  -- a posting leaves the ledger as it is; the path posted is tested, the others' postings stay, and the answer is not
  -- counted
  posts : a.kind ≡ 8 → Good (bound H (postings_after H ps w a)) (kind_after H l w a) (feed a w (answered H l w a (kind_after H l w a)) t)
  unfolding postings_after answered refusal counts
  posts q =
      subst (λ (x : List ℕ). Good (bound H x) (kind_after H l w a) (feed a w (answered H l w a (kind_after H l w a)) t)) (sym is_posted)
      (subst (λ (x : List ℕ). Good (bound H (posted H ps w a)) x (feed a w (answered H l w a x) t)) (sym (after_of H l w a q))
      (subst (λ (u : Tally). Good (bound H (posted H ps w a)) l u) (sym (feed_none a w _ t none))
      (good_within G (λ h hlt.
      post_within a.path (λ y least ne. posted_other S P y h least hlt ne)
      (omega (arith, use_column H h l (out_of t h) (red_of t h) a.path, within_posting H l (posted H ps w a) a.path h over hlt)) (G.good.columns h hlt).within))))
    where
      is_posted : postings_after H ps w a ≡ posted H ps w a
      is_posted = ap (λ (b : Bool). pick b (posted H ps w a) ps) (eq-eqb a.kind 8 q)

      P : PostPassed H w a
      P = post_passed H l w a (sym (number_of H l w a q) ∙ N.kind)

      over : over_posted H l (posted H ps w a) a.path ≡ false
      over =
          over_posting H l a l (posted H ps w a)
          (subst (λ (x : List ℕ). over_use H l a l x ≡ false) is_posted (subst (λ (x : List ℕ). over_use H l a x (postings_after H ps w a) ≡ false) (after_of H l w a q) N.paths)) q

      none : counts (answered H l w a l) ≡ false
      none = ap (λ (k : ℕ). counts (pick (eqb k 7 || eqb k 8) (refusal 0) (acceptance H l w a l))) q

  accepted_good : Good (bound H (postings_after H ps w a)) (kind_after H l w a) (feed a w (answered H l w a (kind_after H l w a)) t)
  accepted_good = go (ℕ_discrete a.kind 8)
    where
      go : Dec (a.kind ≡ 8) → Good (bound H (postings_after H ps w a)) (kind_after H l w a) (feed a w (answered H l w a (kind_after H l w a)) t)
      go (yes q) = posts q
      go (no n8) =
          subst (λ (x : List ℕ). Good (bound H x) (kind_after H l w a) (feed a w (answered H l w a (kind_after H l w a)) t)) (sym (postings_stay H ps w a n8))
          (kind_good G w a N.common N.kind tested n8)

-- ---- every action, accepted or refused
none_counted : (n : ℕ) → eqb n 0 ≡ false → counts (refusal n) ≡ false
unfolding counts refusal
none_counted n q = ap (λ (b : Bool). b && false) q

-- what every list keeps
abbrev Kept-by : List ℕ → List ℕ → Tally → Type 0
Kept-by l ps t = Good (bound (hours l) ps) l t

-- of an outcome
abbrev Keeps : List ℕ → Action → Tally → Outcome → Type 0
Keeps w a t o = Kept-by o.ledger o.postings (feed a w o.answer t)

module _ {l : List ℕ} (ps : List ℕ) {t : Tally} (G : Kept-by l ps t) (w : List ℕ) (a : Action) where
  refused_good : (n : ℕ) → eqb n 0 ≡ false → Keeps w a t (refused l ps n)
  unfolding refused
  refused_good n q = subst (λ (u : Tally). Good (bound (hours l) ps) l u) (sym (feed_none a w (refusal n) t (none_counted n q))) G

  -- told that the ledger and the postings are sound
  sound_good : SoundPostings (hours l) ps → Keeps w a t (step true l ps w a)
  unfolding step accepted
  sound_good S = go (eqb (number true l ps w a) 0) refl
    where
      go : (b : Bool) → eqb (number true l ps w a) 0 ≡ b → Keeps w a t (pick b (accepted l ps w a (kind_after (hours l) l w a)) (refused l ps (number true l ps w a)))
      go true q =
          let e : number true l ps w a ≡ 0 = eqb-true _ _ q in
          subst (λ (H : ℕ). Good (bound H (postings_after (hours l) ps w a)) (kind_after (hours l) l w a) (feed a w (answered (hours l) l w a (kind_after (hours l) l w a)) t))
          (sym (head_next G.sound ps w a e).hours) (accepted_good G S w a e)
      go false q = refused_good (number true l ps w a) q

  -- or that they are not
  unsound_good : Keeps w a t (step false l ps w a)
  unfolding step number common_number
  unsound_good = refused_good 1 refl

  told_good : (b : Bool) → sound_postings (hours l) ps ≡ b → Keeps w a t (step b l ps w a)
  told_good true q = sound_good (postings_facts (hours l) ps q)
  told_good false q = unsound_good

action_good : (l ps w : List ℕ) (a : Action) (t : Tally) → Kept-by l ps t → Keeps w a t (outcome l ps w a)
unfolding outcome sound_both
action_good l ps w a t G =
    subst (λ (b : Bool). Keeps w a t (step (b && sound_postings (hours l) ps) l ps w a)) (sym (facts_sound G.sound))
    (told_good ps G w a (sound_postings (hours l) ps) refl)

-- ---- every list
module _ (R H provider window base : ℕ) (good : good_numbers R H provider window base ≡ true) (ps : List ℕ) (calls : List Call) where
  abbrev run : Run
  run = run_calls (fresh R H provider window base) ps calls

  pub calls_good : Good (bound (hours run.ledger) run.postings) run.ledger (tally_from no_entries run.done)
  calls_good = calls_keep Kept-by action_good calls (fresh R H provider window base) ps no_entries (fresh_good R H provider window base good)

pub balance : Demand3
unfolding tally
balance R H provider window base good ps calls = balanced (calls_good R H provider window base good ps calls)

-- PATH LIMITS: use never exceeds the posting, whatever was posted before the first call
pub use_within : (R H provider window base : ℕ) → good_numbers R H provider window base ≡ true → (ps : List ℕ) (calls : List Call) → UseWithin (run_calls (fresh R H provider window base) ps calls)
use_within R H provider window base good ps calls x h least most lt =
    let run = run_calls (fresh R H provider window base) ps calls in
    let t = tally_from no_entries run.done in
    omega (
      arith,
      use_column (hours run.ledger) h run.ledger (out_of t h) (red_of t h) x,
      ((calls_good R H provider window base good ps calls).good.columns h lt).within.use_of_lem x least,
    )

pub path_limits : PathLimits
path_limits R H provider window base good calls = use_within R H provider window base good (unposted H) calls
