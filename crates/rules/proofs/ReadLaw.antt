-- THE READ LAW: the number and the answer of an action that is neither a submission, a posting nor a clock change
-- depend on the head, the rows that it reaches, the words lent to it, the postings, and the use that it leaves of its
-- row's path and of its related row's.
use mathlib.Core.Path.{◌≡◌, refl, sym, ap, ◌∙◌}
use mathlib.Core.Logic.{◌≢◌}
use mathlib.Core.Bool.{Bool, true, false, ◌&&◌, ◌||◌, not}
use mathlib.Core.List.{List}
use Prim.Native.Nat.{ℕ, ◌<◌}
use native.Mathlib.Omega.{arith}
use borrow.Author.Tests.{eqb-true, ne_eqb, not-true, not-false}
use lib.Dec.{eqb, leb, lit<}
use Rattle.words.specs.Lists.{total, all_below}
use Rattle.words.proofs.Laws.{all_cong, all_at}
use Rattle.rules.specs.Pick.{pick, ◌only_if◌, ◌is_from◌to◌}
use Rattle.rules.specs.Layout.{hours, used, issued, row, reqtype, status, path, related_row, available}
use Rattle.rules.specs.Sound.{original}
use Rattle.rules.specs.Moves.{confirmed_or_annulled}
use Rattle.rules.specs.Megawatts.{megawatts_within, carries_over}
use Rattle.rules.specs.Checks.{named, named_row}
use Rattle.rules.specs.Paths.{posted_in, use_of, over_posted, over_at}
use Rattle.rules.specs.Act.{kind_number, kind_after, postings_after, common_number, subject, status_before, over_use, use_number, last_number, sound_number, number, refusal, moved_by, megawatt_hours, acceptance, answered, refused, accepted, step}
use Rattle.rules.specs.Parallel.{Plain}
use Rattle.rules.specs.declared.Action.{Action}
use Rattle.rules.specs.declared.Answer.{Answer}
use Rattle.rules.proofs.Picks.{and_cong}
use Rattle.rules.proofs.SoundFacts.{SoundLedger}
use Rattle.rules.proofs.Formed.{formed}
use Rattle.rules.proofs.Kept.{same_self}
use Rattle.rules.proofs.Over.{sound_carries}
use Rattle.rules.proofs.Soundness.{number_passed}
use Rattle.rules.proofs.Tests.{use_named}
use Rattle.rules.proofs.Wrote.{Agree, Frame, Wrote, frame, agree, turn}
use Rattle.rules.proofs.Reach.{Reach, same_row, same_above, same_kind}
use Rattle.rules.proofs.Local.{kind_wrote}
use Rattle.rules.proofs.FrameLaw.{issued_used, unnamed_is_4, passed_is_named}

-- ---- the answer of an action that names its row, of that row before and after
unfoldable says_of : ℕ → List ℕ → Action → List ℕ → List ℕ → Answer
says_of H w a r q =
    pick (eqb a.kind 7 || eqb a.kind 8) (refusal 0)
    (record { number = 0; reference = a.reference; before = status r; after = status q; moved = moved_by H w a (status r) (status q) (total (available H r)) q })

says_of_lem : (H : ℕ) (l w : List ℕ) (a : Action) (next : List ℕ) → a.kind ≢ 1 → answered H l w a next ≡ says_of H w a (named_row H l a) (row H next (named a))
unfolding answered acceptance megawatt_hours subject status_before says_of
says_of_lem H l w a next n1 = simp (ne_eqb a.kind 1 n1)

-- a group of checks, and another where it gives 0
or_else_cong : {i i' j j' : ℕ} → i ≡ i' → (i ≡ 0 → j ≡ j') → pick (eqb i 0) j i ≡ pick (eqb i' 0) j' i'
or_else_cong {i} {i'} {j} {j'} e f = go (eqb i 0) refl ∙ ap (λ (x : ℕ). pick (eqb x 0) j' x) e
  where
    go : (b : Bool) → eqb i 0 ≡ b → pick b j i ≡ pick b j' i
    go true q = f (eqb-true i 0 q)
    go false q = refl

same_issued : (l m : List ℕ) (r : ℕ) → used l ≡ used m → {b : Bool} → issued l r ≡ b → issued m r ≡ b
unfolding issued
same_issued l m r u e = ap (λ (x : ℕ). r is_from 1 to x) (sym u) ∙ e

-- a row of a sound ledger carries nothing over
row_within : {l : List ℕ} → SoundLedger l → (k : ℕ) → k < used l → megawatts_within (hours l) (row (hours l) l k) ≡ true
unfolding carries_over
row_within {l} s k lt = all_at (λ n. megawatts_within (hours l) (row (hours l) l n)) (used l) k (not-false _ (sound_carries s)) lt

-- the use of path x is the same in every hour; so it is over the posting alike
abbrev pub SameUse : ℕ → List ℕ → List ℕ → ℕ → Type 0
SameUse H next next' x = (h : ℕ) → h < H → use_of H next x h ≡ use_of H next' x h

same_over : (H : ℕ) (next next' ps : List ℕ) (x : ℕ) → SameUse H next next' x → over_posted H next ps x ≡ over_posted H next' ps x
unfolding over_posted
same_over H next next' ps x f = ap not (all_cong _ _ H (λ h lt. ap (λ (u : ℕ). leb u (posted_in H ps x h)) (f h lt)))

-- of the path of row n, and of its related row's
pub record SameUses (H : ℕ) (l : List ℕ) (n : ℕ) (next next' : List ℕ) : Type 0 where
  pub own : SameUse H next next' (path (row H l n))
  pub above : original (reqtype (row H l n)) ≡ false → SameUse H next next' (path (row H l (related_row H l n)))

-- ---- two sound ledgers that agree where the action reaches
module _ {K : ℕ → Bool} {R : ℕ} {l m : List ℕ} (s : SoundLedger l) (t : SoundLedger m) (G : Agree K R (hours l) l m)
    (a : Action) (plain : Plain a) (reach : issued l a.reference ≡ true → Reach K R (hours l) l (named a)) (w : List ℕ) where
  abbrev H : ℕ
  H = hours l

  abbrev n : ℕ
  n = named a

  abbrev next : List ℕ
  next = kind_after H l w a

  abbrev next' : List ℕ
  next' = kind_after H m w a

  pub same_hours : hours m ≡ hours l
  same_hours = sym (G.head 1 (lit< tt))

  -- the checks of its kind
  same_checks : common_number true a ≡ 0 → kind_number H l w a ≡ kind_number H m w a
  same_checks c = go (issued l a.reference) refl
    where
      go : (b : Bool) → issued l a.reference ≡ b → kind_number H l w a ≡ kind_number H m w a
      go true e = same_kind w a plain.submission G (reach e)
      go false e = unnamed_is_4 a plain c H l w e ∙ sym (unnamed_is_4 a plain c H m w (same_issued l m a.reference (G.head 6 (lit< tt)) e))

  -- passed: the same is written
  module _ (i : issued l a.reference ≡ true) (e : kind_number H l w a ≡ 0) where
    pub wrote : Wrote K R H l m next next'
    wrote = kind_wrote w a G (reach i) (same_self (formed s) (issued_used l a.reference i)) plain.submission plain.clock e

    N : Agree K R H next next'
    N = agree (λ k q. q) G wrote

    pub first_frame : Frame K R H l next
    first_frame = frame G.first wrote

    pub second_frame : Frame K R H m next'
    second_frame = frame G.second (turn G wrote)

    -- the check that is judged last: a row that is not reached carries nothing over
    same_carries : carries_over H next ≡ carries_over H next'
    unfolding carries_over
    same_carries =
        ap not
        (all_cong _ _ (used next) (λ k lt. go k lt (K k) refl)
        ∙ ap (λ (u : ℕ). all_below u (λ k. megawatts_within H (row H next' k))) (N.head 6 (lit< tt)))
      where
        go : (k : ℕ) → k < used next → (b : Bool) → K k ≡ b → megawatts_within H (row H next k) ≡ megawatts_within H (row H next' k)
        go k lt true q = ap (megawatts_within H) (N.rows k q)
        go k lt false q =
            ap (megawatts_within H) (first_frame.other k q)
            ∙ row_within s k (omega (arith, lt, first_frame.head 6 (lit< tt)))
            ∙ sym (ap (megawatts_within H) (second_frame.other k q)
            ∙ ap (λ (h : ℕ). megawatts_within h (row h m k)) (sym same_hours)
            ∙ row_within t k (omega (arith, lt, first_frame.head 6 (lit< tt), G.head 6 (lit< tt))))

    pub same_answer : answered H l w a next ≡ answered H m w a next'
    same_answer =
        says_of_lem H l w a next plain.submission
        ∙ ap (λ (r : List ℕ). says_of H w a r (row H next n)) (same_row G (reach i))
        ∙ ap (λ (r : List ℕ). says_of H w a (row H m n) r) (N.rows n (reach i).own)
        ∙ sym (says_of_lem H m w a next' plain.submission)

    -- 22, where use is the same
    same_at : SameUses H l n next next' → (ps : List ℕ) → over_at H l n next ps ≡ over_at H m n next' ps
    unfolding over_at
    same_at U ps =
        ap (λ (b : Bool). b || not (original (reqtype (row H l n))) && over_posted H next ps (path (row H l (related_row H l n))))
        (same_over H next next' ps (path (row H l n)) U.own ∙ ap (λ (r : List ℕ). over_posted H next' ps (path r)) (same_row G (reach i)))
        ∙ ap (λ (b : Bool). over_posted H next' ps (path (row H m n)) || b)
        (and_cong (not (original (reqtype (row H l n)))) (λ o.
        let d = not-true (original (reqtype (row H l n))) o in
        same_over H next next' ps (path (row H l (related_row H l n))) (U.above d) ∙ ap (λ (r : List ℕ). over_posted H next' ps (path r)) (same_above G (reach i) d))
        ∙ ap (λ (r : List ℕ). not (original (reqtype r)) && over_posted H next' ps (path (row H m (related_row H m n)))) (same_row G (reach i)))

    same_uses : SameUses H l n next next' → (ps : List ℕ) → over_use H l a next ps ≡ over_use H m a next' ps
    same_uses U ps =
        use_named H l a next ps plain.submission plain.posting
        ∙ ap (λ (r : List ℕ). confirmed_or_annulled (status r) (status (row H next n)) && over_at H l n next ps) (same_row G (reach i))
        ∙ ap (λ (r : List ℕ). confirmed_or_annulled (status (row H m n)) (status r) && over_at H l n next ps) (N.rows n (reach i).own)
        ∙ ap (λ (b : Bool). confirmed_or_annulled (status (row H m n)) (status (row H next' n)) && b) (same_at U ps)
        ∙ sym (use_named H m a next' ps plain.submission plain.posting)

  -- ---- the law, of the number and of the answer
  module _ (U : issued l a.reference ≡ true → kind_number H l w a ≡ 0 → SameUses H l n next next') (ps : List ℕ) where
    same_sound : common_number true a ≡ 0 → sound_number H l ps w a ≡ sound_number H m ps w a
    unfolding sound_number use_number last_number
    same_sound c =
        or_else_cong (same_checks c)
        (λ e.
        let i = passed_is_named a plain c H l w e in
        or_else_cong (ap (λ (b : Bool). 22 only_if b) (same_uses i e (U i e) (postings_after H ps w a)))
        (λ u. ap (λ (b : Bool). 1 only_if b) (same_carries i e)))

    pub same_number : number true l ps w a ≡ number true m ps w a
    unfolding number
    same_number = or_else_cong refl (λ c. same_sound c ∙ ap (λ (h : ℕ). sound_number h m ps w a) (sym same_hours))

    pub read_law : (step true l ps w a).answer ≡ (step true m ps w a).answer
    unfolding step accepted refused
    read_law =
        go (eqb (number true l ps w a) 0) refl
        ∙ ap (λ (x : ℕ). (pick (eqb x 0) (accepted m ps w a (kind_after (hours m) m w a)) (refused m ps x)).answer) same_number
      where
        go : (b : Bool) → eqb (number true l ps w a) 0 ≡ b
            → (pick b (accepted l ps w a next) (refused l ps (number true l ps w a))).answer ≡ (pick b (accepted m ps w a (kind_after (hours m) m w a)) (refused m ps (number true l ps w a))).answer
        go true e =
            let p = number_passed l ps w a (eqb-true _ _ e) in
            same_answer (passed_is_named a plain p.common H l w p.kind) p.kind
            ∙ ap (λ (h : ℕ). answered h m w a (kind_after h m w a)) (sym same_hours)
        go false e = refl
