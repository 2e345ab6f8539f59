-- What every action rests on: the checks by its kind, the last check, an accepted action and its answer.
use mathlib.Core.Path.{◌≡◌, refl, sym, ap, subst, ◌∙◌}
use mathlib.Core.Logic.{◌≢◌, ◌⊎◌, ⊎_elim}
use mathlib.Core.Bool.{Bool, true, false, ◌&&◌, ◌||◌, not}
use mathlib.Core.List.{List}
use Prim.Native.Nat.{ℕ, ◌+◌, ◌-◌, ◌*◌, ◌≤◌, ◌<◌}
use native.Mathlib.Nat.{mul-le-mul_right}
use native.Mathlib.Omega.{arith}
use lib.Dec.{eqb}
use lib.ListN.{length}
use borrow.Author.Tests.{eqb-true, eqb-false, eq-eqb, ne_eqb}
use Rattle.std.specs.Prelude.{Result, Err}
use Rattle.std.proofs.lemmas.Bool.{true≢false}
use Rattle.std.specs.Result.{IsErrAnd}
use Rattle.std.proofs.lemmas.Result.{err_from_is_err_and}
use Rattle.words.specs.Lists.{total}
use Rattle.words.proofs.Laws.{part_length, total_most}
use Rattle.rules.specs.Pick.{pick, ◌is_from◌to◌}
use Rattle.rules.specs.Numbers.{profiles, most_kind, most_hours, most_megawatts, ACCEPTED, CR_ACCEPTED, CONFIRMED, DISPLACED, ANNULLED}
use Rattle.rules.specs.Layout.{rows, hours, used, row_of, row, status, span, granted, available}
use Rattle.rules.specs.Megawatts.{carries_over}
use Rattle.rules.specs.Checks.{named, named_row, profile}
use Rattle.rules.specs.Submit.{submit_number, submit_after}
use Rattle.rules.specs.SellerStatus.{seller_number, seller_after}
use Rattle.rules.specs.CustomerStatus.{customer_number, customer_after}
use Rattle.rules.specs.Approve.{approve_number, approve_after}
use Rattle.rules.specs.Reduce.{reduce_number, reduce_after}
use Rattle.rules.specs.Lapse.{lapse_number, lapse_after}
use Rattle.rules.specs.Clock.{clock_number, clock_after}
use Rattle.rules.specs.Post.{post_number, posted}
use Rattle.rules.specs.Moves.{confirmed_or_annulled}
use Rattle.rules.specs.Act.{by_kind, kind_number, kind_after, postings_after, common_number, sound_both, number, refusal, subject, status_before, moved_between, moved_by, megawatt_hours, acceptance, answered, Outcome, refused, accepted, step}
use Rattle.rules.specs.Kinds.{kind_code}
use Rattle.rules.specs.Refusals.{number_of}
use Rattle.rules.specs.declared.refusal.Refusal.{Refusal}
use Rattle.rules.specs.declared.kind.Kind.{Kind}
use Rattle.rules.specs.declared.kind.Kind.TheVariants.{Submit, SellerStatus, CustomerStatus, Approve, Reduce, Lapse, Clock, Post}
use Rattle.rules.specs.declared.Action.{Action}
use Rattle.rules.specs.declared.Answer.{Answer}
use Rattle.rules.proofs.Picks.{takes, keeps}
use Rattle.rules.proofs.SoundFacts.{sound_facts}
use Rattle.rules.proofs.Formed.{formed}
use Rattle.rules.proofs.Passed.{PostPassed, or_else_none, submit_passed, seller_status_passed, customer_status_passed, approve_passed, reduce_passed, lapse_passed, post_passed}
use Rattle.rules.proofs.Submitted.{submit_opens}
use Rattle.rules.proofs.Kept.{Next}
use Rattle.rules.proofs.Over.{over_posting}
use Rattle.rules.proofs.Posts.{postings_facts}
use Rattle.rules.proofs.Soundness.{common_sound, common_passed, kind_passed, kind_next, number_passed, left_sound, both_facts}
use Rattle.layout.specs.SoundAt.{SoundAt}
use Rattle.paths.specs.Exceeding.{Postings}
use Rattle.paths.proofs.Changed.{span_most}
use Rattle.layout.proofs.SoundAt.{sized_at}
use Rattle.layout.proofs.Placed.{own_words, span_length}
use Rattle.layout.proofs.Placed.{placed_at}
use Rattle.submission.proofs.Laws.{submit_over}
use Rattle.provider.specs.Waiting.{Waiting}
use Rattle.provider.proofs.Laws.{over_approve, over_clock, approve_waiting, lapse_waiting}
use Rattle.ledger.specs.Moving.{SmallProfile, Passes}
use Rattle.ledger.specs.declared.known.Known.{Known}

-- ---- the checks that the kind's own function asks for
module _ (H : ℕ) (l w : List ℕ) (a : Action) where
  abbrev number_by : ℕ → ℕ
  number_by k = by_kind k (submit_number H l w a) (seller_number H l w a) (customer_number H l w a) (approve_number H l a) (reduce_number H l w a) (lapse_number H l a) (clock_number l a) (post_number H l w a)

  abbrev pub after_by : ℕ → List ℕ
  after_by k = by_kind k (submit_after H l w a) (seller_after H l w a) (customer_after H l w a) (approve_after H l a) (reduce_after H l w a) (lapse_after H l a) (clock_after l a) l

  -- of the kind's number k
  pub number_is : {k : ℕ} → a.kind ≡ k → number_by k ≡ kind_number H l w a
  unfolding kind_number
  number_is e = sym (ap number_by e)

  pub after_is : {k : ℕ} → a.kind ≡ k → after_by k ≡ kind_after H l w a
  unfolding kind_after
  after_is e = sym (ap after_by e)

  module _ (z : kind_number H l w a ≡ 0) where
    pub submit_none : a.kind ≡ 1 → submit_number H l w a ≡ 0
    unfolding kind_number
    submit_none e = sym (ap number_by e) ∙ z

    pub seller_none : a.kind ≡ 2 → seller_number H l w a ≡ 0
    unfolding kind_number
    seller_none e = sym (ap number_by e) ∙ z

    pub customer_none : a.kind ≡ 3 → customer_number H l w a ≡ 0
    unfolding kind_number
    customer_none e = sym (ap number_by e) ∙ z

    pub approve_none : a.kind ≡ 4 → approve_number H l a ≡ 0
    unfolding kind_number
    approve_none e = sym (ap number_by e) ∙ z

    pub reduce_none : a.kind ≡ 5 → reduce_number H l w a ≡ 0
    unfolding kind_number
    reduce_none e = sym (ap number_by e) ∙ z

    pub lapse_none : a.kind ≡ 6 → lapse_number H l a ≡ 0
    unfolding kind_number
    lapse_none e = sym (ap number_by e) ∙ z

    pub post_none : a.kind ≡ 8 → post_number H l w a ≡ 0
    unfolding kind_number
    post_none e = sym (ap number_by e) ∙ z

    -- what their tests of 22 ask
    pub approve_waits : a.kind ≡ 4 → Waiting H l a ACCEPTED
    approve_waits e = approve_waiting H l a (approve_none e)

    pub lapse_waits : a.kind ≡ 6 → Waiting H l a CR_ACCEPTED
    lapse_waits e = lapse_waiting H l a (lapse_none e)

    pub post_asks : a.kind ≡ 8 → PostPassed H w a
    post_asks e = post_passed H l w a (post_none e)

  -- the last check, and what the action leaves
  pub seller_over : {b : Bool} → a.kind ≡ 2 → b ≡ carries_over H (seller_after H l w a) → b ≡ carries_over H (kind_after H l w a)
  unfolding kind_after
  seller_over e h = h ∙ ap (λ (k : ℕ). carries_over H (after_by k)) (sym e)

  pub customer_over : {b : Bool} → a.kind ≡ 3 → b ≡ carries_over H (customer_after H l w a) → b ≡ carries_over H (kind_after H l w a)
  unfolding kind_after
  customer_over e h = h ∙ ap (λ (k : ℕ). carries_over H (after_by k)) (sym e)

  pub reduce_over : {b : Bool} → a.kind ≡ 5 → b ≡ carries_over H (reduce_after H l w a) → b ≡ carries_over H (kind_after H l w a)
  unfolding kind_after
  reduce_over e h = h ∙ ap (λ (k : ℕ). carries_over H (after_by k)) (sym e)

  pub lapse_over : {b : Bool} → a.kind ≡ 6 → b ≡ carries_over H (lapse_after H l a) → b ≡ carries_over H (kind_after H l w a)
  unfolding kind_after
  lapse_over e h = h ∙ ap (λ (k : ℕ). carries_over H (after_by k)) (sym e)

  pub submit_after_lem : a.kind ≡ 1 → kind_after H l w a ≡ submit_after H l w a
  unfolding kind_after
  submit_after_lem e = ap after_by e

  module _ (z : carries_over H (kind_after H l w a) ≡ false) where
    pub seller_last : a.kind ≡ 2 → carries_over H (seller_after H l w a) ≡ false
    unfolding kind_after
    seller_last e = ap (λ (k : ℕ). carries_over H (after_by k)) (sym e) ∙ z

    pub customer_last : a.kind ≡ 3 → carries_over H (customer_after H l w a) ≡ false
    unfolding kind_after
    customer_last e = ap (λ (k : ℕ). carries_over H (after_by k)) (sym e) ∙ z

    pub reduce_last : a.kind ≡ 5 → carries_over H (reduce_after H l w a) ≡ false
    unfolding kind_after
    reduce_last e = ap (λ (k : ℕ). carries_over H (after_by k)) (sym e) ∙ z

    pub lapse_last : a.kind ≡ 6 → carries_over H (lapse_after H l a) ≡ false
    unfolding kind_after
    lapse_last e = ap (λ (k : ℕ). carries_over H (after_by k)) (sym e) ∙ z

-- a refusal that `?` passes on
pub passed_on : {A : Type 0} (r : Result A Refusal) (e : Refusal) {n : ℕ} → IsErrAnd r (λ x. x ≡ e) → number_of {A = A} (Err e) ≡ n → number_of r ≡ n
passed_on r e i q = let p = err_from_is_err_and r i in rw (p.1, p.2) q

-- by the cases of a sum, which stands first so that they are known
by_either : {A B C : Type 0} → A ⊎ B → (A → C) → (B → C) → C
by_either x f g = ⊎_elim f g x

-- ---- the number of a kind
pub coded : (k : Known) {kind : Kind} → k.kind ≡ kind → k.request.action.kind ≡ kind_code kind
coded k e = sym k.code ∙ ap kind_code e

-- of two numbers that a test tells apart
differs : (test : ℕ → Bool) {k n : ℕ} → test k ≡ true → test n ≡ false → k ≢ n
differs test t f e = true≢false (sym t ∙ ap test e ∙ f)

-- by kinds that a match names together
module _ (k : Known) where
  -- the kind's number meets a test that its code meets
  met : (test : ℕ → Bool) {kind : Kind} → test (kind_code kind) ≡ true → k.kind ≡ kind → test k.request.action.kind ≡ true
  met test t e = ap test (coded k e) ∙ t

  -- an action on a row that has a reference
  pub names_row : k.kind ≡ SellerStatus ⊎ (k.kind ≡ CustomerStatus ⊎ (k.kind ≡ Approve ⊎ (k.kind ≡ Reduce ⊎ k.kind ≡ Lapse)))
      → (k.request.action.kind ≢ 1) × (k.request.action.kind ≢ 7) × (k.request.action.kind ≢ 8)
  names_row x = (differs test t refl, differs test t refl, differs test t refl)
    where
      test : ℕ → Bool
      test n = n is_from 2 to 6

      t : test k.request.action.kind ≡ true
      t = by_either x (met test refl) (λ x. by_either x (met test refl) (λ x. by_either x (met test refl) (λ x. by_either x (met test refl) (met test refl))))

  -- one that carries no word over 100,000
  pub carries_none : k.kind ≡ Submit ⊎ (k.kind ≡ Approve ⊎ (k.kind ≡ Clock ⊎ k.kind ≡ Post))
      → (k.request.action.kind ≢ 2) × (k.request.action.kind ≢ 3) × (k.request.action.kind ≢ 5) × (k.request.action.kind ≢ 6)
  carries_none x = (differs test t refl, differs test t refl, differs test t refl, differs test t refl)
    where
      test : ℕ → Bool
      test n = not (eqb n 2 || (eqb n 3 || (eqb n 5 || eqb n 6)))

      t : test k.request.action.kind ≡ true
      t = by_either x (met test refl) (λ x. by_either x (met test refl) (λ x. by_either x (met test refl) (met test refl)))

  -- one that alters no use of a path
  pub uses_none : k.kind ≡ Submit ⊎ (k.kind ≡ Reduce ⊎ k.kind ≡ Clock)
      → (k.request.action.kind ≢ 2) × (k.request.action.kind ≢ 3) × (k.request.action.kind ≢ 4) × (k.request.action.kind ≢ 6) × (k.request.action.kind ≢ 8)
  uses_none x = (differs test t refl, differs test t refl, differs test t refl, differs test t refl, differs test t refl)
    where
      test : ℕ → Bool
      test n = eqb n 1 || (eqb n 5 || eqb n 7)

      t : test k.request.action.kind ≡ true
      t = by_either x (met test refl) (λ x. by_either x (met test refl) (met test refl))

pub code_in : (kind : Kind) → (kind_code kind is_from 1 to most_kind) ≡ true
code_in Submit = refl
code_in SellerStatus = refl
code_in CustomerStatus = refl
code_in Approve = refl
code_in Reduce = refl
code_in Lapse = refl
code_in Clock = refl
code_in Post = refl

pub is_reduce : (kind : Kind) → kind_code kind ≡ 5 → kind ≡ Reduce
is_reduce Submit e = absurd (omega arith)
is_reduce SellerStatus e = absurd (omega arith)
is_reduce CustomerStatus e = absurd (omega arith)
is_reduce Approve e = absurd (omega arith)
is_reduce Reduce e = refl
is_reduce Lapse e = absurd (omega arith)
is_reduce Clock e = absurd (omega arith)
is_reduce Post e = absurd (omega arith)

-- ---- of two kinds the one that is meant
one_of : {P : Type 0} (k j n m : ℕ) → (k ≡ j → n ≡ 0 → P) → (k ≢ j → m ≡ 0 → P) → pick (eqb k j) n m ≡ 0 → P
one_of {P} k j n m p q z = go (eqb k j) refl z
  where
    go : (b : Bool) → eqb k j ≡ b → pick b n m ≡ 0 → P
    go true e y = p (eqb-true k j e) y
    go false e y = q (eqb-false k j e) y

over_of : (H k j n m : ℕ) (x y : List ℕ) → (k ≡ j → n ≡ 0 → carries_over H x ≡ false) → (m ≡ 0 → carries_over H y ≡ false) → pick (eqb k j) n m ≡ 0 → carries_over H (pick (eqb k j) x y) ≡ false
over_of H k j n m x y p q z = go (eqb k j) refl z
  where
    go : (b : Bool) → eqb k j ≡ b → pick b n m ≡ 0 → carries_over H (pick b x y) ≡ false
    go true e o = p (eqb-true k j e) o
    go false e o = q o

-- a posting leaves the ledger as it is
over_post : {l : List ℕ} {R H : ℕ} → SoundAt l R H → carries_over H l ≡ false
over_post {l} s = subst (λ (x : ℕ). carries_over x l ≡ false) (sym s.hours) (over_posting s.sound)

-- only seller status, customer status, reduce and lapse may carry a word over 100,000
pub over_none : {l : List ℕ} {R H : ℕ} → SoundAt l R H → (w : List ℕ) (a : Action) → kind_number H l w a ≡ 0 → a.kind ≢ 2 → a.kind ≢ 3 → a.kind ≢ 5 → a.kind ≢ 6 → false ≡ carries_over H (kind_after H l w a)
unfolding kind_number kind_after
over_none {l} {R} {H} s w a z no2 no3 no5 no6 =
    sym
    (over_of H a.kind 1 _ _ _ _ (λ _ e. submit_over s w a e)
    (over_of H a.kind 2 _ _ _ _ (λ q _. absurd (no2 q))
    (over_of H a.kind 3 _ _ _ _ (λ q _. absurd (no3 q))
    (over_of H a.kind 4 _ _ _ _ (λ _ e. over_approve s a e)
    (over_of H a.kind 5 _ _ _ _ (λ q _. absurd (no5 q))
    (over_of H a.kind 6 _ _ _ _ (λ q _. absurd (no6 q))
    (over_of H a.kind 7 _ _ _ _ (λ _ _. over_clock s a) (λ _. over_post s))))))) z)

-- ---- a sound ledger, as its words say
pub both_at : (l ps : List ℕ) → sound_both l ps ≡ true → SoundAt l (rows l) (hours l) × Postings (hours l) ps
both_at l ps e =
    let f = both_facts l ps e in
    let s = sound_facts f.0 in
    (record { sound = s; rows = refl; hours = refl }, record { long = (postings_facts (hours l) ps f.1).long; hours = s.head.hours_most })

-- no check that every action has applies: the ledger and the postings are sound
module _ {r : ℕ} {b : Bool} (l ps : List ℕ) (a : Action) (is : r ≡ common_number b a) (none : r ≡ 0) (e : b ≡ sound_both l ps) where
  both_sound : sound_both l ps ≡ true
  both_sound = sym e ∙ common_sound b a (sym is ∙ none)

  pub none_posted : Postings (hours l) ps
  none_posted = (both_at l ps both_sound).1

-- ---- totals that a word holds
module _ {l : List ℕ} {R H : ℕ} (s : SoundAt l R H) {n : ℕ} (lt : n < used l) where
  pub span_small : (p : ℕ) → p < profiles → total (span H p (row H l n)) ≤ most_hours * most_megawatts
  span_small p plt =
      let q = placed_at s lt in
      let e = span_length q p plt in
      let W = own_words q in
      omega (
        arith,
        total_most most_megawatts (span H p (row H l n)) (span_most s lt p plt),
        mul-le-mul_right {m = length (span H p (row H l n))} {n = most_hours} most_megawatts (omega (arith, e, W.stops, (sized_at s).hours)),
      )

pub profile_small : {w : List ℕ} {a : Action} → SmallProfile w a → total (profile w a) ≤ most_hours * most_megawatts
unfolding profile
profile_small {w} {a} p =
    let e = part_length w a.offset a.length p.fits in
    omega (
      arith,
      total_most most_megawatts (profile w a) p.most,
      mul-le-mul_right {m = length (profile w a)} {n = most_hours} most_megawatts (omega (arith, e, p.counted)),
    )

-- ---- MW-hours moved, by the tests
module _ (H old new held : ℕ) (next : List ℕ) where
  pub confirmed_now : {v : ℕ} → old ≢ CONFIRMED → new ≡ CONFIRMED → v ≡ total (granted H next) → v ≡ moved_between H old new held next
  unfolding moved_between confirmed_or_annulled
  confirmed_now a b h = simp (ne_eqb old CONFIRMED a, eq-eqb new CONFIRMED b) h

  pub not_confirmed : old ≢ CONFIRMED → new ≢ CONFIRMED → 0 ≡ moved_between H old new held next
  unfolding moved_between confirmed_or_annulled
  not_confirmed a b = simp (ne_eqb old CONFIRMED a, ne_eqb new CONFIRMED b)

  pub annulled_now : {v : ℕ} → old ≡ CONFIRMED → new ≡ ANNULLED → v ≡ total (granted H next) → v ≡ moved_between H old new held next
  unfolding moved_between confirmed_or_annulled
  annulled_now a b h = simp (eq-eqb old CONFIRMED a, eq-eqb new ANNULLED b) h

  pub displaced_now : old ≡ CONFIRMED → new ≢ ANNULLED → new ≡ DISPLACED → held ≡ moved_between H old new held next
  unfolding moved_between confirmed_or_annulled
  displaced_now a b d = simp (eq-eqb old CONFIRMED a, ne_eqb new ANNULLED b, eq-eqb new DISPLACED d)

  pub stayed : old ≡ CONFIRMED → new ≢ ANNULLED → new ≢ DISPLACED → 0 ≡ moved_between H old new held next
  unfolding moved_between confirmed_or_annulled
  stayed a b d = simp (eq-eqb old CONFIRMED a, ne_eqb new ANNULLED b, ne_eqb new DISPLACED d)

  -- what was available is counted of a row that was CONFIRMED alone
  pub held_counts : moved_between H old new (pick (eqb old CONFIRMED) held 0) next ≡ moved_between H old new held next
  unfolding moved_between confirmed_or_annulled
  held_counts = go (eqb old CONFIRMED)
    where
      by : Bool → ℕ → ℕ
      by was held =
          pick (not was && eqb new CONFIRMED || was && eqb new ANNULLED) (total (granted H next)) (
          pick (was && eqb new DISPLACED) held
          0)

      go : (was : Bool) → by was (pick was held 0) ≡ by was held
      go true = refl
      go false = refl

-- ---- an action that is accepted
past : {k j : ℕ} → j ≤ k → k ≢ j → j + 1 ≤ k
past le ne = omega (arith, le, ne)

none_left : {k : ℕ} → k ≤ most_kind → most_kind < k → ⊥
none_left most least = omega (arith, most, least)

pub passes : (l ps w : List ℕ) (a : Action) → sound_both l ps ≡ true → number true l ps w a ≡ 0 → Passes l w (rows l) (hours l) a
passes l ps w a s e =
    let p = number_passed l ps w a e in
    record { sound = (both_at l ps s).0; common = p.common; kind = p.kind; last = p.last }

-- of the size that a sound ledger has
pub passes_of : (l ps w : List ℕ) (a : Action) {R H : ℕ} → SoundAt l R H → sound_both l ps ≡ true → number true l ps w a ≡ 0 → Passes l w R H a
passes_of l ps w a {R} {H} s b e =
    subst (λ (x : ℕ). Passes l w x H a) (sym s.rows) (subst (λ (x : ℕ). Passes l w (rows l) x a) (sym s.hours) (passes l ps w a b e))

module _ {l w : List ℕ} {R H : ℕ} {a : Action} (p : Passes l w R H a) where
  kind_at : kind_number (hours l) l w a ≡ 0
  kind_at = subst (λ (x : ℕ). kind_number x l w a ≡ 0) p.sound.hours p.kind

  last_at : carries_over (hours l) (kind_after (hours l) l w a) ≡ false
  last_at = subst (λ (x : ℕ). carries_over x (kind_after x l w a) ≡ false) p.sound.hours p.last

  -- the ledger that it leaves
  left_next : Next l (kind_after (hours l) l w a)
  left_next = kind_next (formed p.sound.sound) w a (common_passed a p.common) kind_at

  passes_after : {l' : List ℕ} → l' ≡ kind_after H l w a → l' ≡ kind_after (hours l) l w a
  passes_after e = e ∙ ap (λ (x : ℕ). kind_after x l w a) p.sound.hours

  pub passes_next : {l' : List ℕ} → l' ≡ kind_after H l w a → SoundAt l' R H
  passes_next {l'} e =
      subst (λ (x : List ℕ). SoundAt x R H) (sym (passes_after e))
      (record { sound = left_sound p.sound.sound w a p.common kind_at last_at; rows = p.sound.rows ∙ sym left_next.rows; hours = p.sound.hours ∙ sym left_next.hours })

  pub passes_used : {l' : List ℕ} → l' ≡ kind_after H l w a → used l ≤ used l'
  passes_used {l'} e = subst (λ (x : List ℕ). used l ≤ used x) (sym (passes_after e)) left_next.used

  -- a submission has a row more
  pub passes_more : a.kind ≡ 1 → {l' : List ℕ} → l' ≡ kind_after H l w a → used l < used l'
  passes_more k {l'} e =
      let z = submit_none (hours l) l w a kind_at k in
      let o = (submit_opens (formed p.sound.sound) (submit_passed (hours l) l w a z)).more in
      omega (arith, o, ap (λ (x : List ℕ). used x) (passes_after e ∙ submit_after_lem (hours l) l w a k))

  -- the others name a row
  pub passes_named : a.kind ≢ 1 → a.kind ≢ 7 → a.kind ≢ 8 → named a < used l
  unfolding kind_number
  passes_named no1 no7 no8 = let i = reference in omega (arith, i.0, i.1)
    where
      reference : (1 ≤ a.reference) × (a.reference ≤ used l)
      reference =
          one_of a.kind 1 _ _ (λ q _. absurd (no1 q))
          (λ _.
          one_of a.kind 2 _ _ (λ _ e. (seller_status_passed H l w a e).reference)
          (λ n2.
          one_of a.kind 3 _ _ (λ _ e. (customer_status_passed H l w a e).reference)
          (λ n3.
          one_of a.kind 4 _ _ (λ _ e. (approve_passed H l a e).reference)
          (λ n4.
          one_of a.kind 5 _ _ (λ _ e. (reduce_passed H l w a e).reference)
          (λ n5. one_of a.kind 6 _ _ (λ _ e. (lapse_passed H l a e).reference)
          (λ n6 _.
          let r = kind_passed a p.common in
          absurd (none_left r.1 (past (past (past (past (past (past (past (past r.0 no1) n2) n3) n4) n5) n6) no7) no8)))))))) p.kind

  pub passes_small : a.kind ≡ 5 → SmallProfile w a
  passes_small k =
      let q = reduce_passed H l w a (reduce_none H l w a p.kind k) in
      let W = own_words (placed_at p.sound {n = named a} (omega (arith, q.reference))) in
      record { fits = q.profile.fits; counted = omega (arith, q.profile.counted, W.stops, (sized_at p.sound).hours); most = q.profile.most }

-- ---- its answer
abbrev answer_with : ℕ → ℕ → ℕ → ℕ → Answer
answer_with r old new moved = record { number = 0; reference = r; before = old; after = new; moved = moved }

module _ (H : ℕ) (l w : List ℕ) (a : Action) (next : List ℕ) where
  -- by the kind, and the row n of its subject r
  abbrev answer_by : ℕ → Answer
  answer_by k =
      let r : ℕ = pick (eqb k 1) (used l + 1) a.reference in
      let old : ℕ = pick (eqb k 1) 0 (status (named_row H l a)) in
      pick (eqb k 7 || eqb k 8) (refusal 0)
      (answer_with r old (status (row H next (row_of r)))
      (pick (eqb k 5) (total (profile w a)) (moved_between H old (status (row H next (row_of r))) (total (available H (row H l (row_of r)))) (row H next (row_of r)))))

  -- of a submission
  pub submission_answer : a.kind ≡ 1 → {n new moved : ℕ} → n ≡ used l → new ≡ status (row H next n) → moved ≡ moved_between H 0 new 0 (row H next n)
      → answer_with (used l + 1) 0 new moved ≡ answered H l w a next
  unfolding answered acceptance subject status_before megawatt_hours moved_by moved_between
  submission_answer e {n} {new} {moved} en ea em =
      let last : used l ≡ used l + 1 - 1 = omega arith in
      let m : n ≡ used l + 1 - 1 = en ∙ last in
      let f : new ≡ status (row H next (used l + 1 - 1)) = ea ∙ ap (λ (i : ℕ). status (row H next i)) m in
      ap (λ (x : ℕ). answer_with (used l + 1) 0 new x) (em ∙ ap (λ (i : ℕ). moved_between H 0 new 0 (row H next i)) m)
      ∙ ap (λ (x : ℕ). answer_with (used l + 1) 0 x (moved_between H 0 x 0 (row H next (used l + 1 - 1)))) f
      ∙ ap answer_by (sym e)

  -- of an action on the row that it names
  pub named_answer : a.kind ≢ 1 → a.kind ≢ 7 → a.kind ≢ 8 → {n old new held moved : ℕ} → n ≡ named a → old ≡ status (row H l n) → held ≡ pick (eqb old CONFIRMED) (total (available H (row H l n))) 0
      → new ≡ status (row H next n) → moved ≡ moved_by H w a old new held (row H next n)
      → answer_with a.reference old new moved ≡ answered H l w a next
  unfolding answered acceptance subject status_before megawatt_hours moved_by
  named_answer no1 no7 no8 {n} {old} {new} {held} {moved} en eo eh ea em =
      ap (λ (x : ℕ). answer_with a.reference old new x)
      (em ∙ ap (λ (x : ℕ). moved_by H w a old new x (row H next n)) eh ∙ ap (λ (x : ℕ). pick (eqb a.kind 5) (total (profile w a)) x) (held_counts H old new (total (available H (row H l n))) (row H next n)))
      ∙ ap (λ (x : ℕ). answer_with a.reference x new (moved_by H w a x new (total (available H (row H l n))) (row H next n))) eo
      ∙ ap (λ (x : ℕ). answer_with a.reference (status (row H l n)) x (moved_by H w a (status (row H l n)) x (total (available H (row H l n))) (row H next n))) ea
      ∙ ap (λ (i : ℕ). answer_with a.reference (status (row H l i)) (status (row H next i)) (moved_by H w a (status (row H l i)) (status (row H next i)) (total (available H (row H l i))) (row H next i))) en
      ∙ ap by (sym (ne_eqb a.kind 1 no1))
      ∙ ap (λ (b : Bool). pick b (refusal 0) (acceptance H l w a next)) (sym (ne_eqb a.kind 8 no8))
      ∙ ap (λ (b : Bool). pick (b || eqb a.kind 8) (refusal 0) (acceptance H l w a next)) (sym (ne_eqb a.kind 7 no7))
    where
      by : Bool → Answer
      by b =
          let r : ℕ = pick b (used l + 1) a.reference in
          let old : ℕ = pick b 0 (status (named_row H l a)) in
          answer_with r old (status (row H next (row_of r)))
          (pick (eqb a.kind 5) (total (profile w a)) (moved_between H old (status (row H next (row_of r))) (total (available H (row H l (row_of r)))) (row H next (row_of r))))

  -- of the clock, and of a posting
  pub five_zeros : {k : ℕ} → a.kind ≡ k → (eqb k 7 || eqb k 8) ≡ true → {v : Answer} → v ≡ refusal 0 → v ≡ answered H l w a next
  unfolding answered
  five_zeros {k} e t h =
      h ∙ ap (λ (b : Bool). pick b (refusal 0) (acceptance H l w a next)) (sym t)
      ∙ ap (λ (j : ℕ). pick (eqb j 7 || eqb j 8) (refusal 0) (acceptance H l w a next)) (sym e)

-- ---- the postings
-- an action of another kind leaves them
pub postings_stay : (H : ℕ) (ps w : List ℕ) (a : Action) → a.kind ≢ 8 → ps ≡ postings_after H ps w a
unfolding postings_after
postings_stay H ps w a no8 = ap (λ (b : Bool). pick b (posted H ps w a) ps) (sym (ne_eqb a.kind 8 no8))

-- a posting leaves the ledger, and replaces them
pub posting_leaves : (H : ℕ) (l ps w : List ℕ) (a : Action) → a.kind ≡ 8 → {v : Answer} {qs : List ℕ} → v ≡ refusal 0 → qs ≡ posted H ps w a
    → (v ≡ answered H l w a (kind_after H l w a)) × ((l ≡ kind_after H l w a) × (qs ≡ postings_after H ps w a))
unfolding kind_after postings_after
posting_leaves H l ps w a k h g = (
  five_zeros H l w a _ k refl h,
  (ap (after_by H l w a) (sym k), g ∙ ap (λ (j : ℕ). pick (eqb j 8) (posted H ps w a) ps) (sym k)),
)

-- ---- a step
module _ (b : Bool) (l ps w : List ℕ) (a : Action) {r : ℕ} (is : r ≡ number b l ps w a) where
  abbrev next : List ℕ
  next = kind_after (hours l) l w a

  pub step_refuses : r ≢ 0 → {v : Answer} → v ≡ refusal r → (v ≡ (step b l ps w a).answer) × ((l ≡ (step b l ps w a).ledger) × (ps ≡ (step b l ps w a).postings))
  unfolding step refused
  step_refuses some {v} h =
      let e : refused l ps r ≡ step b l ps w a = keeps r (number b l ps w a) (refused l ps r) (accepted l ps w a next) (refused l ps (number b l ps w a)) is some (ap (refused l ps) is) in
      (h ∙ ap (λ (o : Outcome). o.answer) e, (ap (λ (o : Outcome). o.ledger) e, ap (λ (o : Outcome). o.postings) e))

  module _ (none : r ≡ 0) where
    pub step_accepts : {v : Answer} {l' ps' : List ℕ} → v ≡ answered (hours l) l w a (kind_after (hours l) l w a) → l' ≡ kind_after (hours l) l w a → ps' ≡ postings_after (hours l) ps w a
        → (v ≡ (step b l ps w a).answer) × ((l' ≡ (step b l ps w a).ledger) × (ps' ≡ (step b l ps w a).postings))
    unfolding step accepted
    step_accepts h k g =
        let x : Outcome = accepted l ps w a next in
        let e : x ≡ step b l ps w a = takes r (number b l ps w a) x x (refused l ps (number b l ps w a)) is none refl in
        (h ∙ ap (λ (o : Outcome). o.answer) e, (k ∙ ap (λ (o : Outcome). o.ledger) e, g ∙ ap (λ (o : Outcome). o.postings) e))

    pub accept_asks : b ≡ sound_both l ps → (sound_both l ps ≡ true) × (number true l ps w a ≡ 0)
    unfolding number
    accept_asks e =
        let z : number b l ps w a ≡ 0 = sym is ∙ none in
        let t : b ≡ true = common_sound b a (or_else_none (common_number b a) _ z).0 in
        (sym e ∙ t, subst (λ (x : Bool). number x l ps w a ≡ 0) t z)
