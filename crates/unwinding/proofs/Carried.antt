-- Number 22 by sums, path by path: the sums as row after row goes.
use mathlib.Core.Path.{◌≡◌, refl, sym, ap, subst, ◌∙◌}
use mathlib.Core.Bool.{Bool, true, false, not, ◌||◌}
use mathlib.Core.List.{List}
use Prim.Native.Nat.{ℕ, ◌+◌, ◌≤◌, ◌<◌}
use native.Mathlib.Numerals.{add-one}
use native.Mathlib.Omega.{arith}
use lib.Dec.{leb}
use lib.ListN.{length, get_or}
use Rattle.std.proofs.lemmas.List.{get_or_default}
use Rattle.words.specs.Lists.{word_at, part, all_below, covered}
use Rattle.words.proofs.Laws.{all_cong, all_at, all_below_lem, Passing, passing_start, passing_turn, passing_done, passing_fails}
use Rattle.rules.specs.Layout.{hours, row_of}
use Rattle.rules.specs.Paths.{posting_at, posted_in, use_of}
use Rattle.rules.proofs.Picks.{or_stops}
use Rattle.rules.proofs.OverPaths.{exceeds}
use Rattle.rules.proofs.Unwound.{adding, none, gone_by, gone_at, gone_more, use_unwound, unwound_start}
use Rattle.rules.proofs.UnwoundUse.{use_now}
use Rattle.layout.specs.SoundAt.{SoundAt}
use Rattle.words.specs.Sums.{Summed}
use Rattle.paths.specs.Exceeding.{Postings, KnownPath}
use Rattle.paths.proofs.Posted.{posted_each}
use Rattle.unwinding.specs.Order.{all_movable, asks, carries, carries_all}
use Rattle.unwinding.specs.Marks.{marked, Marks, Going}
use Rattle.unwinding.specs.declared.carrying.Carrying.{Carrying}
use Rattle.unwinding.proofs.Passes.{goes}
use Rattle.unwinding.proofs.Marked.{marks_gone, marks_turn}

-- ---- where no row asks it
pub carries_none : (H : ℕ) (l ps refs : List ℕ) (x : ℕ)
    → all_below (length refs) (λ k. not (asks H l x (row_of (word_at refs k)))) ≡ true → true ≡ carries_all H l ps refs x
unfolding carries_all carries
carries_none H l ps refs x e =
    let over : ℕ → Bool = λ k.
    not (exceeds H ps (use_unwound H l (adding (gone_at refs k) (row_of (word_at refs k)))) x) in
    sym (all_below_lem _ (length refs) (λ k lt. sym (or_stops _ (over k) (all_at _ (length refs) k e lt))))

-- ---- sums against what is posted for path x
pub within_posted : {H : ℕ} {ps : List ℕ} {x : ℕ} → Postings H ps → KnownPath x → {own : List ℕ}
    → own ≡ part ps (posting_at H x 0) H → (sums : List ℕ) → length sums ≡ H
    → covered sums own ≡ all_below H (λ h. leb (word_at sums h) (posted_in H ps x h))
unfolding covered
within_posted {H} {ps} {x} p path {own} is sums e =
    ap (λ (n : ℕ). all_below n (λ k. leb (get_or sums k 0) (get_or own k 0))) e
    ∙ all_cong _ _ H (λ k lt.
    ap (λ (v : ℕ). leb (get_or sums k 0) v) (ap (λ (v : List ℕ). get_or v k 0) is ∙ posted_each p path k lt))

twice : (b : Bool) → b ≡ not (not b)
twice true = refl
twice false = refl

carries_by : (H : ℕ) (l ps : List ℕ) (gone : ℕ → Bool) (x n : ℕ) {sums : List ℕ}
    → Summed H (λ h. use_unwound H l (adding gone n) x h) sums
    → (not (asks H l x n) || all_below H (λ h. leb (word_at sums h) (posted_in H ps x h))) ≡ carries H l ps gone x n
unfolding carries exceeds
carries_by H l ps gone x n s =
    ap (λ (b : Bool). not (asks H l x n) || b)
    (all_cong _ _ H (λ h lt. ap (λ (v : ℕ). leb v (posted_in H ps x h)) (s.each h lt))
    ∙ twice (all_below H (λ h. leb (use_unwound H l (adding gone n) x h) (posted_in H ps x h))))

-- ---- the rows that are marked, with the row of reference k
gone_then : (refs : List ℕ) (k : ℕ) → k < length refs
    → adding (gone_at refs k) (row_of (word_at refs k)) ≡ gone_at refs (k + 1)
gone_then refs k lt = sym (ap (λ (j : ℕ). gone_at refs j) (add-one k) ∙ gone_more none refs k lt)

marks_adding : {refs : List ℕ} {marks : List Bool} {k n : ℕ} → Marks refs marks k → n ≡ row_of (word_at refs k)
    → adding (marked marks) n ≡ adding (gone_at refs k) (row_of (word_at refs k))
marks_adding {refs} {marks} {k} {n} M e =
    ap (λ (g : ℕ → Bool). adding g n) (marks_gone M) ∙ ap (adding (gone_at refs k)) e

-- it is in use, and can go
module _ (c : Carrying) (k : ℕ) (lt : k < length c.refs.now) where
  module _ {n : ℕ} (e : n ≡ row_of (word_at c.refs.now k)) where
    goes_at : Going c.rows.ledger.size.hours c.rows.ledger.words.now (gone_at c.refs.now k) n
    goes_at =
        let l : List ℕ = c.rows.ledger.words.now in
        let s : SoundAt l c.rows.ledger.size.rows c.rows.ledger.size.hours = c.rows.ledger.sound_at in
        subst (λ (j : ℕ). Going c.rows.ledger.size.hours l (gone_at c.refs.now k) j) (sym e)
        (subst (λ (j : ℕ). Going j l (gone_at c.refs.now k) (row_of (word_at c.refs.now k))) (sym s.hours)
        (goes s.sound c.refs.now (subst (λ (j : ℕ). all_movable j l c.refs.now ≡ true) s.hours c.movable) k lt))

    pub row_in : n < c.rows.used
    row_in = omega (arith, goes_at.row, c.rows.used_value)

    pub goes_marked : {marks : List Bool} → Marks c.refs.now marks k
        → Going c.rows.ledger.size.hours c.rows.ledger.words.now (marked marks) n
    goes_marked M =
        subst (λ (g : ℕ → Bool). Going c.rows.ledger.size.hours c.rows.ledger.words.now g n) (sym (marks_gone M)) goes_at

  -- the row of a reference of the list
  pub row_listed : {r : ℕ} → r ≡ get_or c.refs.now k r → row_of r < c.rows.used
  row_listed {r} e = row_in (ap row_of (e ∙ get_or_default c.refs.now k r 0 lt))

-- ---- use of path x before the first turn
pub uses_start : {l : List ℕ} {R H : ℕ} → SoundAt l R H → (refs : List ℕ) (x : ℕ) {sums : List ℕ}
    → Summed H (λ h. use_of H l x h) sums → Summed H (λ h. use_unwound H l (gone_at refs 0) x h) sums
unfolding gone_by none
uses_start {l} s refs x o = record {
  long = o.long;
  each = λ h lt.
      o.each h lt
      ∙ subst (λ (k : ℕ). h < k → use_of k l x h ≡ use_unwound k l (gone_at refs 0) x h) (sym s.hours)
      (use_now s.sound (gone_at refs 0) x h (unwound_start (hours l) l (gone_at refs 0) (λ m. refl))) lt;
}

-- k references were followed: each carried, their rows are marked, and the sums are use of path x without them
pub record Following (H : ℕ) (l ps refs : List ℕ) (x : ℕ) (sums : List ℕ) (marks : List Bool) (k : ℕ) : Type 0 where
  pub passing : Passing (length refs) (λ j. carries H l ps (gone_at refs j) x (row_of (word_at refs j))) (length refs) k
  pub gone : Marks refs marks k
  pub uses : Summed H (λ h. use_unwound H l (gone_at refs k) x h) sums

pub following_start : (H : ℕ) (l ps refs : List ℕ) (x : ℕ) {sums : List ℕ} {marks : List Bool}
    → Marks refs marks 0 → Summed H (λ h. use_unwound H l (gone_at refs 0) x h) sums
    → Following H l ps refs x sums marks 0
following_start H l ps refs x m u = record { passing = passing_start _ _; gone = m; uses = u }

module _ {H : ℕ} {l ps refs : List ℕ} {x : ℕ} {sums : List ℕ} {marks : List Bool} {k : ℕ}
    (i : Following H l ps refs x sums marks k) where
  -- row n, that of reference k, went
  module _ {n : ℕ} (e : n ≡ row_of (word_at refs k)) {next : List ℕ}
      (u : Summed H (λ h. use_unwound H l (adding (marked marks) n) x h) next) where
    went : Summed H (λ h. use_unwound H l (adding (gone_at refs k) (row_of (word_at refs k))) x h) next
    went = subst (λ (g : ℕ → Bool). Summed H (λ h. use_unwound H l g x h) next) (marks_adding i.gone e) u

    pub following_told : {b : Bool}
        → b ≡ (not (asks H l x n) || all_below H (λ h. leb (word_at next h) (posted_in H ps x h)))
        → b ≡ carries H l ps (gone_at refs k) x (row_of (word_at refs k))
    following_told q =
        q
        ∙ ap (λ (j : ℕ). not (asks H l x j) || all_below H (λ h. leb (word_at next h) (posted_in H ps x h))) e
        ∙ carries_by H l ps (gone_at refs k) x (row_of (word_at refs k)) went

    pub following_fails : k < length refs
        → carries H l ps (gone_at refs k) x (row_of (word_at refs k)) ≡ false → false ≡ carries_all H l ps refs x
    unfolding carries_all
    following_fails lt f = passing_fails i.passing lt f

    pub following_turn : k < length refs → {marks' : List Bool} → marked marks' ≡ adding (marked marks) n
        → carries H l ps (gone_at refs k) x (row_of (word_at refs k)) ≡ true
        → Following H l ps refs x next marks' (k + 1)
    following_turn lt a c = record {
      passing = passing_turn i.passing lt c;
      gone = marks_turn i.gone lt e a;
      uses = subst (λ (g : ℕ → Bool). Summed H (λ h. use_unwound H l g x h) next) (gone_then refs k lt) went;
    }

  pub following_done : length refs ≤ k → true ≡ carries_all H l ps refs x
  unfolding carries_all
  following_done past = passing_done i.passing past
