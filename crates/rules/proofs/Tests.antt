-- Use of a path, in the ledger and in its columns, and what an accepted action has passed of it.
use mathlib.Core.Path.{◌≡◌, refl, sym, ap, ◌∙◌}
use mathlib.Core.Logic.{◌≢◌, ⊎_elim}
use mathlib.Core.Bool.{Bool, true, false, ◌&&◌, ◌||◌, not}
use mathlib.Core.List.{List}
use Prim.Native.Nat.{ℕ, zero, suc, ◌+◌, ◌≤◌, ◌<◌}
use native.Mathlib.Omega.{arith}
use borrow.Author.Tests.{leb-true, eq-eqb, ne_eqb, not-false}
use lib.Dec.{eqb, leb}
use lib.IntN.{ℤ}
use Rattle.words.specs.Lists.{word_at, sum_below}
use Rattle.words.proofs.Laws.{lt_or_le, all_at}
use Rattle.column.specs.Sum.{gate, sum_to}
use Rattle.column.specs.Use.{Tested, use_of as use_in, counts_on as counts_in}
use Rattle.rules.specs.Pick.{pick}
use Rattle.rules.specs.Numbers.{available_part, CONFIRMED, ANNULLED}
use Rattle.rules.specs.Layout.{hours, used, row_of, row, reqtype, status, related, path, related_row, hour_at}
use Rattle.rules.specs.Sound.{original}
use Rattle.rules.specs.Moves.{is_confirmed, confirmed_or_annulled}
use Rattle.rules.specs.Paths.{posted_in, holds_on, counts_on, use_of, over_posted, over_at}
use Rattle.rules.specs.Checks.{named, named_row}
use Rattle.rules.specs.Act.{subject, status_before, uses_path, over_use}
use Rattle.rules.specs.declared.Action.{Action}
use Rattle.rules.proofs.SoundFacts.{SoundLedger}
use Rattle.rules.proofs.Formed.{Formed}
use Rattle.rules.proofs.Passed.{or_none, and_none}
use Rattle.rules.proofs.Types.{derived_type}
use Rattle.rules.proofs.View.{view}

-- ---- the use of a path in an hour is that of the hour's column
pub sums : (m : ℕ) (f g : ℕ → ℕ) → ((i : ℕ) → f i ≡ g i) → sum_below m f ≡ sum_to m g
unfolding sum_below sum_to
sums zero f g e = refl
sums (suc m) f g e = omega (arith, sums m f g e, e m)

pub picked : (b : Bool) (v : ℕ) → pick b v 0 ≡ gate b v
picked true v = refl
picked false v = refl

pub use_column : (H h : ℕ) (l : List ℕ) (out : ℕ → ℕ → ℤ) (red : ℕ → ℤ) (x : ℕ) → use_of H l x h ≡ use_in (view H h l out red) x
unfolding use_of use_in counts_on holds_on is_confirmed related_row
use_column H h l out red x =
    sums (used l) _ _ (λ n. picked (counts_in (view H h l out red) x n) (word_at (row H l n) (hour_at H available_part h)))

-- ---- a path that is not over its posting
pub within_posting : (H : ℕ) (l ps : List ℕ) (x h : ℕ) → over_posted H l ps x ≡ false → h < H → use_of H l x h ≤ posted_in H ps x h
unfolding over_posted
within_posting H l ps x h e lt = leb-true _ _ (all_at (λ h. leb (use_of H l x h) (posted_in H ps x h)) H h (not-false _ e) lt)

-- ---- what an action leaves, as its row n goes from the status old to new: a formed ledger, with the paths tested
-- where it confirms the row, or annuls it from 13
pub record Left (B : ℕ → ℕ → ℕ) (l l' : List ℕ) (n old new : ℕ) : Type 0 where
  pub formed : Formed l'
  pub tested : confirmed_or_annulled old new ≡ true → (h : ℕ) → h < hours l → (out out' : ℕ → ℕ → ℤ) (red red' : ℕ → ℤ) → Tested (B h) (view (hours l) h l out red) (view (hours l) h l' out' red') n

pub takes_confirmed : (old new : ℕ) → old ≢ CONFIRMED → new ≡ CONFIRMED → confirmed_or_annulled old new ≡ true
unfolding confirmed_or_annulled
takes_confirmed old new a b =
    ap (λ (t : Bool). not t && eqb new CONFIRMED || t && eqb new ANNULLED) (ne_eqb old CONFIRMED a)
    ∙ ap (λ (t : Bool). t || false) (eq-eqb new CONFIRMED b)

pub takes_annulled : (old new : ℕ) → old ≡ CONFIRMED → new ≡ ANNULLED → confirmed_or_annulled old new ≡ true
unfolding confirmed_or_annulled
takes_annulled old new a b =
    ap (λ (t : Bool). not t && eqb new CONFIRMED || t && eqb new ANNULLED) (eq-eqb old CONFIRMED a)
    ∙ eq-eqb new ANNULLED b

-- the test of the rules is that of every hour's column
pub tests : {l : List ℕ} → SoundLedger l → {n : ℕ} → n < used l → (next ps : List ℕ) → over_at (hours l) l n next ps ≡ false → (h : ℕ) → h < hours l → (out out' : ℕ → ℕ → ℤ) (red red' : ℕ → ℤ)
    → Tested (λ x. posted_in (hours l) ps x h) (view (hours l) h l out red) (view (hours l) h next out' red') n
unfolding over_at related_row
tests {l} S {n} lt next ps e h hlt out out' red red' = record {
  own = within (path (row (hours l) l n)) (or_none _ _ e).0;
  above = λ p q. within (path (row (hours l) l p)) (above p q);
}
  where
    within : (x : ℕ) → over_posted (hours l) next ps x ≡ false → use_in (view (hours l) h next out' red') x ≤ posted_in (hours l) ps x h
    within x o = omega (arith, use_column (hours l) h next out' red' x, within_posting (hours l) next ps x h o hlt)

    above : (p : ℕ) → related (row (hours l) l n) ≡ suc p → over_posted (hours l) next ps (path (row (hours l) l p)) ≡ false
    above p q =
        let none : reqtype (row (hours l) l n) < 3 → ⊥ = λ z. omega (arith, q, (S.relations n lt).originals (omega (arith, z))) in
        let three : 3 ≤ reqtype (row (hours l) l n) = ⊎_elim (λ z. absurd (none z)) (λ z. z) (lt_or_le (reqtype (row (hours l) l n)) 3) in
        let i : row_of (related (row (hours l) l n)) ≡ p = omega (arith, q) in
        let o : (not (original (reqtype (row (hours l) l n))) && over_posted (hours l) next ps (path (row (hours l) l (row_of (related (row (hours l) l n)))))) ≡ false = (or_none (over_posted (hours l) next ps (path (row (hours l) l n))) _ e).1 in
        ap (λ (m : ℕ). over_posted (hours l) next ps (path (row (hours l) l m))) (sym i)
        ∙ and_none _ _ o (ap not (derived_type (reqtype (row (hours l) l n)) three))

-- ---- what number 22 asks, by the kind of the action
module _ (H : ℕ) (l : List ℕ) (a : Action) (next ps : List ℕ) where
  -- of a posting
  pub use_posting : a.kind ≡ 8 → over_use H l a next ps ≡ over_posted H next ps a.path
  unfolding over_use
  use_posting q = ap (λ (b : Bool). pick b (over_posted H next ps a.path) (uses_path H l a next && over_at H l (row_of (subject l a)) next ps)) (eq-eqb a.kind 8 q)

  -- of an action that names its row
  pub use_named : a.kind ≢ 1 → a.kind ≢ 8 → over_use H l a next ps ≡ (confirmed_or_annulled (status (named_row H l a)) (status (row H next (named a))) && over_at H l (named a) next ps)
  unfolding over_use uses_path subject status_before
  use_named n1 n8 =
      ap (λ (b : Bool). pick b (over_posted H next ps a.path) (uses_path H l a next && over_at H l (row_of (subject l a)) next ps)) (ne_eqb a.kind 8 n8)
      ∙ ap (λ (b : Bool). confirmed_or_annulled (pick b 0 (status (named_row H l a))) (status (row H next (row_of (pick b (used l + 1) a.reference)))) && over_at H l (row_of (pick b (used l + 1) a.reference)) next ps) (ne_eqb a.kind 1 n1)

  module _ (e : over_use H l a next ps ≡ false) where
    pub over_posting : a.kind ≡ 8 → over_posted H next ps a.path ≡ false
    over_posting q = sym (use_posting q) ∙ e

    pub over_named : a.kind ≢ 1 → a.kind ≢ 8 → confirmed_or_annulled (status (named_row H l a)) (status (row H next (named a))) ≡ true → over_at H l (named a) next ps ≡ false
    over_named n1 n8 q = and_none _ _ (sym (use_named n1 n8) ∙ e) q

-- ---- where the row is neither confirmed nor annulled from 13
pub takes_none : (old new : ℕ) → old ≢ CONFIRMED → new ≢ CONFIRMED → confirmed_or_annulled old new ≡ false
unfolding confirmed_or_annulled
takes_none old new a b =
    ap (λ (t : Bool). not t && eqb new CONFIRMED || t && eqb new ANNULLED) (ne_eqb old CONFIRMED a)
    ∙ ap (λ (t : Bool). t || false) (ne_eqb new CONFIRMED b)

pub takes_kept : (old new : ℕ) → old ≡ CONFIRMED → new ≢ ANNULLED → confirmed_or_annulled old new ≡ false
unfolding confirmed_or_annulled
takes_kept old new a b =
    ap (λ (t : Bool). not t && eqb new CONFIRMED || t && eqb new ANNULLED) (eq-eqb old CONFIRMED a)
    ∙ ne_eqb new ANNULLED b
