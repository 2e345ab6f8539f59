-- Use of a path once some rows are annulled, from the ledger before: one sum over its rows.
use mathlib.Core.Path.{◌≡◌, refl, sym, ap, ◌∙◌}
use mathlib.Core.Bool.{Bool, true, false, ◌&&◌, ◌||◌, not}
use mathlib.Core.List.{List}
use Prim.Native.Nat.{ℕ, ◌+◌, ◌≤◌, ◌<◌}
use native.Mathlib.Omega.{arith}
use borrow.Author.Tests.{eq-eqb, ne_eqb, not-true}
use lib.Dec.{eqb, lit<}
use Rattle.words.specs.Lists.{word_at, sum_below}
use Rattle.words.proofs.Laws.{and_left, and_right}
use Rattle.column.specs.Sum.{gate, sum_to}
use Rattle.column.proofs.Sums.{gate_zero, gate_add, sum_ext, sum_zero, sum_add, sum_gate, sum_term, sum_single, sum_swap}
use Rattle.rules.specs.Pick.{pick}
use Rattle.rules.specs.Numbers.{granted_part, available_part, NONFIRM_REDIRECT}
use Rattle.rules.specs.Layout.{hours, used, row_of, row, reqtype, related, path, related_row, hour_at}
use Rattle.rules.specs.Moves.{is_confirmed}
use Rattle.rules.specs.Paths.{holds_on, counts_on, use_of}
use Rattle.rules.proofs.Writes.{megawatts}
use Rattle.rules.proofs.SoundFacts.{SoundLedger}
use Rattle.rules.proofs.Types.{derived_least}
use Rattle.rules.proofs.Tests.{sums, picked}
use Rattle.rules.proofs.After.{counts_by}
use Rattle.rules.proofs.Unwound.{stays, returns_on, gives, gives_to, given_back, use_unwound, Unwound, confirmed_now}

-- a number behind a test that tells what it is
gate_known : (b c : Bool) (u v : ℕ) → b ≡ c → (c ≡ true → u ≡ v) → gate b u ≡ gate c v
gate_known b c u v e f = ap (λ (t : Bool). gate t u) e ∙ go c f
  where
    go : (t : Bool) → (t ≡ true → u ≡ v) → gate t u ≡ gate t v
    go true f = f refl
    go false f = refl

-- of two tests that never hold together
apart : (b c : Bool) (u v : ℕ) → (b ≡ true → c ≡ false) → gate b u + gate c v ≡ pick b u (pick c v 0)
apart true c u v f = ap (λ (t : Bool). u + gate t v) (f refl) ∙ omega arith
apart false c u v f = omega (arith, picked c v)

module _ {l : List ℕ} (S : SoundLedger l) (gone : ℕ → Bool) (x h : ℕ) where
  abbrev H : ℕ
  H = hours l

  abbrev counts : ℕ → Bool
  counts m = counts_by (hours l) l (stays (hours l) l gone) x m

  abbrev a : ℕ → ℕ
  a m = megawatts (hours l) h (row (hours l) l m) available_part

  abbrev g : ℕ → ℕ
  g m = megawatts (hours l) h (row (hours l) l m) granted_part

  low : (j : ℕ) → j < used l → gives (hours l) l j ≡ true → related_row (hours l) l j < used l
  unfolding gives related_row
  low j lt e =
      let t = derived_least (reqtype (row H l j)) (S.words j lt).type_least (not-true _ (and_right (is_confirmed (row H l j)) _ e)) in
      omega (arith, ((S.relations j lt).up t).0, ((S.relations j lt).up t).1, lt)

  -- row j gives back what it was granted to one row
  pub one_row : (j : ℕ) → j < used l → sum_to (used l) (λ m. gate (counts m) (pick (gone j && gives_to (hours l) l j m) (g j) 0)) ≡ gate (gone j && (gives (hours l) l j && counts (related_row (hours l) l j))) (g j)
  unfolding gives_to
  one_row j lt = go (gone j) (gives H l j) refl
    where
      none : (b : Bool) → gate b 0 ≡ 0
      none b = gate_zero b

      go : (b d : Bool) → gives H l j ≡ d → sum_to (used l) (λ m. gate (counts m) (pick (b && (d && eqb (related_row H l j) m)) (g j) 0)) ≡ gate (b && (d && counts (related_row H l j))) (g j)
      go false d e = sum_zero (used l) _ (λ m _. none (counts m))
      go true false e = sum_zero (used l) _ (λ m _. none (counts m))
      go true true e =
          sum_single (used l) (related_row H l j) (λ m. gate (counts m) (pick (eqb (related_row H l j) m) (g j) 0)) (low j lt e)
          (λ m ne. ap (λ (t : Bool). gate (counts m) (pick t (g j) 0)) (ne_eqb (related_row H l j) m (λ z. ne (sym z))) ∙ none (counts m))
          ∙ ap (λ (t : Bool). gate (counts (related_row H l j)) (pick t (g j) 0)) (eq-eqb (related_row H l j) (related_row H l j) refl)

  -- what came back to the rows that count
  all_back : sum_to (used l) (λ m. gate (counts m) (given_back (hours l) l gone m h)) ≡ sum_to (used l) (λ j. gate (gone j && (gives (hours l) l j && counts (related_row (hours l) l j))) (g j))
  unfolding given_back
  all_back =
      sum_ext (used l) _ _ (λ m _. ap (λ (v : ℕ). gate (counts m) v) (sums (used l) _ _ (λ j. refl)) ∙ sym (sum_gate (used l) (counts m) (λ j. pick (gone j && gives_to H l j m) (g j) 0)))
      ∙ sum_swap (used l) (used l) (λ m j. gate (counts m) (pick (gone j && gives_to H l j m) (g j) 0))
      ∙ sum_ext (used l) _ _ (λ j lt. one_row j lt)

  -- a row that counts is not annulled
  never_both : (m : ℕ) → counts m ≡ true → (gone m && (gives (hours l) l m && counts (related_row (hours l) l m))) ≡ false
  unfolding counts_by stays
  never_both m e =
      let f : gone m ≡ false = not-true _ (and_right (is_confirmed (row H l m)) _ (and_left (is_confirmed (row H l m) && not (gone m)) _ e)) in
      ap (λ (t : Bool). t && (gives H l m && counts (related_row H l m))) f

  pub use_sums : sum_to (used l) (λ m. gate (counts m) (a m + given_back (hours l) l gone m h)) ≡ use_unwound (hours l) l gone x h
  unfolding use_unwound returns_on
  use_sums =
      sum_ext (used l) _ _ (λ m _. gate_add (counts m) (a m) (given_back H l gone m h))
      ∙ sum_add (used l) (λ m. gate (counts m) (a m)) (λ m. gate (counts m) (given_back H l gone m h))
      ∙ ap (λ (v : ℕ). sum_to (used l) (λ m. gate (counts m) (a m)) + v) all_back
      ∙ sym (sum_add (used l) (λ m. gate (counts m) (a m)) (λ m. gate (gone m && (gives H l m && counts (related_row H l m))) (g m)))
      ∙ sum_ext (used l) _ _ (λ m _. apart (counts m) (gone m && (gives H l m && counts (related_row H l m))) (a m) (g m) (never_both m))
      ∙ sym (sums (used l) _ _ (λ m. refl))

  module _ {l' : List ℕ} (U : Unwound (hours l) l gone l') where
    sure : (m : ℕ) → counts m ≡ true → stays (hours l) l gone m ≡ true
    unfolding counts_by
    sure m e = and_left _ _ e

    counts_now : (m : ℕ) → counts_on (hours l) l' x m ≡ counts m
    unfolding counts_on holds_on counts_by related_row
    counts_now m =
        cc (confirmed_now U m, confirmed_now U (row_of (related (row H l m))), U.field m 0 (lit< tt) (λ z. omega (arith, z)), U.field m 4 (lit< tt) (λ z. omega (arith, z)), U.field m 11 (lit< tt) (λ z. omega (arith, z)), U.field (row_of (related (row H l m))) 11 (lit< tt) (λ z. omega (arith, z)))

    pub use_now : h < hours l → use_of (hours l) l' x h ≡ use_unwound (hours l) l gone x h
    unfolding use_of
    use_now hlt =
        ap (λ (k : ℕ). sum_below k (λ m. pick (counts_on H l' x m) (word_at (row H l' m) (hour_at H available_part h)) 0)) (U.head 6 (lit< tt))
        ∙ sums (used l) _ _ (λ m. picked (counts_on H l' x m) (word_at (row H l' m) (hour_at H available_part h)) ∙ gate_known _ _ _ _ (counts_now m) (λ e. U.available m h hlt (sure m e)))
        ∙ use_sums

-- a row that stays CONFIRMED is in the use of its own path
pub use_least : {l : List ℕ} (S : SoundLedger l) (gone : ℕ → Bool) (h u : ℕ) → u < used l → stays (hours l) l gone u ≡ true
    → megawatts (hours l) h (row (hours l) l u) available_part + given_back (hours l) l gone u h ≤ use_unwound (hours l) l gone (path (row (hours l) l u)) h
unfolding counts_by
use_least {l} S gone h u lt k =
    let x : ℕ = path (row (hours l) l u) in
    let sure : counts_by (hours l) l (stays (hours l) l gone) x u ≡ true =
    ap (λ (b : Bool). b && (eqb x x || eqb (reqtype (row (hours l) l u)) NONFIRM_REDIRECT && (stays (hours l) l gone (related_row (hours l) l u) && eqb (path (row (hours l) l (related_row (hours l) l u))) x))) k
    ∙ ap (λ (b : Bool). b || eqb (reqtype (row (hours l) l u)) NONFIRM_REDIRECT && (stays (hours l) l gone (related_row (hours l) l u) && eqb (path (row (hours l) l (related_row (hours l) l u))) x)) (eq-eqb x x refl) in
    let own = ap (λ (b : Bool). gate b (megawatts (hours l) h (row (hours l) l u) available_part + given_back (hours l) l gone u h)) sure in
    omega (arith, own, use_sums S gone x h, sum_term (used l) u (λ m. gate (counts_by (hours l) l (stays (hours l) l gone) x m) (megawatts (hours l) h (row (hours l) l m) available_part + given_back (hours l) l gone m h)) lt)
