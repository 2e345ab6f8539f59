-- Use of a path as one row more goes, from the use before: what no longer counts goes off, what came back comes to it.
use mathlib.Core.Path.{◌≡◌, refl, sym, ap, fun_ext, subst, ◌∙◌}
use mathlib.Core.Logic.{◌≢◌, ◌⊎◌, inl, inr}
use mathlib.Core.Bool.{Bool, true, false, ◌&&◌, ◌||◌, not}
use mathlib.Core.List.{List}
use Prim.Native.Nat.{ℕ, ◌+◌, ◌*◌, ◌≤◌, ◌<◌}
use native.Mathlib.Decide.{ℕ_discrete}
use native.Mathlib.Omega.{arith}
use borrow.Author.Tests.{eqb-true, eq-eqb, ne_eqb, not-true}
use lib.Dec.{eqb, lit<}
use Rattle.words.specs.Lists.{word_at}
use Rattle.words.proofs.Laws.{and_left, and_right, all_at, sum_bound, sum_nothing}
use Rattle.column.specs.Sum.{gate, sum_to}
use Rattle.column.proofs.Sums.{gate_zero, gate_add, sum_ext, sum_add, sum_gate, sum_single}
use Rattle.rules.specs.Pick.{pick}
use Rattle.rules.specs.Numbers.{most_megawatts, granted_part, available_part, NONFIRM_REDIRECT}
use Rattle.rules.specs.Layout.{hours, used, row, reqtype, path, related_row, hour_at}
use Rattle.rules.specs.Sound.{original}
use Rattle.rules.specs.Moves.{is_confirmed}
use Rattle.rules.proofs.SoundFacts.{SoundLedger}
use Rattle.rules.proofs.Types.{derived_least}
use Rattle.rules.proofs.Tests.{sums, picked}
use Rattle.rules.proofs.After.{counts_by}
use Rattle.rules.proofs.Unwound.{adding, stays, gives, gives_to, given_back, returns_on, used_by, use_unwound, whole_again, back_more, by, and_false, and_true}
use Rattle.rules.proofs.UnwoundUse.{one_row, use_sums}
use Rattle.unwinding.specs.Order.{freed, freed_below, freed_use, returned}
use Rattle.unwinding.specs.Marks.{Going}

-- ---- tests
less : (c d g : Bool) → (c && not (d || g)) ≡ ((c && not g) && not d)
less true true true = refl
less true true false = refl
less true false true = refl
less true false false = refl
less false d g = refl

-- a row that stays (s), of the path (own), or of type 5 (five) with a related row that stays (up) and is of it (its):
-- what goes with row n, which is of it (of), if that is its related row (d)
parts : (s own five up its of d : Bool) (v w : ℕ)
    → (d ≡ true → up ≡ true) → (d ≡ true → its ≡ of) → (five ≡ true → v ≡ w)
    → gate (s && (own || five && (up && its))) v
    ≡ gate (s && (own || five && ((up && not d) && its))) v + gate of (gate (five && (d && (not own && s))) w)
parts s own false up its of d v w p q e = omega (arith, gate_zero of)
parts s own true up its of false v w p q e =
    omega (arith, gate_zero of, ap (λ (b : Bool). gate (s && (own || (b && its))) v) (and_true up))
parts s own true up its of true v w p q e =
    ap (λ (b : Bool). gate (s && (own || (b && its))) v) (p refl)
    ∙ ap (λ (b : Bool). gate (s && (own || b)) v) (q refl)
    ∙ go s own of (e refl)
    ∙ ap (λ (b : Bool). gate (s && (own || (b && its))) v + gate of (gate (not own && s) w)) (sym (and_false up))
  where
    go : (s own of : Bool) → v ≡ w
        → gate (s && (own || of)) v ≡ gate (s && (own || false)) v + gate of (gate (not own && s) w)
    go true true true e = omega arith
    go true true false e = omega arith
    go true false true e = omega (arith, e)
    go true false false e = refl
    go false true true e = refl
    go false true false e = refl
    go false false true e = refl
    go false false false e = refl

-- ---- the rows that stay once row n goes as well
module _ (H : ℕ) (l : List ℕ) (gone : ℕ → Bool) (n : ℕ) where
  stays_next : (m : ℕ) → stays H l (adding gone n) m ≡ (stays H l gone m && not (eqb m n))
  unfolding stays adding
  stays_next m = less (is_confirmed (row H l m)) (eqb m n) (gone m)

  stays_other : {m : ℕ} → m ≢ n → stays H l (adding gone n) m ≡ stays H l gone m
  stays_other {m} ne =
      stays_next m ∙ ap (λ (b : Bool). stays H l gone m && not b) (ne_eqb m n ne) ∙ and_true (stays H l gone m)

  stays_off : stays H l (adding gone n) n ≡ false
  stays_off =
      stays_next n ∙ ap (λ (b : Bool). stays H l gone n && not b) (eq-eqb n n refl) ∙ and_false (stays H l gone n)

  is_gone : adding gone n n ≡ true
  unfolding adding
  is_gone = ap (λ (b : Bool). b || gone n) (eq-eqb n n refl)

  -- a row that is not CONFIRMED goes: no other stays for it, and nothing is given back
  module _ (off : is_confirmed (row H l n) ≡ false) where
    stays_open : (m : ℕ) → stays H l (adding gone n) m ≡ stays H l gone m
    unfolding stays
    stays_open m = go (ℕ_discrete m n)
      where
        go : Dec (m ≡ n) → stays H l (adding gone n) m ≡ stays H l gone m
        go (yes q) =
            ap (λ (k : ℕ). stays H l (adding gone n) k) q ∙ stays_off
            ∙ sym (ap (λ (k : ℕ). stays H l gone k) q ∙ ap (λ (b : Bool). b && not (gone n)) off)
        go (no ne) = stays_other ne

    gave_open : (m : ℕ) (b : Bool) → (adding gone n m && (gives H l m && b)) ≡ (gone m && (gives H l m && b))
    unfolding adding gives
    gave_open m b = go (ℕ_discrete m n)
      where
        go : Dec (m ≡ n) → (adding gone n m && (gives H l m && b)) ≡ (gone m && (gives H l m && b))
        go (yes q) =
            let none : gives H l m ≡ false =
            ap (λ (k : ℕ). gives H l k) q ∙ ap (λ (t : Bool). t && not (original (reqtype (row H l n)))) off in
            ap (λ (t : Bool). adding gone n m && (t && b)) none ∙ and_false (adding gone n m)
            ∙ sym (ap (λ (t : Bool). gone m && (t && b)) none ∙ and_false (gone m))
        go (no ne) = ap (λ (t : Bool). (t || gone m) && (gives H l m && b)) (ne_eqb m n ne)

-- ---- row n goes
module _ {l : List ℕ} (S : SoundLedger l) {gone : ℕ → Bool} {n : ℕ} (G : Going (hours l) l gone n)
    (x : ℕ) {h : ℕ} (hlt : h < hours l) where
  abbrev H : ℕ
  H = hours l

  abbrev up : ℕ → ℕ
  up m = related_row (hours l) l m

  -- row m is of path x, of type 5, counts before and then
  abbrev on : ℕ → Bool
  on m = eqb (path (row (hours l) l m)) x

  abbrev five : ℕ → Bool
  five m = eqb (reqtype (row (hours l) l m)) NONFIRM_REDIRECT

  abbrev counts : ℕ → Bool
  counts m = counts_by (hours l) l (stays (hours l) l gone) x m

  abbrev then : ℕ → Bool
  then m = counts_by (hours l) l (stays (hours l) l (adding gone n)) x m

  abbrev a : ℕ → ℕ
  a m = word_at (row (hours l) l m) (hour_at (hours l) available_part h)

  abbrev g : ℕ → ℕ
  g m = word_at (row (hours l) l m) (hour_at (hours l) granted_part h)

  abbrev held : ℕ → ℕ
  held m = a m + given_back (hours l) l gone m h

  -- what is in the use before and then
  abbrev remains : ℕ
  remains = sum_to (used l) (λ m. gate (then m) (held m))

  -- nothing was given back to a type 5: what is related to one is a relinquish record
  none_to : (m : ℕ) → five m ≡ true → (j : ℕ) → j < used l → (gone j && gives_to (hours l) l j m) ≡ false
  unfolding gives_to gives
  none_to m is j lt = go (by (gone j && gives_to H l j m))
    where
      go : ((gone j && gives_to H l j m) ≡ true) ⊎ ((gone j && gives_to H l j m) ≡ false)
          → (gone j && gives_to H l j m) ≡ false
      go (inr e) = e
      go (inl e) =
          let to : gives_to H l j m ≡ true = and_right (gone j) _ e in
          let giving : gives H l j ≡ true = and_left _ _ to in
          let above : up j ≡ m = eqb-true _ _ (and_right (gives H l j) _ to) in
          let other = not-true _ (and_right (is_confirmed (row H l j)) _ giving) in
          let t = derived_least (reqtype (row H l j)) (S.words j lt).type_least other in
          let away = G.records j (and_left _ _ e) (and_left _ _ giving) in
          let is-five = ap (λ (k : ℕ). reqtype (row H l k)) above ∙ eqb-true _ _ is in
          absurd (((S.relations j lt).others t away).0 is-five)

  none_back : (m : ℕ) → five m ≡ true → given_back (hours l) l gone m h ≡ 0
  unfolding given_back
  none_back m is = sum_nothing (used l) _ (λ j lt. ap (λ (b : Bool). pick b (g j) 0) (none_to m is j lt))

  -- no row is related to itself
  freed_self : freed (hours l) l gone x n n ≡ false
  unfolding freed related_row
  freed_self = go (by (five n))
    where
      rest : Bool
      rest = not (on n) && stays H l gone n

      go : (five n ≡ true) ⊎ (five n ≡ false) → (five n && (eqb (up n) n && rest)) ≡ false
      go (inr e) = ap (λ (b : Bool). b && (eqb (up n) n && rest)) e
      go (inl e) =
          let above = (S.relations n G.row).up (omega (arith, eqb-true (reqtype (row H l n)) NONFIRM_REDIRECT e)) in
          ap (λ (b : Bool). five n && (b && rest)) (ne_eqb (up n) n (λ z. omega (arith, z, above.0, above.1)))
          ∙ and_false (five n)

  -- row n counts no more; another row as before, if its related row is not n
  counts_off : then n ≡ false
  unfolding counts_by
  counts_off =
      ap (λ (b : Bool). b && (on n || five n && (stays H l (adding gone n) (up n) && on (up n)))) (stays_off H l gone n)

  counts_other : {m : ℕ} → m ≢ n
      → then m ≡ (stays (hours l) l gone m
      && (on m || five m && ((stays (hours l) l gone (up m) && not (eqb (up m) n)) && on (up m))))
  unfolding counts_by
  counts_other {m} ne = cc (stays_other H l gone n ne, stays_next H l gone n (up m))

  -- use then: what remains, and what came back
  use_then : use_unwound (hours l) l (adding gone n) x h ≡ remains + pick (returned (hours l) l gone x n) (g n) 0
  unfolding returned
  use_then =
      sym (use_sums S (adding gone n) x h)
      ∙ sum_ext (used l) _ _ (λ m _. ap (λ (v : ℕ). gate (then m) v) (more m) ∙ gate_add (then m) (held m) (back m))
      ∙ sum_add (used l) (λ m. gate (then m) (held m)) (λ m. gate (then m) (back m))
      ∙ ap (λ (v : ℕ). remains + v) to_one
    where
      back : ℕ → ℕ
      back m = pick (adding gone n n && gives_to H l n m) (g n) 0

      more : (m : ℕ) → a m + given_back H l (adding gone n) m h ≡ held m + back m
      more m =
          let marked = ap (λ (b : Bool). pick (b && gives_to H l n m) (g n) 0) (is_gone H l gone n) in
          omega (arith, back_more H l gone G.row G.free m h, marked)

      to_one : sum_to (used l) (λ m. gate (then m) (back m)) ≡ pick (gives H l n && then (up n)) (g n) 0
      to_one =
          one_row S (adding gone n) x h n G.row
          ∙ ap (λ (b : Bool). gate (b && (gives H l n && then (up n))) (g n)) (is_gone H l gone n)
          ∙ sym (picked (gives H l n && then (up n)) (g n))

  -- a CONFIRMED row goes
  module _ (sure : is_confirmed (row (hours l) l n) ≡ true) where
    -- what goes off: row n, and those freed
    abbrev own : ℕ → ℕ
    own m = gate (eqb m n) (gate (counts n) (g n))

    abbrev others : ℕ → ℕ
    others m = gate (on n) (gate (freed (hours l) l gone x n m) (a m))

    stayed : stays (hours l) l gone n ≡ true
    unfolding stays
    stayed = ap (λ (b : Bool). b && not (gone n)) sure ∙ ap not G.free

    whole : held n ≡ g n
    unfolding whole_again
    whole =
        let same : ℕ → Bool = λ k.
        eqb (word_at (row H l n) (hour_at H available_part k) + given_back H l gone n k)
        (word_at (row H l n) (hour_at H granted_part k)) in
        eqb-true _ _ (all_at same H h (G.whole sure) hlt)

    own_term : gate (counts n) (held n) ≡ gate (then n) (held n) + (own n + others n)
    own_term =
        omega (
          arith,
          ap (λ (v : ℕ). gate (counts n) v) whole,
          ap (λ (b : Bool). gate b (held n)) counts_off,
          ap (λ (b : Bool). gate b (gate (counts n) (g n))) (eq-eqb n n refl),
          ap (λ (b : Bool). gate (on n) (gate b (a n))) freed_self,
          gate_zero (on n),
        )

    other_term : (m : ℕ) → m ≢ n → gate (counts m) (held m) ≡ gate (then m) (held m) + (own m + others m)
    unfolding counts_by freed
    other_term m ne =
        let split =
        parts (stays H l gone m) (on m) (five m) (stays H l gone (up m)) (on (up m)) (on n) (eqb (up m) n)
        (held m) (a m)
        (λ e. ap (λ (k : ℕ). stays H l gone k) (eqb-true (up m) n e) ∙ stayed)
        (λ e. ap on (eqb-true (up m) n e))
        (λ e. omega (arith, none_back m e)) in
        omega (
          arith,
          split,
          ap (λ (b : Bool). gate b (held m)) (counts_other ne),
          ap (λ (b : Bool). gate b (gate (counts n) (g n))) (ne_eqb m n ne),
        )

    term : (m : ℕ) → gate (counts m) (held m) ≡ gate (then m) (held m) + (own m + others m)
    term m = go (ℕ_discrete m n)
      where
        Goal : ℕ → Type 0
        Goal k = gate (counts k) (held k) ≡ gate (then k) (held k) + (own k + others k)

        go : Dec (m ≡ n) → Goal m
        go (yes q) = subst Goal (sym q) own_term
        go (no q) = other_term m q

    own_sum : sum_to (used l) own ≡ pick (counts n) (g n) 0
    own_sum =
        sum_single (used l) n own G.row (λ m ne. ap (λ (b : Bool). gate b (gate (counts n) (g n))) (ne_eqb m n ne))
        ∙ ap (λ (b : Bool). gate b (gate (counts n) (g n))) (eq-eqb n n refl)
        ∙ sym (picked (counts n) (g n))

    others_sum : sum_to (used l) others ≡ freed_use (hours l) l gone x n h
    unfolding freed_use freed_below
    others_sum =
        let each = sums (used l) _ _ (λ m. picked (freed H l gone x n m) (a m)) in
        sum_gate (used l) (on n) (λ m. gate (freed H l gone x n m) (a m))
        ∙ ap (λ (v : ℕ). gate (on n) v) (sym each)
        ∙ sym (picked (on n) _)

    use_before : use_unwound (hours l) l gone x h ≡ remains + (pick (counts n) (g n) 0 + freed_use (hours l) l gone x n h)
    use_before =
        sym (use_sums S gone x h)
        ∙ sum_ext (used l) _ _ (λ m _. term m)
        ∙ sum_add (used l) (λ m. gate (then m) (held m)) (λ m. own m + others m)
        ∙ omega (arith, sum_add (used l) own others, own_sum, others_sum)

    pub use_next : use_unwound (hours l) l (adding gone n) x h
        + (pick (counts_by (hours l) l (stays (hours l) l gone) x n)
        (word_at (row (hours l) l n) (hour_at (hours l) granted_part h)) 0
        + freed_use (hours l) l gone x n h)
        ≡ use_unwound (hours l) l gone x h
        + pick (returned (hours l) l gone x n) (word_at (row (hours l) l n) (hour_at (hours l) granted_part h)) 0
    use_next = omega (arith, use_then, use_before)

    pub lost_most : pick (counts_by (hours l) l (stays (hours l) l gone) x n)
        (word_at (row (hours l) l n) (hour_at (hours l) granted_part h)) 0
        + freed_use (hours l) l gone x n h
        ≤ use_unwound (hours l) l gone x h
    lost_most = omega (arith, use_before)

  -- another row
  pub use_open : is_confirmed (row (hours l) l n) ≡ false
      → use_unwound (hours l) l (adding gone n) x h ≡ use_unwound (hours l) l gone x h
  unfolding use_unwound returns_on
  use_open off =
      sums (used l) _ (λ m. used_by H l gone x h m) (λ m.
      ap (λ (s : ℕ → Bool). by_row m s (adding gone n m && (gives H l m && counts_by H l s x (up m))))
      (fun_ext (stays_open H l gone n off))
      ∙ ap (λ (b : Bool). by_row m (stays H l gone) b) (gave_open H l gone n off m _))
      ∙ sym (sums (used l) (λ m. used_by H l gone x h m) _ (λ m. refl))
    where
      by_row : ℕ → (ℕ → Bool) → Bool → ℕ
      by_row m s back = pick (counts_by H l s x m) (a m) (pick back (g m) 0)

-- ---- each use is at most 100,000 for each row
pub pick_most : (b : Bool) {u v k : ℕ} → u ≤ k → v ≤ k → pick b u v ≤ k
pick_most true p q = p
pick_most false p q = q

module _ {l : List ℕ} (S : SoundLedger l) (gone : ℕ → Bool) where
  pub use_most : (x : ℕ) {h : ℕ} → h < hours l → use_unwound (hours l) l gone x h ≤ used l * most_megawatts
  unfolding use_unwound
  use_most x {h} hlt =
      sum_bound (used l) most_megawatts (λ m. used_by (hours l) l gone x h m) (λ m lt.
      pick_most (counts_by (hours l) l (stays (hours l) l gone) x m)
      ((S.profiles m lt).most available_part h (lit< tt) hlt)
      (pick_most (returns_on (hours l) l gone x m) ((S.profiles m lt).most granted_part h (lit< tt) hlt) (omega arith)))
