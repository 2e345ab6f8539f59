-- Number 22 of a confirmation and of an annulment, from the ledger before it.
use mathlib.Core.Path.{◌≡◌, sym, ap, subst, ◌∙◌}
use mathlib.Core.Logic.{◌≢◌}
use mathlib.Core.Bool.{Bool, true, false, ◌&&◌, ◌||◌, not}
use mathlib.Core.List.{List}
use Prim.Native.Nat.{ℕ, ◌+◌, ◌-◌, ◌<◌}
use native.Mathlib.Decide.{ℕ_discrete}
use native.Mathlib.Omega.{arith}
use borrow.Author.Tests.{eq-eqb}
use lib.Dec.{eqb, leb, lit<, lit≤}
use lib.ListN.{length}
use Rattle.words.specs.Lists.{word_at, all_below, sum_below, equal}
use Rattle.words.proofs.Laws.{all_cong, sum_cong}
use Rattle.column.specs.Column.{Off}
use Rattle.rules.specs.Pick.{pick}
use Rattle.rules.specs.Numbers.{available_part, NONFIRM_REDIRECT, RELINQUISH}
use Rattle.rules.specs.Layout.{rows, hours, used, row, on_row, reqtype, status, path, start, related_row, span_hours, hour_at, granted, available, standing}
use Rattle.rules.specs.Sound.{original}
use Rattle.rules.specs.Moves.{is_confirmed}
use Rattle.rules.specs.Megawatts.{annul}
use Rattle.rules.specs.Confirming.{confirm, unconfirmed, short}
use Rattle.rules.specs.Paths.{posted_in, use_of, over_posted, over_at}
use Rattle.rules.proofs.Turned.{Turned}
use Rattle.rules.proofs.SoundFacts.{SoundLedger}
use Rattle.rules.proofs.Formed.{formed}
use Rattle.rules.proofs.Placed.{Placed, placed, placed_in}
use Rattle.rules.proofs.Kept.{Same, next_own}
use Rattle.rules.proofs.Unmoved.{Unmoved, unmoved_turned, types_stay, starts_stay, stops_stay, paths_stay, related_stays}
use Rattle.rules.proofs.Before.{unconfirmed_stays, short_stays}
use Rattle.rules.proofs.After.{counts_by, confirmed_with, held_confirming, use_confirming, use_annulling, use_after_confirm, use_after_annul}

-- use, as uses x h says it of path x in hour h, exceeds the posting in an hour: of one path, and of the path of row n
-- or its related row's
unfoldable pub exceeds : ℕ → List ℕ → (ℕ → ℕ → ℕ) → ℕ → Bool
exceeds H ps uses x = not (all_below H (λ h. leb (uses x h) (posted_in H ps x h)))

unfoldable pub exceeds_at : ℕ → List ℕ → ℕ → List ℕ → (ℕ → ℕ → ℕ) → Bool
exceeds_at H l n ps uses =
    exceeds H ps uses (path (row H l n))
    || not (original (reqtype (row H l n))) && exceeds H ps uses (path (row H l (related_row H l n)))

-- so it is the test of the rules, where uses says the use in the ledger after the action
module _ (H : ℕ) (l : List ℕ) (n : ℕ) (next ps : List ℕ) (uses : ℕ → ℕ → ℕ) (is : (x h : ℕ) → h < H → use_of H next x h ≡ uses x h) where
  over_exceeds : (x : ℕ) → over_posted H next ps x ≡ exceeds H ps uses x
  unfolding over_posted exceeds
  over_exceeds x = ap not (all_cong _ _ H (λ h lt. ap (λ (u : ℕ). leb u (posted_in H ps x h)) (is x h lt)))

  pub over_at_lem : over_at H l n next ps ≡ exceeds_at H l n ps uses
  unfolding over_at exceeds_at
  over_at_lem =
      ap (λ (b : Bool). b || not (original (reqtype (row H l n))) && over_posted H next ps (path (row H l (related_row H l n)))) (over_exceeds (path (row H l n)))
      ∙ ap (λ (b : Bool). exceeds H ps uses (path (row H l n)) || not (original (reqtype (row H l n))) && b) (over_exceeds (path (row H l (related_row H l n))))

-- ---- a write in row n that moves no megawatts comes first: what the walk reads of the rows stays
module _ {R H : ℕ} {l : List ℕ} {n : ℕ} (o : Placed R H l n) (f : List ℕ → List ℕ) (q : Unmoved H (row H l n) (f (row H l n))) where
  abbrev l1 : List ℕ
  l1 = on_row H n f l

  written : Turned R H l (on_row H n f l) n (f (row H l n))
  written = unmoved_turned o.sized o.own f q

  with_stays : (m : ℕ) → confirmed_with H (on_row H n f l) n m ≡ confirmed_with H l n m
  unfolding confirmed_with
  with_stays m = go (ℕ_discrete m n)
    where
      go : Dec (m ≡ n) → (eqb m n || is_confirmed (row H l1 m)) ≡ (eqb m n || is_confirmed (row H l m))
      go (yes e) = ap (λ (b : Bool). b || is_confirmed (row H l1 m)) (eq-eqb m n e) ∙ sym (ap (λ (b : Bool). b || is_confirmed (row H l m)) (eq-eqb m n e))
      go (no ne) = ap (λ (r : List ℕ). eqb m n || is_confirmed r) (written.other m ne)

  counts_stay : (x m : ℕ) → counts_by H (on_row H n f l) (confirmed_with H (on_row H n f l) n) x m ≡ counts_by H l (confirmed_with H l n) x m
  unfolding counts_by
  counts_stay x m =
      let up = related_stays o.sized o.own f q m in
      let ps = paths_stay o.sized o.own f q in
      ap (λ (b : Bool). b && (eqb (path (row H l1 m)) x || eqb (reqtype (row H l1 m)) NONFIRM_REDIRECT && (confirmed_with H l1 n (related_row H l1 m) && eqb (path (row H l1 (related_row H l1 m))) x))) (with_stays m)
      ∙ ap (λ (k : ℕ). confirmed_with H l n m && (eqb k x || eqb (reqtype (row H l1 m)) NONFIRM_REDIRECT && (confirmed_with H l1 n (related_row H l1 m) && eqb (path (row H l1 (related_row H l1 m))) x))) (ps m)
      ∙ ap (λ (k : ℕ). confirmed_with H l n m && (eqb (path (row H l m)) x || eqb k NONFIRM_REDIRECT && (confirmed_with H l1 n (related_row H l1 m) && eqb (path (row H l1 (related_row H l1 m))) x))) (types_stay o.sized o.own f q m)
      ∙ ap (λ (k : ℕ). confirmed_with H l n m && (eqb (path (row H l m)) x || eqb (reqtype (row H l m)) NONFIRM_REDIRECT && (confirmed_with H l1 n k && eqb (path (row H l1 k)) x))) up
      ∙ ap (λ (b : Bool). confirmed_with H l n m && (eqb (path (row H l m)) x || eqb (reqtype (row H l m)) NONFIRM_REDIRECT && (b && eqb (path (row H l1 (related_row H l m))) x))) (with_stays (related_row H l m))
      ∙ ap (λ (k : ℕ). confirmed_with H l n m && (eqb (path (row H l m)) x || eqb (reqtype (row H l m)) NONFIRM_REDIRECT && (confirmed_with H l n (related_row H l m) && eqb k x))) (ps (related_row H l m))

  held_stays : (mw : List ℕ) (h m : ℕ) → h < H → held_confirming H (on_row H n f l) n mw h m ≡ held_confirming H l n mw h m
  unfolding held_confirming
  held_stays mw h m hlt =
      ap (λ (t : ℕ). of t (start (row H l1 n)) (word_at (row H l1 m) (hour_at H available_part h)) (related_row H l1 n) (related_row H l1 (related_row H l1 n))) (types_stay o.sized o.own f q n)
      ∙ ap (λ (s : ℕ). of (reqtype (row H l n)) s (word_at (row H l1 m) (hour_at H available_part h)) (related_row H l1 n) (related_row H l1 (related_row H l1 n))) (starts_stay o.sized o.own f q n)
      ∙ ap (λ (v : ℕ). of (reqtype (row H l n)) (start (row H l n)) v (related_row H l1 n) (related_row H l1 (related_row H l1 n))) available_stays
      ∙ ap (λ (k : ℕ). of (reqtype (row H l n)) (start (row H l n)) (word_at (row H l m) (hour_at H available_part h)) k (related_row H l1 k)) (up n)
      ∙ ap (λ (k : ℕ). of (reqtype (row H l n)) (start (row H l n)) (word_at (row H l m) (hour_at H available_part h)) (related_row H l n) k) (up (related_row H l n))
    where
      -- by what it reads of the rows
      of : ℕ → ℕ → ℕ → ℕ → ℕ → ℕ
      of t s v p g =
          pick (eqb m n) (pick (eqb t RELINQUISH) 0 (standing s mw h)) (
          pick (not (original t) && eqb m p) (v - standing s mw h) (
          pick (eqb t RELINQUISH && eqb m g) (v + standing s mw h)
          v))

      up : (k : ℕ) → related_row H l1 k ≡ related_row H l k
      up = related_stays o.sized o.own f q

      available_stays : word_at (row H l1 m) (hour_at H available_part h) ≡ word_at (row H l m) (hour_at H available_part h)
      available_stays = go (ℕ_discrete m n)
        where
          go : Dec (m ≡ n) → word_at (row H l1 m) (hour_at H available_part h) ≡ word_at (row H l m) (hour_at H available_part h)
          go (yes e) =
              ap (λ (k : ℕ). word_at (row H l1 k) (hour_at H available_part h)) e ∙ ap (λ (r : List ℕ). word_at r (hour_at H available_part h)) written.own
              ∙ q.same_hour available_part h (lit≤ tt) ∙ sym (ap (λ (k : ℕ). word_at (row H l k) (hour_at H available_part h)) e)
          go (no ne) = ap (λ (r : List ℕ). word_at r (hour_at H available_part h)) (written.other m ne)

  use_stays : (mw : List ℕ) (x h : ℕ) → h < H → use_confirming H (on_row H n f l) n mw x h ≡ use_confirming H l n mw x h
  unfolding use_confirming
  use_stays mw x h hlt =
      ap (λ (k : ℕ). sum_below k (λ m. pick (counts_by H l1 (confirmed_with H l1 n) x m) (held_confirming H l1 n mw h m) 0)) (written.head 6 (lit< tt))
      ∙ sum_cong (used l) _ _ (λ m _.
      ap (λ (b : Bool). pick b (held_confirming H l1 n mw h m) 0) (counts_stay x m)
      ∙ ap (λ (v : ℕ). pick (counts_by H l (confirmed_with H l n) x m) v 0) (held_stays mw h m hlt))

-- ---- number 22 of each effect on a sound ledger
module _ {l : List ℕ} (s : SoundLedger l) {n : ℕ} (lt : n < used l) (ps : List ℕ) where
  abbrev H : ℕ
  H = hours l

  here : Placed (rows l) (hours l) l n
  here = placed (formed s) lt

  module _ (before : Off (status (row (hours l) l n))) (mw : List ℕ) (long : length mw ≡ span_hours (row (hours l) l n)) (ok : unconfirmed (hours l) l n ≡ false) (ample : short (hours l) l n mw ≡ false) where
    pub paths_confirming : over_at (hours l) l n (confirm (hours l) n mw l) ps ≡ exceeds_at (hours l) l n ps (λ x h. use_confirming (hours l) l n mw x h)
    paths_confirming = over_at_lem H l n (confirm H n mw l) ps (λ x h. use_confirming H l n mw x h) (λ x h hlt. use_after_confirm here hlt before mw long ok ample x)

    -- after a write in the row that moves no megawatts and leaves it neither CONFIRMED nor DISPLACED
    pub paths_then_confirming : (f : List ℕ → List ℕ) → Unmoved (hours l) (row (hours l) l n) (f (row (hours l) l n)) → Same (hours l) (row (hours l) l n) (f (row (hours l) l n)) → Off (status (f (row (hours l) l n)))
        → over_at (hours l) l n (confirm (hours l) n mw (on_row (hours l) n f l)) ps ≡ exceeds_at (hours l) l n ps (λ x h. use_confirming (hours l) l n mw x h)
    paths_then_confirming f q same after =
        over_at_lem H l n (confirm H n mw (on_row H n f l)) ps (λ x h. use_confirming H l n mw x h)
        (λ x h hlt. use_after_confirm P hlt (subst (λ (r : List ℕ). Off (status r)) (sym T.own) after) mw long1 (unconfirmed_stays here f q ∙ ok) (short_stays here f q mw ∙ ample) x ∙ use_stays here f q mw x h hlt)
      where
        T : Turned (rows l) H l (on_row H n f l) n (f (row H l n))
        T = written here f q

        P : Placed (rows (on_row H n f l)) H (on_row H n f l) n
        P = placed_in (next_own (formed s) lt f same).formed (T.head 1 (lit< tt)) (omega (arith, T.head 6 (lit< tt), lt))

        long1 : length mw ≡ span_hours (row H (on_row H n f l) n)
        long1 = omega (arith, long, starts_stay here.sized here.own f q n, stops_stay here.sized here.own f q n)

  pub paths_annulling : reqtype (row (hours l) l n) ≢ RELINQUISH → status (row (hours l) l n) ≡ 13 → equal (available (hours l) (row (hours l) l n)) (granted (hours l) (row (hours l) l n)) ≡ true
      → over_at (hours l) l n (annul (hours l) n l) ps ≡ exceeds_at (hours l) l n ps (λ x h. use_annulling (hours l) l n x h)
  paths_annulling type before whole = over_at_lem H l n (annul H n l) ps (λ x h. use_annulling H l n x h) (λ x h hlt. use_after_annul here hlt type before whole x)
