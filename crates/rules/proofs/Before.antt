-- Confirming row n after a write in it that moves no megawatts: its checks read nothing that the write changed.
use mathlib.Core.Path.{◌≡◌, refl, sym, ap, subst, ◌∙◌}
use mathlib.Core.Bool.{Bool, true, false, ◌&&◌, not}
use mathlib.Core.List.{List}
use Prim.Native.Nat.{ℕ, ◌≤◌, ◌<◌}
use native.Mathlib.Omega.{arith}
use lib.Dec.{eqb, lit<}
use lib.ListN.{length}
use borrow.Author.Tests.{eqb-true, not-true}
use Rattle.words.specs.Lists.{within, covered}
use Rattle.rules.specs.Numbers.{available_part, most_megawatts, RELINQUISH}
use Rattle.rules.specs.Layout.{rows, hours, used, row, on_row, reqtype, start, stop, related_row, span_hours, hours_of, set_status}
use Rattle.rules.specs.Sound.{original}
use Rattle.rules.specs.Moves.{is_confirmed}
use Rattle.rules.specs.Megawatts.{carries_over}
use Rattle.rules.specs.Confirming.{confirm, unconfirmed, drawn_from, short}
use Rattle.rules.proofs.Turned.{Turned}
use Rattle.rules.proofs.SoundFacts.{SoundLedger}
use Rattle.rules.proofs.Formed.{formed}
use Rattle.rules.proofs.Placed.{Placed, placed}
use Rattle.rules.proofs.Types.{derived_least}
use Rattle.rules.proofs.Unmoved.{Unmoved, unmoved_status, unmoved_turned, types_stay, starts_stay, stops_stay, related_stays}
use Rattle.rules.proofs.Over.{full, over_confirming, carried, confirming, unmoved_carried, writing}

-- a test behind another: it counts only where the first holds
gate : (b b' x x' : Bool) → b' ≡ b → (b ≡ true → x' ≡ x) → (b' && x') ≡ (b && x)
gate b b' x x' e h = ap (λ (t : Bool). t && x') e ∙ go b h
  where
    go : (b : Bool) → (b ≡ true → x' ≡ x) → (b && x') ≡ (b && x)
    go true h = h refl
    go false h = refl

module _ {R H : ℕ} {l : List ℕ} {n : ℕ} (o : Placed R H l n) (f : List ℕ → List ℕ) (q : Unmoved H (row H l n) (f (row H l n))) where
  written : Turned R H l (on_row H n f l) n (f (row H l n))
  written = unmoved_turned o.sized o.own f q

  same_type : reqtype (row H (on_row H n f l) n) ≡ reqtype (row H l n)
  same_type = types_stay o.sized o.own f q n

  same_start : start (row H (on_row H n f l) n) ≡ start (row H l n)
  same_start = starts_stay o.sized o.own f q n

  same_stop : stop (row H (on_row H n f l) n) ≡ stop (row H l n)
  same_stop = stops_stay o.sized o.own f q n

  same_above : (m : ℕ) → related_row H (on_row H n f l) m ≡ related_row H l m
  same_above = related_stays o.sized o.own f q

  -- the row above, and the row above the redirect
  above_stays : 3 ≤ reqtype (row H l n) → row H (on_row H n f l) (related_row H (on_row H n f l) n) ≡ row H l (related_row H l n)
  above_stays t = ap (λ (m : ℕ). row H (on_row H n f l) m) (same_above n) ∙ written.other (related_row H l n) (λ z. omega (arith, o.lower t, z))

  over_stays : reqtype (row H l n) ≡ RELINQUISH
      → row H (on_row H n f l) (related_row H (on_row H n f l) (related_row H (on_row H n f l) n)) ≡ row H l (related_row H l (related_row H l n))
  over_stays e =
      ap (λ (m : ℕ). row H (on_row H n f l) (related_row H (on_row H n f l) m)) (same_above n)
      ∙ ap (λ (m : ℕ). row H (on_row H n f l) m) (same_above (related_row H l n))
      ∙ written.other (related_row H l (related_row H l n)) (λ z. omega (arith, o.lower (omega (arith, e)), o.lowest e, z))

  pub unconfirmed_stays : unconfirmed H (on_row H n f l) n ≡ unconfirmed H l n
  unfolding unconfirmed
  unconfirmed_stays =
      gate _ _ _ _ (ap (λ (t : ℕ). not (original t)) same_type)
      (λ e. ap (λ (x : List ℕ). not (is_confirmed x)) (above_stays (derived_least _ o.type_least (not-true _ e))))

  drawn_stays : 3 ≤ reqtype (row H l n) → (count : ℕ) → drawn_from H (on_row H n f l) n count ≡ drawn_from H l n count
  unfolding drawn_from
  drawn_stays t count =
      ap (λ (s : ℕ). hours_of H available_part s count (row H (on_row H n f l) (related_row H (on_row H n f l) n))) same_start
      ∙ ap (λ (x : List ℕ). hours_of H available_part (start (row H l n)) count x) (above_stays t)

  pub short_stays : (mw : List ℕ) → short H (on_row H n f l) n mw ≡ short H l n mw
  unfolding short
  short_stays mw =
      gate _ _ _ _ (ap (λ (t : ℕ). not (original t)) same_type)
      (λ e. ap (λ (x : List ℕ). not (covered mw x)) (drawn_stays (derived_least _ o.type_least (not-true _ e)) (length mw)))

  -- and the last check of it
  pub over_confirming_stays : (mw : List ℕ) → over_confirming H (on_row H n f l) n mw ≡ over_confirming H l n mw
  unfolding over_confirming
  over_confirming_stays mw =
      gate _ _ _ _ (ap (λ (t : ℕ). eqb t RELINQUISH) same_type)
      (λ e.
      let t : reqtype (row H l n) ≡ RELINQUISH = eqb-true (reqtype (row H l n)) RELINQUISH e in
      ap (λ (s : ℕ). full H s mw (row H (on_row H n f l) (related_row H (on_row H n f l) (related_row H (on_row H n f l) n)))) same_start
      ∙ ap (λ (x : List ℕ). full H (start (row H l n)) mw x) (over_stays t))

-- ---- the last check on a sound ledger where such a write comes first
module _ {l : List ℕ} {n : ℕ} (s : SoundLedger l) (lt : n < used l) (f : List ℕ → List ℕ) (q : Unmoved (hours l) (row (hours l) l n) (f (row (hours l) l n))) where
  first : Placed (rows l) (hours l) l n
  first = placed (formed s) lt

  then_used : n < used (on_row (hours l) n f l)
  then_used = omega (arith, lt, (written first f q).head 6 (lit< tt))

  -- and row n is then confirmed
  pub over_then_confirming : (mw : List ℕ) → length mw ≡ span_hours (row (hours l) l n) → within most_megawatts mw ≡ true
      → carries_over (hours l) (confirm (hours l) n mw (on_row (hours l) n f l)) ≡ over_confirming (hours l) l n mw
  over_then_confirming mw long w =
      confirming (unmoved_carried (carried s) lt f q) then_used mw (omega (arith, long, same_start first f q, same_stop first f q)) w
      ∙ over_confirming_stays first f q mw

  -- or written so again
  pub over_then_quiet : (g : List ℕ → List ℕ) → Unmoved (hours l) (f (row (hours l) l n)) (g (f (row (hours l) l n))) → carries_over (hours l) (on_row (hours l) n g (on_row (hours l) n f l)) ≡ false
  over_then_quiet g k =
      writing (unmoved_carried (carried s) lt f q) then_used g (subst (λ (x : List ℕ). Unmoved (hours l) x (g x)) (sym (written first f q).own) k)

  pub over_then_status : (v : ℕ) → carries_over (hours l) (on_row (hours l) n (set_status v) (on_row (hours l) n f l)) ≡ false
  over_then_status v = over_then_quiet (set_status v) (unmoved_status q.long v)
