-- Every kind keeps what is kept, by an action that passed the checks of its kind. Neither the postings nor the check
-- that is judged last is asked for: B is any bound on the use of paths that is kept where a row is confirmed, or
-- annulled from 13.
use mathlib.Core.Path.{◌≡◌, sym, subst, ◌∙◌}
use mathlib.Core.Logic.{◌≢◌}
use mathlib.Core.Bool.{true}
use mathlib.Core.List.{List}
use Prim.Native.Nat.{ℕ, ◌≤◌, ◌<◌}
use native.Mathlib.Decide.{ℕ_discrete}
use native.Mathlib.Omega.{arith}
use lib.IntN.{ℤ}
use Rattle.column.specs.Use.{Tested}
use Rattle.rules.specs.Layout.{hours, used, row, status}
use Rattle.rules.specs.Moves.{confirmed_or_annulled}
use Rattle.rules.specs.Submit.{submit_after}
use Rattle.rules.specs.SellerStatus.{seller_after}
use Rattle.rules.specs.CustomerStatus.{customer_after}
use Rattle.rules.specs.Approve.{approve_after}
use Rattle.rules.specs.Reduce.{reduce_after}
use Rattle.rules.specs.Lapse.{lapse_after}
use Rattle.rules.specs.Checks.{named, named_row}
use Rattle.rules.specs.Act.{kind_number, kind_after, common_number, answered}
use Rattle.rules.specs.Tally.{Tally, feed}
use Rattle.rules.specs.declared.Action.{Action}
use Rattle.rules.proofs.View.{view}
use Rattle.rules.proofs.Formed.{Formed, formed}
use Rattle.rules.proofs.Passed.{submit_passed, seller_status_passed, customer_status_passed, approve_passed, reduce_passed, lapse_passed}
use Rattle.rules.proofs.Tests.{Left}
use Rattle.rules.proofs.Soundness.{kind_next, common_passed, kind_passed, past, number_of, after_of}
use Rattle.rules.proofs.Good.{Good}
use Rattle.rules.proofs.Answers.{named_answer, submit_answer}
use Rattle.rules.proofs.SubmitGood.{submit_good}
use Rattle.rules.proofs.SellerGood.{seller_good}
use Rattle.rules.proofs.CustomerGood.{customer_good}
use Rattle.rules.proofs.ProviderGood.{approve_good, reduce_good, lapse_good, clock_good}

last : {k : ℕ} → k ≤ 8 → 8 ≤ k → k ≡ 8
last p q = omega arith

module _ {B : ℕ → ℕ → ℕ} {l : List ℕ} {t : Tally} (G : Good B l t) (w : List ℕ) (a : Action) (c : common_number true a ≡ 0) (e : kind_number (hours l) l w a ≡ 0) where
  abbrev H : ℕ
  H = hours l

  abbrev next : List ℕ
  next = kind_after H l w a

  -- what is to be shown, of the ledger that the kind leaves
  abbrev Kept : List ℕ → Type 0
  Kept x = Good B x (feed a w (answered H l w a x) t)

  -- of an action that names its row: the paths are tested
  abbrev pub Tests : List ℕ → Type 0
  Tests x =
      a.kind ≢ 1 → a.kind ≢ 8 → (1 ≤ a.reference) × (a.reference ≤ used l) → confirmed_or_annulled (status (named_row H l a)) (status (row H x (named a))) ≡ true
      → (h : ℕ) → h < H → (out out' : ℕ → ℕ → ℤ) (red red' : ℕ → ℤ) → Tested (B h) (view H h l out red) (view H h x out' red') (named a)

  by_kind : {n : ℕ} {x : List ℕ} → kind_number H l w a ≡ n → next ≡ x → (n ≡ 0 → Formed x → Kept x) → Kept next
  by_kind p q f = subst Kept (sym q) (f (sym p ∙ e) (subst Formed q (kind_next (formed G.sound) w a (common_passed a c) e).formed))

  apart : {k m : ℕ} → a.kind ≡ k → (k ≡ m → ⊥) → a.kind ≢ m
  apart q ne z = ne (sym q ∙ z)

  module _ (T : Tests next) where
    left : a.kind ≢ 1 → a.kind ≢ 8 → (1 ≤ a.reference) × (a.reference ≤ used l) → {x : List ℕ} → next ≡ x → Formed x → Left B l x (named a) (status (named_row H l a)) (status (row H x (named a)))
    left n1 n8 i q f = record { formed = f; tested = subst Tests q T n1 n8 i }

    submitted : a.kind ≡ 1 → Kept next
    submitted q = by_kind (number_of H l w a q) (after_of H l w a q) (λ n f. submit_good G w a (submit_passed H l w a n) f (submit_answer H l w a (submit_after H l w a) (apart q (λ z. omega (arith, z))) (apart q (λ z. omega (arith, z))) q) q)

    sold : a.kind ≡ 2 → Kept next
    sold q =
        by_kind (number_of H l w a q) (after_of H l w a q)
        (λ n f. let P = seller_status_passed H l w a n in seller_good G w a P (left (apart q (λ z. omega (arith, z))) (apart q (λ z. omega (arith, z))) P.reference (after_of H l w a q) f) (named_answer H l w a (seller_after H l w a) (apart q (λ z. omega (arith, z))) (apart q (λ z. omega (arith, z))) (apart q (λ z. omega (arith, z)))) q)

    bought : a.kind ≡ 3 → Kept next
    bought q =
        by_kind (number_of H l w a q) (after_of H l w a q)
        (λ n f. let P = customer_status_passed H l w a n in customer_good G w a P (left (apart q (λ z. omega (arith, z))) (apart q (λ z. omega (arith, z))) P.reference (after_of H l w a q) f) (named_answer H l w a (customer_after H l w a) (apart q (λ z. omega (arith, z))) (apart q (λ z. omega (arith, z))) (apart q (λ z. omega (arith, z)))) q)

    approves : a.kind ≡ 4 → Kept next
    approves q =
        by_kind (number_of H l w a q) (after_of H l w a q)
        (λ n f. let P = approve_passed H l a n in approve_good G w a P (left (apart q (λ z. omega (arith, z))) (apart q (λ z. omega (arith, z))) P.reference (after_of H l w a q) f) (named_answer H l w a (approve_after H l a) (apart q (λ z. omega (arith, z))) (apart q (λ z. omega (arith, z))) (apart q (λ z. omega (arith, z)))) q)

    reduces : a.kind ≡ 5 → Kept next
    reduces q = by_kind (number_of H l w a q) (after_of H l w a q) (λ n f. reduce_good G w a (reduce_passed H l w a n) f (named_answer H l w a (reduce_after H l w a) (apart q (λ z. omega (arith, z))) (apart q (λ z. omega (arith, z))) (apart q (λ z. omega (arith, z)))) q)

    lapses : a.kind ≡ 6 → Kept next
    lapses q =
        by_kind (number_of H l w a q) (after_of H l w a q)
        (λ n f. let P = lapse_passed H l a n in lapse_good G w a P (left (apart q (λ z. omega (arith, z))) (apart q (λ z. omega (arith, z))) P.reference (after_of H l w a q) f) (named_answer H l w a (lapse_after H l a) (apart q (λ z. omega (arith, z))) (apart q (λ z. omega (arith, z))) (apart q (λ z. omega (arith, z)))) q)

    ticks : a.kind ≡ 7 → Kept next
    ticks q = by_kind (number_of H l w a q) (after_of H l w a q) (λ n f. clock_good G w a f q)

    pub kind_good : a.kind ≢ 8 → Kept next
    kind_good n8 = go (ℕ_discrete a.kind 1) (ℕ_discrete a.kind 2) (ℕ_discrete a.kind 3) (ℕ_discrete a.kind 4) (ℕ_discrete a.kind 5) (ℕ_discrete a.kind 6) (ℕ_discrete a.kind 7)
      where
        go : Dec (a.kind ≡ 1) → Dec (a.kind ≡ 2) → Dec (a.kind ≡ 3) → Dec (a.kind ≡ 4) → Dec (a.kind ≡ 5) → Dec (a.kind ≡ 6) → Dec (a.kind ≡ 7) → Kept next
        go (yes q) d2 d3 d4 d5 d6 d7 = submitted q
        go (no n1) (yes q) d3 d4 d5 d6 d7 = sold q
        go (no n1) (no n2) (yes q) d4 d5 d6 d7 = bought q
        go (no n1) (no n2) (no n3) (yes q) d5 d6 d7 = approves q
        go (no n1) (no n2) (no n3) (no n4) (yes q) d6 d7 = reduces q
        go (no n1) (no n2) (no n3) (no n4) (no n5) (yes q) d7 = lapses q
        go (no n1) (no n2) (no n3) (no n4) (no n5) (no n6) (yes q) = ticks q
        go (no n1) (no n2) (no n3) (no n4) (no n5) (no n6) (no n7) =
            let k = kind_passed a c in
            let three : 4 ≤ a.kind = past n3 (past n2 (past n1 k.0)) in
            let seven : 8 ≤ a.kind = past n7 (past n6 (past n5 (past n4 three))) in
            absurd (n8 (last k.1 seven))
