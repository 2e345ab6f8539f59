-- The 1 that is judged last never comes on what a list of calls from a fresh ledger leaves.
use mathlib.Core.Path.{◌≡◌, sym, ap, subst}
use mathlib.Core.Bool.{Bool, true, false}
use mathlib.Core.List.{List}
use Prim.Native.Nat.{ℕ, ◌+◌}
use native.Mathlib.Decide.{ℕ_discrete}
use native.Mathlib.Omega.{arith}
use Rattle.rules.specs.Pick.{◌only_if◌}
use Rattle.rules.specs.Layout.{hours, row, path}
use Rattle.rules.specs.Megawatts.{carries_over}
use Rattle.rules.specs.Paths.{use_of}
use Rattle.rules.specs.Act.{kind_number, kind_after, common_number, last_number}
use Rattle.rules.specs.Checks.{named}
use Rattle.rules.specs.Tally.{Tally}
use Rattle.rules.specs.Limits.{NeverOver}
use Rattle.rules.specs.declared.Action.{Action}
use Rattle.rules.proofs.Formed.{formed}
use Rattle.rules.proofs.View.{out_of, red_of}
use Rattle.rules.proofs.Over.{sound_carries}
use Rattle.rules.proofs.Soundness.{kind_next, common_passed, after_of}
use Rattle.rules.proofs.Good.{Good}
use Rattle.rules.proofs.Tests.{use_column}
use Rattle.rules.proofs.Keeping.{good_within}
use Rattle.rules.proofs.KindGood.{Tests, kind_good}
use Rattle.rules.proofs.Demand.{calls_good}

module _ {B : ℕ → ℕ → ℕ} {l : List ℕ} {t : Tally} (G : Good B l t) (w : List ℕ) (a : Action) (c : common_number true a ≡ 0) (e : kind_number (hours l) l w a ≡ 0) where
  abbrev next : List ℕ
  next = kind_after (hours l) l w a

  -- a bound that no use exceeds, before or after
  wide : ℕ → ℕ → ℕ
  wide h x = use_of (hours l) l x h + use_of (hours l) next x h

  widened : Good wide l t
  unfolding wide
  widened = good_within G (λ h hlt. record { use_of_lem = λ x least. omega (arith, use_column (hours l) h l (out_of t h) (red_of t h) x) })

  tested : Tests widened w a c e next
  unfolding wide
  tested n1 n8 i r h hlt out out' red red' = record {
    own = omega (arith, use_column (hours l) h next out' red' (path (row (hours l) l (named a))));
    above = λ p q. omega (arith, use_column (hours l) h next out' red' (path (row (hours l) l p)));
  }

  carries_none : carries_over (hours l) next ≡ false
  carries_none = go (ℕ_discrete a.kind 8)
    where
      go : Dec (a.kind ≡ 8) → carries_over (hours l) next ≡ false
      go (yes q) = subst (λ (x : List ℕ). carries_over (hours l) x ≡ false) (sym (after_of (hours l) l w a q)) (sound_carries G.sound)
      go (no n8) =
          subst (λ (h : ℕ). carries_over h next ≡ false) (kind_next (formed G.sound) w a (common_passed a c) e).hours
          (sound_carries (kind_good widened w a c e tested n8).sound)

pub never_over : NeverOver
unfolding last_number
never_over R H provider window base good ps calls w a c e =
    ap (λ (b : Bool). 1 only_if b) (carries_none (calls_good R H provider window base good ps calls) w a c e)
