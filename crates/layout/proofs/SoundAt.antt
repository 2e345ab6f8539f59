-- What a sound ledger of R rows and H hours has.
use mathlib.Core.Path.{sym, subst}
use mathlib.Core.List.{List}
use Prim.Native.Nat.{ℕ, ◌≤◌}
use native.Mathlib.Omega.{arith}
use lib.ListN.{length}
use borrow.Author.Rules.{rules}
use Rattle.rules.specs.Numbers.{head_words}
use Rattle.rules.specs.Layout.{rows, Sized}
use Rattle.rules.proofs.Rows.{row_least}
use Rattle.rules.proofs.SoundFacts.{sized}
use Rattle.layout.specs.SoundAt.{SoundAt}

module _ {l : List ℕ} {R H : ℕ} (s : SoundAt l R H) where
  pub sized_at : Sized l R H
  sized_at = subst (λ (x : ℕ). Sized l x H) (sym s.rows) (subst (λ (x : ℕ). Sized l (rows l) x) (sym s.hours) (sized s.sound))

  pub head_fits : head_words ≤ length l
  head_fits = omega (arith, sized_at.long, row_least H R)

-- for what a function asks of the checks on the head
pub ruleset sound_at = (rules, head_fits)
