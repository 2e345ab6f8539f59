-- Words handed out at the front of a lent slice.
use mathlib.Core.Path.{◌≡◌, refl, ap, ◌∙◌}
use mathlib.Core.Bool.{true, false}
use mathlib.Core.List.{List, ◌++◌}
use Prim.Native.Nat.{ℕ, ◌-◌}
use native.Mathlib.Omega.{arith}
use lib.Dec.{leb}
use lib.ListN.{length, take, drop}
use Rattle.words.specs.Lists.{splice}
use Rattle.words.proofs.Laws.{back}
use Rattle.rules.proofs.Picks.{hit_by, skip}
use Rattle.luddrisa.specs.HandedOut.{handed_out}

-- they fit, and came back as v
pub fitting : (out ws v : List ℕ) → leb (length ws) (length out) ≡ true → v ≡ ws → take 0 out ++ (v ++ drop (length ws - 0) (drop 0 out)) ≡ handed_out out ws
unfolding handed_out
fitting out ws v t e =
    hit_by (leb (length ws) (length out)) _ (splice out 0 ws) out t
    (back out 0 (length ws - 0) v (omega (arith, ap length e)) ∙ ap (λ (x : List ℕ). splice out 0 x) e)

-- they do not
pub too_long : (out ws : List ℕ) → leb (length ws) (length out) ≡ false → out ≡ handed_out out ws
unfolding handed_out
too_long out ws t = skip (leb (length ws) (length out)) out (splice out 0 ws) out t refl
