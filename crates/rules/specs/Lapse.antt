-- 6 Lapse.
use Rattle.std.specs.Prelude.{Bool, ◌||◌, not, List, [], ◌∷◌, ℕ, ltb}
use Rattle.rules.specs.Pick.{pick, ◌gives◌else◌, ◌only_if◌, ◌among◌}
use Rattle.rules.specs.Numbers.{approved, ACCEPTED, CR_ACCEPTED, RETRACTED}
use Rattle.rules.specs.Layout.{clock, on_row, status, limit, has, set_status}
use Rattle.rules.specs.Megawatts.{in_force}
use Rattle.rules.specs.Confirming.{confirm}
use Rattle.rules.specs.Checks.{named, named_row, no_reference, not_provider, waits_at, waiting_number}
use Rattle.rules.specs.declared.Action.{Action}

-- 11: not at 6, 7, 10, 11, or preconfirmed at 10
unfoldable pub not_lapsing : List ℕ → Bool
not_lapsing r = not (status r among (6 ∷ 7 ∷ 10 ∷ 11 ∷ [])) || waits_at ACCEPTED r

-- 16: now below limit
unfoldable pub too_early : List ℕ → List ℕ → Bool
too_early l r = ltb (clock l) (limit r)

unfoldable pub lapse_number : ℕ → List ℕ → Action → ℕ
lapse_number H l a =
    no_reference l a gives 4 else
    not_provider l a gives 3 else
    not_lapsing (named_row H l a) gives 11 else
    too_early l (named_row H l a) gives 16 else
    (waiting_number H l a (has approved (named_row H l a)) only_if waits_at CR_ACCEPTED (named_row H l a))

-- A preconfirmed 11 confirms; the others go to 17
unfoldable pub lapse_after : ℕ → List ℕ → Action → List ℕ
lapse_after H l a =
    pick (waits_at CR_ACCEPTED (named_row H l a)) (confirm H (named a) (in_force H (named_row H l a)) l)
    (on_row H (named a) (set_status RETRACTED) l)
