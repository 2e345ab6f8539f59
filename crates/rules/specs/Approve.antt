-- 4 Approve.
use Rattle.std.specs.Prelude.{Bool, true, ◌||◌, not, List, ℕ}
use Rattle.rules.specs.Pick.{◌gives◌else◌, ◌only_if◌, ◌then◌, when}
use Rattle.rules.specs.Numbers.{approved, ACCEPTED}
use Rattle.rules.specs.Layout.{on_row, reqtype, has, raise}
use Rattle.rules.specs.Sound.{transfer}
use Rattle.rules.specs.Moves.{is_open}
use Rattle.rules.specs.Megawatts.{in_force}
use Rattle.rules.specs.Confirming.{confirm}
use Rattle.rules.specs.Checks.{named, named_row, no_reference, not_provider, waits_at, waiting_number}
use Rattle.rules.specs.declared.Action.{Action}

-- 11: not type 6 or 7, not open, or approved already
unfoldable pub not_approvable : List ℕ → Bool
not_approvable r = not (transfer (reqtype r)) || (not (is_open r) || has approved r)

unfoldable pub approve_number : ℕ → List ℕ → Action → ℕ
approve_number H l a =
    no_reference l a gives 4 else
    not_provider l a gives 3 else
    not_approvable (named_row H l a) gives 11 else
    (waiting_number H l a true only_if waits_at ACCEPTED (named_row H l a))

-- A preconfirmed row at 10 then confirms
unfoldable pub approve_after : ℕ → List ℕ → Action → List ℕ
approve_after H l a =
    l then on_row H (named a) (raise approved)
    then when (waits_at ACCEPTED (named_row H l a)) (confirm H (named a) (in_force H (named_row H l a)))
