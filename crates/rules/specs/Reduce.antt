-- 5 Reduce.
use Rattle.std.specs.Prelude.{Bool, ◌||◌, not, List, ℕ, eqb}
use Rattle.words.specs.Lists.{covered}
use Rattle.rules.specs.Pick.{◌gives◌else◌}
use Rattle.rules.specs.Numbers.{RELINQUISH}
use Rattle.rules.specs.Layout.{reqtype, span_hours, available}
use Rattle.rules.specs.Moves.{is_confirmed}
use Rattle.rules.specs.Megawatts.{reduce}
use Rattle.rules.specs.Checks.{named, named_row, profile, bad_profile, no_reference, not_provider}
use Rattle.rules.specs.declared.Action.{Action}

-- 11: not CONFIRMED, or type 8
unfoldable pub not_reducible : List ℕ → Bool
not_reducible r = not (is_confirmed r) || eqb (reqtype r) RELINQUISH

-- 14: available less than the profile in an hour
unfoldable pub reduces_too_much : ℕ → List ℕ → Action → List ℕ → Bool
reduces_too_much H w a r = not (covered (profile w a) (available H r))

unfoldable pub reduce_number : ℕ → List ℕ → List ℕ → Action → ℕ
reduce_number H l w a =
    no_reference l a gives 4 else
    not_provider l a gives 3 else
    not_reducible (named_row H l a) gives 11 else
    bad_profile w a (span_hours (named_row H l a)) gives 7 else
    reduces_too_much H w a (named_row H l a) gives 14 else
    0

unfoldable pub reduce_after : ℕ → List ℕ → List ℕ → Action → List ℕ
reduce_after H l w a = reduce H (named a) (profile w a) l
