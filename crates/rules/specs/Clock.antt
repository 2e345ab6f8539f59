-- 7 Clock.
use Rattle.std.specs.Prelude.{Bool, ◌||◌, List, ℕ, leb, ltb}
use Rattle.rules.specs.Pick.{◌gives◌else◌}
use Rattle.rules.specs.Numbers.{end_second}
use Rattle.rules.specs.Layout.{clock, set_clock}
use Rattle.rules.specs.Checks.{not_provider}
use Rattle.rules.specs.declared.Action.{Action}

-- 5: time below now or past 2099
unfoldable pub bad_time : List ℕ → Action → Bool
bad_time l a = ltb a.time (clock l) || leb end_second a.time

unfoldable pub clock_number : List ℕ → Action → ℕ
clock_number l a =
    not_provider l a gives 3 else
    bad_time l a gives 5 else
    0

unfoldable pub clock_after : List ℕ → Action → List ℕ
clock_after l a = set_clock a.time l
