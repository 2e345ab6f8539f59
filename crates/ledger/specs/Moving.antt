-- For contracts inside this crate, no promise to the outside: what its functions ask of an action.
use Rattle.std.specs.Prelude.{◌≡◌, true, false, List, ℕ, ◌+◌, ◌≤◌, length}
use Rattle.words.specs.Lists.{within}
use Rattle.rules.specs.Numbers.{most_hours, most_megawatts}
use Rattle.rules.specs.Checks.{profile}
use Rattle.rules.specs.Megawatts.{carries_over}
use Rattle.rules.specs.Act.{common_number, kind_number, kind_after}
use Rattle.rules.specs.declared.Action.{Action}
use Rattle.layout.specs.SoundAt.{SoundAt}

-- the action's profile lies in its slice, and a word holds its total
pub record SmallProfile (w : List ℕ) (a : Action) : Type 0 where
  pub fits : a.offset + a.length ≤ length w
  pub counted : a.length ≤ most_hours
  pub most : within most_megawatts (profile w a) ≡ true

-- an action on a sound ledger of R rows and H hours that passed the checks of every action, those of its kind, and the
-- one that is judged last
pub record Passes (l w : List ℕ) (R H : ℕ) (a : Action) : Type 0 where
  pub sound : SoundAt l R H
  pub common : common_number true a ≡ 0
  pub kind : kind_number H l w a ≡ 0
  pub last : carries_over H (kind_after H l w a) ≡ false
