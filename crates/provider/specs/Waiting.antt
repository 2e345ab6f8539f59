-- For contracts inside the crates: a row that confirms where it is preconfirmed at a status. No promise to the outside
-- names this.
use Rattle.std.specs.Prelude.{◌≡◌, true, false, List, ℕ, ◌≤◌}
use Rattle.rules.specs.Layout.{used}
use Rattle.rules.specs.Megawatts.{in_force}
use Rattle.rules.specs.Confirming.{short}
use Rattle.rules.specs.Checks.{named, named_row, waits_at}
use Rattle.rules.specs.declared.Action.{Action}

-- the reference was issued, and where its row waits at s it passed the 14 of confirming
pub record Waiting (H : ℕ) (l : List ℕ) (a : Action) (s : ℕ) : Type 0 where
  pub issued : (1 ≤ a.reference) × (a.reference ≤ used l)
  pub ample : waits_at s (named_row H l a) ≡ true → short H l (named a) (in_force H (named_row H l a)) ≡ false
