use mathlib.Core.Path.{◌≡◌, refl, ◌∙◌}
use mathlib.Core.Bool.{true}
use mathlib.Core.List.{[]}
use native.Mathlib.Omega.{arith}
use Rattle.words.specs.Lists.{every, within}
use Rattle.rules.specs.Numbers.{most_megawatts}
use Rattle.paths.proofs.Changed.{use_now, unchanged_fits}
use Rattle.paths.proofs.adding.add_use.Goals as goal

nothing : within most_megawatts [] ≡ true
unfolding within every
nothing = refl

pub invariant_of-add_each : goal.invariant_of-add_each
invariant_of-add_each c = record { changing = unchanged_fits _ _ _ refl (omega arith) nothing }

pub returns : goal.returns
returns c =
    let l = c.args.ledger in
    record {
      long = c.add_each.ensures.long;
      each = λ h lt. c.add_each.ensures.each h lt ∙ use_now l.size.hours l.words.now _ refl c.args.x h;
    }
