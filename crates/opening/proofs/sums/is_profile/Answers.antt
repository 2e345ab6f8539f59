use mathlib.Core.Path.{◌∙◌}
use Rattle.layout.specs.Profiles.{part_of}
use Rattle.layout.proofs.Profiles.{part_below}
use Rattle.opening.proofs.Added.{hours_compared}
use Rattle.opening.proofs.sums.is_profile.Goals as goal

pub returns : goal.returns
returns c =
    c.equals.ensures
    ∙ cc (c.row.ensures.words, c.row.ensures.size, c.row.ensures.n)
    ∙ hours_compared c.args.entry.ledger.sound_at c.args.entry.n (part_of c.args.p) c.args.entry.in_use (part_below c.args.p) c.args.sums.now c.requires
