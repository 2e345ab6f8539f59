use mathlib.Core.Path.{ap, ◌∙◌}
use mathlib.Core.List.{List}
use Prim.Native.Nat.{ℕ, ◌+◌}
use Rattle.words.specs.Lists.{zip2, roomy, most_word}
use Rattle.layout.proofs.Profiles.{part_below}
use Rattle.opening.proofs.Added.{hours_room, hours_added}
use Rattle.opening.proofs.sums.add_profile.Goals as goal

pub add-requires-clause-dst_value : goal.add-requires-clause-dst_value
add-requires-clause-dst_value c =
    ap (λ (v : List ℕ). roomy most_word v c.args.sums.now) (c.hours.ensures.is ∙ cc (c.row.ensures.words, c.row.ensures.size, c.row.ensures.n))
    ∙ hours_room c.args.entry.ledger.sound_at c.args.entry.n _ c.args.entry.in_use (part_below c.args.p) c.requires

pub returns : goal.returns
returns c =
    hours_added c.args.entry.ledger.sound_at c.args.entry.n _ c.args.entry.in_use (part_below c.args.p) c.requires
    (c.add.ensures ∙ ap (λ (v : List ℕ). zip2 ◌+◌ c.args.sums.now v) (c.hours.ensures.is ∙ cc (c.row.ensures.words, c.row.ensures.size, c.row.ensures.n)))
