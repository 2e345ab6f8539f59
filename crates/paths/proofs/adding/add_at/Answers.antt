use mathlib.Core.Path.{refl, ap, ◌∙◌}
use mathlib.Core.List.{List}
use Prim.Native.Nat.{ℕ, ◌+◌}
use lib.ListN.{length}
use Rattle.words.specs.Lists.{zip2, roomy, most_word}
use Rattle.words.proofs.Laws.{lent, lent_back}
use Rattle.paths.proofs.Hourly.{added, adding_room}
use Rattle.paths.proofs.adding.add_at.Goals as goal

pub add-requires-clause-dst_value : goal.add-requires-clause-dst_value
add-requires-clause-dst_value c =
    ap (λ (x : List ℕ). roomy most_word c.args.v.now x) (lent c.args.sums.now c.args.start c.args.start (length c.args.v.now) refl c.requires.fits) ∙ adding_room c.requires

pub returns : goal.returns
returns c =
    added c.args.start c.args.v.now c.args.sums.now c.requires.fits _
    (lent_back c.args.sums.now c.args.start c.args.start (length c.args.v.now) refl c.requires.fits c.add.new.dst _ c.add.auto.dst
    (c.add.ensures ∙ ap (λ (x : List ℕ). zip2 ◌+◌ x c.args.v.now) (lent c.args.sums.now c.args.start c.args.start (length c.args.v.now) refl c.requires.fits)))
