use Rattle.paths.proofs.Overlaid.{covered_over}
use Rattle.paths.proofs.posting.is_covered.Goals as goal

pub returns : goal.returns
returns c =
    simp (c.all_covered.ensures, c.all_covered-2.ensures, c.all_covered-3.ensures) (covered_over c.args.sums.now c.args.own.now c.args.profile.now c.args.start c.requires.0 c.requires.1)
