use Rattle.std.proofs.Common.{◌∙◌, eq-eqb}
use borrow.Author.Tests.{ne_eqb}
use Rattle.rules.specs.Paths.{sound_postings}
use Rattle.rules.proofs.Picks.{and_stops, and_goes}
use Rattle.layout.proofs.sound.sound_postings.Goals as goal

pub returns-then-postings-size : goal.returns-then-postings-size
unfolding sound_postings
returns-then-postings-size c = and_goes _ _ _ (eq-eqb _ _ c.if-postings-size.true) c.all_within.ensures

pub returns-else-postings-size : goal.returns-else-postings-size
unfolding sound_postings
returns-else-postings-size c = let e = ne_eqb _ _ c.if-postings-size.false in e ∙ and_stops _ _ e
