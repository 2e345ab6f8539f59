use mathlib.Core.Path.{◌∙◌}
use Rattle.opening.proofs.Added.{told, untold}
use Rattle.opening.proofs.chains.Chains.row_balanced.Goals as goal

pub returns-then-not-is_tested : goal.returns-then-not-is_tested
returns-then-not-is_tested g c =
    untold g.T.Test.is_tested g.T.Test.link g.T.Test.own g.T.Test.share (c.is_tested.ensures ∙ cc (c.row.ensures.words, c.row.ensures.size, c.row.ensures.n)) c.if-not-is_tested.true

pub returns : goal.returns
returns g c =
    told g.T.Test.is_tested g.T.Test.link g.T.Test.own g.T.Test.share (c.is_tested.ensures ∙ cc (c.row.ensures.words, c.row.ensures.size, c.row.ensures.n)) c.if-not-is_tested.false c.sum_rows.ensures c.is_profile.ensures
