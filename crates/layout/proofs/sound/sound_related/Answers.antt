use Rattle.std.proofs.Common.{sym, ◌∙◌}
use Rattle.layout.proofs.Soundness.{related_none, related_loose, related_linked}
use Rattle.layout.proofs.sound.sound_related.Goals as goal

pub returns-then-is_original : goal.returns-then-is_original
returns-then-is_original c = related_none _ _ _ _ c.own-r.ensures.is (sym c.is_original.ensures ∙ c.if-is_original.true)

pub returns-in-None : goal.returns-in-None
returns-in-None c =
    related_loose _ _ _ _ c.own-r.ensures.is (sym c.is_original.ensures ∙ c.if-is_original.false) c.in-None.ensures

pub returns-in-Some : goal.returns-in-Some
returns-in-Some c =
    let up = c.in-Some.ensures in
    c.sound_link.ensures
    ∙ related_linked _ _ _ _ c.own-r.ensures.is (sym c.is_original.ensures ∙ c.if-is_original.false) up.0 _ up.1 _
    (c.own.ensures.is ∙ cc (c.at.ensures.words, c.at.ensures.size, c.at.ensures.n))
