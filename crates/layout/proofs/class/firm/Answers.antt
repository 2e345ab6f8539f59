use Rattle.std.proofs.Common.{sym, ◌∙◌}
use Rattle.layout.proofs.Firm.{firm_type, firm_none, firm_loose, firm_up}
use Rattle.layout.proofs.class.firm.Goals as goal

pub returns-then-is_firm_type : goal.returns-then-is_firm_type
returns-then-is_firm_type c =
    let i = c.loop-at.invariant in
    firm_type _ _ _ _ c.word-t.ensures (sym c.is_firm_type.ensures ∙ c.if-is_firm_type.true) ∙ cc (i.0, i.1.0, i.1.1)

pub returns-then-not-is_resold : goal.returns-then-not-is_resold
returns-then-not-is_resold c =
    let i = c.loop-at.invariant in
    firm_none _ _ _ _ c.word-t.ensures (sym c.is_firm_type.ensures ∙ c.if-is_firm_type.false) (sym c.is_resold.ensures ∙ c.if-not-is_resold.true)
    ∙ cc (i.0, i.1.0, i.1.1)

pub returns-in-None : goal.returns-in-None
returns-in-None c =
    let i = c.loop-at.invariant in
    firm_loose _ _ _ _ c.word-t.ensures _ c.word.ensures (sym c.is_firm_type.ensures ∙ c.if-is_firm_type.false)
    (sym c.is_resold.ensures ∙ c.if-not-is_resold.false) c.in-None.ensures
    ∙ cc (i.0, i.1.0, i.1.1)

pub loop-at-preserved : goal.loop-at-preserved
loop-at-preserved c =
    let i = c.loop-at.invariant in
    let up = c.in-Some.ensures in
    let above =
    firm_up _ _ _ _ c.word-t.ensures _ c.word.ensures (sym c.is_firm_type.ensures ∙ c.if-is_firm_type.false)
    (sym c.is_resold.ensures ∙ c.if-not-is_resold.false) up.0 in
    (c.at-at.ensures.size, (c.at-at.ensures.words, cc (c.at-at.ensures.n, up.1, above, i.0, i.1.0, i.1.1)))
