use Rattle.ledger.proofs.Laws.{confirmed_now, not_confirmed, annulled_now, displaced_now, stayed}
use Rattle.ledger.proofs.answering.moved.Goals as goal

pub returns-then-way-eq-CONFIRMED : goal.returns-then-way-eq-CONFIRMED
returns-then-way-eq-CONFIRMED c = confirmed_now _ _ _ _ _ c.if-way-ne-CONFIRMED.true c.if-way-eq-CONFIRMED.true c.span_total.ensures

pub returns-then-way-ne-CONFIRMED : goal.returns-then-way-ne-CONFIRMED
returns-then-way-ne-CONFIRMED c = not_confirmed _ _ _ _ _ c.if-way-ne-CONFIRMED.true c.if-way-eq-CONFIRMED.false

pub returns-then-way-eq-ANNULLED : goal.returns-then-way-eq-ANNULLED
returns-then-way-eq-ANNULLED c = annulled_now _ _ _ _ _ c.if-way-ne-CONFIRMED.false c.if-way-eq-ANNULLED.true c.span_total-then-way-eq-ANNULLED.ensures

pub returns-then-way-eq-DISPLACED : goal.returns-then-way-eq-DISPLACED
returns-then-way-eq-DISPLACED c = displaced_now _ _ _ _ _ c.if-way-ne-CONFIRMED.false c.if-way-eq-ANNULLED.false c.if-way-eq-DISPLACED.true

pub returns : goal.returns
returns c = stayed _ _ _ _ _ c.if-way-ne-CONFIRMED.false c.if-way-eq-ANNULLED.false c.if-way-eq-DISPLACED.false
