use Rattle.std.proofs.Common.{sym, ◌∙◌}
use Rattle.std.proofs.lemmas.Result.{err_from_is_err_and}
use Rattle.readout.proofs.Laws.{charge_refused, charge_unconfirmed, charge_is}
use Rattle.readout.proofs.charge.Goals as goal

pub returns-in_err-found : goal.returns-in_err-found
returns-in_err-found c =
    let p = err_from_is_err_and c.from_residual.result c.from_residual.ensures.1 in
    let q = charge_refused _ _ _ c.in_err-found.ensures.number in
    rw (p.1, p.2) (record { number = q.0; amount = q.1 })

pub returns-then-not-is_confirmed : goal.returns-then-not-is_confirmed
returns-then-not-is_confirmed c =
    let a = c.in_ok-found.ensures in
    let q = charge_unconfirmed _ _ a.sound a.issued a.hours a.is (sym c.is_confirmed.ensures ∙ c.if-not-is_confirmed.true) in
    record { number = q.0; amount = q.1 }

pub returns : goal.returns
returns c =
    let a = c.in_ok-found.ensures in
    let q = charge_is _ _ a.sound a.issued a.hours a.is (sym c.is_confirmed.ensures ∙ c.if-not-is_confirmed.false) in
    record { number = q.0; amount = c.cents_of.ensures ∙ q.1 }
