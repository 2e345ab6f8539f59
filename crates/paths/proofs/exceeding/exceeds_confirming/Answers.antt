use mathlib.Core.Path.{◌∙◌}
use Rattle.paths.specs.Exceeding.{Confirms}
use Rattle.paths.proofs.Changed.{as_lent, at_cong, confirming_fits, use_confirming_lem}
use Rattle.paths.proofs.exceeding.exceeds_confirming.Goals as goal

pub invariant_of-exceeds_at : goal.invariant_of-exceeds_at
invariant_of-exceeds_at c =
    let s = c.args.posted.ledger.sound_at in
    let q = c.requires in
    let r = c.reservation in
    let k = as_lent (λ h l n. Confirms h l n c.args.mw.now c.confirming-change.result) r.result.row r.ensures c.confirming-change.ensures in
    record { changing = confirming_fits s q.n_bound k q.mw_len.0 q.mw_len.1 q.mw_value }

pub returns : goal.returns
returns c =
    let p = c.args.posted in
    let r = c.reservation in
    let k = as_lent (λ h l n. Confirms h l n c.args.mw.now c.confirming-change.result) r.result.row r.ensures c.confirming-change.ensures in
    c.exceeds_at.ensures
    ∙ at_cong p.ledger.size.hours p.postings.now _ _ (λ x h _. use_confirming_lem k x h) p.ledger.words.now c.args.n
