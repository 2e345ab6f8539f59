use mathlib.Core.Path.{◌∙◌}
use Rattle.paths.specs.Exceeding.{Annuls}
use Rattle.paths.proofs.Changed.{as_lent, at_cong, annulling_fits, use_annulling_lem}
use Rattle.paths.proofs.exceeding.exceeds_annulling.Goals as goal

pub invariant_of-exceeds_at : goal.invariant_of-exceeds_at
invariant_of-exceeds_at c =
    let s = c.args.posted.ledger.sound_at in
    let r = c.reservation in
    let k = as_lent (λ h l n. Annuls h l n c.annulling-change.result) r.result.row r.ensures c.annulling-change.ensures in
    record { changing = annulling_fits s c.requires k }

pub returns : goal.returns
returns c =
    let p = c.args.posted in
    let s = p.ledger.sound_at in
    let r = c.reservation in
    let k = as_lent (λ h l n. Annuls h l n c.annulling-change.result) r.result.row r.ensures c.annulling-change.ensures in
    c.exceeds_at.ensures
    ∙ at_cong p.ledger.size.hours p.postings.now _ _ (λ x h lt. use_annulling_lem s c.requires k x h lt) p.ledger.words.now
    c.args.n
