use Rattle.std.proofs.Common.{length, ap, arith, ◌∙◌}
use Rattle.words.specs.Lists.{total}
use Rattle.words.proofs.Laws.{part_length}
use Rattle.rules.specs.Checks.{profile}
use Rattle.ledger.proofs.Laws.{profile_small}
use Rattle.ledger.proofs.answering.profile_total.Goals as goal

pub total-requires : goal.total-requires
unfolding profile
total-requires c =
    let p = c.requires in
    let a = c.args.request.action in
    omega (arith, ap length c.profile.ensures ∙ part_length c.args.request.words.now a.offset a.length p.fits, p.counted)

pub overflow_cast-result : goal.overflow_cast-result
overflow_cast-result c =
    let h = profile_small c.requires in
    let e = c.total.ensures ∙ ap total c.profile.ensures in
    omega (arith, h, e)
