use Rattle.std.proofs.Common.{◌∙◌, ap, sym, not}
use Rattle.rules.proofs.Picks.{or_goes}
use Rattle.unwinding.proofs.Carried.{within_posted}
use Rattle.unwinding.proofs.carrying.Carrying.is_carried.Goals as goal

pub returns-else-not-asks : goal.returns-else-not-asks
returns-else-not-asks c =
    or_goes _ _ _ (ap not (sym c.asks.ensures ∙ c.if-not-asks.false))
    (c.all_covered.ensures
    ∙ within_posted c.args.self.postings_value c.args.path.in_range c.of_path.ensures.is c.args.sums.now c.requires.sums_len)
