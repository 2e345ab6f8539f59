use Rattle.std.proofs.Common.{arith}
use Rattle.layout.proofs.Placed.{own_words}
use Rattle.readout.proofs.Laws.{granted_most}
use Rattle.readout.proofs.cents_of.Goals as goal

pub cents-requires : goal.cents-requires
cents-requires c =
    let p = c.args.r.placed in
    (omega (arith, c.total.ensures, granted_most p), omega (arith, c.word.ensures, (own_words p).bid))
