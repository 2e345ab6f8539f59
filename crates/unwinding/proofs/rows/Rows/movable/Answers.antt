use Rattle.std.proofs.Common.{arith}
use Rattle.opening.proofs.Added.{few}
use Rattle.unwinding.proofs.rows.Rows.movable.Goals as goal

pub has-requires : goal.has-requires
has-requires c = omega (arith, c.in-Some.ensures.2, c.args.self.used_value, few c.args.self.ledger.sound_at)
