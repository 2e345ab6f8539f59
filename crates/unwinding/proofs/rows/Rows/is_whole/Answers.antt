use Rattle.std.proofs.Common.{arith}
use Rattle.opening.proofs.Added.{sums_wider}
use Rattle.unwinding.specs.Marks.{marked}
use Rattle.unwinding.proofs.GivenBack.{back_sums, whole_told}
use Rattle.unwinding.proofs.rows.Rows.is_whole.Goals as goal

pub add_profile-requires : goal.add_profile-requires
add_profile-requires c =
    sums_wider (omega arith) (back_sums c.args.self.ledger.sound_at (marked c.args.marks.now) c.args.n c.sum_back.ensures)

pub returns : goal.returns
returns c =
    whole_told c.args.self.ledger.size.hours c.args.self.ledger.words.now (marked c.args.marks.now) c.args.n
    c.sum_back.ensures c.add_profile.ensures c.is_profile.ensures
