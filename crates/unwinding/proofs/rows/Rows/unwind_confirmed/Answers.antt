use Rattle.unwinding.specs.Marks.{marked}
use Rattle.unwinding.proofs.Followed.{shift_room, shift_holds, shift_done, came_is}
use Rattle.unwinding.proofs.rows.Rows.unwind_confirmed.Goals as goal

pub shift-requires-clause-sums : goal.shift-requires-clause-sums
shift-requires-clause-sums c =
    shift_room c.args.self.ledger.sound_at c.requires.going c.args.x c.requires.confirmed c.free_redirects.ensures

pub shift-requires-clause-holding : goal.shift-requires-clause-holding
shift-requires-clause-holding c =
    shift_holds c.args.self.ledger.sound_at c.requires.going c.args.x c.requires.confirmed c.free_redirects.ensures
    c.counts-counted.ensures

pub returns-clause-sums : goal.returns-clause-sums
returns-clause-sums c =
    shift_done c.args.self.ledger.sound_at c.requires.going c.args.x c.requires.confirmed c.free_redirects.ensures
    c.counts-counted.ensures
    (came_is c.args.self.ledger.size.hours c.args.self.ledger.words.now (marked c.args.marks.now) c.args.x c.args.n c.add.new.self
    c.add.ensures c.came_back-back.ensures)
    c.shift.ensures
