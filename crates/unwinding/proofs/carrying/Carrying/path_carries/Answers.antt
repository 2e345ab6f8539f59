use Rattle.std.proofs.Common.{◌∙◌, sym}
use Rattle.unwinding.proofs.Carried.{carries_none, uses_start}
use Rattle.unwinding.proofs.carrying.Carrying.path_carries.Goals as goal

pub returns-then-unasked : goal.returns-then-unasked
returns-then-unasked c =
    carries_none c.args.self.rows.ledger.size.hours c.args.self.rows.ledger.words.now c.args.self.postings.now
    c.args.self.refs.now c.args.path.number
    (sym c.unasked.ensures ∙ c.if-unasked.true)

pub follow-requires : goal.follow-requires
follow-requires c =
    uses_start c.args.self.rows.ledger.sound_at c.args.self.refs.now c.args.path.number c.add_use.ensures
