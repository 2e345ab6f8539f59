use Rattle.std.proofs.Common.{◌∙◌, sym}
use Rattle.unwinding.proofs.Followed.{opened}
use Rattle.unwinding.proofs.rows.Rows.unwind_row.Goals as goal

pub returns-else-is_confirmed-clause-sums : goal.returns-else-is_confirmed-clause-sums
returns-else-is_confirmed-clause-sums c =
    let off = sym c.is_confirmed.ensures ∙ c.if-is_confirmed.false in
    record {
      long = c.requires.summed.long;
      each = λ h lt.
          c.requires.summed.each h lt ∙ sym (opened c.args.self.ledger.sound_at c.requires.going c.args.x off h lt);
    }
