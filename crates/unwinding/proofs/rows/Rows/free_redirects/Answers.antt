use Rattle.std.proofs.Common.{◌∙◌, ap, sym, arith, ℕ}
use Rattle.unwinding.specs.Order.{freed_below}
use Rattle.unwinding.specs.Marks.{marked}
use Rattle.unwinding.proofs.Followed.{freeing_start, freed_on, freed_off, freed_most}
use Rattle.unwinding.proofs.rows.Rows.free_redirects.Goals as goal

pub free_rows-requires : goal.free_rows-requires
free_rows-requires c =
    let on = sym c.word.ensures ∙ c.if-word-x.true in
    freeing_start c.args.self.ledger.size.hours c.args.self.ledger.words.now (marked c.args.marks.now) c.args.x c.args.n
    (freed_most c.args.self.ledger.sound_at c.requires.going c.args.x c.requires.confirmed on) c.requires.summed

pub returns-then-word-x : goal.returns-then-word-x
returns-then-word-x c =
    let on = sym c.word.ensures ∙ c.if-word-x.true in
    let below : ℕ → ℕ → ℕ = λ h k.
    freed_below c.args.self.ledger.size.hours c.args.self.ledger.words.now (marked c.args.marks.now) c.args.x c.args.n h k in
    record {
      long = c.free_rows.ensures.lacking.long;
      each = λ h lt.
          omega (
            arith,
            c.free_rows.ensures.lacking.each h lt,
            freed_on c.args.self.ledger.sound_at c.requires.going c.args.x c.requires.confirmed on h,
            ap (λ (k : ℕ). below h k) c.args.self.used_value,
          );
    }

pub returns-else-word-x : goal.returns-else-word-x
returns-else-word-x c =
    let off = freed_off c.args.self.ledger.sound_at c.requires.going c.args.x c.requires.confirmed in
    record {
      long = c.requires.summed.long;
      each = λ h lt. omega (arith, c.requires.summed.each h lt, off (λ e. c.if-word-x.false (c.word.ensures ∙ e)) h);
    }
