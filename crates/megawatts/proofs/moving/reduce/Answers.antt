use Rattle.std.proofs.Common.{List, sym, ap, ◌∙◌}
use Prim.Native.Nat.{ℕ}
use Rattle.words.specs.Lists.{covered}
use Rattle.rules.specs.Layout.{on_row, start, span_hours, available}
use Rattle.rules.specs.Megawatts.{reduced_row, reduce}
use Rattle.rules.proofs.Over.{over_reducing}
use Rattle.layout.proofs.Lent.{row_lent, row_back}
use Rattle.layout.proofs.Placed.{sized, spanned_as}
use Rattle.megawatts.proofs.moving.reduce.Goals as goal

pub reduce_row-requires : goal.reduce_row-requires
reduce_row-requires c =
    let e = row_lent (sized c.requires.placed) c.row_at-at.ensures c.row_words.ensures in
    record {
      spanned = spanned_as c.requires.placed e;
      mw_len = c.requires.mw_len ∙ sym (ap (λ (r : List ℕ). span_hours r) e);
      r_value = ap (λ (r : List ℕ). covered c.args.mw.now (available c.args.size.hours r)) e ∙ c.requires.n_value;
      r_value_2 = ap (λ (r : List ℕ). over_reducing c.args.size.hours c.args.mw.now r) e ∙ c.requires.n_value_2;
    }

pub returns : goal.returns
unfolding reduce on_row
returns c =
    row_back (sized c.requires.placed) c.row_at-at.ensures c.row_words.ensures (λ r. reduced_row c.args.size.hours (start r) c.args.mw.now r) c.reduce_row.new.r c.reduce_row.auto.r c.reduce_row.ensures
