use Rattle.std.proofs.Common.{List, sym, subst}
use Prim.Native.Nat.{ℕ}
use Rattle.rules.specs.Megawatts.{annulled_row}
use Rattle.layout.specs.Bounds.{Spanned}
use Rattle.layout.proofs.Lent.{row_lent, row_back}
use Rattle.megawatts.proofs.moving.annul_own.Goals as goal

pub annul_row-requires : goal.annul_row-requires
annul_row-requires c =
    subst (λ (r : List ℕ). Spanned c.args.size.hours r) (sym (row_lent c.requires.sized c.row_at-at.ensures c.row_words.ensures)) c.requires.spanned

pub returns : goal.returns
returns c =
    row_back c.requires.sized c.row_at-at.ensures c.row_words.ensures (annulled_row c.args.size.hours) c.annul_row.new.r c.annul_row.auto.r c.annul_row.ensures
