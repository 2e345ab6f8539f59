use Rattle.std.proofs.Common.{ℕ, sym, subst}
use Rattle.layout.specs.Placed.{Placed}
use Rattle.layout.proofs.Placed.{type_three, related_placed}
use Rattle.layout.proofs.reservation.Reservation.related.Goals as goal

pub new-requires : goal.new-requires
new-requires c =
    let row = c.args.self.row in
    let p = c.args.self.placed in
    subst (λ (n : ℕ). Placed row.words.now row.size.rows row.size.hours n) (sym c.related_row.ensures) (related_placed p (type_three p c.requires))
