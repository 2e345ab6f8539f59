use Rattle.std.proofs.Common.{◌∙◌, sym, arith}
use Rattle.opening.proofs.Added.{sums_wider}
use Rattle.unwinding.specs.Marks.{marked}
use Rattle.unwinding.proofs.Counted.{in_use}
use Rattle.unwinding.proofs.GivenBack.{back_sums}
use Rattle.unwinding.proofs.Fitted.{held_room, fits_open, fits_confirmed}
use Rattle.unwinding.proofs.rows.Rows.fits.Goals as goal

pub add_profile-requires : goal.add_profile-requires
add_profile-requires c =
    sums_wider (omega arith) (back_sums c.args.self.ledger.sound_at (marked c.args.marks.now) c.args.p c.sum_back.ensures)

pub returns-then-not-is_confirmed : goal.returns-then-not-is_confirmed
returns-then-not-is_confirmed c =
    c.all_within.ensures
    ∙ fits_open c.args.self.ledger.sound_at (marked c.args.marks.now) c.args.p c.sum_back.ensures c.add_profile.ensures
    (sym c.is_confirmed.ensures ∙ c.if-not-is_confirmed.true)

pub add_profile-requires-2 : goal.add_profile-requires-2
add_profile-requires-2 c =
    sums_wider (omega arith)
    (held_room c.args.self.ledger.sound_at (marked c.args.marks.now) c.args.p c.sum_back.ensures c.add_profile.ensures
    (in_use c.args.self c.requires))

pub returns : goal.returns
returns c =
    c.within_granted.ensures
    ∙ fits_confirmed c.args.self.ledger.sound_at (marked c.args.marks.now) c.args.p c.sum_back.ensures
    c.add_profile.ensures c.add_profile-2.ensures
    (sym c.is_confirmed.ensures ∙ c.if-not-is_confirmed.false)
