use Rattle.std.proofs.Common.{refl, sym, ◌∙◌, arith, length-append}
use lib.ListN.{length-take}
use Rattle.rules.specs.Create.{create_number, created}
use Rattle.layout.proofs.Fresh.{created_row, written}
use Rattle.layout.proofs.create.create.Goals as goal

pub slice_bounds-clear-count : goal.slice_bounds-clear-count
slice_bounds-clear-count c = let h = created_row _ _ _ _ _ _ (sym c.fits.ensures ∙ c.if-not-fits.false) in omega arith

pub slice_bounds-clear-start : goal.slice_bounds-clear-start
slice_bounds-clear-start c = let h = created_row _ _ _ _ _ _ (sym c.fits.ensures ∙ c.if-not-fits.false) in omega arith

pub write_head-requires : goal.write_head-requires
write_head-requires c =
    let h = created_row _ _ _ _ _ _ (sym c.fits.ensures ∙ c.if-not-fits.false) in
    simp (length-append, length-take) (omega arith)

pub returns-then-not-fits : goal.returns-then-not-fits
unfolding create_number created
returns-then-not-fits c = simp (sym c.fits.ensures ∙ c.if-not-fits.true) (record { number = refl; ledger = refl })

pub returns : goal.returns
unfolding create_number created
returns c =
    let e = sym c.fits.ensures ∙ c.if-not-fits.false in
    simp e (record { number = refl; ledger = written _ _ _ _ _ _ e c.clear.new.dst c.clear.ensures _ c.write_head.ensures })
