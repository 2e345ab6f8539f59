use Rattle.std.proofs.Common.{◌≢◌, List, ℕ, not, refl, ap, ◌∙◌, arith}
use lib.Dec.{lit<}
use Rattle.rules.specs.Numbers.{granted_part}
use Rattle.rules.specs.Layout.{row, on_row, start, granted}
use Rattle.rules.specs.Megawatts.{give_back, annulled_row, annul}
use Rattle.rules.proofs.Over.{full}
use Rattle.rules.proofs.Picks.{hit_by, skip}
use Rattle.layout.proofs.Placed.{sized, type_three, related_before, related_in, span_fits, span_length, spanned_as}
use Rattle.megawatts.proofs.Laws.{after_give, not_over_annulled}
use Rattle.megawatts.proofs.moving.annul.Goals as goal

pub annul_own-requires-clause-spanned : goal.annul_own-requires-clause-spanned
annul_own-requires-clause-spanned c = spanned_as c.requires.placed refl

pub returns-in_default : goal.returns-in_default
unfolding annul
returns-in_default c =
    c.annul_own.ensures
    ∙ ap (λ (x : List ℕ). on_row c.args.size.hours c.args.n (annulled_row c.args.size.hours) x) (skip _ _ _ _ (ap not c.in_default.ensures) refl)

pub give_granted-requires-clause-m_lt_rows : goal.give_granted-requires-clause-m_lt_rows
give_granted-requires-clause-m_lt_rows c =
    let p = c.requires.placed in
    let t = type_three p c.in-Some.ensures.0 in
    let e = c.in-Some.ensures.3 in
    (omega (arith, e, related_in p t), λ s. omega (arith, e, related_before p t, s))

pub give_granted-requires-clause-m_value : goal.give_granted-requires-clause-m_value
give_granted-requires-clause-m_value c =
    let r = row c.args.size.hours c.args.l.now c.args.n in
    ap (λ (m : ℕ). full c.args.size.hours (start r) (granted c.args.size.hours r) (row c.args.size.hours c.args.l.now m)) c.in-Some.ensures.3
    ∙ not_over_annulled c.args.size.hours c.args.l.now c.args.n c.in-Some.ensures.0 c.requires.n_value

pub annul_own-requires-2-clause-spanned : goal.annul_own-requires-2-clause-spanned
annul_own-requires-2-clause-spanned c =
    let p = c.requires.placed in
    let t = type_three p c.in-Some.ensures.0 in
    let e = c.in-Some.ensures.3 in
    let v = granted c.args.size.hours (row c.args.size.hours c.args.l.now c.args.n) in
    let ne : c.args.n ≢ c.in-Some.above.row.n = λ s. omega (arith, e, related_before p t, s) in
    spanned_as p
    (after_give (start (row c.args.size.hours c.args.l.now c.args.n)) v (sized p) (omega (arith, e, related_in p t))
    (span_fits p v (span_length p granted_part (lit< tt))) ne c.give_granted.ensures)

pub returns : goal.returns
unfolding annul
returns c =
    let r = row c.args.size.hours c.args.l.now c.args.n in
    c.annul_own-2.ensures
    ∙ ap (λ (x : List ℕ). on_row c.args.size.hours c.args.n (annulled_row c.args.size.hours) x)
    (hit_by _ _ _ _ (ap not c.in-Some.ensures.0)
    (c.give_granted.ensures ∙ ap (λ (m : ℕ). on_row c.args.size.hours m (give_back c.args.size.hours (start r) (granted c.args.size.hours r)) c.args.l.now) c.in-Some.ensures.3))
