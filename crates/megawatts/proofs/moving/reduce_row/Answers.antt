use Rattle.std.proofs.Common.{List, ℕ, ap, ◌∙◌, length}
use Rattle.words.specs.Lists.{roomy, most_word}
use Rattle.rules.specs.Numbers.{reduced_part}
use Rattle.rules.specs.Layout.{hours_of, start}
use Rattle.rules.specs.Megawatts.{take_from, reduced_row}
use Rattle.megawatts.proofs.Laws.{reduce_covered, taken_roomy}
use Rattle.megawatts.proofs.moving.reduce_row.Goals as goal

pub less_hours-requires-clause-r_value : goal.less_hours-requires-clause-r_value
less_hours-requires-clause-r_value c =
    let s = c.requires.spanned in
    reduce_covered c.args.r.now c.args.mw.now s.long s.starts s.stops c.requires.mw_len c.requires.r_value

pub add_hours-requires-clause-r_value : goal.add_hours-requires-clause-r_value
add_hours-requires-clause-r_value c =
    let s = c.requires.spanned in
    ap (λ (q : List ℕ). roomy most_word c.args.mw.now (hours_of c.args.size.hours reduced_part (start c.args.r.now) (length c.args.mw.now) q)) c.less_hours.ensures
    ∙ taken_roomy c.args.r.now c.args.mw.now s.long s.starts s.stops c.requires.mw_len c.requires.r_value_2

pub returns : goal.returns
unfolding reduced_row take_from
returns c = cc (c.add_hours.ensures, c.less_hours.ensures)
