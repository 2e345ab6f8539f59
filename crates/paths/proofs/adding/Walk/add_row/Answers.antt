use mathlib.Core.Path.{sym, ◌∙◌}
use mathlib.Core.Logic.{⊎_elim}
use native.Mathlib.Omega.{arith}
use Rattle.words.proofs.Sums.{adds_as, adds_none, adds_adds, adds_takes}
use Rattle.paths.proofs.Hourly.{held_as, own_room, more_room, less_enough, hours_at}
use Rattle.paths.proofs.adding.Walk.add_row.Goals as goal

pub returns-in_default : goal.returns-in_default
returns-in_default c =
    let same =
    ⊎_elim (λ e. e)
    (⊎_elim (λ e. absurd (c.in_default.not-Less e)) (λ e. absurd (c.in_default.not-More e))) c.in-Same.is in
    adds_as (λ h _. held_as _ _ c.args.self.change c.args.m c.held-held.ensures same h) c.add_available.ensures

pub less_at-requires : goal.less_at-requires
less_at-requires c =
    less_enough c.args.self.changing c.requires.sums c.args.m (hours_at c.args.self.ledger.sound_at c.requires.m_bound)
    c.add_available.ensures c.requires.m_bound (sym c.held-held.ensures ∙ c.in-Less.is)

pub returns-in-Less : goal.returns-in-Less
returns-in-Less c =
    adds_as (λ h _. held_as _ _ c.args.self.change c.args.m c.held-held.ensures c.in-Less.is h)
    (adds_takes
    (λ h lt.
    c.args.self.changing.drawn c.args.m (sym c.held-held.ensures ∙ c.in-Less.is) c.requires.m_bound h
    (omega (arith, lt, c.requires.sums.long)))
    c.add_available.ensures c.less_at.ensures)

pub add_at-requires-in-More : goal.add_at-requires-in-More
add_at-requires-in-More c =
    more_room c.args.self.changing c.requires.sums c.args.m (hours_at c.args.self.ledger.sound_at c.requires.m_bound)
    c.add_available.ensures

pub returns-in-More : goal.returns-in-More
returns-in-More c =
    adds_as (λ h _. held_as _ _ c.args.self.change c.args.m c.held-held.ensures c.in-More.is h)
    (adds_adds c.add_available.ensures c.add_at-in-More.ensures)

pub add_at-requires : goal.add_at-requires
add_at-requires c = own_room c.args.self.changing c.requires.sums

pub returns-in-Whole : goal.returns-in-Whole
returns-in-Whole c =
    adds_as (λ h _. held_as _ _ c.args.self.change c.args.m c.held-held.ensures c.in-Whole.is h) c.add_at.ensures

pub returns-in-Nought : goal.returns-in-Nought
returns-in-Nought c =
    adds_none _ (λ h. sym (held_as _ _ c.args.self.change c.args.m c.held-held.ensures c.in-Nought.is h))
