use Rattle.std.proofs.Common.{sym, ◌∙◌}
use Rattle.rules.specs.Sound.{sound_row}
use Rattle.rules.proofs.Rows.{row_length}
use Rattle.rules.proofs.Picks.{stops, goes}
use Rattle.layout.proofs.Soundness.{spanned}
use Rattle.layout.proofs.sound.sound_row.Goals as goal

pub sound_profiles-requires : goal.sound_profiles-requires
sound_profiles-requires c =
    let row = c.args.row in
    spanned _ _ (row_length row.sized row.n_lt_rows) row.sized.hours (sym c.sound_words.ensures ∙ c.if-sound_words.true)

pub returns-then-sound_profiles : goal.returns-then-sound_profiles
unfolding sound_row
returns-then-sound_profiles c =
    goes _ c.sound_words.ensures c.if-sound_words.true (goes _ c.sound_profiles.ensures c.if-sound_profiles.true c.sound_related.ensures)

pub returns-else-sound_profiles : goal.returns-else-sound_profiles
unfolding sound_row
returns-else-sound_profiles c =
    goes _ c.sound_words.ensures c.if-sound_words.true (stops _ c.sound_profiles.ensures c.if-sound_profiles.false)

pub returns-else-sound_words : goal.returns-else-sound_words
unfolding sound_row
returns-else-sound_words c = stops _ c.sound_words.ensures c.if-sound_words.false
