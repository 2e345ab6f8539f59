use Rattle.std.proofs.Common.{sym, ◌∙◌}
use Rattle.words.specs.Lists.{all_below}
use Rattle.layout.proofs.sound.sound_profiles.Goals as goal

pub returns-then-sound_profile-4 : goal.returns-then-sound_profile-4
unfolding all_below
returns-then-sound_profile-4 c =
    simp (c.sound_profile-then-sound_profile-4.ensures, sym c.sound_profile.ensures ∙ c.if-sound_profile.true, sym c.sound_profile-then-sound_profile.ensures ∙ c.if-sound_profile-2.true, sym c.sound_profile-then-sound_profile-2.ensures ∙ c.if-sound_profile-3.true, sym c.sound_profile-then-sound_profile-3.ensures ∙ c.if-sound_profile-4.true)

pub returns-else-sound_profile-4 : goal.returns-else-sound_profile-4
unfolding all_below
returns-else-sound_profile-4 c =
    simp (c.if-sound_profile-4.false, sym c.sound_profile.ensures ∙ c.if-sound_profile.true, sym c.sound_profile-then-sound_profile.ensures ∙ c.if-sound_profile-2.true, sym c.sound_profile-then-sound_profile-2.ensures ∙ c.if-sound_profile-3.true, sym c.sound_profile-then-sound_profile-3.ensures ∙ c.if-sound_profile-4.false)

pub returns-else-sound_profile-3 : goal.returns-else-sound_profile-3
unfolding all_below
returns-else-sound_profile-3 c =
    simp (c.if-sound_profile-3.false, sym c.sound_profile.ensures ∙ c.if-sound_profile.true, sym c.sound_profile-then-sound_profile.ensures ∙ c.if-sound_profile-2.true, sym c.sound_profile-then-sound_profile-2.ensures ∙ c.if-sound_profile-3.false)

pub returns-else-sound_profile-2 : goal.returns-else-sound_profile-2
unfolding all_below
returns-else-sound_profile-2 c =
    simp (c.if-sound_profile-2.false, sym c.sound_profile.ensures ∙ c.if-sound_profile.true, sym c.sound_profile-then-sound_profile.ensures ∙ c.if-sound_profile-2.false)

pub returns-else-sound_profile : goal.returns-else-sound_profile
unfolding all_below
returns-else-sound_profile c =
    simp (c.if-sound_profile.false, sym c.sound_profile.ensures ∙ c.if-sound_profile.false)
