-- 8 Posting.
use Rattle.std.specs.Prelude.{List, ℕ, ◌-◌}
use Rattle.words.specs.Lists.{splice}
use Rattle.rules.specs.Pick.{◌gives◌else◌}
use Rattle.rules.specs.Paths.{posting_at}
use Rattle.rules.specs.Checks.{profile, bad_words, bad_span, unknown_path, not_provider}
use Rattle.rules.specs.declared.Action.{Action}

unfoldable pub post_number : ℕ → List ℕ → List ℕ → Action → ℕ
post_number H l w a =
    not_provider l a gives 3 else
    unknown_path a gives 21 else
    bad_span H a gives 6 else
    bad_words w a (a.stop - a.start) gives 7 else
    0

-- the path's postings from start to stop are replaced by the profile
unfoldable pub posted : ℕ → List ℕ → List ℕ → Action → List ℕ
posted H ps w a = splice ps (posting_at H a.path a.start) (profile w a)
