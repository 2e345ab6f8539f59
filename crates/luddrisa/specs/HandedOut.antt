-- What a call leaves in a slice that it is lent for its words.
use Rattle.std.specs.Prelude.{List, ℕ, leb, length}
use Rattle.words.specs.Lists.{splice}
use Rattle.rules.specs.Pick.{pick}

-- the words at the front where they fit, and nothing otherwise
unfoldable pub handed_out : List ℕ → List ℕ → List ℕ
handed_out out ws = pick (leb (length ws) (length out)) (splice out 0 ws) out
