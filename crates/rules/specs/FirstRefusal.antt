-- Claims about contests: who can force what, and what settlement sees. A party that can force something has a strategy
-- against every list of the other's moves. That is every opponent: whatever it goes by, against this strategy it comes
-- to some list of moves.
use Rattle.std.specs.Prelude.{◌≡◌, Bool, true, false, ◌&&◌, ◌||◌, not, List, [], ◌∷◌, ℕ, ◌≤◌, ◌<◌}
use Rattle.rules.specs.Pick.{pick}
use Rattle.rules.specs.Layout.{hours}
use Rattle.rules.specs.Act.{refused, outcome}
use Rattle.rules.specs.Contest.{stops, yields, bad_term, bad_match, present, not_firm, bad_greatest, displacing, row_kept, contested}
use Rattle.rules.specs.Calls.{Call, run_calls, settled_calls, actions_alone}
use Rattle.rules.specs.declared.Contest.{Contest}

-- a strategy: a party's next move, from the other's moves so far, the latest first
abbrev pub Strategy : Type 0
Strategy = List ℕ → ℕ

-- the holder's replies, one to each move, once that move and those before it are known
unfoldable pub replies_to : Strategy → List ℕ → List ℕ → List ℕ
replies_to s seen [] = []
replies_to s seen (move ∷ moves) = s (move ∷ seen) ∷ replies_to s (move ∷ seen) moves

-- the challenger's moves: one before the first reply, and one after each
unfoldable pub moves_against : Strategy → List ℕ → List ℕ → List ℕ
moves_against s seen [] = s seen ∷ []
moves_against s seen (reply ∷ replies) = s seen ∷ moves_against s (reply ∷ seen) replies

-- the challenger makes no move that 25 refuses, up to a stop
unfoldable pub rises : ℕ → ℕ → List ℕ → Bool
rises greatest last [] = true
rises greatest last (move ∷ moves) = stops move || (not (bad_term greatest last move) && rises greatest move moves)

-- the holder answers each term and makes no move that 25 refuses, up to a stop or a yield
unfoldable pub answers_each : ℕ → List ℕ → List ℕ → Bool
answers_each greatest [] replies = true
answers_each greatest (move ∷ moves) [] = stops move
answers_each greatest (move ∷ moves) (reply ∷ replies) =
    stops move || (yields reply || (not (bad_match greatest move) && answers_each greatest moves replies))

-- a firm row whose displacement would be accepted
pub record Displaceable (l ps : List ℕ) (k : Contest) : Type 0 where
  pub accepts : (outcome l ps [] (displacing k)).answer.number ≡ 0
  pub is_firm : not_firm (hours l) l k ≡ false

-- A holder whose greatest term is at least the challenger's can keep the row against every play: nothing is altered,
-- and 25 comes of the greatest terms or of the challenger's own moves alone
abbrev pub HolderKeeps : Type 0
HolderKeeps =
    (l ps : List ℕ) (k : Contest) → Displaceable l ps k → k.challenger ≤ k.holder →
    (s : Strategy) × ((moves : List ℕ) →
    contested l ps k moves (replies_to s [] moves)
    ≡ pick (not (bad_greatest (hours l) l k) && rises k.challenger (present (hours l) l k) moves) (row_kept l ps k) (refused l ps 25))

-- Otherwise the challenger can take it from every holder that answers each term and makes no move that 25 refuses
abbrev pub ChallengerTakes : Type 0
ChallengerTakes =
    (l ps : List ℕ) (k : Contest) → Displaceable l ps k → bad_greatest (hours l) l k ≡ false → k.holder < k.challenger →
    (s : Strategy) × ((replies : List ℕ) →
    answers_each k.holder (moves_against s [] replies) replies ≡ true →
    contested l ps k (moves_against s [] replies) replies ≡ outcome l ps [] (displacing k))

-- Settlement's list holds no contest, and the same is done by it: ledger, postings and answers
abbrev pub SettledAlike : Type 0
SettledAlike =
    (l ps : List ℕ) (calls : List Call) →
    (actions_alone (settled_calls l ps calls) ≡ true) × (run_calls l ps (settled_calls l ps calls) ≡ run_calls l ps calls)
