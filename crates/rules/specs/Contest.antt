-- First refusal: before a firm row is displaced its holder may match a longer request. Moves are words. A challenger's
-- 0 is stop, any other word the term that it names, in hours; a holder's 0 is yield, any other word a match.
use Rattle.std.specs.Prelude.{Bool, true, false, ◌&&◌, ◌||◌, not, List, [], ◌∷◌, ℕ, eqb, leb, ltb}
use Rattle.rules.specs.Pick.{pick, ◌gives◌else◌, ◌or_else◌, ◌is_from◌to◌}
use Rattle.rules.specs.Numbers.{CONFIRMED, DISPLACED}
use Rattle.rules.specs.Layout.{hours, row_of, row, span_hours}
use Rattle.rules.specs.Sound.{firm}
use Rattle.rules.specs.SellerStatus.{seller_number}
use Rattle.rules.specs.Act.{common_number, Outcome, refused, sound_both, outcome}
use Rattle.rules.specs.declared.Action.{Action}
use Rattle.rules.specs.declared.Contest.{Contest}
use Rattle.rules.specs.declared.Ending.{Ending}
use Rattle.rules.specs.declared.Ending.TheVariants.{Kept, Lost, Unfinished, Refused}

abbrev pub stops : ℕ → Bool
stops move = eqb move 0

abbrev pub yields : ℕ → Bool
yields reply = eqb reply 0

-- 25: the challenger's term is above its greatest, or not longer than the last
unfoldable pub bad_term : ℕ → ℕ → ℕ → Bool
bad_term greatest last term = ltb greatest term || leb term last

-- 25: a match counts as the term named, which is above the holder's greatest
unfoldable pub bad_match : ℕ → ℕ → Bool
bad_match greatest term = ltb greatest term

-- the holder's reply to a term, and what comes next after a match
unfoldable pub replied : ℕ → ℕ → (List ℕ → Ending) → List ℕ → Ending
replied greatest term next [] = Unfinished
replied greatest term next (reply ∷ replies) =
    pick (yields reply) Lost (
    pick (bad_match greatest term) Refused
    (next replies))

-- Move by move: c and h are the greatest terms of challenger and holder. A list that runs out leaves the contest
-- unfinished; moves left over after its end are not looked at
unfoldable pub play : ℕ → ℕ → ℕ → List ℕ → List ℕ → Ending
play c h last [] replies = Unfinished
play c h last (move ∷ moves) replies =
    pick (stops move) Kept (
    pick (bad_term c last move) Refused
    (replied h move (λ rest. play c h move moves rest) replies))

-- the row's own hours: the holder's present term, and at first the last one
abbrev pub present : ℕ → List ℕ → Contest → ℕ
present H l k = span_hours (row H l (row_of k.reference))

-- how the moves end
unfoldable pub ending : ℕ → List ℕ → Contest → List ℕ → List ℕ → Ending
ending H l k moves replies = play k.challenger k.holder (present H l k) moves replies

-- 11: the row isn't firm
unfoldable pub not_firm : ℕ → List ℕ → Contest → Bool
not_firm H l k = not (firm H l (row_of k.reference))

-- 25: a greatest term is 0, above H or, for the holder, below its present one
unfoldable pub bad_greatest : ℕ → List ℕ → Contest → Bool
bad_greatest H l k =
    not (k.challenger is_from 1 to H) || (not (k.holder is_from 1 to H) || ltb k.holder (present H l k))

-- the displacement that a lost contest ends as
abbrev pub displacing : Contest → Action
displacing k =
    record { kind = 2; actor = k.actor; reference = k.reference; reqtype = 0; status = DISPLACED; seller = 0; related = 0; start = 0; stop = 0; flags = 0; price = 0; time = 0; offset = 0; length = 0; path = 0 }

-- the checks of a sound ledger before the moves: those of the displacement, then 11 and 25
unfoldable pub contest_checks : ℕ → List ℕ → Contest → ℕ
contest_checks H l k =
    seller_number H l [] (displacing k) or_else
    not_firm H l k gives 11 else
    bad_greatest H l k gives 25 else
    0

-- 0, or the first check before the moves that applies
unfoldable pub contest_number : List ℕ → List ℕ → Contest → ℕ
contest_number l ps k = common_number (sound_both l ps) (displacing k) or_else contest_checks (hours l) l k

-- A row kept, or a contest left unfinished: 0, the reference, 13, 13, 0, and nothing altered
unfoldable pub row_kept : List ℕ → List ℕ → Contest → Outcome
row_kept l ps k =
    record { answer = record { number = 0; reference = k.reference; before = CONFIRMED; after = CONFIRMED; moved = 0 }; ledger = l; postings = ps }

-- What each ending answers and leaves. A row lost is displaced, and there alone the 1 for a word over 100,000 is
-- judged; 25 refuses the whole contest
unfoldable pub ended : List ℕ → List ℕ → Contest → Ending → Outcome
ended l ps k Kept = row_kept l ps k
ended l ps k Lost = outcome l ps [] (displacing k)
ended l ps k Unfinished = row_kept l ps k
ended l ps k Refused = refused l ps 25

unfoldable pub contested : List ℕ → List ℕ → Contest → List ℕ → List ℕ → Outcome
contested l ps k moves replies =
    let n = contest_number l ps k in
    pick (eqb n 0) (ended l ps k (ending (hours l) l k moves replies)) (refused l ps n)

abbrev pub is_lost : Ending → Bool
is_lost Kept = false
is_lost Lost = true
is_lost Unfinished = false
is_lost Refused = false

-- the contest passes its checks, and its moves lose the row
unfoldable pub loses : List ℕ → List ℕ → Contest → List ℕ → List ℕ → Bool
loses l ps k moves replies = eqb (contest_number l ps k) 0 && is_lost (ending (hours l) l k moves replies)
