-- Paths: what is posted for them, and what of it is in use.
use Rattle.std.specs.Prelude.{Bool, ◌&&◌, ◌||◌, not, List, ℕ, ◌+◌, ◌-◌, ◌*◌, eqb, leb, length}
use Rattle.words.specs.Lists.{word_at, all_below, sum_below, noughts, within}
use Rattle.rules.specs.Pick.{pick}
use Rattle.rules.specs.Numbers.{most_path, most_megawatts, available_part, NONFIRM_REDIRECT}
use Rattle.rules.specs.Layout.{used, row, reqtype, path, related_row, hour_at}
use Rattle.rules.specs.Sound.{original}
use Rattle.rules.specs.Moves.{is_confirmed}

-- Postings are a slice of 64 × H words, all hours of path 1 first: where hour h of path x stands, and the megawatts
-- posted for it
unfoldable pub posting_at : ℕ → ℕ → ℕ → ℕ
posting_at H x h = (x - 1) * H + h

unfoldable pub posted_in : ℕ → List ℕ → ℕ → ℕ → ℕ
posted_in H ps x h = word_at ps (posting_at H x h)

-- all postings 0
unfoldable pub unposted : ℕ → List ℕ
unposted H = noughts (most_path * H)

-- the right length, and no word over 100,000
unfoldable pub sound_postings : ℕ → List ℕ → Bool
sound_postings H ps = eqb (length ps) (most_path * H) && within most_megawatts ps

-- row n is a CONFIRMED row of path x
unfoldable pub holds_on : ℕ → List ℕ → ℕ → ℕ → Bool
holds_on H l x n = is_confirmed (row H l n) && eqb (path (row H l n)) x

-- row n counts in the use of path x: it is CONFIRMED and of that path, or a CONFIRMED type 5 that is related to such a
-- row, since the path must be free for the return
unfoldable pub counts_on : ℕ → List ℕ → ℕ → ℕ → Bool
counts_on H l x n =
    is_confirmed (row H l n)
    && (eqb (path (row H l n)) x || eqb (reqtype (row H l n)) NONFIRM_REDIRECT && holds_on H l x (related_row H l n))

-- use of path x in hour h: the available of the rows that count
unfoldable pub use_of : ℕ → List ℕ → ℕ → ℕ → ℕ
use_of H l x h = sum_below (used l) (λ n. pick (counts_on H l x n) (word_at (row H l n) (hour_at H available_part h)) 0)

-- use exceeds the posting in an hour
unfoldable pub over_posted : ℕ → List ℕ → List ℕ → ℕ → Bool
over_posted H l ps x = not (all_below H (λ h. leb (use_of H l x h) (posted_in H ps x h)))

-- of the path of row n, or of its related row's; next is the ledger after the action, in which no path changes
unfoldable pub over_at : ℕ → List ℕ → ℕ → List ℕ → List ℕ → Bool
over_at H l n next ps =
    over_posted H next ps (path (row H l n))
    || not (original (reqtype (row H l n))) && over_posted H next ps (path (row H l (related_row H l n)))
