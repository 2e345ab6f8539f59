-- For contracts inside the crates: use of a path after a change, and what a walk over the rows adds up. No promise to
-- the outside names these.
use Rattle.std.specs.Prelude.{◌≡◌, Bool, true, false, ◌&&◌, ◌||◌, not, Option, None, Some, List, length, get_or}
use Rattle.std.specs.Prelude.{ℕ, ◌+◌, ◌-◌, ◌*◌, ◌≤◌, ◌<◌, eqb}
use Rattle.words.specs.Lists.{word_at, sum_below, within, most_word}
use Rattle.rules.specs.Pick.{pick}
use Rattle.rules.specs.Numbers.{most_megawatts, available_part}
use Rattle.rules.specs.Layout.{used, row, hour_at, standing}
use Rattle.rules.specs.Moves.{is_confirmed}
use Rattle.rules.proofs.After.{counts_by}
use Rattle.paths.specs.declared.change.Change.{Change}
use Rattle.paths.specs.declared.change.Changed.{Changed}
use Rattle.paths.specs.declared.change.Changed.TheVariants.{Nothing, Confirmed, Relinquished, Annulled}
use Rattle.paths.specs.declared.change.Held.{Held}
use Rattle.paths.specs.declared.change.Held.TheVariants.{Same, Less, More, Whole, Nought}

-- a row that may be none is row m
abbrev pub is_at : Option ℕ → ℕ → Bool
is_at None m = false
is_at (Some n) m = eqb m n

-- row m is CONFIRMED after the change
unfoldable pub confirmed_after : ℕ → List ℕ → Changed → ℕ → Bool
confirmed_after H l Nothing m = is_confirmed (row H l m)
confirmed_after H l (Confirmed n above) m = eqb m n || is_confirmed (row H l m)
confirmed_after H l (Relinquished n redirect above) m = eqb m n || is_confirmed (row H l m)
confirmed_after H l (Annulled n above) m = not (eqb m n) && is_confirmed (row H l m)

-- what row m holds then
abbrev pub held_then : Changed → ℕ → Held
held_then Nothing m = Same
held_then (Confirmed n above) m = pick (eqb m n) Whole (pick (is_at above m) Less Same)
held_then (Relinquished n redirect above) m =
    pick (eqb m n) Nought (pick (eqb m redirect) Less (pick (eqb m above) More Same))
held_then (Annulled n above) m = pick (is_at above m) More Same

-- of held before, and y that is given or taken
abbrev pub held_by : Held → ℕ → ℕ → ℕ
held_by Same held y = held
held_by Less held y = held - y
held_by More held y = held + y
held_by Whole held y = y
held_by Nought held y = 0

-- the megawatts of the change in hour h
abbrev pub moved : Change → ℕ → ℕ
moved c h = standing c.start c.mw.now h

-- available of row m, which is r, in hour h after the change
unfoldable pub held_in : ℕ → List ℕ → Change → ℕ → ℕ → ℕ
held_in H r c m h = held_by (held_then c.rows m) (word_at r (hour_at H available_part h)) (moved c h)

-- what row m adds to the use of path x, and the use
unfoldable pub added_by : ℕ → List ℕ → Change → ℕ → ℕ → ℕ → ℕ
added_by H l c x m h = pick (counts_by H l (confirmed_after H l c.rows) x m) (held_in H (row H l m) c m h) 0

unfoldable pub use_by : ℕ → List ℕ → Change → ℕ → ℕ → ℕ
use_by H l c x h = sum_below (used l) (λ m. added_by H l c x m h)

-- a row adds at most this; so do the sums of all rows but one
abbrev pub most_added : ℕ
most_added = most_megawatts + most_megawatts

abbrev pub most_sum : ℕ
most_sum = 1023 * most_added

-- ---- what the functions ask and ensure
-- a row that gives the megawatts has them
pub record Changing (l : List ℕ) (H : ℕ) (c : Change) : Type 0 where
  pub fits : c.start + length c.mw.now ≤ H
  pub most : within most_megawatts c.mw.now ≡ true
  pub drawn : (m : ℕ) → held_then c.rows m ≡ Less → m < used l → (h : ℕ) → h < H
      → moved c h ≤ word_at (row H l m) (hour_at H available_part h)

-- sums of H hours that have room for a row more
pub record Sums (H : ℕ) (sums : List ℕ) : Type 0 where
  pub long : length sums ≡ H
  pub most : (h : ℕ) → h < H → get_or sums h 0 ≤ most_sum

-- v has room in the sums from hour s on
pub record Adding (s : ℕ) (v sums : List ℕ) : Type 0 where
  pub fits : s + length v ≤ length sums
  pub room : (k : ℕ) → k < length v → get_or sums (s + k) 0 + get_or v k 0 ≤ most_word

pub record Taking (s : ℕ) (v sums : List ℕ) : Type 0 where
  pub fits : s + length v ≤ length sums
  pub enough : (k : ℕ) → k < length v → get_or v k 0 ≤ get_or sums (s + k) 0
