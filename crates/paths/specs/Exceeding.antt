-- For contracts inside the crates: where a path's postings lie, and the changes of a confirmation and of an annulment.
-- No promise to the outside names these.
use Rattle.std.specs.Prelude.{◌≡◌, Option, None, Some, List, ℕ, ◌+◌, ◌-◌, ◌*◌, ◌≤◌, eqb, length}
use Rattle.rules.specs.Pick.{pick}
use Rattle.rules.specs.Numbers.{most_path, most_hours, RELINQUISH}
use Rattle.rules.specs.Layout.{row, reqtype, start, related_row, granted}
use Rattle.rules.specs.Sound.{original}
use Rattle.rules.specs.Paths.{posting_at}
use Rattle.paths.specs.declared.change.Change.{Change}
use Rattle.paths.specs.declared.change.Changed.{Changed}
use Rattle.paths.specs.declared.change.Changed.TheVariants.{Relinquished, Confirmed, Annulled}

-- postings of H hours
pub record Postings (H : ℕ) (ps : List ℕ) : Type 0 where
  pub long : length ps ≡ most_path * H
  pub hours : H ≤ most_hours

-- one of the paths
pub record KnownPath (x : ℕ) : Type 0 where
  pub least : 1 ≤ x
  pub most : x ≤ most_path

-- a is where hour h of path x stands, and the path's hours from there on lie in the postings
pub record PostingAt (H x h a : ℕ) : Type 0 where
  pub is : a ≡ posting_at H x h
  pub fits : a + (H - h) ≤ most_path * H

-- the row that row n is related to: an original is related to none
abbrev pub above : ℕ → List ℕ → ℕ → Option ℕ
above H l n = pick (original (reqtype (row H l n))) None (Some (related_row H l n))

-- the rows that change as row n is confirmed
abbrev pub confirmed_rows : ℕ → List ℕ → ℕ → Changed
confirmed_rows H l n =
    let p = related_row H l n in
    pick (eqb (reqtype (row H l n)) RELINQUISH) (Relinquished n p (related_row H l p)) (Confirmed n (above H l n))

-- row n is confirmed with the megawatts mw, or annulled
pub record Confirms (H : ℕ) (l : List ℕ) (n : ℕ) (mw : List ℕ) (c : Change) : Type 0 where
  pub rows : c.rows ≡ confirmed_rows H l n
  pub start : c.start ≡ start (row H l n)
  pub given : c.mw.now ≡ mw

pub record Annuls (H : ℕ) (l : List ℕ) (n : ℕ) (c : Change) : Type 0 where
  pub rows : c.rows ≡ Annulled n (above H l n)
  pub start : c.start ≡ start (row H l n)
  pub given : c.mw.now ≡ granted H (row H l n)
