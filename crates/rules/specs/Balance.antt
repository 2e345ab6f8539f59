-- Demand 3: one claim about every list of calls from a fresh ledger.
use Rattle.std.specs.Prelude.{◌≡◌, ◌≢◌, ◌⊎◌, Bool, true, false, ◌&&◌, ◌||◌, not, List, [], ◌∷◌, ℕ, zero, suc, ◌≤◌, ◌<◌, eqb, ℤ, pos, negsuc, ◌+ℤ◌}
use Rattle.rules.specs.Pick.{pick, ◌among◌}
use Rattle.words.specs.Lists.{word_at}
use Rattle.rules.specs.Numbers.{granted_part, available_part, displaced_part, reduced_part, CONFIRMED, DISPLACED, RELINQUISH}
use Rattle.rules.specs.Layout.{hours, used, row_of, row, reqtype, status, related, hour_at}
use Rattle.rules.specs.Create.{good_numbers, fresh}
use Rattle.rules.specs.Sound.{original}
use Rattle.rules.specs.Calls.{Run, Call, run_calls}
use Rattle.rules.specs.Tally.{resold_sum, redirected_sum, transferred_sum, relinquished_sum, reduced_sum, Tally, granted_in, tally}

-- the row of reference r, and its word of profile p in hour h
abbrev pub row_in : List ℕ → ℕ → List ℕ
row_in l r = row (hours l) l (row_of r)

abbrev pub word_in : List ℕ → ℕ → ℕ → ℕ → ℕ
word_in l r p h = word_at (row_in l r) (hour_at (hours l) p h)

-- CONFIRMED or DISPLACED
unfoldable pub live : ℕ → Bool
live s = s among (CONFIRMED ∷ DISPLACED ∷ [])

abbrev pub NotNegative : ℤ → Type 0
NotNegative (pos n) = Unit {0}
NotNegative (negsuc n) = ⊥

-- reference r is o, or descends from it, where up gives the related reference of each, 0 for none: r steps up are
-- enough, since a related reference is smaller
unfoldable pub descends_within : ℕ → (ℕ → ℕ) → ℕ → ℕ → Bool
descends_within zero up o r = false
descends_within (suc n) up o r = eqb r o || (not (eqb (up r) 0) && descends_within n up o (up r))

unfoldable pub descends : (ℕ → ℕ) → ℕ → ℕ → Bool
descends up o r = descends_within (suc r) up o r

unfoldable pub sum_to : ℕ → (ℕ → ℤ) → ℤ
sum_to zero f = pos 0
sum_to (suc r) f = sum_to r f +ℤ f (suc r)

-- what was reduced of reference r in hour h: by the tally, and by its row
unfoldable pub tallied : Tally → ℕ → ℕ → ℤ
tallied t r h = (t r).sum reduced_sum h

unfoldable pub stored : List ℕ → ℕ → ℕ → ℤ
stored l r h = pos (word_in l r reduced_part h)

-- available, displaced and reduced of reference r in hour h; reduced is given
unfoldable pub holding : List ℕ → (ℕ → ℕ → ℤ) → ℕ → ℕ → ℤ
holding l reduced h r = pos (word_in l r available_part h) +ℤ pos (word_in l r displaced_part h) +ℤ reduced r h

-- entry and row have the same type, status, related reference and granted
pub record SameEntry (l : List ℕ) (t : Tally) (r : ℕ) : Type 0 where
  pub types : (t r).reqtype ≡ reqtype (row_in l r)
  pub statuses : (t r).status ≡ status (row_in l r)
  pub relations : (t r).related ≡ related (row_in l r)
  pub grants : (h : ℕ) → h < hours l → granted_in (t r) h ≡ word_in l r granted_part h

-- granted is available, displaced and the five, of which reduced is given
unfoldable pub Whole : List ℕ → Tally → (ℕ → ℕ → ℤ) → ℕ → ℕ → Type 0
Whole l t reduced r h =
    pos (granted_in (t r) h)
    ≡ pos (word_in l r available_part h) +ℤ pos (word_in l r displaced_part h)
    +ℤ (t r).sum resold_sum h +ℤ (t r).sum redirected_sum h +ℤ (t r).sum transferred_sum h +ℤ (t r).sum relinquished_sum h
    +ℤ reduced r h

-- none of the five is negative
pub record Five (t : Tally) (r h : ℕ) : Type 0 where
  pub resold : NotNegative ((t r).sum resold_sum h)
  pub redirected : NotNegative ((t r).sum redirected_sum h)
  pub transferred : NotNegative ((t r).sum transferred_sum h)
  pub relinquished : NotNegative ((t r).sum relinquished_sum h)
  pub reduced : NotNegative ((t r).sum reduced_sum h)

-- granted of an original is what it and all that descend from it hold
unfoldable pub Tree : List ℕ → Tally → (ℕ → ℕ → ℤ) → ℕ → ℕ → Type 0
Tree l t reduced o h =
    pos (granted_in (t o) h) ≡ sum_to (used l) (λ r. pick (descends (λ q. (t q).related) o r) (holding l reduced h r) (pos 0))

-- the ledger and the tally balance
pub record Balanced (l : List ℕ) (t : Tally) : Type 0 where
  -- an entry for each used row, and for nothing else
  pub entries : (r : ℕ) → 1 ≤ r → r ≤ used l → SameEntry l t r
  pub others : (r : ℕ) → (r ≡ 0) ⊎ (used l < r) → (t r).reqtype ≡ 0
  -- of each entry, in every hour: the reduced word of its row is the tally's reduced, and none of the five is negative
  pub reductions : (r h : ℕ) → 1 ≤ r → r ≤ used l → h < hours l → stored l r h ≡ tallied t r h
  pub fives : (r h : ℕ) → 1 ≤ r → r ≤ used l → h < hours l → Five t r h
  -- the equation of each confirmed or displaced row but relinquish records: by the tally's reduced, and by the rows'
  pub whole : (r h : ℕ) → 1 ≤ r → r ≤ used l → h < hours l → live (t r).status ≡ true → (t r).reqtype ≢ RELINQUISH → Whole l t (tallied t) r h × Whole l t (stored l) r h
  -- the tree sum of each confirmed or displaced original: likewise
  pub trees : (o h : ℕ) → 1 ≤ o → o ≤ used l → h < hours l → live (t o).status ≡ true → original (t o).reqtype ≡ true → Tree l t (tallied t) o h × Tree l t (stored l) o h

abbrev pub BalancedRun : Run → Type 0
BalancedRun run = Balanced run.ledger (tally run.done)

-- for all creation numbers that creation accepts, whatever is posted, and every list of calls
abbrev pub Demand3 : Type 0
Demand3 =
    (R H provider window base : ℕ) → good_numbers R H provider window base ≡ true →
    (ps : List ℕ) (calls : List Call) → BalancedRun (run_calls (fresh R H provider window base) ps calls)
