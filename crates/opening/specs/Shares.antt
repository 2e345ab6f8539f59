-- For contracts inside the crate: what a row adds to a sum by hour, and a row's test by such shares. No promise to the
-- outside names these.
use Rattle.std.specs.Prelude.{◌≡◌, Bool, ◌||◌, not, List, ℕ, ◌+◌, ◌*◌, ◌≤◌, ◌<◌, eqb, length, get_or}
use Rattle.words.specs.Lists.{all_below, sum_below}
use Rattle.rules.specs.Pick.{pick}
use Rattle.rules.specs.Numbers.{most_rows, most_megawatts, NONFIRM_REDIRECT}
use Rattle.rules.specs.Layout.{used, row, reqtype}
use Rattle.rules.specs.Open.{granted_of, held_of}

-- what row n adds to the equation of a row that it draws on: its granted, but of a type 5 what it holds, which is its
-- granted less that of its relinquish records where the type 5 balances
unfoldable pub drawn_share : ℕ → List ℕ → ℕ → ℕ → ℕ
drawn_share H l h n = pick (eqb (reqtype (row H l n)) NONFIRM_REDIRECT) (held_of H l h n) (granted_of H l h n)

-- a row's own part in a tree: it stands in the tree's chain
abbrev pub nothing_of : ℕ → List ℕ → ℕ → ℕ → ℕ
nothing_of H l h n = 0

-- what is held against granted of row n: its own part, and the shares of the rows that count for it; it balances if it
-- is not tested, or they are its granted in every hour
unfoldable pub sum_of : (ℕ → List ℕ → ℕ → ℕ) → (own share : ℕ → List ℕ → ℕ → ℕ → ℕ) → ℕ → List ℕ → ℕ → ℕ → ℕ
sum_of link own share H l h n = own H l h n + sum_below (used l) (λ c. pick (eqb (link H l c) (n + 1)) (share H l h c) 0)

unfoldable pub balanced_by : (ℕ → List ℕ → ℕ → Bool) → (ℕ → List ℕ → ℕ → ℕ) → (own share : ℕ → List ℕ → ℕ → ℕ → ℕ) → ℕ → List ℕ → ℕ → Bool
balanced_by is_tested link own share H l n =
    not (is_tested H l n) || all_below H (λ h. eqb (sum_of link own share H l h n) (granted_of H l h n))

-- the greatest share; the greatest sum, of a row and all rows
abbrev pub most_share : ℕ
most_share = 3 * most_megawatts

abbrev pub most_sum : ℕ
most_sum = (most_rows + 1) * most_share

-- sums of H hours, each at most b
pub record Sums (H b : ℕ) (sums : List ℕ) : Type 0 where
  pub long : length sums ≡ H
  pub most : (h : ℕ) → h < H → get_or sums h 0 ≤ b
