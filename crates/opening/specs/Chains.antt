-- For contracts inside the crate: the rows that count for one row, chained from the last to the first. No promise to
-- the outside names these.
use Rattle.std.specs.Prelude.{◌≡◌, List, ℕ, zero, suc, ◌+◌, ◌-◌, ◌≤◌, ◌<◌, eqb, length}
use Rattle.words.specs.Lists.{word_at}
use Rattle.rules.specs.Pick.{pick}
use Rattle.rules.specs.Numbers.{most_rows}
use Rattle.rules.specs.Layout.{row, related, related_row}
use Rattle.rules.specs.Open.{stands}

-- links are references, 0 for none: of the row that row n draws on; of the row with no related one that row n is or
-- descends from, for which n steps up are enough
unfoldable pub draw_link : ℕ → List ℕ → ℕ → ℕ
draw_link H l n = pick (stands H l n) (related (row H l n)) 0

unfoldable pub root_within : ℕ → ℕ → List ℕ → ℕ → ℕ
root_within zero H l n = n + 1
root_within (suc k) H l n = pick (eqb (related (row H l n)) 0) (n + 1) (root_within k H l (related_row H l n))

unfoldable pub root_link : ℕ → List ℕ → ℕ → ℕ
root_link H l n = root_within n H l n

-- of the rows before m the last one with the link k, as a reference
unfoldable pub last_linked : (ℕ → ℕ) → ℕ → ℕ → ℕ
last_linked link k zero = 0
last_linked link k (suc m) = pick (eqb (link m) k) (suc m) (last_linked link k m)

-- of N rows: lasts has, for each link, the last row with it, and befores, for each row, the one before it with its link
pub record Chained (link : ℕ → ℕ) (N : ℕ) (lasts befores : List ℕ) : Type 0 where
  pub lasts_long : length lasts ≡ N + 1
  pub befores_long : length befores ≡ N
  pub last : (k : ℕ) → k ≤ N → word_at lasts k ≡ last_linked link k N
  pub before : (m : ℕ) → m < N → word_at befores m ≡ last_linked link (link m) m

-- links of rows, each 0 or a reference of one of them, and room to chain them
pub record Unchained (links lasts befores : List ℕ) : Type 0 where
  pub lasts_long : length lasts ≡ length links + 1
  pub befores_long : length befores ≡ length links
  pub few : length links ≤ most_rows
  pub low : (n : ℕ) → n < length links → word_at links n ≤ length links

-- each row has an earlier one before it
pub record Falling (N : ℕ) (befores : List ℕ) : Type 0 where
  pub long : length befores ≡ N
  pub falls : (m : ℕ) → m < N → word_at befores m ≤ m

-- f over the rows of a chain, from reference m on: m steps are enough
unfoldable pub chain_within : ℕ → List ℕ → (ℕ → ℕ) → ℕ → ℕ
chain_within zero befores f m = 0
chain_within (suc k) befores f m = pick (eqb m 0) 0 (f (m - 1) + chain_within k befores f (word_at befores (m - 1)))

unfoldable pub chain_sum : List ℕ → (ℕ → ℕ) → ℕ → ℕ
chain_sum befores f m = chain_within m befores f m
