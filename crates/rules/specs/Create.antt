-- Creation.
use Rattle.std.specs.Prelude.{Bool, ◌&&◌, List, ◌∷◌, ℕ, ◌+◌, ◌*◌, eqb, leb, length}
use Rattle.words.specs.Lists.{noughts}
use Rattle.rules.specs.Pick.{pick, ◌is_from◌to◌}
use Rattle.rules.specs.Numbers.{most_rows, most_hours, most_window, end_hour, entity}
use Rattle.rules.specs.Layout.{row_size, row_base}

-- rows, hours, provider, window in seconds, base hour
unfoldable pub good_numbers : ℕ → ℕ → ℕ → ℕ → ℕ → Bool
good_numbers R H provider window base =
    R is_from 1 to most_rows && (H is_from 1 to most_hours && (entity provider
    && (window is_from 1 to most_window && leb (base + H) end_hour)))

unfoldable pub creates : List ℕ → ℕ → ℕ → ℕ → ℕ → ℕ → Bool
creates l R H provider window base = good_numbers R H provider window base && eqb (length l) (row_base H R)

-- now and rows used are 0, and so are all rows
unfoldable pub fresh : ℕ → ℕ → ℕ → ℕ → ℕ → List ℕ
fresh R H provider window base = R ∷ H ∷ provider ∷ window ∷ base ∷ 0 ∷ 0 ∷ 0 ∷ noughts (R * row_size H)

-- 0, or 1 and the slice unchanged
unfoldable pub create_number : List ℕ → ℕ → ℕ → ℕ → ℕ → ℕ → ℕ
create_number l R H provider window base = pick (creates l R H provider window base) 0 1

unfoldable pub created : List ℕ → ℕ → ℕ → ℕ → ℕ → ℕ → List ℕ
created l R H provider window base = pick (creates l R H provider window base) (fresh R H provider window base) l
