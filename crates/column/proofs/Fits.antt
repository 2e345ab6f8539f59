-- The numbers of one row that fit together, and what each kind of step does to them. All by omega.
use mathlib.Core.Path.{◌≡◌}
use mathlib.Core.Logic.{◌≢◌}
use Prim.Native.Nat.{ℕ, ◌+◌, ◌≤◌}
use native.Mathlib.Decide.{ℕ_discrete}
use native.Mathlib.Omega.{arith}
use Rattle.column.specs.Column.{Off, On}

-- type t, status s, granted g, available a, displaced d, reduced r; w is what the row still draws on its parent, o is what its children draw on it
pub data Fit (t s g a d r w o : ℕ) : Type 0 where
  off : Off s → (a ≡ 0) × (d ≡ 0) × (r ≡ 0) × (w ≡ 0) × (o ≡ 0) → Fit t s g a d r w o
  gone : On s → t ≡ 8 → (a ≡ 0) × (d ≡ 0) × (r ≡ 0) × (w ≡ g) × (o ≡ 0) → Fit t s g a d r w o
  bent : On s → t ≡ 5 → (g ≡ a + d + r + o) × (w + o ≡ g) → Fit t s g a d r w o
  held : On s → (t ≢ 5) × (t ≢ 8) → (g ≡ a + d + r + o) × (w ≡ g) → Fit t s g a d r w o

-- what a row holds, and what was reduced in it, was granted to it
pub fit_most : {t s g a d r w o : ℕ} → Fit t s g a d r w o → a + d + r ≤ g
fit_most (off x y) = omega arith
fit_most (gone x z y) = omega arith
fit_most (bent x z y) = omega arith
fit_most (held x z y) = omega arith

module _ {t s g a d r w o t' s' g' a' d' r' w' o' : ℕ} where
  -- nothing changes
  pub fit_same : Fit t s g a d r w o → t' ≡ t → s' ≡ s → g' ≡ g → a' ≡ a → d' ≡ d → r' ≡ r → w' ≡ w → o' ≡ o → Fit t' s' g' a' d' r' w' o'
  fit_same (off x y) et es eg ea ed er ew eo = off (omega arith) (omega arith)
  fit_same (gone x z y) et es eg ea ed er ew eo = gone (omega arith) (omega arith) (omega arith)
  fit_same (bent x z y) et es eg ea ed er ew eo = bent (omega arith) (omega arith) (omega arith)
  fit_same (held x z y) et es eg ea ed er ew eo = held (omega arith) (omega arith) (omega arith)

  -- a row that is off stays off
  pub fit_off : Fit t s g a d r w o → Off s → Off s' → a' ≡ a → d' ≡ d → r' ≡ r → w' ≡ w → o' ≡ o → Fit t' s' g' a' d' r' w' o'
  fit_off (off x y) h h' ea ed er ew eo = off h' (omega arith)
  fit_off (gone x z y) h h' ea ed er ew eo = absurd (omega arith)
  fit_off (bent x z y) h h' ea ed er ew eo = absurd (omega arith)
  fit_off (held x z y) h h' ea ed er ew eo = absurd (omega arith)

  -- a row is confirmed, with all that it is granted available
  pub fit_start : Fit t s g a d r w o → Off s → t ≢ 8 → t' ≡ t → s' ≡ 13 → a' ≡ g' → d' ≡ d → r' ≡ r → w' ≡ g' → o' ≡ o → Fit t' s' g' a' d' r' w' o'
  fit_start (off x y) h n et es ea ed er ew eo = go (ℕ_discrete t 5)
    where
      go : Dec (t ≡ 5) → Fit t' s' g' a' d' r' w' o'
      go (yes q) = bent (omega arith) (omega arith) (omega arith)
      go (no q) = held (omega arith) (omega arith) (omega arith)
  fit_start (gone x z y) h n et es ea ed er ew eo = absurd (omega arith)
  fit_start (bent x z y) h n et es ea ed er ew eo = absurd (omega arith)
  fit_start (held x z y) h n et es ea ed er ew eo = absurd (omega arith)

  -- a relinquish record is confirmed
  pub fit_start8 : Fit t s g a d r w o → Off s → t ≡ 8 → t' ≡ t → s' ≡ 13 → a' ≤ a → d' ≡ d → r' ≡ r → w' ≡ g' → o' ≡ o → Fit t' s' g' a' d' r' w' o'
  fit_start8 (off x y) h n et es ea ed er ew eo = gone (omega arith) (omega arith) (omega arith)
  fit_start8 (gone x z y) h n et es ea ed er ew eo = absurd (omega arith)
  fit_start8 (bent x z y) h n et es ea ed er ew eo = absurd (omega arith)
  fit_start8 (held x z y) h n et es ea ed er ew eo = absurd (omega arith)

  -- a child takes x
  pub fit_take : (x : ℕ) → Fit t s g a d r w o → s ≡ 13 → (t ≢ 5) × (t ≢ 8) → t' ≡ t → s' ≡ 13 → g' ≡ g → a' + x ≡ a → d' ≡ d → r' ≡ r → w' ≡ w → o' ≡ o + x → Fit t' s' g' a' d' r' w' o'
  fit_take x (off u y) h n et es eg ea ed er ew eo = absurd (omega arith)
  fit_take x (gone u z y) h n et es eg ea ed er ew eo = absurd (omega arith)
  fit_take x (bent u z y) h n et es eg ea ed er ew eo = absurd (omega arith)
  fit_take x (held u z y) h n et es eg ea ed er ew eo = held (omega arith) (omega arith) (omega arith)

  -- a child gives x back, to available or to displaced
  pub fit_back : (x : ℕ) → Fit t s g a d r w o → (t ≢ 5) × (t ≢ 8) → t' ≡ t → s' ≡ s → g' ≡ g → a' + d' ≡ a + d + x → r' ≡ r → w' ≡ w → o' + x ≡ o → Fit t' s' g' a' d' r' w' o'
  fit_back x (off u y) n et es eg ea er ew eo = off (omega arith) (omega arith)
  fit_back x (gone u z y) n et es eg ea er ew eo = absurd (omega arith)
  fit_back x (bent u z y) n et es eg ea er ew eo = absurd (omega arith)
  fit_back x (held u z y) n et es eg ea er ew eo = held (omega arith) (omega arith) (omega arith)

  -- x of a redirect is relinquished
  pub fit_bend : (x : ℕ) → Fit t s g a d r w o → s ≡ 13 → t ≡ 5 → t' ≡ t → s' ≡ 13 → g' ≡ g → a' + x ≡ a → d' ≡ d → r' ≡ r → w' + x ≡ w → o' ≡ o + x → Fit t' s' g' a' d' r' w' o'
  fit_bend x (off u y) h n et es eg ea ed er ew eo = absurd (omega arith)
  fit_bend x (gone u z y) h n et es eg ea ed er ew eo = absurd (omega arith)
  fit_bend x (bent u z y) h n et es eg ea ed er ew eo = bent (omega arith) (omega arith) (omega arith)
  fit_bend x (held u z y) h n et es eg ea ed er ew eo = absurd (omega arith)

  -- a row that has all its granted available is annulled
  pub fit_end : Fit t s g a d r w o → s ≡ 13 → t ≢ 8 → a ≡ g → Off s' → a' ≡ 0 → d' ≡ d → r' ≡ r → w' ≡ 0 → o' ≡ o → Fit t' s' g' a' d' r' w' o'
  fit_end (off x y) h n e es ea ed er ew eo = absurd (omega arith)
  fit_end (gone x z y) h n e es ea ed er ew eo = absurd (omega arith)
  fit_end (bent x z y) h n e es ea ed er ew eo = off es (omega arith)
  fit_end (held x z y) h n e es ea ed er ew eo = off es (omega arith)

  -- megawatts move between available, displaced and reduced
  pub fit_move : Fit t s g a d r w o → s ≡ 13 → t ≢ 8 → On s' → t' ≡ t → g' ≡ g → a' + d' + r' ≡ a + d + r → w' ≡ w → o' ≡ o → Fit t' s' g' a' d' r' w' o'
  fit_move (off x y) h n k et eg ea ew eo = absurd (omega arith)
  fit_move (gone x z y) h n k et eg ea ew eo = absurd (omega arith)
  fit_move (bent x z y) h n k et eg ea ew eo = bent k (omega arith) (omega arith)
  fit_move (held x z y) h n k et eg ea ew eo = held k (omega arith) (omega arith)

module _ {t s g a d r w o : ℕ} where
  -- what a row that is off draws
  pub fit_w_off : Fit t s g a d r w o → Off s → w ≡ 0
  fit_w_off (off x y) h = omega arith
  fit_w_off (gone x z y) h = absurd (omega arith)
  fit_w_off (bent x z y) h = absurd (omega arith)
  fit_w_off (held x z y) h = absurd (omega arith)

  pub fit_o_off : Fit t s g a d r w o → Off s → o ≡ 0
  fit_o_off (off x y) h = omega arith
  fit_o_off (gone x z y) h = absurd (omega arith)
  fit_o_off (bent x z y) h = absurd (omega arith)
  fit_o_off (held x z y) h = absurd (omega arith)

  pub fit_r_off : Fit t s g a d r w o → Off s → r ≡ 0
  fit_r_off (off x y) h = omega arith
  fit_r_off (gone x z y) h = absurd (omega arith)
  fit_r_off (bent x z y) h = absurd (omega arith)
  fit_r_off (held x z y) h = absurd (omega arith)

  -- a confirmed redirect draws at least what it has available
  pub fit_w_bent : Fit t s g a d r w o → s ≡ 13 → t ≡ 5 → a ≤ w
  fit_w_bent (off x y) h n = absurd (omega arith)
  fit_w_bent (gone x z y) h n = absurd (omega arith)
  fit_w_bent (bent x z y) h n = omega arith
  fit_w_bent (held x z y) h n = absurd (omega arith)

  -- a confirmed row that has all its granted available draws it all
  pub fit_w_whole : Fit t s g a d r w o → s ≡ 13 → t ≢ 8 → a ≡ g → w ≡ g
  fit_w_whole (off x y) h n e = absurd (omega arith)
  fit_w_whole (gone x z y) h n e = absurd (omega arith)
  fit_w_whole (bent x z y) h n e = omega arith
  fit_w_whole (held x z y) h n e = omega arith

  -- what a live row that is no relinquish record has
  pub fit_sum : Fit t s g a d r w o → On s → t ≢ 8 → g ≡ a + d + r + o
  fit_sum (off x y) h n = absurd (omega arith)
  fit_sum (gone x z y) h n = absurd (omega arith)
  fit_sum (bent x z y) h n = y.0
  fit_sum (held x z y) h n = y.0

  -- a live row that is no redirect of type 5 draws all its granted
  pub fit_w_held : Fit t s g a d r w o → On s → t ≢ 5 → t ≢ 8 → w ≡ g
  fit_w_held (off x y) h n e = absurd (omega arith)
  fit_w_held (gone x z y) h n e = absurd (omega arith)
  fit_w_held (bent x z y) h n e = absurd (omega arith)
  fit_w_held (held x z y) h n e = omega arith
