-- Sums changed one after the other.
use mathlib.Core.Path.{◌≡◌, refl, ap, ◌∙◌}
use mathlib.Core.List.{List}
use Prim.Native.Nat.{ℕ, ◌+◌, ◌-◌, ◌<◌, ◌≤◌}
use native.Mathlib.Omega.{arith}
use lib.ListN.{length, get_or}
use Rattle.words.specs.Sums.{Adds, Takes}

pub adds_as : {f g : ℕ → ℕ} {sums next : List ℕ} → ((h : ℕ) → h < length sums → f h ≡ g h) → Adds f sums next → Adds g sums next
adds_as {f} {g} {sums} {next} same a = record { long = a.long; each = λ h lt. a.each h lt ∙ ap (λ (k : ℕ). get_or sums h 0 + k) (same h lt) }

pub adds_none : {g : ℕ → ℕ} (sums : List ℕ) → ((h : ℕ) → g h ≡ 0) → Adds g sums sums
adds_none {g} sums none = record { long = refl; each = λ h lt. omega (arith, none h) }

pub adds_adds : {f g : ℕ → ℕ} {sums next last : List ℕ} → Adds f sums next → Adds g next last → Adds (λ h. f h + g h) sums last
adds_adds a b = record { long = b.long ∙ a.long; each = λ h lt. omega (arith, a.each h lt, b.each h (omega (arith, a.long, lt))) }

pub adds_takes : {f g : ℕ → ℕ} {sums next last : List ℕ} → ((h : ℕ) → h < length sums → g h ≤ f h) → Adds f sums next → Takes g next last → Adds (λ h. f h - g h) sums last
adds_takes le a b = record { long = b.long ∙ a.long; each = λ h lt. omega (arith, le h lt, a.each h lt, b.each h (omega (arith, a.long, lt))) }
