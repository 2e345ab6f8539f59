-- Choice by a test.
use Rattle.std.specs.Prelude.{Bool, true, false, ℕ}

-- `pick t a b` is a where the test t holds, else b
abbrev pub pick : {A : Type 0} → Bool → A → A → A
pick true a b = a
pick false a b = b

-- `test gives number else rest`: the first check that applies gives its number
infixr 5 ◌gives◌else◌
abbrev pub ◌gives◌else◌ : Bool → ℕ → ℕ → ℕ
t gives n else m = pick t n m
