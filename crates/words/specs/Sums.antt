-- Sums by place: one list of numbers against the one before it.
use Rattle.std.specs.Prelude.{◌≡◌, List, ℕ, ◌+◌, ◌-◌, ◌<◌, length, get_or}

-- each sum is changed by f h: f h more; or less
pub record Adds (f : ℕ → ℕ) (sums next : List ℕ) : Type 0 where
  pub long : length next ≡ length sums
  pub each : (h : ℕ) → h < length sums → get_or next h 0 ≡ get_or sums h 0 + f h

pub record Takes (f : ℕ → ℕ) (sums next : List ℕ) : Type 0 where
  pub long : length next ≡ length sums
  pub each : (h : ℕ) → h < length sums → get_or next h 0 ≡ get_or sums h 0 - f h

-- the sums are f h, of H places
pub record Summed (H : ℕ) (f : ℕ → ℕ) (sums : List ℕ) : Type 0 where
  pub long : length sums ≡ H
  pub each : (h : ℕ) → h < H → get_or sums h 0 ≡ f h
