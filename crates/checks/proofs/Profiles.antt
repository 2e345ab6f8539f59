-- The action's profile: lent from its slice, and what it has passed.
use mathlib.Core.Path.{◌≡◌, refl}
use mathlib.Core.Bool.{false}
use mathlib.Core.List.{List}
use Prim.Native.Nat.{ℕ, ◌+◌, ◌-◌, ◌≤◌}
use lib.ListN.{length, take, drop}
use Rattle.words.proofs.Laws.{lent}
use Rattle.rules.specs.Checks.{profile, bad_words, bad_if_comes}
use Rattle.rules.specs.declared.Action.{Action}
use Rattle.rules.proofs.Picks.{chain}
use Rattle.rules.proofs.Passed.{words_passed, comes_passed}
use Rattle.checks.specs.Suits.{Suits}

pub profile_lent : (w : List ℕ) (a : Action) → a.offset + a.length ≤ length w → take (a.offset + a.length - a.offset) (drop a.offset w) ≡ profile w a
unfolding profile
profile_lent w a fits = lent w a.offset a.offset a.length refl fits

-- no 7
pub words_fit : (w : List ℕ) (a : Action) (n : ℕ) → bad_words w a n ≡ false → a.offset + a.length ≤ length w
words_fit w a n e = (words_passed w a n e).fits

pub suits : (w : List ℕ) (a : Action) (r : List ℕ) → bad_if_comes w a r ≡ false → Suits w a r
suits w a r e = record { profile = comes_passed w a r e }

-- for the checks of a profile
pub ruleset judged = (chain, words_fit)
