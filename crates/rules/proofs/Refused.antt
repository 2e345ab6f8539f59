-- Chains of groups of checks: a group refuses, or the rest decides.
use mathlib.Core.Path.{◌≡◌, sym, ap, ◌∙◌}
use mathlib.Core.Bool.{Bool, false}
use Prim.Native.Nat.{ℕ}
use native.Mathlib.Omega.{arith}
use lib.Dec.{eqb}
use borrow.Author.Tests.{eq-eqb, ne_eqb}
use Rattle.rules.specs.Pick.{pick, ◌or_else◌}
use Rattle.rules.specs.Refusals.{refusal_number}
use Rattle.rules.specs.declared.refusal.Refusal.{Refusal}
use Rattle.rules.specs.declared.refusal.Refusal.TheVariants.{Unsound, OutOfRange, WrongParty, NoReference, WrongTime, WrongSpan, WrongProfile, NoRowLeft, WrongRelated, WrongFlags, WrongMove, WrongPrice, Unapproved, Short, PartlyUsed, TooEarly, FewerAnswers, Unbalanced, WrongPath, OverPosted, TermOutOfRange}

-- no refusal has the number 0
pub no_zero : (e : Refusal) → refusal_number e ≡ 0 → ⊥
no_zero Unsound q = omega arith
no_zero OutOfRange q = omega arith
no_zero WrongParty q = omega arith
no_zero NoReference q = omega arith
no_zero WrongTime q = omega arith
no_zero WrongSpan q = omega arith
no_zero WrongProfile q = omega arith
no_zero NoRowLeft q = omega arith
no_zero WrongRelated q = omega arith
no_zero WrongFlags q = omega arith
no_zero WrongMove q = omega arith
no_zero WrongPrice q = omega arith
no_zero Unapproved q = omega arith
no_zero Short q = omega arith
no_zero PartlyUsed q = omega arith
no_zero TooEarly q = omega arith
no_zero FewerAnswers q = omega arith
no_zero Unbalanced q = omega arith
no_zero WrongPath q = omega arith
no_zero OverPosted q = omega arith
no_zero TermOutOfRange q = omega arith

pub is_refused : (e : Refusal) {n : ℕ} → refusal_number e ≡ n → eqb n 0 ≡ false
is_refused e {n} p = ap (λ (k : ℕ). eqb k 0) (sym p) ∙ ne_eqb (refusal_number e) 0 (no_zero e)

-- the group n refuses with e
pub refused_by : (e : Refusal) (n m : ℕ) → refusal_number e ≡ n → refusal_number e ≡ (n or_else m)
refused_by e n m p = p ∙ ap (λ (b : Bool). pick b m n) (sym (is_refused e p))

-- it passes: the rest decides
pub passed_by : {v : ℕ} (n m : ℕ) → 0 ≡ n → v ≡ m → v ≡ (n or_else m)
passed_by n m p h = h ∙ ap (λ (b : Bool). pick b m n) (sym (eq-eqb n 0 (sym p)))

-- for a chain of groups by `?`
pub ruleset questions = (refused_by, passed_by)
