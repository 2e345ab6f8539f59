-- With a common path the order matters: the counterexample, computed from the rules.
use mathlib.Core.Path.{◌≡◌, refl, ap}
use mathlib.Core.Bool.{true, false≢true}
use Prim.Native.Nat.{ℕ, zero, suc, ◌<◌}
use native.Mathlib.Omega.{arith}
use Rattle.rules.specs.Layout.{used, row, path}
use Rattle.rules.specs.Open.{in_tree}
use Rattle.rules.specs.Rules.{rules}
use Rattle.rules.specs.Parallel.{two_ask, Unrelated, CommonPath}
use Rattle.rules.specs.declared.Answer.{Answer}

-- the two requests on two paths are unrelated
two_paths : Unrelated 1 (two_ask 2).ledger 0 1
unfolding rules
two_paths = record {
  first = 0;
  second = 1;
  of_first = (refl, refl);
  of_second = (refl, refl);
  originals = λ e. omega (arith, e);
  paths = go;
}
  where
    go : (i j : ℕ) → i < used (two_ask 2).ledger → j < used (two_ask 2).ledger → in_tree 1 (two_ask 2).ledger 0 i ≡ true → in_tree 1 (two_ask 2).ledger 1 j ≡ true
        → path (row 1 (two_ask 2).ledger i) ≡ path (row 1 (two_ask 2).ledger j) → ⊥
    go zero (suc zero) a b p q e = let z : ◌≡◌ {A = ℕ} 1 2 = e in omega (arith, z)
    go zero zero a b p q e = false≢true q
    go (suc zero) j a b p q e = false≢true p
    go zero (suc (suc j)) a b p q e = let z : suc (suc j) < 2 = b in omega (arith, z)
    go (suc (suc i)) j a b p q e = let z : suc (suc i) < 2 = a in omega (arith, z)

pub common_path : CommonPath
unfolding rules
common_path = (
  two_paths,
  refl,
  refl,
  refl,
  refl,
  (refl, refl),
  (refl, refl),
  λ e. let z : ◌≡◌ {A = ℕ} 0 22 = ap (λ (x : Answer). x.number) e.first in omega (arith, z),
)
