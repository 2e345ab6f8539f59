-- What settles a choice by tests: at a `return` of a chain of tests, `search choice` goes by the facts that led there.
use mathlib.Core.Path.{◌≡◌, refl, sym, ◌∙◌, ap}
use mathlib.Core.Bool.{Bool, true, false, ◌&&◌, ◌||◌, or-false, and-true}
use borrow.Author.Tests.{lt-ltb, le-ltb, le-leb, lt-leb, eq-eqb, ne_eqb}
use Prim.Native.Nat.{ℕ}
use lib.Dec.{eqb}
use Rattle.rules.specs.Pick.{pick, ◌or_else◌}

-- the test holds: the first choice
pub hit : {A : Type 0} (t : Bool) (x y : A) → t ≡ true → x ≡ pick t x y
hit t x y q = ap (λ (b : Bool). pick b x y) (sym q)

-- the test holds, and v is the first choice
pub hit_by : {A : Type 0} (t : Bool) (v x y : A) → t ≡ true → v ≡ x → v ≡ pick t x y
hit_by t v x y q h = h ∙ hit t x y q

-- the test fails: the rest decides
pub skip : {A : Type 0} (t : Bool) (v x y : A) → t ≡ false → v ≡ y → v ≡ pick t x y
skip t v x y q h = h ∙ ap (λ (b : Bool). pick b x y) (sym q)

-- a call gave the test's value r, and a branch went by r
pub told : (r t b : Bool) → r ≡ t → r ≡ b → t ≡ b
told r t b p q = sym p ∙ q

-- a group of checks gave r, which is not 0
pub refuses : (r n m : ℕ) → r ≡ n → (r ≡ 0 → ⊥) → r ≡ (n or_else m)
refuses r n m p q = p ∙ ap (λ (b : Bool). pick b m n) (sym (ap (λ (k : ℕ). eqb k 0) (sym p) ∙ ne_eqb r 0 q))

-- a group of checks gave 0: the rest decides
pub passes : (r n v m : ℕ) → r ≡ n → r ≡ 0 → v ≡ m → v ≡ (n or_else m)
passes r n v m p q h = h ∙ ap (λ (b : Bool). pick b m n) (sym (ap (λ (k : ℕ). eqb k 0) (sym p) ∙ eq-eqb r 0 q))

-- the same where every test is a call's result r
pub hit_call : {A : Type 0} (r t : Bool) (x y : A) → r ≡ t → r ≡ true → x ≡ pick t x y
hit_call r t x y p q = hit t x y (told r t true p q)

pub skip_call : {A : Type 0} (r t : Bool) (v x y : A) → r ≡ t → r ≡ false → v ≡ y → v ≡ pick t x y
skip_call r t v x y p q h = skip t v x y (told r t false p q) h

-- for a chain of returns of numbers whose tests are all calls
pub ruleset calls = (hit_call, skip_call)

-- what a branch's fact says of a test
pub ruleset compared = (lt-ltb, le-ltb, le-leb, lt-leb, eq-eqb, ne_eqb)

-- for an expression of tests, as `a < b || c == d`
pub ruleset tests = (compared, or-false, and-true)

-- for a chain of returns of numbers
pub ruleset choice = (hit, skip, told, compared)

-- for a chain of returns of calls' results
pub ruleset results = (hit_by, skip, told, compared)

-- for a chain of groups: `let n = group(..); if n != 0 { return n; }`
pub ruleset groups = (refuses, passes)

-- the checks gave r. It is 0: what an accepted action answers or leaves
pub takes : {A : Type 0} (r n : ℕ) (v x y : A) → r ≡ n → r ≡ 0 → v ≡ x → v ≡ pick (eqb n 0) x y
takes r n v x y p q h = hit_by (eqb n 0) v x y (ap (λ (k : ℕ). eqb k 0) (sym p) ∙ eq-eqb r 0 q) h

-- and nothing is changed
pub keeps : {A : Type 0} (r n : ℕ) (v x y : A) → r ≡ n → (r ≡ 0 → ⊥) → v ≡ y → v ≡ pick (eqb n 0) x y
keeps r n v x y p q h = skip (eqb n 0) v x y (ap (λ (k : ℕ). eqb k 0) (sym p) ∙ ne_eqb r 0 q) h

-- for an action: its checks, and then its answer and its effect
pub ruleset outcome = (takes, keeps)

-- a conjunction whose first test fails, or holds; a disjunction whose first or second holds
pub and_stops : (a b : Bool) → a ≡ false → false ≡ (a && b)
and_stops a b e = ap (λ (x : Bool). x && b) (sym e)

pub and_goes : (a b v : Bool) → a ≡ true → v ≡ b → v ≡ (a && b)
and_goes a b v e h = h ∙ ap (λ (x : Bool). x && b) (sym e)

pub or_first : (a b : Bool) → a ≡ true → (a || b) ≡ true
or_first a b e = ap (λ (x : Bool). x || b) e

pub or_second : (a b : Bool) → b ≡ true → (a || b) ≡ true
or_second true b e = refl
or_second false b e = e

pub or_none : (a b : Bool) → a ≡ false → b ≡ false → (a || b) ≡ false
or_none a b e h = ap (λ (x : Bool). x || b) e ∙ h

-- `a || b`: a holds; a fails, and b decides; b is the end of a list
pub or_stops : (a b : Bool) → a ≡ true → true ≡ (a || b)
or_stops a b e = ap (λ (x : Bool). x || b) (sym e)

pub or_goes : (a b v : Bool) → a ≡ false → v ≡ b → v ≡ (a || b)
or_goes a b v e h = h ∙ ap (λ (x : Bool). x || b) (sym e)

pub or_last : (a v : Bool) → v ≡ a → v ≡ (a || false)
or_last a v h = h ∙ sym (or-false a)

-- the same where a is a call's result r
pub stops : {r a : Bool} (b : Bool) → r ≡ a → r ≡ false → r ≡ (a && b)
stops b p q = q ∙ and_stops _ b (sym p ∙ q)

pub goes : {r a : Bool} (b : Bool) {v : Bool} → r ≡ a → r ≡ true → v ≡ b → v ≡ (a && b)
goes b p q h = and_goes _ b _ (sym p ∙ q) h

-- for a chain of tests of a Bool function
pub ruleset chain = (and_stops, and_goes, or_stops, or_goes, or_last, told, compared)

-- a conjunction, of which the second is looked at only where the first holds
pub and_all : (b : Bool) {c : Bool} → b ≡ true → c ≡ true → (b && c) ≡ true
and_all true e f = f
and_all false e f = e

pub and_fails : (b c : Bool) → (b ≡ true → c ≡ false) → (b && c) ≡ false
and_fails true c f = f refl
and_fails false c f = refl

pub and_cong : (b : Bool) {c d : Bool} → (b ≡ true → c ≡ d) → (b && c) ≡ (b && d)
and_cong true f = f refl
and_cong false f = refl
