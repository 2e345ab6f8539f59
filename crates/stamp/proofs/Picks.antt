-- Laws of tests and of choice by a test. Assumes nothing.
use mathlib.Core.Path.{◌≡◌, refl, sym, ◌∙◌, ap}
use mathlib.Core.Bool.{Bool, true, false, false≢true, ◌&&◌, ◌||◌}
use Rattle.words.specs.Pick.{pick}

-- a test holds or fails
pub by_test : {P : Type 0} (t : Bool) → (t ≡ true → P) → (t ≡ false → P) → P
by_test true f g = f refl
by_test false f g = g refl

-- the test holds, and v is the first choice
pub hit : {A : Type 0} (t : Bool) (v x y : A) → t ≡ true → v ≡ x → v ≡ pick t x y
hit t v x y q h = h ∙ ap (λ (b : Bool). pick b x y) (sym q)

-- the test fails, and v is the second choice
pub skip : {A : Type 0} (t : Bool) (v x y : A) → t ≡ false → v ≡ y → v ≡ pick t x y
skip t v x y q h = h ∙ ap (λ (b : Bool). pick b x y) (sym q)

-- both tests hold
pub both : (a b : Bool) → a ≡ true → b ≡ true → (a && b) ≡ true
both a b p q = ap (λ (c : Bool). c && b) p ∙ q

pub and_left : (a b : Bool) → (a && b) ≡ true → a ≡ true
and_left true b h = refl
and_left false b h = h

pub and_right : (a b : Bool) → (a && b) ≡ true → b ≡ true
and_right true b h = h
and_right false b h = absurd (false≢true h)

-- one of two tests fails
pub no_left : (a b : Bool) → a ≡ false → (a && b) ≡ false
no_left a b p = ap (λ (c : Bool). c && b) p

pub no_right : (a b : Bool) → b ≡ false → (a && b) ≡ false
no_right true b p = p
no_right false b p = refl

-- neither test holds
pub or_left : (a b : Bool) → (a || b) ≡ false → a ≡ false
or_left true b h = h
or_left false b h = refl

pub or_right : (a b : Bool) → (a || b) ≡ false → b ≡ false
or_right true b h = absurd (false≢true (sym h))
or_right false b h = h
