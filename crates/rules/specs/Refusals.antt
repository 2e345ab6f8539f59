-- Refusals by their numbers; 0 where nothing is refused.
use Rattle.std.specs.Prelude.{ℕ, Result, Ok, Err}
use Rattle.rules.specs.declared.refusal.Refusal.{Refusal}
use Rattle.rules.specs.declared.refusal.Refusal.TheVariants.{Unsound, OutOfRange, WrongParty, NoReference, WrongTime, WrongSpan, WrongProfile, NoRowLeft, WrongRelated, WrongFlags, WrongMove, WrongPrice, Unapproved, Short, PartlyUsed, TooEarly, FewerAnswers, Unbalanced, WrongPath, OverPosted, TermOutOfRange}

abbrev pub refusal_number : Refusal → ℕ
refusal_number Unsound = 1
refusal_number OutOfRange = 2
refusal_number WrongParty = 3
refusal_number NoReference = 4
refusal_number WrongTime = 5
refusal_number WrongSpan = 6
refusal_number WrongProfile = 7
refusal_number NoRowLeft = 8
refusal_number WrongRelated = 9
refusal_number WrongFlags = 10
refusal_number WrongMove = 11
refusal_number WrongPrice = 12
refusal_number Unapproved = 13
refusal_number Short = 14
refusal_number PartlyUsed = 15
refusal_number TooEarly = 16
refusal_number FewerAnswers = 17
refusal_number Unbalanced = 20
refusal_number WrongPath = 21
refusal_number OverPosted = 22
refusal_number TermOutOfRange = 25

abbrev pub number_of : {A : Type 0} → Result A Refusal → ℕ
number_of (Ok _) = 0
number_of (Err r) = refusal_number r

-- what is carried out gives its value, else 0
abbrev pub value_of : Result ℕ Refusal → ℕ
value_of (Ok v) = v
value_of (Err _) = 0
