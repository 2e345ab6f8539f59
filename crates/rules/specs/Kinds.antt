-- Kinds of action by their numbers.
use Rattle.std.specs.Prelude.{◌≡◌, ℕ, false, Result, MatchResult}
use Rattle.rules.specs.Pick.{◌is_from◌to◌}
use Rattle.rules.specs.Numbers.{most_kind}
use Rattle.rules.specs.declared.kind.Kind.{Kind}
use Rattle.rules.specs.declared.kind.Kind.TheVariants.{Submit, SellerStatus, CustomerStatus, Approve, Reduce, Lapse, Clock, Post}
use Rattle.rules.specs.declared.kind.UnknownKind.{UnknownKind}

abbrev pub kind_code : Kind → ℕ
kind_code Submit = 1
kind_code SellerStatus = 2
kind_code CustomerStatus = 3
kind_code Approve = 4
kind_code Reduce = 5
kind_code Lapse = 6
kind_code Clock = 7
kind_code Post = 8

-- the result is the kind with this number, or an error where no kind has it
abbrev pub Names : ℕ → Result Kind UnknownKind → Type 0
Names code r = MatchResult r (λ kind. kind_code kind ≡ code) (λ e. (e.0 ≡ code) × ((code is_from 1 to most_kind) ≡ false))
