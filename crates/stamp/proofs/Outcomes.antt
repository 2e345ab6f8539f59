-- What an error says of a reading, a comparison and a writing. Assumes nothing.
use Rattle.std.proofs.Common.{◌≡◌, ℕ, Result, Ok, Err, IsErr, refl}
use Rattle.std.proofs.lemmas.Bool.{false≢true}
use Rattle.std.specs.declared.cmp.Ordering.{Ordering}
use Rattle.stamp.specs.Stamp.{refusal, incomparable, not_written}
use Rattle.stamp.specs.Outcomes.{reading_of, comparison_of, writing_number}
use Rattle.stamp.specs.declared.NotRead.{NotRead}
use Rattle.stamp.specs.declared.NotWritten.{NotWritten}

pub not_read_lem : (r : Result ℕ NotRead) → IsErr r → reading_of r ≡ refusal
not_read_lem (Ok second) h = absurd (false≢true h)
not_read_lem (Err e) h = refl

pub not_compared_lem : (r : Result Ordering NotRead) → IsErr r → comparison_of r ≡ incomparable
not_compared_lem (Ok order) h = absurd (false≢true h)
not_compared_lem (Err e) h = refl

pub not_written_lem : (r : Result (Unit {0}) NotWritten) → IsErr r → writing_number r ≡ not_written
not_written_lem (Ok _) h = absurd (false≢true h)
not_written_lem (Err e) h = refl
