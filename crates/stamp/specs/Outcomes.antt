-- For the contracts of the crate's calls: what they answer as a reading, a comparison, the number of a writing.
use Rattle.std.specs.Prelude.{ℕ, Result, Ok, Err}
use Rattle.std.specs.Ordering.{ordering_index}
use Rattle.std.specs.declared.cmp.Ordering.{Ordering}
use Rattle.stamp.specs.Stamp.{Reading, refusal, Comparison, incomparable, not_written}
use Rattle.stamp.specs.declared.NotRead.{NotRead}
use Rattle.stamp.specs.declared.NotWritten.{NotWritten}

abbrev pub reading_of : Result ℕ NotRead → Reading
reading_of (Ok second) = record { number = 0; second = second }
reading_of (Err _) = refusal

-- the order by its number: earlier, the same, later
abbrev pub comparison_of : Result Ordering NotRead → Comparison
comparison_of (Ok order) = record { number = 0; order = ordering_index order }
comparison_of (Err _) = incomparable

abbrev pub writing_number : Result (Unit {0}) NotWritten → ℕ
writing_number (Ok _) = 0
writing_number (Err _) = not_written
