-- The rule of the calendar at each entry: one test, computed over the whole table.
use Rattle.std.proofs.Common.{refl}
use Rattle.stamp.specs.Calendar.{days_in, days_before, leap}
use Rattle.stamp.proofs.TableRule.{follows, table_rule}
use Rattle.stamp.proofs.table.month_table.Goals as goal

pub returns : goal.returns
unfolding follows days_before days_in leap
returns c = record { months = refl; entries = search table_rule }
