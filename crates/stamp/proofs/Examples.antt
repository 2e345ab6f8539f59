-- The stamps that document 01 prints, and two comparisons across zones, computed. Assumes nothing.
use mathlib.Core.Path.{refl}
use Rattle.stamp.specs.Calendar.{leap, days_in, days_before, month_from, month_of}
use Rattle.stamp.specs.Stamp.{no_digit, two_digits, zone_of, zone_letters, offset, fields_of, bytes_of, is_month, is_date, is_time, in_range, day_in, local_second, second_of, fields_at, is_stamp, reading, order_of, comparison, stamp_of}
use Rattle.stamp.specs.Examples.{PrintedStamps, ComparedStamps}

pub printed_stamps : PrintedStamps
unfolding leap days_in days_before month_from month_of no_digit two_digits zone_of zone_letters offset fields_of bytes_of is_month is_date is_time in_range day_in local_second second_of fields_at is_stamp reading stamp_of
printed_stamps = (refl, refl, refl, refl, refl)

pub compared_stamps : ComparedStamps
unfolding leap days_in days_before no_digit two_digits zone_of zone_letters offset fields_of is_month is_date is_time in_range day_in local_second second_of is_stamp reading order_of comparison
compared_stamps = (refl, refl, refl, refl)
