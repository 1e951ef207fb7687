-- What a clock at UTC shows at a moment of the years 2000 to 2099, and how that is written. It is seven octets in a time
-- stamp (3GPP TS 23.040 9.2.3.11), ten digits in a receipt. In these years every fourth one is a leap year, 2000 among
-- them.
use Rattle.std.specs.Prelude.{ℕ, ◌+◌, ◌-◌, ◌*◌, ◌/◌, ◌%◌, ◌==◌, ◌<◌, nat_lt, List, [], ◌∷◌, ◌++◌, if◌then◌else◌, pos}
use Rattle.sms_base.specs.SmppTime.{two_digits}
use Rattle.sms_base.specs.TimeStamp.{IsClock, swapped}
pub use Rattle.sms_base.specs.StampWriting.{Clock, clock_of, clock_stamp, day_in, days_before, days_before_among_four, month_in, months, stamp_of}
pub use Rattle.sms_base.specs.StampWriting.{year_among_four, year_of}
unfoldable pub use Rattle.sms_base.specs.StampWriting.{clock_at}

-- ---- the date, of days counted from 1 January 2000

-- ---- the clock

-- a clock shows the numbers at that moment
pub record Represents (clock : Clock) (moment : ℕ) : Type 0 where
  pub century : clock.year < 100
  pub numbers : IsClock clock.year clock.month clock.day clock.hour clock.minute clock.second (pos moment)

-- ---- how it is written

abbrev pub clock_date : Clock → List ℕ
clock_date c = two_digits c.year ++ (two_digits c.month ++ (two_digits c.day ++ (two_digits c.hour ++ two_digits c.minute)))

-- YYMMDDhhmm
abbrev pub date_of : ℕ → List ℕ
date_of moment = clock_date (clock_of moment)
