-- The clock of a moment is what a clock at UTC shows then, and its stamp the one that is written.
use Rattle.std.proofs.Common.{◌≡◌, ℕ, ◌+◌, ◌-◌, ◌*◌, ◌/◌, ◌%◌, ◌<◌, ◌≤◌, Bool, true, false, nat_lt, nat_eq, cond, List, [], ◌∷◌, ◌++◌, length, refl, ap, ◌∙◌, subst, arith, ℤ, pos}
use Rattle.std.proofs.lemmas.Bool.{ltb-true, ltb-false, eq-eqb, ne_eqb}
use Rattle.std.proofs.lemmas.Bool.Decides.{nat_tests}
use Rattle.jiff_core.specs.Calendar.{days_in_month, days_of_months, day_count}
use Rattle.jiff_core.specs.March.{march_days, march_months}
use Rattle.jiff_core.proofs.SignedLemmas.{signed_arith}
use Rattle.jiff_core.proofs.CalendarLemmas.{days_of_months_more, days_of_months-zero, day_count-day_of_year, days_from_civil-day_count}
use Rattle.jiff_core.proofs.MarchLemmas.{day_count-early}
use Rattle.sms_base.specs.TimeStamp.{IsMoment, IsDateOf, IsTimeOf, IsClock, IsWrittenScts, clock_seconds}
use Rattle.jiff_core.specs.declared.civil.date.Date.{Date}
use Rattle.jiff_core.specs.declared.civil.time.Time.{Time}
use Rattle.jiff_core.specs.declared.civil.datetime.DateTime.{DateTime}
use Rattle.jiff_core.specs.DateTime.{civil_seconds}
use Rattle.sms_base.specs.SmppTime.{two_digits}
use Rattle.sms_base.specs.UtcClock.{Clock, Represents, clock_at, clock_of, stamp_of, date_of, months, month_in, day_in, year_of, days_before}
use Rattle.sms_base.proofs.ClockTests.{Passes, clock_by}
use Rattle.sms_base.proofs.WrittenStamps.{one_written, same_clock}

-- ---- months

abbrev total : List ℕ → ℕ
total [] = 0
total (days ∷ rest) = days + total rest

-- so many days for each month from one on
abbrev AreMonths : ℤ → ℕ → List ℕ → Type 0
AreMonths y m [] = Unit {0}
AreMonths y m (days ∷ rest) = (days ≡ days_in_month y m) × AreMonths y (m + 1) rest

-- the month and the day of a day of these months
record IsFound (y : ℤ) (first count day month rest : ℕ) : Type 0 where
  low : first ≤ month
  high : month < first + count
  within : rest < days_in_month y month
  sum_is : days_of_months y (month - 1) + rest ≡ days_of_months y (first - 1) + day

found_here : (y : ℤ) (m count day days : ℕ) → days ≡ days_in_month y m → day < days → IsFound y m (count + 1) day m day
found_here y m count day days e lt = record { low = omega arith; high = omega arith; within = omega arith; sum_is = refl }

found_later : (y : ℤ) (m count day days month rest : ℕ) → 1 ≤ m → days ≡ days_in_month y m → days ≤ day → IsFound y (m + 1) count (day - days) month rest → IsFound y m (count + 1) day month rest
found_later y m count day days month rest pos_m e le h =
    let more = days_of_months_more y m pos_m in
    let back : m + 1 - 1 ≡ m = omega arith in
    record { low = omega (arith, h.low); high = omega (arith, h.high); within = h.within; sum_is = omega (arith, rw back at h.sum_is, more) }

find_by : (y : ℤ) (m day days : ℕ) (rest : List ℕ) (b : Bool) → nat_lt day days ≡ b → 1 ≤ m → days ≡ days_in_month y m
    → (days ≤ day → IsFound y (m + 1) (length rest) (day - days) (month_in (m + 1) (day - days) rest) (day_in (day - days) rest))
    → IsFound y m (length rest + 1) day (cond b m (month_in (m + 1) (day - days) rest)) (cond b day (day_in (day - days) rest))
find_by y m day days rest true test low e later = found_here y m (length rest) day days e (ltb-true _ _ test)
find_by y m day days rest false test low e later =
    let le : days ≤ day = ltb-false _ _ test in
    found_later y m (length rest) day days _ _ low e le (later le)

find : (y : ℤ) (m day : ℕ) (ls : List ℕ) → 1 ≤ m → AreMonths y m ls → day < total ls → IsFound y m (length ls) day (month_in m day ls) (day_in day ls)
find y m day [] low h lt = absurd (omega arith)
find y m day (days ∷ rest) low h lt =
    let one : length rest + 1 ≡ length (days ∷ rest) = omega arith in
    rw (← one) (find_by y m day days rest (nat_lt day days) refl low h.0 (λ le. find y (m + 1) (day - days) rest (omega arith) h.1 (omega arith)))

-- ---- years

leap_is : (year : ℕ) → year < 100 → cond (nat_eq (year % 4) 0) 29 28 ≡ days_in_month (pos (2000 + year)) 2
leap_is year lt = grind (arith, nat_tests)

months_are : (year : ℕ) → year < 100 → AreMonths (pos (2000 + year)) 1 (months year)
months_are year lt = (refl, (leap_is year lt, (refl, (refl, (refl, (refl, (refl, (refl, (refl, (refl, (refl, (refl, tt))))))))))))

first_day : (year : ℕ) → day_count (pos (2000 + year)) 1 1 ≡ march_days (11999 + year) + march_months 13 + 1 + 59
first_day year = day_count-early (pos (2000 + year)) (11999 + year) 1 1 (omega (arith, signed_arith)) (omega arith) (omega arith) (omega arith)

record IsInYear (day : ℕ) : Type 0 where
  century : year_of day < 100
  count_is : day_count (pos (2000 + year_of day)) 1 1 + days_before day ≡ 4382910 + day
  within : days_before day < total (months (year_of day))

-- the first year of each four
in_first_year : (day : ℕ) → day < 36525 → nat_lt (day % 1461) 366 ≡ true → IsInYear day
in_first_year day lt e =
    let early = ltb-true _ _ e in
    let first = first_day (year_of day) in
    let y : year_of day ≡ 4 * (day / 1461) = rw e (omega arith) in
    let b : days_before day ≡ day % 1461 = rw e refl in
    let leap : nat_eq (year_of day % 4) 0 ≡ true = eq-eqb (year_of day % 4) 0 (omega arith) in
    record { century = omega arith; count_is = omega arith; within = rw leap (omega arith) }

in_later_year : (day : ℕ) → day < 36525 → nat_lt (day % 1461) 366 ≡ false → IsInYear day
in_later_year day lt e =
    let late = ltb-false _ _ e in
    let first = first_day (year_of day) in
    let y : year_of day ≡ 4 * (day / 1461) + (day % 1461 - 1) / 365 = rw e refl in
    let b : days_before day ≡ (day % 1461 - 1) % 365 = rw e refl in
    let common : nat_eq (year_of day % 4) 0 ≡ false = ne_eqb (year_of day % 4) 0 (λ (z : year_of day % 4 ≡ 0). omega arith) in
    record { century = omega arith; count_is = omega arith; within = rw common (omega arith) }

by_year : (day : ℕ) (b : Bool) → nat_lt (day % 1461) 366 ≡ b → day < 36525 → IsInYear day
by_year day true e lt = in_first_year day lt e
by_year day false e lt = in_later_year day lt e

-- ---- the clock

-- a day of the century and its date
record IsDated (day : ℕ) (c : Clock) : Type 0 where
  century : c.year < 100
  month_low : 0 < c.month
  month_high : c.month < 13
  day_low : 0 < c.day
  day_high : c.day ≤ days_in_month (pos (2000 + c.year)) c.month
  count_is : day_count (pos (2000 + c.year)) c.month c.day ≡ 4382910 + day

dated : (day second : ℕ) → day < 36525 → IsDated day (clock_at day second)
unfolding clock_at
dated day second lt =
    let y = by_year day (nat_lt (day % 1461) 366) refl lt in
    let c = clock_at day second in
    let f = find (pos (2000 + year_of day)) 1 (days_before day) (months (year_of day)) (omega arith) (months_are (year_of day) y.century) y.within in
    let none = days_of_months-zero (pos (2000 + year_of day)) in
    let count = day_count-day_of_year (pos (2000 + c.year)) c.month c.day (omega arith) in
    record {
      century = y.century;
      month_low = omega (arith, f.low);
      month_high = omega (arith, f.high);
      day_low = omega arith;
      day_high = omega (arith, f.within);
      count_is = omega (arith, f.sum_is, none, count, y.count_is);
    }

seconds_of : (moment : ℕ) (c : Clock) → IsMoment moment → IsDated (moment / 86400 - 10957) c → c.hour ≡ moment % 86400 / 3600 → c.minute ≡ moment % 86400 / 60 % 60 → c.second ≡ moment % 86400 % 60
    → clock_seconds c.year c.month c.day c.hour c.minute c.second ≡ pos moment
seconds_of moment c h d hour minute second =
    let days = days_from_civil-day_count (pos (2000 + c.year)) c.month c.day in
    let whole : c.hour * 3600 + c.minute * 60 + c.second ≡ moment % 86400 = omega (arith, hour, minute, second) in
    omega (arith, signed_arith, days, d.count_is, whole, h.from_2000)

numbers_are : (day second : ℕ) → ((clock_at day second).hour ≡ second / 3600) × ((clock_at day second).minute ≡ second / 60 % 60) × ((clock_at day second).second ≡ second % 60)
unfolding clock_at
numbers_are day second = (refl, refl, refl)

-- the clock of a moment is what a clock shows then
pub clock_represents : (moment : ℕ) → IsMoment moment → Represents (clock_of moment) moment
clock_represents moment h =
    let c = clock_of moment in
    let d = dated (moment / 86400 - 10957) (moment % 86400) (omega (arith, h.to_2099)) in
    let n = numbers_are (moment / 86400 - 10957) (moment % 86400) in
    let p : Passes c.year c.month c.day c.hour c.minute c.second = record { month_low = d.month_low; month_high = d.month_high; day_low = d.day_low; day_high = d.day_high; hour_in = omega (arith, n.0); minute_in = omega (arith, n.1); second_in = omega (arith, n.2) } in
    let shown = clock_by c.year c.month c.day c.hour c.minute c.second d.century p in
    record { century = d.century; numbers = subst (λ (z : ℤ). IsClock c.year c.month c.day c.hour c.minute c.second z) (seconds_of moment c h d n.0 n.1 n.2) shown }

-- the stamp of a moment is the one that is written
pub stamp_is_written : (moment : ℕ) → IsMoment moment → IsWrittenScts (stamp_of moment) moment
stamp_is_written moment h =
    let c = clock_of moment in
    let s = clock_represents moment h in
    (c.year, c.month, c.day, c.hour, c.minute, c.second, pos moment, s.numbers, s.century, refl, omega (arith, signed_arith), h)

pub written_is_stamp : (octets : List ℕ) (moment : ℕ) → IsWrittenScts octets moment → octets ≡ stamp_of moment
written_is_stamp octets moment h = one_written octets (stamp_of moment) moment h (stamp_is_written moment h.11)

-- ten digits of what a clock shows are those of the moment
pub date_is : (m seconds : ℕ) (dt : DateTime) (date : Date) (time : Time) (year month day hour minute second : ℕ) (o : List ℕ) → seconds ≡ m → IsMoment seconds → date ≡ dt.date → time ≡ dt.time
    → IsDateOf date year month day → IsTimeOf time hour minute second → year < 100 → civil_seconds dt ≡ pos seconds
    → o ≡ two_digits year ++ (two_digits month ++ (two_digits day ++ (two_digits hour ++ two_digits minute))) → o ≡ date_of m
date_is m seconds dt date time year month day hour minute second o e h de te d t lt s spelled =
    let clock : IsClock year month day hour minute second (civil_seconds dt) = (dt, subst (λ (x : Date). IsDateOf x year month day) de d, subst (λ (x : Time). IsTimeOf x hour minute second) te t, refl) in
    let c = clock_of m in
    let own = (clock_represents m (subst IsMoment e h)).numbers in
    let same = same_clock year month day hour minute second c.year c.month c.day c.hour c.minute c.second (civil_seconds dt) (pos m) clock own (s ∙ ap pos e) in
    let digits = λ (y mo d x mi : ℕ). two_digits y ++ (two_digits mo ++ (two_digits d ++ (two_digits x ++ two_digits mi))) in
    spelled
    ∙ ap (λ (n : ℕ). digits n month day hour minute) same.year
    ∙ ap (λ (n : ℕ). digits c.year n day hour minute) same.month
    ∙ ap (λ (n : ℕ). digits c.year c.month n hour minute) same.day
    ∙ ap (λ (n : ℕ). digits c.year c.month c.day n minute) same.hour
    ∙ ap (λ (n : ℕ). digits c.year c.month c.day c.hour n) same.minute
