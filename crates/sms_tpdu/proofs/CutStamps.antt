-- A time stamp that is cut, and completed by the first second of January, is a time stamp.
use Rattle.std.proofs.Common.{◌≡◌, subst, ℕ, ◌+◌, ◌<◌, ◌≤◌, Bool, true, false, cond, Option, Some, None, [], ◌∷◌, refl, sym, arith, ℤ, pos, ◌-ℤ◌, ◌≤ℤ◌, unsigned_abs, int_le}
use Rattle.jiff_core.specs.declared.civil.datetime.DateTime.{DateTime}
use Rattle.jiff_core.specs.DateTime.{civil_seconds}
use Rattle.jiff_core.specs.Calendar.{days_in_month, IsBetween}
use Rattle.jiff_core.proofs.CalendarLemmas.{days_in_month_bounds, days_from_civil-day_count}
use Rattle.jiff_core.proofs.SignedLemmas.{signed_arith}
use Rattle.sms_base.specs.TimeStamp.{IsClock, is_clock, clock_seconds, clock_in, zone_in, zone_seconds, moment_in, pair_in, scts_in}
use Rattle.sms_base.proofs.ClockTests.{Passes, passes, tests, clock_by}
use Rattle.sms_base.proofs.Stamps.{bind_some, pair_in-is}
use Rattle.sms_base.proofs.Century.{days_between, unfolded}

century : (dt : DateTime) → IsBetween (pos 2000) (pos 2099) dt.date.year → IsBetween (pos 946684800) (pos 4102444799) (civil_seconds dt)
century dt h =
    let days = days_between dt h in
    let e = unfolded dt in
    let d = days_from_civil-day_count dt.date.year dt.date.month dt.date.day in
    (omega (arith, signed_arith), omega (arith, signed_arith))

le_test : (a b : ℤ) → a ≤ℤ b → int_le a b ≡ true
le_test a b h = grind (arith, signed_arith)

in_range : (z : ℤ) → IsBetween (pos 946684800) (pos 4102444799) z → (n : ℕ) × (moment_in (z -ℤ zone_seconds 0 false) ≡ Some n)
unfolding moment_in
in_range z h =
    let w = z -ℤ zone_seconds 0 false in
    let a : int_le (pos 946684800) w ≡ true = le_test (pos 946684800) w (omega (arith, signed_arith)) in
    let b : int_le w (pos 4102444799) ≡ true = le_test w (pos 4102444799) (omega (arith, signed_arith)) in
    (unsigned_abs w, rw (a, b) refl)

clock_moment : (year month day hour minute second : ℕ) → year < 100 → Passes year month day hour minute second → (n : ℕ) × (moment_in (clock_seconds year month day hour minute second -ℤ zone_seconds 0 false) ≡ Some n)
clock_moment year month day hour minute second lt p =
    let c : IsClock year month day hour minute second (clock_seconds year month day hour minute second) = clock_by year month day hour minute second lt p in
    let e = c.1.year_is in
    let y : IsBetween (pos 2000) (pos 2099) c.0.date.year = (omega (arith, signed_arith), omega (arith, signed_arith)) in
    in_range (clock_seconds year month day hour minute second) (subst (λ (z : ℤ). IsBetween (pos 946684800) (pos 4102444799) z) (sym c.3) (century c.0 y))

zone_none : zone_in 0 ≡ Some (zone_seconds 0 false)
unfolding zone_in
zone_none = refl

-- the octets of a clock's numbers at UTC are a stamp
stamp_by : (a b c d e f year month day hour minute second : ℕ) → pair_in a ≡ Some year → pair_in b ≡ Some month → pair_in c ≡ Some day → pair_in d ≡ Some hour → pair_in e ≡ Some minute → pair_in f ≡ Some second
    → year < 100 → Passes year month day hour minute second → (n : ℕ) × (scts_in (a ∷ b ∷ c ∷ d ∷ e ∷ f ∷ 0 ∷ []) ≡ Some n)
unfolding scts_in clock_in
stamp_by a b c d e f year month day hour minute second ha hb hc hd he hf lt p =
    let m = clock_moment year month day hour minute second lt p in
    (m.0, rw (ha, hb, hc, hd, he, hf, tests year month day hour minute second p, zone_none) m.1)

abbrev IsSome : Option ℕ → Type 0
IsSome o = (n : ℕ) × (o ≡ Some n)

-- what is there of a stamp, completed, is a stamp
pub record CutStamp (a b c d e f : ℕ) : Type 0 where
  pub none : IsSome (scts_in (0 ∷ 16 ∷ 16 ∷ 0 ∷ 0 ∷ 0 ∷ 0 ∷ []))
  pub one : IsSome (scts_in (a ∷ 16 ∷ 16 ∷ 0 ∷ 0 ∷ 0 ∷ 0 ∷ []))
  pub two : IsSome (scts_in (a ∷ b ∷ 16 ∷ 0 ∷ 0 ∷ 0 ∷ 0 ∷ []))
  pub three : IsSome (scts_in (a ∷ b ∷ c ∷ 0 ∷ 0 ∷ 0 ∷ 0 ∷ []))
  pub four : IsSome (scts_in (a ∷ b ∷ c ∷ d ∷ 0 ∷ 0 ∷ 0 ∷ []))
  pub five : IsSome (scts_in (a ∷ b ∷ c ∷ d ∷ e ∷ 0 ∷ 0 ∷ []))
  pub six : IsSome (scts_in (a ∷ b ∷ c ∷ d ∷ e ∷ f ∷ 0 ∷ []))

some_if : (t : Bool) (z w : ℤ) → cond t (Some z) None ≡ Some w → t ≡ true
some_if true z w p = refl
some_if false z w p = absurd cc

clock_passes : (year month day hour minute second : ℕ) (z : ℤ) → clock_in year month day hour minute second ≡ Some z → Passes year month day hour minute second
unfolding clock_in
clock_passes year month day hour minute second z p = passes year month day hour minute second (some_if (is_clock year month day hour minute second) (clock_seconds year month day hour minute second) z p)

-- the first day of a month, and midnight
first_passes : (year month day : ℕ) → 0 < month → month < 13 → 0 < day → day ≤ days_in_month (pos (2000 + year)) month → Passes year month day 0 0 0
first_passes year month day low high some last = record { month_low = low; month_high = high; day_low = some; day_high = last; hour_in = omega arith; minute_in = omega arith; second_in = omega arith }

cut_by : (a b c d e f year month day hour minute second : ℕ) → pair_in a ≡ Some year → pair_in b ≡ Some month → pair_in c ≡ Some day → pair_in d ≡ Some hour → pair_in e ≡ Some minute → pair_in f ≡ Some second
    → year < 100 → Passes year month day hour minute second → CutStamp a b c d e f
cut_by a b c d e f year month day hour minute second ha hb hc hd he hf lt p =
    let january : 1 ≤ days_in_month (pos (2000 + year)) 1 = omega (arith, days_in_month_bounds (pos (2000 + year)) 1) in
    let zeroth : 1 ≤ days_in_month (pos (2000 + 0)) 1 = omega (arith, days_in_month_bounds (pos (2000 + 0)) 1) in
    let first : 1 ≤ days_in_month (pos (2000 + year)) month = omega (arith, days_in_month_bounds (pos (2000 + year)) month) in
    record {
      none = stamp_by 0 16 16 0 0 0 0 1 1 0 0 0 refl refl refl refl refl refl (omega arith) (first_passes 0 1 1 (omega arith) (omega arith) (omega arith) zeroth);
      one = stamp_by a 16 16 0 0 0 year 1 1 0 0 0 ha refl refl refl refl refl lt (first_passes year 1 1 (omega arith) (omega arith) (omega arith) january);
      two = stamp_by a b 16 0 0 0 year month 1 0 0 0 ha hb refl refl refl refl lt (first_passes year month 1 p.month_low p.month_high (omega arith) first);
      three = stamp_by a b c 0 0 0 year month day 0 0 0 ha hb hc refl refl refl lt (first_passes year month day p.month_low p.month_high p.day_low p.day_high);
      four = stamp_by a b c d 0 0 year month day hour 0 0 ha hb hc hd refl refl lt (record { month_low = p.month_low; month_high = p.month_high; day_low = p.day_low; day_high = p.day_high; hour_in = p.hour_in; minute_in = omega arith; second_in = omega arith });
      five = stamp_by a b c d e 0 year month day hour minute 0 ha hb hc hd he refl lt (record { month_low = p.month_low; month_high = p.month_high; day_low = p.day_low; day_high = p.day_high; hour_in = p.hour_in; minute_in = p.minute_in; second_in = omega arith });
      six = stamp_by a b c d e f year month day hour minute second ha hb hc hd he hf lt p;
    }

pub cut_stamp : (a b c d e f g m : ℕ) → scts_in (a ∷ b ∷ c ∷ d ∷ e ∷ f ∷ g ∷ []) ≡ Some m → CutStamp a b c d e f
unfolding scts_in
cut_stamp a b c d e f g m h =
    let year = bind_some (pair_in a) _ m h in
    let month = bind_some (pair_in b) _ m year.2 in
    let day = bind_some (pair_in c) _ m month.2 in
    let hour = bind_some (pair_in d) _ m day.2 in
    let minute = bind_some (pair_in e) _ m hour.2 in
    let second = bind_some (pair_in f) _ m minute.2 in
    let clock = bind_some (clock_in year.0 month.0 day.0 hour.0 minute.0 second.0) _ m second.2 in
    cut_by a b c d e f year.0 month.0 day.0 hour.0 minute.0 second.0 year.1 month.1 day.1 hour.1 minute.1 second.1 (pair_in-is a year.0 year.1).0 (clock_passes year.0 month.0 day.0 hour.0 minute.0 second.0 clock.0 clock.1)
