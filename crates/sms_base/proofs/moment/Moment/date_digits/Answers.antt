use Rattle.std.proofs.Common.{refl}
use Rattle.sms_base.proofs.UtcClocks.{date_is}
use Rattle.sms_base.proofs.moment.Moment.date_digits.Goals as goal

pub returns : goal.returns
returns c =
    let d = c.date_parts-year.result in
    let t = c.time_parts-hour.result in
    date_is c.args.self c.self.inside.seconds c.utc_clock-clock.result c.date.result c.time.result d.0 d.1 d.2 t.0 t.1 t.2 _ c.self.view_is c.self.invariant c.date.ensures c.time.ensures c.date_parts-year.ensures.value c.time_parts-hour.ensures.value c.date_parts-year.ensures.range.0 c.utc_clock-clock.ensures.value
    (rw (c.tens.ensures, c.units.ensures, c.tens-2.ensures, c.units-2.ensures, c.tens-3.ensures, c.units-3.ensures, c.tens-4.ensures, c.units-4.ensures, c.tens-5.ensures, c.units-5.ensures) refl)
