use Rattle.std.proofs.Common.{sym, arith}
use Rattle.sms_centre_rows.specs.waiting.Keys.{queued_key}
use Rattle.sms_schedule.proofs.waiting.Parted.{last_below}
use Rattle.sms_schedule.proofs.waiting.shared_parts.last_key.Goals as goal

pub returns-in-Some : goal.returns-in-Some
returns-in-Some c n lower =
    let queued = c.in-Some.queued.now in
    last_below queued_key n c.args.all_queued.now queued c.requires (sym c.in-Some.ensures.value) (omega (arith, c.number.ensures, c.key.ensures, lower))
