use Rattle.std.proofs.Common.{sym}
use Rattle.sms_base.proofs.SmppTimes.{time_known}
use Rattle.sms_intake.proofs.SmppMoments.{no_time}
use Rattle.sms_intake.proofs.smpp_times.time_in.Goals as goal

pub returns-in-Ok : goal.returns-in-Ok
returns-in-Ok c = sym (time_known c.args.octets.now c.args.now c.in-Ok.moment c.in-Ok.ensures.found)

pub returns-in-Err : goal.returns-in-Err
returns-in-Err c = no_time c.args.octets.now c.args.now c.in-Err.field-0 c.in-Err.ensures.only
