use Rattle.std.proofs.Common.{rules}
use Rattle.sms_trace.proofs.sessions.WritablePdus.{time_is, time_is_none, time_is_not}
use Rattle.sms_trace.proofs.sessions.pdus.is_time.Goals as goal

pub returns-else-has_no_nul : goal.returns-else-has_no_nul
returns-else-has_no_nul c = time_is_not c.args.octets.now c.has_no_nul.result c.has_no_nul.ensures (search rules)

pub returns-then-is_empty : goal.returns-then-is_empty
returns-then-is_empty c = time_is_none c.args.octets.now c.is_empty.result (search rules) (search rules)

pub returns-else-is_empty : goal.returns-else-is_empty
returns-else-is_empty c = time_is c.args.octets.now (search rules) (search rules)
