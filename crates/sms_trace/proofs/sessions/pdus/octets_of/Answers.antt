use Rattle.std.proofs.Common.{rules}
use Rattle.sms_trace.proofs.sessions.WritablePdus.{is_writable}
use Rattle.sms_trace.proofs.sessions.pdus.octets_of.Goals as goal

pub write-requires : goal.write-requires
write-requires c = is_writable c.args.pdu.now (c.can_be_written.ensures.0 (search rules))
