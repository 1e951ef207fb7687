use Rattle.std.proofs.Common.{rules}
use Rattle.sms_trace.proofs.sessions.WritablePdus.{text_is, text_is_not}
use Rattle.sms_trace.proofs.sessions.pdus.is_text.Goals as goal

pub returns-then-has_no_nul : goal.returns-then-has_no_nul
returns-then-has_no_nul c = text_is c.args.limit c.args.octets.now (search rules)

pub returns-else-has_no_nul : goal.returns-else-has_no_nul
returns-else-has_no_nul c = text_is_not c.args.limit c.args.octets.now c.has_no_nul.result c.has_no_nul.ensures (search rules)
