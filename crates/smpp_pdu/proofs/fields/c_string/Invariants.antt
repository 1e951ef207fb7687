use Rattle.smpp_pdu.proofs.Scans.{Scanned}
use Rattle.smpp_pdu.proofs.fields.c_string.Given as goal

abbrev pub invariant-loop-len : goal.invariant-loop-len
invariant-loop-len l = Scanned l.limit l.octets l.len l.cursor
