use Rattle.std.proofs.Common.{◌≡◌, true, drop}
use Rattle.sms_trace_files.specs.capture.Packets.{summed}
use Rattle.sms_trace_files.proofs.capture.checksum.summed.Given as goal

-- the sum so far, with the rest of the octets, is that of all
abbrev pub invariant-loop-octet : goal.invariant-loop-octet
invariant-loop-octet l = summed l.is_first l.sum (drop l.octet-index l.octets) ≡ summed true l.fn.start l.octets
