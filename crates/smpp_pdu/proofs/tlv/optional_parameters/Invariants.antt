use Rattle.std.proofs.Common.{◌≡◌, length}
use Rattle.smpp_pdu.specs.TlvReading.{tlvs_at}
use Rattle.smpp_pdu.proofs.TlvLaws.{tlvs_in}
use Rattle.smpp_pdu.proofs.tlv.optional_parameters.Given as goal

abbrev pub invariant-loop-cursor : goal.invariant-loop-cursor
invariant-loop-cursor l = tlvs_in (length l.cursor) l.tlvs l.cursor ≡ tlvs_at l.fn.cursor

abbrev pub decreases-loop-cursor : goal.decreases-loop-cursor
decreases-loop-cursor l = length l.cursor
