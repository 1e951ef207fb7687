-- The codes of faults.
use Rattle.std.specs.Prelude.{ℕ, List, codes}
use Rattle.smpp_pdu.specs.declared.fault.PduFault.{PduFault}
use Rattle.smpp_pdu.specs.declared.fault.PduFault.TheVariants.{Truncated, BadLength, UnknownCommand, NoTerminator, BadTlv, FieldTooLong, ShortMessageTooLong}

abbrev pub code_of : PduFault → List ℕ
code_of Truncated = codes "Q1"
code_of BadLength = codes "Q2"
code_of UnknownCommand = codes "Q3"
code_of NoTerminator = codes "Q4"
code_of BadTlv = codes "Q5"
code_of FieldTooLong = codes "Q6"
code_of ShortMessageTooLong = codes "Q6"
