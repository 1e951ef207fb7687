use Rattle.std.proofs.Common.{drop}
use Rattle.std.specs.String.{string_bytes}
use Rattle.sms_alphabet.proofs.TextReads.{Reads}
use Rattle.sms_alphabet.proofs.reading.text_of_septets.Given as goal

abbrev pub invariant-loop-septet : goal.invariant-loop-septet
invariant-loop-septet l = Reads l.septets (string_bytes l.text) l.escaped (drop l.septet-index l.septets)
