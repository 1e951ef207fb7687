use Rattle.std.proofs.Common.{◌≡◌, drop}
use Rattle.sms_concat.specs.Counting.{text_begun, with_text}
use Rattle.sms_concat.proofs.counting.tally_latin.Given as goal

-- the rest of the octets lead where all do
abbrev pub invariant-loop-octet : goal.invariant-loop-octet
invariant-loop-octet l = with_text l.tally (drop l.octet-index l.octets) ≡ with_text text_begun l.octets
