use Rattle.std.proofs.Common.{◌≡◌, ℕ, List, length}
use Rattle.std.specs.Str.{encode_utf8_all}
use Rattle.std.specs.String.{string_bytes}
use Rattle.sms_alphabet.proofs.Ucs2Steps.{Decodes}
use Rattle.sms_alphabet.proofs.ucs2.read.Given as goal

abbrev pub invariant-loop-rest : goal.invariant-loop-rest
invariant-loop-rest l = (front : List ℕ) × (string_bytes l.text ≡ encode_utf8_all front) × Decodes l.octets l.rest front

abbrev pub decreases-loop-rest : goal.decreases-loop-rest
decreases-loop-rest l = length l.rest
