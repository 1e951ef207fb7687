use Rattle.std.proofs.Common.{◌≡◌, take}
use Rattle.sms_base.proofs.digit_octets.digits_of.Given as goal

abbrev pub invariant-loop-octet : goal.invariant-loop-octet
invariant-loop-octet l = l.digits ≡ take l.octet-index l.octets
