use Rattle.std.proofs.Common.{◌≡◌, ◌*◌, ◌++◌, drop}
use Rattle.sms_tpdu.specs.AddressGrammar.{semi_octets}
use Rattle.sms_tpdu.proofs.address_field.put_digits.Given as goal

abbrev pub invariant-loop-i : goal.invariant-loop-i
invariant-loop-i l = l.out ++ semi_octets (drop (2 * l.i) l.digits) ≡ l.fn.out ++ semi_octets l.digits
