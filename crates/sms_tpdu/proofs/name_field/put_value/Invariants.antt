use Rattle.std.proofs.Common.{◌≡◌, ◌-◌, ◌++◌}
use Rattle.sms_alphabet.specs.Packing.{digits_in}
use Rattle.sms_tpdu.proofs.name_field.put_value.Given as goal

abbrev pub invariant-loop : goal.invariant-loop
invariant-loop l = l.out ++ digits_in 256 (l.count - l.counter) l.rest ≡ l.fn.out ++ digits_in 256 l.count l.value
