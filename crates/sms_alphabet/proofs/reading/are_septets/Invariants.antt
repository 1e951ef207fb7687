use Rattle.std.proofs.Common.{◌≡◌, ◌&&◌, drop}
use Rattle.std.specs.Prelude.{nat_lt}
use Rattle.std.specs.List.{list_all}
use Rattle.sms_alphabet.proofs.reading.are_septets.Given as goal

abbrev pub invariant-loop-octet : goal.invariant-loop-octet
invariant-loop-octet l = nat_lt l.most 128 && list_all (λ septet. nat_lt septet 128) (drop l.octet-index l.octets) ≡ list_all (λ septet. nat_lt septet 128) l.octets
