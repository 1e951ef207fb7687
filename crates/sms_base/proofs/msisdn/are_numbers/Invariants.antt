use Rattle.std.proofs.Common.{ℕ, List, drop}
use Rattle.sms_base.specs.Address.{IsAddress}
use Rattle.sms_base.specs.Among.{Among}
use Rattle.sms_base.specs.HandsetNumber.{own_address}
use Rattle.sms_base.proofs.msisdn.are_numbers.Given as goal

abbrev pub invariant-loop-number : goal.invariant-loop-number
invariant-loop-number l =
    ((digits : List ℕ) → Among digits (drop l.number-index l.numbers) → IsAddress (own_address digits))
    → (digits : List ℕ) → Among digits l.numbers → IsAddress (own_address digits)
