-- The number that a frame names is one of a handset.
use Rattle.std.proofs.Common.{◌≡◌, ℕ, ◌<◌, List, length, true, Option, Some, None, SomeIff, sym, ap, ◌∙◌, arith}
use Rattle.std.specs.List.{list_all}
use Rattle.std.specs.Prelude.{nat_le}
use Rattle.std.proofs.lemmas.Bool.{and_parts, cond-true, leb-true}
use Rattle.sms_base.specs.HandsetNumber.{is_decimal}
use Rattle.sms_base.specs.Msisdn.{IsMsisdn}
use Rattle.sms_base.proofs.Msisdns.{decimal_number}
use Rattle.smsc_endpoint.specs.FirstFrame.{are_digits, is_number, number_of}

number_is : (octets : List ℕ) → is_number octets ≡ true → IsMsisdn octets
number_is octets holds =
    let few = and_parts (nat_le (length octets) 20) (are_digits octets) holds in
    let some = and_parts (nat_le 1 (length octets)) (list_all is_decimal octets) few.1 in
    let one = leb-true 1 (length octets) some.0 in
    decimal_number octets (omega (arith, one)) (leb-true (length octets) 20 few.0) some.1

pub number_found : (number : Option (List ℕ)) (octets : List ℕ) → is_number octets ≡ true → SomeIff number (IsMsisdn octets) octets → number ≡ number_of octets
number_found None octets holds never = absurd (never (number_is octets holds))
number_found (Some digits) octets holds found =
    ap (λ (ds : List ℕ). Some ds) found.1 ∙ sym (cond-true (is_number octets) (Some octets) None holds)
