-- The texts of addresses.
use Rattle.std.proofs.Common.{◌≡◌, ℕ, zero, suc, ◌<◌, ◌≤◌, Bool, true, false, List, [], ◌∷◌, length, Option, Some, None, refl, arith}
use Rattle.std.specs.List.{AllByRecursion}
use Rattle.std.proofs.lemmas.Bool.Decides.{nat_tests}
use Rattle.sms_base.specs.declared.address.Address.{Address}
use Rattle.sms_base.specs.declared.alphabet.Code.{Code}
use Rattle.sms_base.specs.declared.alphabet.Code.TheVariants.{Main, Extended}
use Rattle.sms_base.specs.AddressKind.{is_name}
use Rattle.sms_base.specs.Address.{IsAddress, width_of, septet_count, has_code}
use Rattle.sms_base.specs.Alphabet.{code_for, main_septet_of, extended_septet_of}
use Rattle.sms_base.specs.SemiOctet.{is_digit}

digit_above : (c : ℕ) → is_digit c ≡ true → 0 < c
digit_above c h = grind (arith, nat_tests)

nul_has_no_code : has_code 0 ≡ false
unfolding code_for main_septet_of extended_septet_of
nul_has_no_code = refl

coded_above : (c : ℕ) → has_code c ≡ true → 0 < c
coded_above zero h = let none = nul_has_no_code in absurd cc
coded_above (suc c) h = omega arith

digits_above : (cs : List ℕ) → AllByRecursion (λ c. is_digit c ≡ true) cs → AllByRecursion (λ c. 0 < c) cs
digits_above [] h = tt
digits_above (c ∷ cs) h = (digit_above c h.0, digits_above cs h.1)

all_coded_above : (cs : List ℕ) → AllByRecursion (λ c. has_code c ≡ true) cs → AllByRecursion (λ c. 0 < c) cs
all_coded_above [] h = tt
all_coded_above (c ∷ cs) h = (coded_above c h.0, all_coded_above cs h.1)

width_above : (code : Option Code) → 1 ≤ width_of code
width_above None = omega arith
width_above (Some (Main septet)) = omega arith
width_above (Some (Extended septet)) = omega arith

fewer_characters : (cs : List ℕ) → length cs ≤ septet_count cs
fewer_characters [] = omega arith
fewer_characters (c ∷ cs) = omega (arith, width_above (code_for c), fewer_characters cs)

short_by : (name : Bool) (a : Address) → is_name a.ton ≡ name → IsAddress a → length a.digits ≤ 20
short_by true a e h = let n = h.digits.name e in omega (arith, n.few, fewer_characters a.digits)
short_by false a e h = (h.digits.number e).few

pub text_is_short : (a : Address) → IsAddress a → length a.digits ≤ 20
text_is_short a h = short_by (is_name a.ton) a refl h

above_by : (name : Bool) (a : Address) → is_name a.ton ≡ name → IsAddress a → AllByRecursion (λ c. 0 < c) a.digits
above_by true a e h = all_coded_above a.digits (h.digits.name e).characters
above_by false a e h = digits_above a.digits (h.digits.number e).digits

pub text_has_no_nul : (a : Address) → IsAddress a → AllByRecursion (λ c. 0 < c) a.digits
text_has_no_nul a h = above_by (is_name a.ton) a refl h
