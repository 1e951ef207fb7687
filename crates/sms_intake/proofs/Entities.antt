-- The addresses of entities: octets in ASCII are the characters that they spell.
use Rattle.std.proofs.Common.{◌≡◌, ℕ, zero, suc, Bool, true, nat_lt, cond, List, [], ◌∷◌, Option, None, Result, Ok, Err, refl, sym, ap, ◌∙◌, arith}
use Rattle.std.specs.Result.{result_ok}
use Rattle.std.specs.Str.{chars, IsAscii, IsUtf8}
use Rattle.std.proofs.lemmas.Bool.{and_parts, ltb-true}
use Rattle.std.proofs.lemmas.Str.{chars-IsAscii, IsUtf8-from_ascii}
use Rattle.sms_base.specs.Address.{address_of}
use Rattle.sms_base.specs.declared.address.Address.{Address}
use Rattle.sms_base.specs.declared.address_error.AddressError.{AddressError}
use Rattle.smpp_pdu.specs.declared.address.SmeAddress.{SmeAddress}
use Rattle.sms_intake.specs.SmppIntake.{is_ascii, address_in, address_or_none}

are_ascii : (octets : List ℕ) → is_ascii octets ≡ true → IsAscii octets
are_ascii [] h i = omega arith
are_ascii (c ∷ cs) h zero = ltb-true _ _ (and_parts (nat_lt c 128) (is_ascii cs) h).0
are_ascii (c ∷ cs) h (suc i) = are_ascii cs (and_parts (nat_lt c 128) (is_ascii cs) h).1 i

or_none_is : (r : Result Address AddressError) → result_ok r ≡ address_or_none r
or_none_is (Ok address) = refl
or_none_is (Err fault) = refl

pub in_ascii : (a : SmeAddress) (text : List ℕ) (r : Result Address AddressError) (o : Option Address) → is_ascii a.addr ≡ true → text ≡ a.addr → r ≡ address_of a.ton a.npi (chars text) → o ≡ result_ok r → o ≡ address_in a
in_ascii a text r o h t e f =
    f ∙ or_none_is r ∙ ap address_or_none (e ∙ ap (λ (cs : List ℕ). address_of a.ton a.npi cs) (ap chars t ∙ chars-IsAscii a.addr (are_ascii a.addr h)))
    ∙ ap (λ (b : Bool). cond b (address_or_none (address_of a.ton a.npi a.addr)) None) (sym h)

pub is_utf8 : (octets : List ℕ) → is_ascii octets ≡ true → IsUtf8 octets
is_utf8 octets h = IsUtf8-from_ascii octets (are_ascii octets h)
