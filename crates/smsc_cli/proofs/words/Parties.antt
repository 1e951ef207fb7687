-- The texts of parties are those of addresses.
use Rattle.std.proofs.Common.{◌≡◌, ◌<◌, ℕ, List, Bool, true, false, Option, None, Some, Ok, Err, IfNone, ⊎_elim, length, refl, sym, subst, true≢false, arith}
use Rattle.std.specs.Str.{chars}
use Rattle.sms_base.specs.Address.{IsAddressOf, IsName, IsNumber}
use Rattle.sms_base.specs.AddressKind.{is_name, type_number}
use Rattle.sms_base.specs.declared.address.Address.{Address}
use Rattle.sms_base.specs.declared.address_error.AddressError.{AddressError}
use Rattle.sms_base.specs.declared.type_of_number.TypeOfNumber.{TypeOfNumber}
use Rattle.sms_base.specs.declared.type_of_number.TypeOfNumber.TheVariants.{Unknown, International, National, NetworkSpecific, Subscriber, Alphanumeric, Abbreviated}
use Rattle.smsc_cli.specs.words.LookWords.{IsNameText, IsNumberText, IsPartyText}

number_address : (text : List ℕ) → IsNumberText text → IsAddressOf 1 1 (chars text) (record { ton = International; npi = 1; digits = chars text })
number_address text h = record {
  ton_is = refl;
  npi_is = refl;
  text_is = refl;
  valid = record {
    npi = omega arith;
    digits = record { some = h.0; number = λ _. h.1; name = λ e. absurd (true≢false (sym e)) };
  };
}

name_address : (text : List ℕ) → IsNameText text → IsAddressOf 5 0 (chars text) (record { ton = Alphanumeric; npi = 0; digits = chars text })
name_address text h = record {
  ton_is = refl;
  npi_is = refl;
  text_is = refl;
  valid = record {
    npi = omega arith;
    digits = record { some = h.0; number = λ e. absurd (true≢false e); name = λ _. h.1 };
  };
}

err_ok : (fault : AddressError) (address : Address) → Err fault ≡ Ok address → ⊥
err_ok fault address e = absurd cc

-- what is refused is no address
pub no_number : (text : List ℕ) (fault : AddressError) → ((address : Address) → IsAddressOf 1 1 (chars text) address → Err fault ≡ Ok address) → IsNumberText text → ⊥
no_number text fault only h = err_ok fault _ (only (record { ton = International; npi = 1; digits = chars text }) (number_address text h))

pub no_name : (text : List ℕ) (fault : AddressError) → ((address : Address) → IsAddressOf 5 0 (chars text) address → Err fault ≡ Ok address) → IsNameText text → ⊥
no_name text fault only h = err_ok fault _ (only (record { ton = Alphanumeric; npi = 0; digits = chars text }) (name_address text h))

pub no_party : {A : Type 0} (text : List ℕ) (r : Option A) → (IsNumberText text → ⊥) → IfNone r (IsNameText text → ⊥) → IfNone r (IsPartyText text → ⊥)
no_party text None a b = λ h. ⊎_elim a b h
no_party text (Some x) a b = tt

-- ---- what is taken is one

one_is_no_name : (ton : TypeOfNumber) → type_number ton ≡ 1 → is_name ton ≡ false
one_is_no_name Unknown e = absurd (omega (arith, e))
one_is_no_name International e = refl
one_is_no_name National e = absurd (omega (arith, e))
one_is_no_name NetworkSpecific e = absurd (omega (arith, e))
one_is_no_name Subscriber e = absurd (omega (arith, e))
one_is_no_name Alphanumeric e = absurd (omega (arith, e))
one_is_no_name Abbreviated e = absurd (omega (arith, e))

five_is_a_name : (ton : TypeOfNumber) → type_number ton ≡ 5 → is_name ton ≡ true
five_is_a_name Unknown e = absurd (omega (arith, e))
five_is_a_name International e = absurd (omega (arith, e))
five_is_a_name National e = absurd (omega (arith, e))
five_is_a_name NetworkSpecific e = absurd (omega (arith, e))
five_is_a_name Subscriber e = absurd (omega (arith, e))
five_is_a_name Alphanumeric e = refl
five_is_a_name Abbreviated e = absurd (omega (arith, e))

pub is_number_text : (text : List ℕ) (address : Address) → IsAddressOf 1 1 (chars text) address → IsNumberText text
is_number_text text address h = (
  subst (λ (l : List ℕ). 0 < length l) h.text_is h.valid.digits.some,
  subst IsNumber h.text_is (h.valid.digits.number (one_is_no_name address.ton h.ton_is)),
)

pub is_name_text : (text : List ℕ) (address : Address) → IsAddressOf 5 0 (chars text) address → IsNameText text
is_name_text text address h = (
  subst (λ (l : List ℕ). 0 < length l) h.text_is h.valid.digits.some,
  subst IsName h.text_is (h.valid.digits.name (five_is_a_name address.ton h.ton_is)),
)
