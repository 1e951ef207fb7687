-- The fields that are written carry the content.
use Rattle.std.proofs.Common.{◌≡◌, ℕ, Bool, not, eqb, List, [], ◌∷◌, length, refl, ap, ◌∙◌, arith}
use Rattle.std.proofs.lemmas.Bool.{ne_eqb}
use Rattle.sms_alphabet.specs.declared.scheme.Coding.{Coding}
use Rattle.sms_alphabet.specs.declared.scheme.Coding.TheVariants.{Septets, Octets, Ucs2, Compressed}
use Rattle.sms_alphabet.specs.Packing.{packed}
use Rattle.sms_alphabet.proofs.Packed.{packed_is_packing}
use Rattle.sms_concat.specs.UserData.{AreUnits, IsBody, IsUserData, body_octets, data_length, fill_bits, is_there, user_data_behind}
use Rattle.sms_concat.specs.declared.content.Content.{Content}

is_body : (header : List ℕ) (coding : Coding) (units : List ℕ) → AreUnits coding units → IsBody coding header units (body_octets header coding units)
is_body header Septets units h = (packed (fill_bits (length header)) units, packed_is_packing (fill_bits (length header)) units h, refl)
is_body header Octets units h = refl
is_body header Ucs2 units h = refl
is_body header Compressed units h = refl

pub user_data_is : (header : List ℕ) (content : Content) → AreUnits content.coding content.units → IsUserData header content (user_data_behind header content)
user_data_is header content h = record { indicator_is = refl; length_is = refl; body_is = is_body header content.coding content.units h }

pub there_is : (header : List ℕ) (empty : Bool) → empty ≡ eqb (length header) 0 → not empty ≡ is_there header
there_is [] empty e = ap not e
there_is (octet ∷ header) empty e = ap not (e ∙ ne_eqb (length (octet ∷ header)) 0 (λ none. omega arith))

-- fields that are these carry it
pub fields_carry : (header : List ℕ) (content : Content) (empty : Bool) (n : ℕ) (octets : List ℕ) → AreUnits content.coding content.units → empty ≡ eqb (length header) 0 → n ≡ data_length content.coding (length header) (length content.units)
    → octets ≡ body_octets header content.coding content.units → IsUserData header content (record { header_indicator = not empty; length = n; octets = octets })
fields_carry header content empty n octets h e f g = rw (there_is header empty e, f, g) (user_data_is header content h)
