-- The units that a handset writes are octets.
use Rattle.std.proofs.Common.{◌≡◌, ℕ, zero, suc, ◌+◌, ◌-◌, ◌*◌, ◌/◌, ◌%◌, ◌<◌, ◌≤◌, arith, List, [], ◌∷◌, length, Bool, true, false, refl, sym, ap, subst, Result, Ok, Err, flat_map}
use Rattle.std.specs.Prelude.{nat_lt}
use Rattle.std.specs.List.{AllByRecursion}
use Rattle.std.specs.Str.{all_scalars}
use Rattle.std.proofs.lemmas.Bool.{and_parts, cond_both, ltb-true}
use Rattle.std.proofs.lemmas.Bool.Decides.{nat_tests}
use Rattle.std.proofs.lemmas.List.Elements.{recursion_from_All}
use Rattle.sms_base.proofs.OctetLaws.{octets_before, octets_behind}
use Rattle.sms_base.specs.Address.{IsAddress}
use Rattle.sms_base.specs.AddressKind.{is_name, type_number}
use Rattle.sms_base.specs.Reading.{AreOctets}
use Rattle.sms_base.specs.declared.address.Address.{Address}
use Rattle.sms_base.specs.declared.type_of_number.TypeOfNumber.{TypeOfNumber}
use Rattle.sms_base.specs.declared.type_of_number.TypeOfNumber.TheVariants.{Unknown, International, National, NetworkSpecific, Subscriber, Alphanumeric, Abbreviated}
use Rattle.sms_alphabet.specs.Packing.{digits_in, packed_len, value_in}
use Rattle.sms_alphabet.specs.Spelling.{spelled}
use Rattle.sms_alphabet.specs.Ucs2.{octets_for, ucs2_for, unit_octets}
use Rattle.sms_alphabet.specs.declared.scheme.Coding.{Coding}
use Rattle.sms_alphabet.specs.declared.scheme.Coding.TheVariants.{Septets, Octets, Ucs2, Compressed}
use Rattle.sms_alphabet.specs.declared.spelling.SpellingError.{SpellingError}
use Rattle.sms_alphabet.proofs.Spellings.{below}
use Rattle.sms_concat.specs.Splitting.{alone, joined, numbered, split_of}
use Rattle.sms_concat.specs.TextContent.{content_of_text, content_spelled}
use Rattle.sms_concat.specs.UserData.{HasRoom, capacity, data_length, fill_bits, header_of, is_there}
use Rattle.sms_concat.specs.declared.content.Content.{Content}
use Rattle.sms_concat.specs.declared.content.Part.{Part}
use Rattle.sms_concat.proofs.Dividing.{division_joined}
use Rattle.sms_concat.proofs.Numbering.{cut, found_is, length_numbered, lone, uncut, way}
use Rattle.sms_tpdu.specs.AddressGrammar.{AreDigits, address_field, address_length, address_value, name_septets, relay_address, semi_octet, semi_octets, type_of_address}
use Rattle.sms_tpdu.specs.Bits.{bit_value}
use Rattle.sms_tpdu.specs.TpduGrammar.{submit_head}
use Rattle.sms_tpdu.proofs.Addresses.{character_back}
use Rattle.sms_tpdu.proofs.FaultSteps.{joined_fits}
use Rattle.sms_tpdu.proofs.NameValues.{name_few}
use Rattle.sms_handset_rows.specs.outbox.Submits.{packed_behind, submit_for, submit_octets}
use lib.Utf8.{scalar, scalars}

-- ---- lists

-- digits in base 256 are octets
digits_fit : (n v : ℕ) → AreOctets (digits_in 256 n v)
digits_fit zero v = tt
digits_fit (suc n) v = (let l : v % 256 < 256 = omega arith in l, digits_fit n (v / 256))

septets_fit : (xs : List ℕ) → AllByRecursion (λ s. s < 128) xs → AreOctets xs
septets_fit [] h = tt
septets_fit (x ∷ xs) h = (let l : x < 256 = (let k : x < 128 = h.0 in omega (arith, k)) in l, septets_fit xs h.1)

-- ---- addresses

digits_of_number_fit : (ds : List ℕ) → AreDigits ds → AreOctets (semi_octets ds)
digits_of_number_fit [] h = tt
digits_of_number_fit (d ∷ []) h = let p = (character_back d h.0).0 in (let l : semi_octet d + 240 < 256 = omega (arith, p) in l, tt)
digits_of_number_fit (d ∷ e ∷ ds) h =
    let p = (character_back d h.0).0 in
    let q = (character_back e h.1.0).0 in
    (let l : semi_octet d + 16 * semi_octet e < 256 = omega (arith, p, q) in l, digits_of_number_fit ds h.1.1)

value_by : (b : Bool) (a : Address) → is_name a.ton ≡ b → IsAddress a → AreOctets (address_value b a.digits)
value_by false a e h = digits_of_number_fit a.digits (h.digits.number e).digits
value_by true a e h = digits_fit (packed_len 0 (length (name_septets a.digits))) (value_in 128 (name_septets a.digits))

small_type : (t : TypeOfNumber) → type_number t ≤ 6
small_type Unknown = omega arith
small_type International = omega arith
small_type National = omega arith
small_type NetworkSpecific = omega arith
small_type Subscriber = omega arith
small_type Alphanumeric = omega arith
small_type Abbreviated = omega arith

type_fits : (a : Address) → IsAddress a → type_of_address a < 256
type_fits a h = let p = h.npi in let q = small_type a.ton in omega (arith, p, q)

pub relay_fits : (a : Address) → IsAddress a → AreOctets (relay_address a)
relay_fits a h = (type_fits a h, value_by (is_name a.ton) a refl h)

length_by : (b : Bool) (a : Address) → is_name a.ton ≡ b → IsAddress a → address_length b a.digits < 256
length_by false a e h = let p = (h.digits.number e).few in omega (arith, p)
length_by true a e h = let p = name_few a h e in omega (arith, p)

field_fits : (a : Address) → IsAddress a → AreOctets (address_field a)
field_fits a h = (length_by (is_name a.ton) a refl h, (type_fits a h, value_by (is_name a.ton) a refl h))

-- ---- parts

pub record PartInOctets (p : Part) : Type 0 where
  pub units : AreOctets p.content.units
  pub dcs : p.content.dcs < 256
  pub header : AreOctets (header_of p.key)

units_fit : (header : List ℕ) (coding : Coding) (units : List ℕ) → AreOctets header → AreOctets units → AreOctets (packed_behind header coding units)
units_fit header Septets units h u = joined_fits header _ h (digits_fit (packed_len (fill_bits (length header)) (length units)) _)
units_fit header Octets units h u = joined_fits header units h u
units_fit header Ucs2 units h u = joined_fits header units h u
units_fit header Compressed units h u = joined_fits header units h u

capacity_small : (c : Coding) → capacity c ≤ 160
capacity_small Septets = omega arith
capacity_small Octets = omega arith
capacity_small Ucs2 = omega arith
capacity_small Compressed = omega arith

bit_small : (b : Bool) (v : ℕ) → bit_value b v ≤ v
bit_small true v = omega arith
bit_small false v = omega arith

-- the SUBMIT of a part
pub submit_fits : (message_reference : ℕ) (destination : Address) (report : Bool) (part : Part) → message_reference < 256 → IsAddress destination → HasRoom part → PartInOctets part
    → AreOctets (submit_octets (submit_for message_reference destination report part))
submit_fits message_reference destination report part m a room p =
    let s = submit_for message_reference destination report part in
    let head : submit_head s < 256 = omega (arith, bit_small report 32, bit_small (is_there (header_of part.key)) 64) in
    let few : data_length part.content.coding (length (header_of part.key)) (length part.content.units) < 256 = omega (arith, room.room, capacity_small part.content.coding) in
    let none : 0 < 256 = omega arith in (
      head,
      (
        m,
        joined_fits (address_field destination) _ (field_fits destination a)
            (none, (p.dcs, (few, units_fit (header_of part.key) part.content.coding part.content.units p.header p.units))),
      ),
    )

-- ---- the parts of a text

character_fits : (c : ℕ) → scalar c ≡ true → AreOctets (octets_for c)
unfolding octets_for
character_fits c s =
    let small : c < 1114112 = grind (arith, nat_tests) in
    cond_both (nat_lt c 65536) (c ∷ []) ((55296 + (c - 65536) / 1024) ∷ (56320 + (c - 65536) % 1024) ∷ []) (λ (us : List ℕ). AreOctets (flat_map unit_octets us))
    (λ t. let l = ltb-true c 65536 t in (let p : c / 256 < 256 = omega (arith, l) in p, (let q : c % 256 < 256 = omega arith in q, tt)))
    (λ t.
    let high : (55296 + (c - 65536) / 1024) / 256 < 256 = omega (arith, small) in
    let high_low : (55296 + (c - 65536) / 1024) % 256 < 256 = omega arith in
    let low : (56320 + (c - 65536) % 1024) / 256 < 256 = omega arith in
    let low_low : (56320 + (c - 65536) % 1024) % 256 < 256 = omega arith in
    (high, (high_low, (low, (low_low, tt)))))

ucs2_fits : (text : List ℕ) → all_scalars text ≡ true → AreOctets (ucs2_for text)
ucs2_fits [] h = tt
ucs2_fits (c ∷ text) h = let p = and_parts (scalar c) (scalars text) h in joined_fits (octets_for c) (ucs2_for text) (character_fits c p.0) (ucs2_fits text p.1)

abbrev ContentInOctets : Content → Type 0
ContentInOctets c = AreOctets c.units × (c.dcs < 256)

spelled_fits : (text : List ℕ) (r : Result (List ℕ) SpellingError) → spelled text ≡ r → all_scalars text ≡ true → ContentInOctets (content_spelled text r)
spelled_fits text (Ok septets) e h = (septets_fit septets (recursion_from_All (λ s. s < 128) septets (below text (Ok septets) e)), let l : 0 < 256 = omega arith in l)
spelled_fits text (Err fault) e h = (ucs2_fits text h, let l : 8 < 256 = omega arith in l)

numbered_fit : (content : Content) (reference total number : ℕ) (pieces : List (List ℕ)) → content.dcs < 256 → reference < 65536 → total < 256 → number + length pieces ≤ total + 1 → AreOctets (joined pieces)
    → AllByRecursion (λ (p : Part). PartInOctets p) (numbered content reference total number pieces)
numbered_fit content reference total number [] d r t n h = tt
numbered_fit content reference total number (piece ∷ pieces) d r t n h =
    let size : 6 < 256 = omega arith in
    let kind : 8 < 256 = omega arith in
    let long : 4 < 256 = omega arith in
    let high : reference / 256 < 256 = omega (arith, r) in
    let low : reference % 256 < 256 = omega arith in
    let own : number < 256 = omega (arith, t, n) in (
      record { units = octets_before piece (joined pieces) h; dcs = d; header = (size, (kind, (long, (high, (low, (t, (own, tt))))))) },
      numbered_fit content reference total (number + 1) pieces d r t (let l : number + 1 + length pieces ≤ total + 1 = omega (arith, n) in l) (octets_behind piece (joined pieces) h),
    )

pub split_fits : (content : Content) (reference : ℕ) (parts : List Part) → split_of content reference ≡ Ok parts → ContentInOctets content → reference < 65536 → AllByRecursion (λ (p : Part). PartInOctets p) parts
split_fits content reference parts e c r =
    let split = found_is content reference parts e in
    elim (way content) [
      | lone le ↦
          let here : AllByRecursion (λ (p : Part). PartInOctets p) (alone content) = (record { units = c.0; dcs = c.1; header = tt }, tt) in
          subst (λ (ps : List Part). AllByRecursion (λ (p : Part). PartInOctets p) ps) (sym (split.0.fits le)) here
      | uncut over k ↦ let h = (split.0.cut over).0 in absurd cc
      | cut over k ↦
          let d = (split.0.cut over).1 in
          let few : length d.0 ≤ 20 = omega (arith, split.1, ap length d.2, length_numbered content reference (length d.0) 1 d.0) in
          let all : AreOctets (joined d.0) = subst (λ (us : List ℕ). AreOctets us) (sym (division_joined _ content.coding content.units d.0 d.1)) c.0 in
          subst (λ (ps : List Part). AllByRecursion (λ (p : Part). PartInOctets p) ps) (sym d.2)
          (numbered_fit content reference (length d.0) 1 d.0 c.1 r (omega (arith, few)) (let l : 1 + length d.0 ≤ length d.0 + 1 = omega arith in l) all)
    ]

pub text_fits : (text : List ℕ) (reference : ℕ) (parts : List Part) → split_of (content_of_text text) reference ≡ Ok parts → all_scalars text ≡ true → reference < 65536 → AllByRecursion (λ (p : Part). PartInOctets p) parts
text_fits text reference parts e h r = split_fits (content_of_text text) reference parts e (spelled_fits text (spelled text) refl h) r
