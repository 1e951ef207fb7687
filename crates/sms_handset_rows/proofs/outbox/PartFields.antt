-- The SUBMIT of a part: its user data are those of the part, and it is short.
use Rattle.std.proofs.Common.{ℕ, ◌+◌, List, [], ◌∷◌, ◌++◌, ◌≡◌, ◌*◌, ◌<◌, length, refl, ap, ◌∙◌, arith, ◌^◌, sym, subst, drop, ◌-◌, ◌≤◌, length-append, Option, Some, None, suc, true, Bool, false}
use Rattle.std.specs.Prelude.{nat_le}
use Rattle.std.proofs.lemmas.Bool.{le-leb}
use Rattle.sms_base.proofs.OctetLaws.{octets_behind}
use Rattle.sms_base.proofs.Lists.{drop_behind}
use Rattle.sms_base.specs.Reading.{AreOctets}
use Rattle.sms_base.specs.declared.address.Address.{Address}
use Rattle.sms_alphabet.specs.Packing.{digits_in, value_in, IsPacking, packed_len, AreSeptets}
use Rattle.sms_alphabet.specs.declared.scheme.Coding.{Coding}
use Rattle.sms_alphabet.specs.declared.scheme.Coding.TheVariants.{Septets, Octets, Ucs2, Compressed}
use Rattle.sms_alphabet.specs.DataCodingScheme.{coding_of}
use Rattle.sms_concat.specs.UserData.{IsBody, fill_bits, header_of, is_there, key_element, data_length, capacity, header_septets, AreUnits, HasRoom, IsPart, IsUserData}
use Rattle.sms_alphabet.specs.HeaderGrammar.{spelled}
use Rattle.sms_alphabet.specs.declared.concat_key.ConcatKey.{ConcatKey}
use Rattle.sms_concat.specs.declared.content.Part.{Part}
use Rattle.sms_concat.specs.declared.content.UserData.{UserData}
use Rattle.sms_tpdu.specs.UserDataGrammar.{HasHeader, header_octets, octets_of, greatest_length, IsPackedBehind, fill_behind, header_septets as septets_of_header, IsContentBehind, IsUserData as AreFields, user_data_field}
use Rattle.sms_tpdu.specs.declared.submit.Submit.{Submit}
use Rattle.sms_tpdu.specs.declared.validity_period.ValidityPeriod.TheVariants.{NotPresent}
use Rattle.sms_tpdu.specs.TpduGrammar.{IsSubmitData, IsWrittenSubmit, submit_fields, submit_head, IsWrittenValidityField}
use Rattle.sms_tpdu.specs.AddressGrammar.{address_field}
use Rattle.sms_tpdu.specs.declared.validity_period.ValidityPeriod.{ValidityPeriod}
use Rattle.sms_tpdu.proofs.NameValues.{field_short}
use Rattle.sms_tpdu.proofs.Lengths.{few_octets}
use Rattle.sms_handset_rows.specs.outbox.Submits.{packed_behind, submit_for, submit_octets}
use Rattle.sms_alphabet.proofs.Packed.{digits_of_value}

-- ---- octets are the digits of their value

packing_is : (units packed : List ℕ) (fill : ℕ) → AreOctets packed → IsPacking units fill packed
    → packed ≡ digits_in 256 (packed_len fill (length units)) (2 ^ fill * value_in 128 units)
packing_is units packed fill h p =
    sym (digits_of_value packed h) ∙ ap (λ (n : ℕ). digits_in 256 n (value_in 256 packed)) p.length_is
    ∙ ap (λ (v : ℕ). digits_in 256 (packed_len fill (length units)) v) p.value_is

pub body_is : (coding : Coding) (header units octets : List ℕ) → AreOctets octets → IsBody coding header units octets
    → octets ≡ packed_behind header coding units
body_is Septets header units octets h b =
    let packed = b.0 in
    let all : AreOctets (header ++ packed) = subst AreOctets b.2 h in
    b.2 ∙ ap (λ (xs : List ℕ). header ++ xs) (packing_is units packed (fill_bits (length header)) (octets_behind header packed all) b.1)
body_is Octets header units octets h b = b
body_is Ucs2 header units octets h b = b
body_is Compressed header units octets h b = b

-- ---- the fields of a part are user data

-- a body begins with its header
begins : (coding : Coding) (header units octets : List ℕ) → IsBody coding header units octets → (body : List ℕ) × (octets ≡ header ++ body)
begins Septets header units octets b = (b.0, b.2)
begins Octets header units octets b = (units, b)
begins Ucs2 header units octets b = (units, b)
begins Compressed header units octets b = (units, b)

has_header : (key : Option ConcatKey) (body : List ℕ) → HasHeader (is_there (header_of key)) (header_of key ++ body)
has_header None body = tt
has_header (Some key) body =
    let front = spelled (key_element key.reference key.total key.number ∷ []) in
    let long : length front ≤ length (front ++ body) = omega (arith, length-append front body) in
    long

header_long : (key : Option ConcatKey) (body : List ℕ) → header_octets (is_there (header_of key)) (header_of key ++ body) ≡ length (header_of key)
header_long None body = refl
header_long (Some key) body =
    let front = spelled (key_element key.reference key.total key.number ∷ []) in
    let e : length front + 1 ≡ suc (length front) = omega arith in
    e

whole : (coding : Coding) (header units octets : List ℕ) → IsBody coding header units octets
    → length octets ≡ octets_of coding (data_length coding (length header) (length units))
whole Septets header units octets b =
    let packed = b.0 in
    let long : length octets ≡ length header + length packed = ap length b.2 ∙ length-append header packed in
    let p : IsPacking units (fill_bits (length header)) packed = b.1 in
    omega (arith, long, p.length_is)
whole Octets header units octets b = ap length b ∙ length-append header units
whole Ucs2 header units octets b = ap length b ∙ length-append header units
whole Compressed header units octets b = ap length b ∙ length-append header units

within : (coding : Coding) (n : ℕ) → n ≤ capacity coding → n ≤ greatest_length coding
within Septets n h = h
within Octets n h = h
within Ucs2 n h = h
within Compressed n h = h

packed_so : (header units packed octets : List ℕ) (h : ℕ) → h ≡ length header → octets ≡ header ++ packed → AreSeptets units
    → IsPacking units (fill_bits (length header)) packed → IsPackedBehind h (header_septets (length header) + length units) octets
packed_so header units packed octets h e o small p =
    let n = header_septets (length header) + length units in
    let room : nat_le (header_septets (length header)) n ≡ true = le-leb _ _ (let g : header_septets (length header) ≤ n = omega arith in g) in
    let fill : fill_behind (length header) n ≡ fill_bits (length header) = rw room refl in
    let rest : drop (length header) octets ≡ packed = ap (λ (xs : List ℕ). drop (length header) xs) o ∙ drop_behind header packed in
    let count : length units ≡ n - septets_of_header (length header) = omega arith in
    let here : IsPackedBehind (length header) n octets =
    (units, small, count, subst (λ (f : ℕ). IsPacking units f (drop (length header) octets)) (sym fill) (subst (λ (xs : List ℕ). IsPacking units (fill_bits (length header)) xs) (sym rest) p)) in
    subst (λ (k : ℕ). IsPackedBehind k n octets) (sym e) here

behind : (coding : Coding) (header units octets : List ℕ) (h : ℕ) → h ≡ length header → AreUnits coding units → IsBody coding header units octets
    → IsContentBehind coding h (data_length coding (length header) (length units)) octets
behind Septets header units octets h e small b = packed_so header units b.0 octets h e b.2 small b.1
behind Octets header units octets h e small b = tt
behind Ucs2 header units octets h e small b = tt
behind Compressed header units octets h e small b = tt

fields_are : (coding : Coding) (key : Option ConcatKey) (units octets : List ℕ)
    → data_length coding (length (header_of key)) (length units) ≤ capacity coding → AreUnits coding units → IsBody coding (header_of key) units octets
    → AreFields coding (is_there (header_of key)) (record { length = data_length coding (length (header_of key)) (length units); octets = octets })
fields_are coding key units octets room small b =
    let header = header_of key in
    let front = begins coding header units octets b in
    record {
      within = within coding (data_length coding (length header) (length units)) room;
      whole = whole coding header units octets b;
      header = subst (λ (xs : List ℕ). HasHeader (is_there header) xs) (sym front.1) (has_header key front.0);
      content = behind coding header units octets (header_octets (is_there header) octets)
          (ap (λ (xs : List ℕ). header_octets (is_there header) xs) front.1 ∙ header_long key front.0) small b;
    }

-- ---- the SUBMIT

-- the SUBMIT with the fields of a part
abbrev pub carrying_part : ℕ → Address → Bool → Part → UserData → Submit
carrying_part message_reference destination report part user = record {
  reject_duplicates = false;
  status_report_request = report;
  user_data_header_indicator = user.header_indicator;
  reply_path = false;
  message_reference = message_reference;
  destination_address = destination;
  protocol_identifier = 0;
  data_coding_scheme = part.content.dcs;
  validity_period = NotPresent;
  user_data = record { length = user.length; octets = user.octets };
}

same_fields : (a b : UserData) → a.header_indicator ≡ b.header_indicator → a.length ≡ b.length → a.octets ≡ b.octets → a ≡ b
same_fields a b e f g =
    ap (λ (i : Bool). let u : UserData = record { header_indicator = i; length = a.length; octets = a.octets } in u) e
    ∙ ap (λ (n : ℕ). let u : UserData = record { header_indicator = b.header_indicator; length = n; octets = a.octets } in u) f
    ∙ ap (λ (o : List ℕ). let u : UserData = record { header_indicator = b.header_indicator; length = b.length; octets = o } in u) g

pub carries : (part : Part) (user : UserData) (message_reference : ℕ) (destination : Address) (report : Bool)
    → IsPart part → HasRoom part → IsUserData (header_of part.key) part.content user → IsSubmitData (carrying_part message_reference destination report part user)
carries part user message_reference destination report is room u =
    let header = header_of part.key in
    let made = fields_are part.content.coding part.key part.content.units user.octets room.room is.units u.body_is in
    let coded = subst (λ (k : Coding). AreFields k (is_there header) (record { length = data_length part.content.coding (length header) (length part.content.units); octets = user.octets })) is.coding_is made in
    let flagged = subst (λ (i : Bool). AreFields (coding_of part.content.dcs) i (record { length = data_length part.content.coding (length header) (length part.content.units); octets = user.octets })) (sym u.indicator_is) coded in
    subst (λ (n : ℕ). AreFields (coding_of part.content.dcs) user.header_indicator (record { length = n; octets = user.octets })) (sym u.length_is) flagged

pub carries_lent : (part : Part) (user : UserData) (message_reference : ℕ) (destination : Address) (report : Bool) (text : List ℕ) → text ≡ user.octets
    → IsPart part → HasRoom part → IsUserData (header_of part.key) part.content user → IsSubmitData (carrying_part message_reference destination report part (record user { octets = text }))
carries_lent part user message_reference destination report text e is room u =
    subst (λ (t : List ℕ). IsSubmitData (carrying_part message_reference destination report part (record user { octets = t }))) (sym e)
    (carries part user message_reference destination report is room u)

pub submit_is : (part : Part) (user : UserData) (message_reference : ℕ) (destination : Address) (report : Bool) (octets : List ℕ)
    → AreOctets user.octets → IsUserData (header_of part.key) part.content user
    → IsWrittenSubmit octets (carrying_part message_reference destination report part user) → octets ≡ submit_octets (submit_for message_reference destination report part)
submit_is part user message_reference destination report octets are u w =
    let header = header_of part.key in
    let wanted : UserData = record { header_indicator = is_there header; length = data_length part.content.coding (length header) (length part.content.units); octets = packed_behind header part.content.coding part.content.units } in
    let body : user.octets ≡ packed_behind header part.content.coding part.content.units = body_is part.content.coding header part.content.units user.octets are u.body_is in
    let same : user ≡ wanted = same_fields user wanted u.indicator_is u.length_is body in
    let s = carrying_part message_reference destination report part user in
    let none : w.0 ≡ [] = w.2 in
    w.4 ∙ ap (λ (period : List ℕ). submit_fields (submit_head s) (address_field destination) period s) none
    ∙ ap (λ (f : UserData). submit_octets (carrying_part message_reference destination report part f)) same

-- the same where the text was lent
pub lent_is : (part : Part) (user : UserData) (message_reference : ℕ) (destination : Address) (report : Bool) (octets text : List ℕ)
    → text ≡ user.octets → AreOctets text → IsUserData (header_of part.key) part.content user
    → IsWrittenSubmit octets (carrying_part message_reference destination report part (record user { octets = text })) → octets ≡ submit_octets (submit_for message_reference destination report part)
lent_is part user message_reference destination report octets text e are u w =
    submit_is part user message_reference destination report octets (subst AreOctets e are) u
    (subst (λ (t : List ℕ). IsWrittenSubmit octets (carrying_part message_reference destination report part (record user { octets = t }))) e w)

short : (octets : List ℕ) (s : Submit) → s.validity_period ≡ NotPresent → IsWrittenSubmit octets s → (0 < length octets) × (length octets ≤ 200)
short octets s v (period, is_address, is_period, is_text, e) =
    let to = address_field s.destination_address in
    let none : period ≡ [] = subst (λ (p : ValidityPeriod). IsWrittenValidityField period p) v is_period in
    let len : length period ≡ 0 = ap length none in
    let long = ap length e in
    let text : length s.user_data.octets ≤ 140 = omega (arith, few_octets (coding_of s.data_coding_scheme) s.user_data.length is_text.within, is_text.whole) in
    let one = field_short s.destination_address is_address in
    let two = length-append to (s.protocol_identifier ∷ s.data_coding_scheme ∷ (period ++ user_data_field s.user_data)) in
    let three = length-append period (user_data_field s.user_data) in
    (omega arith, omega arith)

pub submit_short : (part : Part) (user : UserData) (message_reference : ℕ) (destination : Address) (report : Bool) (octets : List ℕ)
    → IsWrittenSubmit octets (carrying_part message_reference destination report part user) → (0 < length octets) × (length octets ≤ 200)
submit_short part user message_reference destination report octets w = short octets (carrying_part message_reference destination report part user) refl w
