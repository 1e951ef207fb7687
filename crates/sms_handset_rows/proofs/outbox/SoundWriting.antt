-- What the owner writes is a SUBMIT that is read again as it was meant.
use Rattle.std.proofs.Common.{◌≡◌, ℕ, ◌^◌, ◌<◌, arith, ◌+◌, ◌*◌, ◌≤◌, List, length, subst, refl, Bool, [], Ok, Result, Err, ◌∷◌}
use Rattle.std.proofs.Math.Nat.{mul-lt-mul_of_pos_left, pow-le-pow_right}
use Rattle.std.proofs.lemmas.Nat.{pow-add, pow_pos}
use Rattle.std.specs.List.{AllByRecursion}
use Rattle.std.proofs.lemmas.List.Elements.{recursion_from_All}
use Rattle.sms_base.specs.declared.address.Address.{Address}
use Rattle.sms_base.specs.Address.{IsAddress}
use Rattle.sms_alphabet.specs.Packing.{digits_in, value_in, AreSeptets, packed_len, IsPacking}
use Rattle.sms_alphabet.proofs.Spellings.{below}
use Rattle.sms_alphabet.proofs.Held.{octet_power, septet_power}
use Rattle.sms_alphabet.proofs.RoundTrip.{value-below, length-digits}
use Rattle.sms_alphabet.proofs.Packed.{value_in-digits}
use Rattle.sms_alphabet.specs.declared.scheme.Coding.{Coding}
use Rattle.sms_alphabet.specs.declared.scheme.Coding.TheVariants.{Septets, Octets, Ucs2, Compressed}
use Rattle.sms_alphabet.specs.declared.spelling.SpellingError.{SpellingError}
use Rattle.sms_alphabet.specs.Spelling.{spelled}
use Rattle.sms_alphabet.specs.DataCodingScheme.{coding_of}
use Rattle.sms_concat.specs.UserData.{AreUnits, IsBody, fill_bits, data_length, header_of, is_there, IsPart, IsUserData, HasRoom}
use Rattle.sms_concat.specs.declared.content.Part.{Part}
use Rattle.sms_concat.specs.declared.content.UserData.{UserData}
use Rattle.sms_concat.specs.declared.content.Content.{Content}
use Rattle.sms_concat.specs.Splitting.{split_of}
use Rattle.sms_concat.proofs.Numbering.{found_is}
use Rattle.sms_concat.proofs.Room.{split_read, split_room}
use Rattle.sms_tpdu.specs.TpduGrammar.{IsSubmitData, IsWrittenSubmit}
use Rattle.sms_tpdu.specs.declared.carrier.Carrier.TheVariants.{InData}
use Rattle.sms_tpdu.specs.declared.submit.Submit.{Submit as SubmitOf}
use Rattle.sms_tpdu.specs.declared.up.Up.TheVariants.{Submit}
use Rattle.sms_tpdu.specs.TpduReading.{submit_at}
use Rattle.sms_tpdu.proofs.Submits.{submit_again}
use Rattle.sms_tpdu.proofs.WrittenUnits.{written_up}
use Rattle.sms_concat.specs.TextContent.{content_of_text, content_spelled}
use Rattle.sms_handset_rows.specs.outbox.Submits.{packed_behind, submit_for, submit_octets, written_entry}
use Rattle.sms_handset_rows.proofs.outbox.PartFields.{carries, submit_short}
use Rattle.sms_handset_rows.specs.outbox.SoundOutbox.{IsSubmitted}

-- ---- packed units

packed_fits : (units : List ℕ) (fill : ℕ) → AreSeptets units → 2 ^ fill * value_in 128 units < 256 ^ packed_len fill (length units)
packed_fits units fill small =
    let n = packed_len fill (length units) in
    let v = value_in 128 units in
    let under : v < 2 ^ (7 * length units) = subst (λ (p : ℕ). v < p) (septet_power (length units)) (value-below units small) in
    let some = pow_pos fill in
    let less : 2 ^ fill * v < 2 ^ fill * 2 ^ (7 * length units) = mul-lt-mul_of_pos_left under some in
    let one : 2 ^ (fill + 7 * length units) ≡ 2 ^ fill * 2 ^ (7 * length units) = pow-add 2 fill (7 * length units) in
    let room : fill + 7 * length units ≤ 8 * n = omega arith in
    let two : 2 ^ (fill + 7 * length units) ≤ 2 ^ (8 * n) = pow-le-pow_right (omega arith) room in
    omega (arith, less, one, two, octet_power n)

packs : (units : List ℕ) (fill : ℕ) → AreSeptets units → IsPacking units fill (digits_in 256 (packed_len fill (length units)) (2 ^ fill * value_in 128 units))
packs units fill small = record {
  length_is = length-digits 256 (packed_len fill (length units)) (2 ^ fill * value_in 128 units);
  value_is = value_in-digits (packed_len fill (length units)) (2 ^ fill * value_in 128 units) (packed_fits units fill small);
}

packed_body : (coding : Coding) (header units : List ℕ) → AreUnits coding units → IsBody coding header units (packed_behind header coding units)
packed_body Septets header units small =
    let fill = fill_bits (length header) in
    (digits_in 256 (packed_len fill (length units)) (2 ^ fill * value_in 128 units), packs units fill small, refl)
packed_body Octets header units small = refl
packed_body Ucs2 header units small = refl
packed_body Compressed header units small = refl

-- ---- the SUBMIT of a part

-- the user data of a part
user_of : Part → UserData
user_of part = record {
  header_indicator = is_there (header_of part.key);
  length = data_length part.content.coding (length (header_of part.key)) (length part.content.units);
  octets = packed_behind (header_of part.key) part.content.coding part.content.units;
}

user_is : (part : Part) → IsPart part → IsUserData (header_of part.key) part.content (user_of part)
unfolding user_of
user_is part p = record { indicator_is = refl; length_is = refl; body_is = packed_body part.content.coding (header_of part.key) part.content.units p.units }

submit_data : (message_reference : ℕ) (destination : Address) (report : Bool) (part : Part) → IsPart part → HasRoom part → IsSubmitData (submit_for message_reference destination report part)
unfolding user_of
submit_data message_reference destination report part p r = carries part (user_of part) message_reference destination report p r (user_is part p)

-- it is read again
submit_read : (message_reference : ℕ) (destination : Address) (report : Bool) (part : Part) → IsAddress destination → IsPart part → HasRoom part
    → submit_at (submit_octets (submit_for message_reference destination report part)) ≡ Ok (submit_for message_reference destination report part)
submit_read message_reference destination report part a p r =
    let s : SubmitOf = submit_for message_reference destination report part in
    let w : IsWrittenSubmit (submit_octets s) s = ([], a, refl, submit_data message_reference destination report part p r, refl) in
    submit_again (submit_octets s) s (written_up InData (submit_octets s) (Submit s) w)

-- it has 200 octets at most
pub written_fits : (message_reference : ℕ) (destination : Address) (report : Bool) (part : Part) → IsAddress destination → IsPart part → HasRoom part
    → length (submit_octets (submit_for message_reference destination report part)) ≤ 200
unfolding user_of
written_fits message_reference destination report part a p r =
    let s : SubmitOf = submit_for message_reference destination report part in
    let w : IsWrittenSubmit (submit_octets s) s = ([], a, refl, submit_data message_reference destination report part p r, refl) in
    (submit_short part (user_of part) message_reference destination report (submit_octets s) w).1

pub written_is_submitted : (number message_reference reference : ℕ) (destination : Address) (report is_long : Bool) (part : Part) → IsAddress destination → IsPart part → HasRoom part
    → IsSubmitted (written_entry number message_reference reference destination report is_long part)
written_is_submitted number message_reference reference destination report is_long part a p r =
    (submit_for message_reference destination report part, (submit_read message_reference destination report part a p r, refl, refl, refl, written_fits message_reference destination report part a p r))

-- ---- the parts of a text

-- a part that can be written
abbrev pub IsWritable : Part → Type 0
IsWritable part = IsPart part × HasRoom part

content_units : (text : List ℕ) (r : Result (List ℕ) SpellingError) → spelled text ≡ r → AreUnits (content_spelled text r).coding (content_spelled text r).units
content_units text (Ok septets) e = below text (Ok septets) e
content_units text (Err f) e = tt

content_coding : (text : List ℕ) (r : Result (List ℕ) SpellingError) → (content_spelled text r).coding ≡ coding_of (content_spelled text r).dcs
content_coding text (Ok septets) = refl
content_coding text (Err f) = refl

both_all : (xs : List Part) → AllByRecursion (λ (p : Part). IsPart p) xs → AllByRecursion (λ (p : Part). HasRoom p) xs → AllByRecursion (λ (p : Part). IsWritable p) xs
both_all [] a b = tt
both_all (x ∷ xs) a b = ((a.0, b.0), both_all xs a.1 b.1)

pub split_is_writable : (text : List ℕ) (reference : ℕ) (parts : List Part) → split_of (content_of_text text) reference ≡ Ok parts → AllByRecursion (λ (p : Part). IsWritable p) parts
split_is_writable text reference parts e =
    let c : Content = content_of_text text in
    let split = (found_is c reference parts e).0 in
    let units = content_units text (spelled text) refl in
    both_all parts
    (recursion_from_All (λ (p : Part). IsPart p) parts (split_read c reference parts (content_coding text (spelled text)) units split))
    (recursion_from_All (λ (p : Part). HasRoom p) parts (split_room c reference parts units split))
