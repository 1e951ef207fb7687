-- What a part says of its long message: its place, and the piece of the content that it carries. The place is the key of its concatenation
-- element (3GPP TS 23.040 9.2.3.24.1 and 9.2.3.24.8), with the address of its source, and its number.
use Rattle.std.specs.Prelude.{ℕ, ◌==◌, ◌&&◌, List, Bool, Option, Some, None, Result, Ok, Err, false, [], ◌∷◌, ◌++◌}
use Rattle.std.specs.Str.{bytes_eq}
use Rattle.sms_base.specs.AddressKind.{type_number}
use Rattle.sms_base.specs.declared.address.Address.{Address}
use Rattle.sms_alphabet.specs.declared.concat_key.ConcatKey.{ConcatKey}
use Rattle.sms_alphabet.specs.declared.concat_key.ConcatReference.{ConcatReference}
use Rattle.sms_concat.specs.Joining.{is_same_reference, content_joined}
use Rattle.sms_concat.specs.UserData.{part_in}
use Rattle.sms_alphabet.specs.Concatenation.{header_key}
use Rattle.sms_tpdu.specs.declared.carrier.Carrier.TheVariants.{InData}
use Rattle.sms_tpdu.specs.declared.down.Down.{Down}
use Rattle.sms_tpdu.specs.declared.down.Down.TheVariants.{Deliver, StatusReport, SubmitReport}
use Rattle.sms_tpdu.specs.declared.fault.TpduFault.{TpduFault}
use Rattle.sms_tpdu.specs.declared.user_data.UserData.{UserData}
use Rattle.sms_tpdu.specs.TpduReading.{down_at}
use Rattle.sms_world_model.specs.Submission.{Submission}
use Rattle.sms_alphabet.specs.declared.unpacking.UnpackError.{UnpackError}
use Rattle.sms_concat.specs.declared.content.Content.{Content}
use Rattle.sms_concat.specs.declared.content.Part.{Part as PartOf}

-- ---- its place

-- the parts of one key belong together
pub record Key : Type 0 where
  pub source : Address
  pub reference : ConcatReference
  pub total : ℕ

abbrev pub is_same_address : Address → Address → Bool
is_same_address a b = (type_number a.ton == type_number b.ton) && (a.npi == b.npi) && bytes_eq a.digits b.digits

abbrev pub is_same_key : Key → Key → Bool
is_same_key a b = is_same_address a.source b.source && is_same_reference a.reference b.reference && (a.total == b.total)

-- a part's place in a long message
pub record Place : Type 0 where
  pub key : Key
  pub number : ℕ

abbrev pub place_of : Address → Option ConcatKey → Option Place
place_of source None = None
place_of source (Some k) = Some (record { key = record { source = source; reference = k.reference; total = k.total }; number = k.number })

-- the place of a part as it was submitted
abbrev pub place_submitted : Submission → UserData → Option Place
place_submitted s part = place_of s.source (header_key s.user_data_header_indicator part.octets)

abbrev pub place_read : Result Down TpduFault → Option Place
place_read (Ok (Deliver d)) = place_of d.originating_address (header_key d.user_data_header_indicator d.user_data.octets)
place_read (Ok (StatusReport r)) = None
place_read (Ok (SubmitReport r)) = None
place_read (Err fault) = None

-- the place of what the octets carry
unfoldable pub place_in : List ℕ → Option Place
place_in tpdu = place_read (down_at InData tpdu)

abbrev pub has_key : Key → Option Place → Bool
has_key k None = false
has_key k (Some p) = is_same_key p.key k

abbrev pub number_of : Option Place → ℕ
number_of None = 0
number_of (Some p) = p.number

-- ---- what it carries: the piece of a content that its user data hold behind the header

abbrev pub part_of : Result PartOf UnpackError → Option PartOf
part_of (Ok part) = Some part
part_of (Err fault) = None

-- what a part of a submission carries
abbrev pub part_submitted : Submission → UserData → Option PartOf
part_submitted s part = part_of (part_in s.user_data_header_indicator s.data_coding_scheme part.length part.octets)

abbrev pub part_read : Result Down TpduFault → Option PartOf
part_read (Ok (Deliver d)) = part_of (part_in d.user_data_header_indicator d.data_coding_scheme d.user_data.length d.user_data.octets)
part_read (Ok (StatusReport r)) = None
part_read (Ok (SubmitReport r)) = None
part_read (Err fault) = None

-- what the octets carry
unfoldable pub carried_in : List ℕ → Option PartOf
carried_in tpdu = part_read (down_at InData tpdu)

-- the parts so far, with one more
abbrev pub with_part : Option (List PartOf) → Option PartOf → Option (List PartOf)
with_part None part = None
with_part (Some parts) None = None
with_part (Some parts) (Some part) = Some (parts ++ part ∷ [])

-- what the parts join to, if they do
abbrev pub joined_parts : Option (List PartOf) → Option Content
joined_parts None = None
joined_parts (Some parts) = content_joined parts
