-- Parts of long messages (3GPP TS 23.040 9.2.3.24.1): groups, those that are full, those that the owner discarded.
use Rattle.std.specs.Prelude.{ℕ, ◌==◌, ◌||◌, List, [], ◌∷◌, Bool, false, zero, suc, ◌&&◌, true, Option, if◌then◌else◌, Some, None, Result, Ok, Err, ◌++◌}
use Rattle.std.specs.Str.{bytes_eq}
use Rattle.sms_base.specs.declared.address.Address.{Address}
use Rattle.sms_base.specs.AddressKind.{type_number}
use Rattle.sms_alphabet.specs.declared.unpacking.UnpackError.{UnpackError}
use Rattle.sms_concat.specs.Joining.{is_same_reference, content_joined}
use Rattle.sms_alphabet.specs.declared.concat_key.ConcatKey.{ConcatKey}
use Rattle.sms_concat.specs.UserData.{part_in}
use Rattle.sms_alphabet.specs.Concatenation.{header_key}
use Rattle.sms_concat.specs.declared.content.Part.{Part as PartOf}
use Rattle.sms_concat.specs.declared.content.Content.{Content}
use Rattle.sms_tpdu.specs.declared.deliver.Deliver.{Deliver as DeliverOf}
use Rattle.sms_tpdu.specs.declared.down.Down.{Down}
use Rattle.sms_tpdu.specs.declared.down.Down.TheVariants.{Deliver, StatusReport, SubmitReport}
use Rattle.sms_tpdu.specs.declared.fault.TpduFault.{TpduFault}
use Rattle.sms_tpdu.specs.declared.carrier.Carrier.TheVariants.{InData}
use Rattle.sms_tpdu.specs.TpduReading.{down_at}
use Rattle.sms_handset_rows.specs.declared.inbox.entry.Group.{Group}
use Rattle.sms_handset_rows.specs.declared.inbox.entry.Message.{Message}
use Rattle.sms_handset_rows.specs.declared.inbox.entry.Message.TheVariants.{Single, Part, Joined}
use Rattle.sms_handset_rows.specs.declared.inbox.entry.Entry.{Entry}
use Rattle.sms_handset_rows.specs.declared.inbox.discarded_group.DiscardedGroup.{DiscardedGroup}

-- ---- numbers

abbrev pub is_among : ℕ → List ℕ → Bool
is_among n [] = false
is_among n (m ∷ ms) = m == n || is_among n ms

-- the numbers from 1 to the total are all there
abbrev pub all_numbers : ℕ → List ℕ → Bool
all_numbers zero ns = true
all_numbers (suc total) ns = is_among (suc total) ns && all_numbers total ns

-- ---- groups

-- addresses are one where their types, their plans and their texts are
abbrev pub is_same_address : Address → Address → Bool
is_same_address a b = (type_number a.ton == type_number b.ton) && (a.npi == b.npi) && bytes_eq a.digits b.digits

abbrev pub is_same_group : Group → Group → Bool
is_same_group a b = is_same_address a.source b.source && is_same_reference a.reference b.reference && (a.total == b.total)

-- the group of a part that a DELIVER carries
abbrev pub group_of : Address → ConcatKey → Group
group_of source key = record { source = source; reference = key.reference; total = key.total }

-- the key of the part that a DELIVER carries, if it carries one
abbrev pub key_of : DeliverOf → Option ConcatKey
key_of m = header_key m.user_data_header_indicator m.user_data.octets

-- ---- open groups

abbrev pub is_part_of : Group → Message → Bool
is_part_of g (Single tpdu) = false
is_part_of g (Part group number tpdu) = is_same_group group g
is_part_of g (Joined source content) = false

-- the entries of a group, those with the lower numbers first
abbrev pub members : Group → List Entry → List Entry
members g [] = []
members g (e ∷ es) = if is_part_of g e.message then e ∷ members g es else members g es

abbrev pub part_number : Message → ℕ
part_number (Single tpdu) = 0
part_number (Part group number tpdu) = number
part_number (Joined source content) = 0

abbrev pub part_numbers : List Entry → List ℕ
part_numbers [] = []
part_numbers (e ∷ es) = part_number e.message ∷ part_numbers es

-- the number of the first of the entries
abbrev pub first_number : List Entry → ℕ
first_number [] = 0
first_number (e ∷ es) = e.number

-- ---- a full group

-- the octets of a part
abbrev pub part_tpdu : Message → List ℕ
part_tpdu (Single tpdu) = tpdu
part_tpdu (Part group number tpdu) = tpdu
part_tpdu (Joined source content) = []

-- the entry that holds the part of that number
abbrev pub part_with : ℕ → List Entry → Option Entry
part_with n [] = None
part_with n (e ∷ es) = if part_number e.message == n then Some e else part_with n es

-- what a DELIVER carries: a part of a text, or the whole
abbrev pub part_read : Result PartOf UnpackError → Option PartOf
part_read (Ok part) = Some part
part_read (Err fault) = None

abbrev pub carried_part : Result Down TpduFault → Option PartOf
carried_part (Ok (Deliver m)) = part_read (part_in m.user_data_header_indicator m.data_coding_scheme m.user_data.length m.user_data.octets)
carried_part (Ok (StatusReport r)) = None
carried_part (Ok (SubmitReport r)) = None
carried_part (Err fault) = None

abbrev pub entry_part : Option Entry → Option PartOf
entry_part None = None
entry_part (Some e) = carried_part (down_at InData (part_tpdu e.message))

-- the parts so far, with one more
abbrev pub with_part : Option (List PartOf) → Option PartOf → Option (List PartOf)
with_part None part = None
with_part (Some parts) None = None
with_part (Some parts) (Some part) = Some (parts ++ part ∷ [])

-- the parts with the numbers 1 to the total, in order
abbrev pub parts_to : ℕ → List Entry → Option (List PartOf)
parts_to zero es = Some []
parts_to (suc n) es = with_part (parts_to n es) (entry_part (part_with (suc n) es))

abbrev pub joined_parts : Option (List PartOf) → Option Content
joined_parts None = None
joined_parts (Some parts) = content_joined parts

-- the content that a full group joins to, if its parts join
abbrev pub joined_content : Group → List Entry → Option Content
joined_content g es = joined_parts (parts_to g.total es)

-- each becomes an entry of its own
abbrev pub alone : Entry → Entry
alone e = record e { message = Single (part_tpdu e.message) }

abbrev pub joined_entry : Group → List Entry → Content → Entry
joined_entry g es content = record { number = first_number es; slots = g.total; message = Joined g.source content }

abbrev pub single_entry : ℕ → List ℕ → Entry
single_entry number tpdu = record { number = number; slots = 1; message = Single tpdu }

abbrev pub part_entry : ℕ → Group → ℕ → List ℕ → Entry
part_entry number g n tpdu = record { number = number; slots = 1; message = Part g n tpdu }

-- ---- discarded groups

abbrev pub mark_of : Group → List DiscardedGroup → Option DiscardedGroup
mark_of g [] = None
mark_of g (m ∷ ms) = if is_same_group m.group g then Some m else mark_of g ms

abbrev pub is_open_part : Message → Bool
is_open_part (Single tpdu) = false
is_open_part (Part group number tpdu) = true
is_open_part (Joined source content) = false
