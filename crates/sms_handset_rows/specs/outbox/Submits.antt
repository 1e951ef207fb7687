-- The SUBMIT of a part that the owner wrote, and its entry.
use Rattle.std.specs.Prelude.{ℕ, List, ◌*◌, ◌^◌, ◌++◌, length, Bool, false, [], None}
use Rattle.sms_base.specs.declared.address.Address.{Address}
use Rattle.sms_alphabet.specs.declared.scheme.Coding.TheVariants.{Septets, Ucs2, Octets, Compressed}
use Rattle.sms_alphabet.specs.declared.scheme.Coding.{Coding}
use Rattle.sms_alphabet.specs.Packing.{value_in, packed_len, digits_in}
use Rattle.sms_concat.specs.UserData.{fill_bits, header_of, data_length, is_there}
use Rattle.sms_concat.specs.declared.content.Part.{Part as PartOf}
use Rattle.sms_tpdu.specs.declared.submit.Submit.{Submit}
use Rattle.sms_tpdu.specs.declared.validity_period.ValidityPeriod.TheVariants.{NotPresent}
use Rattle.sms_tpdu.specs.AddressGrammar.{address_field}
use Rattle.sms_tpdu.specs.TpduGrammar.{submit_head, submit_fields}
use Rattle.sms_handset_rows.specs.declared.outbox.out_entry.EntryState.TheVariants.{Queued}
use Rattle.sms_handset_rows.specs.declared.outbox.out_entry.OutEntry.{OutEntry}

-- the octets of units behind a header: septets packed behind fill bits, other units as they are
abbrev pub packed_behind : List ℕ → Coding → List ℕ → List ℕ
packed_behind header Septets units =
    header ++ digits_in 256 (packed_len (fill_bits (length header)) (length units)) (2 ^ fill_bits (length header) * value_in 128 units)
packed_behind header Octets units = header ++ units
packed_behind header Ucs2 units = header ++ units
packed_behind header Compressed units = header ++ units

-- the SUBMIT of a part: TP-PID 0, no validity period, no reply path
abbrev pub submit_for : ℕ → Address → Bool → PartOf → Submit
submit_for message_reference destination report part = record {
  reject_duplicates = false;
  status_report_request = report;
  user_data_header_indicator = is_there (header_of part.key);
  reply_path = false;
  message_reference = message_reference;
  destination_address = destination;
  protocol_identifier = 0;
  data_coding_scheme = part.content.dcs;
  validity_period = NotPresent;
  user_data = record {
    length = data_length part.content.coding (length (header_of part.key)) (length part.content.units);
    octets = packed_behind (header_of part.key) part.content.coding part.content.units;
  };
}

abbrev pub submit_octets : Submit → List ℕ
submit_octets s = submit_fields (submit_head s) (address_field s.destination_address) [] s

abbrev pub written_entry : ℕ → ℕ → ℕ → Address → Bool → Bool → PartOf → OutEntry
written_entry number message_reference reference destination report is_long part = record {
  number = number;
  message_reference = message_reference;
  reference = reference;
  destination = destination;
  tpdu = submit_octets (submit_for message_reference destination report part);
  is_long = is_long;
  state = Queued;
  tries = 0;
  rejects_duplicates = false;
  due = None;
  status = None;
}
