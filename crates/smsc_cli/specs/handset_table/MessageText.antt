-- What a short message says, as a person reads it.
use Rattle.std.specs.Prelude.{ℕ, Bool, List, ◌++◌, length, codes, decimal, Result, Ok, Err}
use Rattle.sms_alphabet.specs.TextReading.{text_read}
use Rattle.sms_alphabet.specs.Ucs2.{ucs2_in}
use Rattle.sms_alphabet.specs.declared.scheme.Coding.{Coding}
use Rattle.sms_alphabet.specs.declared.scheme.Coding.TheVariants.{Septets, Octets, Ucs2, Compressed}
use Rattle.sms_alphabet.specs.declared.unpacking.UnpackError.{UnpackError}
use Rattle.sms_concat.specs.UserData.{part_in}
use Rattle.sms_concat.specs.declared.content.Content.{Content}
use Rattle.sms_concat.specs.declared.content.Part.{Part}
use Rattle.sms_tpdu.specs.declared.down.Down.{Down}
use Rattle.sms_tpdu.specs.declared.down.Down.TheVariants.{Deliver, StatusReport, SubmitReport}
use Rattle.sms_tpdu.specs.declared.fault.TpduFault.{TpduFault}
use Rattle.sms_tpdu.specs.declared.up.Up.{Up}
use Rattle.sms_tpdu.specs.declared.up.Up.TheVariants.{Submit, DeliverReport}
use Rattle.sms_tpdu.specs.declared.user_data.UserData.{UserData}
use Rattle.smsc_cli.specs.columns.Columns.{on_line}

-- octets that can't be read as a text
abbrev pub no_text : List ℕ
no_text = codes "(no text)"

abbrev pub read_text : {F : Type 0} → Result (List ℕ) F → List ℕ
read_text (Ok text) = on_line text
read_text (Err fault) = no_text

abbrev pub octets_text : List ℕ → List ℕ
octets_text units = codes "(" ++ (decimal (length units) ++ codes " octets)")

-- by how the units are coded (3GPP TS 23.038)
abbrev pub units_text : Coding → List ℕ → List ℕ
units_text Septets units = read_text (text_read units)
units_text Ucs2 units = read_text (ucs2_in units)
units_text Octets units = octets_text units
units_text Compressed units = octets_text units

abbrev pub content_text : Content → List ℕ
content_text content = units_text content.coding content.units

abbrev pub part_text : Result Part UnpackError → List ℕ
part_text (Ok part) = content_text part.content
part_text (Err fault) = no_text

-- of user data, by its header mark and its data coding scheme (3GPP TS 23.040 9.2.3.24)
abbrev pub user_data_text : Bool → ℕ → UserData → List ℕ
user_data_text indicator scheme carried = part_text (part_in indicator scheme carried.length carried.octets)

-- what a DELIVER says
abbrev pub delivered_text : Result Down TpduFault → List ℕ
delivered_text (Ok (Deliver m)) = user_data_text m.user_data_header_indicator m.data_coding_scheme m.user_data
delivered_text (Ok (StatusReport report)) = no_text
delivered_text (Ok (SubmitReport report)) = no_text
delivered_text (Err fault) = no_text

-- what a SUBMIT says
abbrev pub submitted_text : Result Up TpduFault → List ℕ
submitted_text (Ok (Submit m)) = user_data_text m.user_data_header_indicator m.data_coding_scheme m.user_data
submitted_text (Ok (DeliverReport report)) = no_text
submitted_text (Err fault) = no_text
