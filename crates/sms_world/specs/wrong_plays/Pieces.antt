-- A text of two parts that a handset joined, and more of what a play state may lack.
use Rattle.std.specs.Prelude.{ℕ, List, [], ◌∷◌, Some}
use Rattle.sms_alphabet.specs.declared.concat_key.ConcatKey.{ConcatKey}
use Rattle.sms_alphabet.specs.declared.concat_key.ConcatReference.TheVariants.{EightBit}
use Rattle.sms_base.specs.declared.final_state.FinalState.TheVariants.{Delivered}
use Rattle.sms_base.specs.declared.holder.Holder.TheVariants.{Part}
use Rattle.sms_centre_rows.specs.declared.messages.message.MessageRow.{MessageRow}
use Rattle.sms_centre_rows.specs.declared.messages.part.PartRow.{PartRow}
use Rattle.sms_centre_rows.specs.declared.reports.report.ReportKind.TheVariants.{Receipt, Status}
use Rattle.sms_handset_draft.specs.Draft.{recovered as handset_recovered}
use Rattle.sms_handset_draft.specs.FirstRows.{first_rows}
use Rattle.sms_play.specs.PlayState.{Party, PlayState}
use Rattle.sms_play.specs.Setups.{handset_setup}
use Rattle.sms_script.specs.declared.report.rows.AcceptedRow.{AcceptedRow}
use Rattle.sms_script.specs.declared.report.rows.GivenRow.{GivenRow}
use Rattle.sms_world.specs.centres_refine_the_world.RefinesReports.{RefinesReports, reports_by}
use Rattle.sms_world.specs.headline.Claims.{JoinedWhole, SentSubmitted}
use Rattle.sms_world.specs.headline.SeenWorld.{RefinesHandset, entry_seen}
use Rattle.sms_world.specs.wrong_plays.Plays.{entry, from_application, from_writer, of_handset, part_one, part_two, party, report_row, sent, setup}
use Rattle.sms_world.specs.wrong_plays.Plays.{status_report, with_rows, writers_core}
use Rattle.sms_world.specs.wrong_plays.Shown.{receipt_there}
use Rattle.sms_world.specs.wrong_reports.Literals.{given, handset, joined_row, writer}
use Rattle.sms_world_model.specs.World.{empty}

-- ---- two messages of one part each, which are the two parts of one text

-- a DELIVER of 8-bit data behind the header of the 8-bit reference 7 (3GPP TS 23.040 9.2.3.24.1)
abbrev pub piece_deliver : ℕ → ℕ → List ℕ
piece_deliver number octet =
    100 ∷ 8 ∷ 145 ∷ 81 ∷ 85 ∷ 0 ∷ 16 ∷ 0 ∷ 4 ∷ 0 ∷ 16 ∷ 16 ∷ 0 ∷ 0 ∷ 0 ∷ 0 ∷ 7 ∷ 5 ∷ 0 ∷ 3 ∷ 7 ∷ 2 ∷ number ∷ octet ∷ []

abbrev pub piece_message : ℕ → MessageRow
piece_message id = record from_application { id = id; data_coding_scheme = 4 }

abbrev pub piece_key : ℕ → ConcatKey
piece_key number = record { reference = EightBit 7; total = 2; number = number }

abbrev pub piece_part : ℕ → ℕ → PartRow
piece_part id octet = record part_one { id = id; reference = id; tpdu = piece_deliver id octet; key = Some (piece_key id) }

abbrev pub piece_given : ℕ → GivenRow
piece_given id = record given { reference = id; holder = Part id 1 }

abbrev pub piece_accepted : ℕ → ℕ → AcceptedRow
piece_accepted id octet = record { handset = handset; reference = id; tpdu = piece_deliver id octet }

abbrev pub pieces_party : Party
pieces_party = record {
  number = handset;
  core = handset_recovered (first_rows (handset_setup setup of_handset));
  accepted = piece_accepted 1 65 ∷ piece_accepted 2 66 ∷ [];
  joined = joined_row ∷ [];
}

-- with those references given
abbrev pub pieces : List GivenRow → PlayState
pieces rows = record (with_rows (piece_message 1 ∷ piece_message 2 ∷ []) (piece_part 1 65 ∷ piece_part 2 66 ∷ []) []) {
  parties = pieces_party ∷ [];
  given = rows;
}

abbrev pub RightRoundLaw : Type 0
RightRoundLaw = JoinedWhole (pieces (piece_given 1 ∷ piece_given 2 ∷ []))

-- none of its references was given
abbrev pub NoRoundLaw : Type 0
NoRoundLaw = ¬ JoinedWhole (pieces [])

-- ---- entries, reports, and what a handset joined

abbrev pub TwoPartsLaw : Type 0
TwoPartsLaw = ¬ SentSubmitted (sent (from_writer ∷ []) (part_two ∷ record part_two { number = 2 } ∷ []))

abbrev pub JoinedUnknownLaw : Type 0
JoinedUnknownLaw = ¬ RefinesHandset (record (party handset [] writers_core) { joined = joined_row ∷ [] }) empty

abbrev pub EntryWithoutRowLaw : Type 0
EntryWithoutRowLaw =
    ¬ RefinesHandset (party writer [] (handset_recovered (first_rows (handset_setup setup of_handset))))
    (record empty { outbox = entry_seen writer entry ∷ [] })

abbrev pub ReportUnknownLaw : Type 0
ReportUnknownLaw = ¬ RefinesReports (reports_by (report_row 1 1 Receipt ∷ [])) [] []

abbrev pub ReportWithoutRowLaw : Type 0
ReportWithoutRowLaw = ¬ RefinesReports (reports_by []) (receipt_there ∷ []) []

-- a status report that is not answered, and is not open
abbrev pub ReportShutLaw : Type 0
ReportShutLaw = ¬ RefinesReports (reports_by (report_row 1 2 (Status 0 status_report) ∷ [])) (record { id = 2; state = Delivered } ∷ []) []
