-- For each field of `SeenWorld` a play state and a world that does not show it. Most differ from the beginning in one thing.
use Rattle.std.specs.Prelude.{◌≡◌, [], ◌∷◌, None}
use Rattle.sms_base.specs.declared.final_state.FinalState.TheVariants.{Delivered}
use Rattle.sms_base.specs.declared.holder.Holder.TheVariants.{Entry}
use Rattle.sms_play.specs.PlayState.{numbers_of}
use Rattle.sms_script.specs.declared.report.rows.Direction.TheVariants.{Down, Up}
use Rattle.sms_script.specs.declared.report.rows.GivenRow.{GivenRow}
use Rattle.sms_world.specs.centres_refine_the_world.RefinesGiven.{RefinesHolders}
use Rattle.sms_world.specs.centres_refine_the_world.RefinesReports.{RefinesReports, reports_by}
use Rattle.sms_world.specs.headline.SeenPlay.{IsAsInTable, SeenWorld}
use Rattle.sms_world.specs.headline.SeenWorld.{AgreesDown, AgreesUp, PartSeen, RefinesHandset, RefinesReceipts, RefinesTable, all_seen, messages_by, parts_by}
use Rattle.sms_world.specs.headline.SentRows.{IsWholeBy}
use Rattle.sms_world.specs.wrong_plays.Plays.{first, frame_to, from_application, part_one, party, writers_core}
use Rattle.sms_world.specs.wrong_reports.Literals.{accepted, given, handset, hello_octets, receipt, writer}
use Rattle.sms_world.specs.wrong_reports.Worlds.{given_to}
use Rattle.sms_world_model.specs.Groups.{OccursOnce}
use Rattle.sms_world_model.specs.World.{Pending, ReceiptOf, empty}
use Rattle.sms_world_model.specs.Submission.{Never, Submission}
use Rattle.sms_base.specs.HandsetNumber.{own_address}
use Rattle.std.specs.Prelude.{false}

-- the beginning shows the empty world
abbrev pub BeginningLaw : Type 0
BeginningLaw = SeenWorld first empty

-- ---- table, and what its parts say

-- a message of the rows that the world does not have
abbrev pub MessageUnknownLaw : Type 0
MessageUnknownLaw = ¬ RefinesTable (messages_by (from_application ∷ [])) (parts_by (part_one ∷ [])) empty.table

abbrev pub submission : Submission
submission = record {
  id = 1;
  source = own_address writer;
  handset = handset;
  protocol_identifier = 0;
  data_coding_scheme = 0;
  reply_path = false;
  user_data_header_indicator = false;
  limit = 946771200;
  wish = Never;
  by_report = false;
  parts = [];
}

-- a message of the world that has no row
abbrev pub MessageWithoutRowLaw : Type 0
MessageWithoutRowLaw = ¬ RefinesTable (messages_by []) (parts_by []) (record { submission = submission; state = Pending [] } ∷ [])

-- the row of a part, of which the world has no message
abbrev pub PartUnknownLaw : Type 0
PartUnknownLaw = (p : PartSeen) → ¬ IsAsInTable empty 1 1 p

-- ---- receipts and reports

abbrev pub receipt_there : ReceiptOf
receipt_there = record { id = 1; state = Delivered }

abbrev pub ReceiptUnknownLaw : Type 0
ReceiptUnknownLaw = ¬ RefinesReceipts (receipt ∷ []) empty.receipts

abbrev pub ReceiptUnlistedLaw : Type 0
ReceiptUnlistedLaw = ¬ RefinesReceipts [] (receipt_there ∷ [])

-- a status report is open of which there is no row
abbrev pub OpenReportLaw : Type 0
OpenReportLaw = ¬ RefinesReports (reports_by []) [] (1 ∷ [])

-- ---- handsets

-- it accepted what the world does not know
abbrev pub AcceptedUnknownLaw : Type 0
AcceptedUnknownLaw = ¬ RefinesHandset (party handset (accepted hello_octets ∷ []) writers_core) empty

abbrev pub EntryUnknownLaw : Type 0
EntryUnknownLaw = ¬ RefinesHandset (party writer [] writers_core) empty

-- two handsets of one number
abbrev pub NotApartLaw : Type 0
NotApartLaw = ¬ OccursOnce handset (numbers_of (party handset [] writers_core ∷ party handset [] writers_core ∷ []))

-- ---- references

abbrev pub GivenUnknownLaw : Type 0
GivenUnknownLaw = ¬ AgreesDown (given ∷ []) empty.down

abbrev pub GivenWithoutRowLaw : Type 0
GivenWithoutRowLaw = ¬ AgreesDown [] (given_to 1 ∷ [])

-- it was given to a part that has no row
abbrev pub HolderWithoutRowLaw : Type 0
HolderWithoutRowLaw = ¬ RefinesHolders (messages_by []) (parts_by []) (reports_by []) (given_to 1 ∷ [])

-- a part's row has a reference that was not given
abbrev pub PartNotGivenLaw : Type 0
PartNotGivenLaw = ¬ RefinesHolders (messages_by (from_application ∷ [])) (parts_by (part_one ∷ [])) (reports_by []) []

abbrev pub given_up : GivenRow
given_up = record { handset = writer; direction = Up; reference = 0; holder = Entry 1; moment = 946684800 }

abbrev pub GivenUpUnknownLaw : Type 0
GivenUpUnknownLaw = ¬ AgreesUp writer (given_up ∷ []) empty.up

-- ---- frames

abbrev pub FrameUnknownLaw : Type 0
FrameUnknownLaw = ¬ (empty.bag ≡ all_seen [] (frame_to writer ∷ []))

-- its octets say nothing
abbrev pub FrameSaysNothingLaw : Type 0
FrameSaysNothingLaw = ¬ IsWholeBy Down [] None
