-- The world that a play state shows.
use Rattle.std.specs.Prelude.{◌≡◌, ℕ, List, [], Some}
use Rattle.sms_base.specs.Among.{Among}
use Rattle.sms_centre_rows.specs.declared.messages.message.MessageRow.{MessageRow}
use Rattle.sms_play.specs.PlayState.{Party, PlayState, numbers_of}
use Rattle.sms_play.specs.Playing.{report_of}
use Rattle.sms_script.specs.declared.report.rows.FrameRow.{FrameRow}
use Rattle.sms_tpdu.specs.declared.user_data.UserData.{UserData}
use Rattle.sms_world.specs.centres_refine_the_world.RefinesGiven.{RefinesHolders}
use Rattle.sms_world.specs.centres_refine_the_world.RefinesReports.{RefinesReports, reports_by}
use Rattle.sms_world.specs.headline.SeenWorld.{AgreesDown, AgreesUp, PartSeen, RefinesHandset, RefinesReceipts, RefinesTable, all_seen, messages_by, parts_by}
use Rattle.sms_world.specs.headline.SentRows.{IsWholeBy}
use Rattle.sms_world_model.specs.Groups.{OccursOnce}
use Rattle.sms_world_model.specs.Submission.{HasPart, IsDeliverOf, Submission}
use Rattle.sms_world_model.specs.World.{Accepted, IsRecorded, State, World}

-- The part's row is a DELIVER of that part of the submission that the table has under the number: its source, protocol identifier, data coding,
-- reply path, header mark and user data are the submission's (3GPP TS 23.040 9.2.2.1).
abbrev pub IsAsInTable : World → ℕ → ℕ → PartSeen → Type 0
IsAsInTable w id number p =
    (u : Submission) × (st : State) × (part : UserData) × (moment : ℕ)
    × (IsRecorded w.table id u st × HasPart u number part × IsDeliverOf u part moment p.tpdu)

pub record SeenWorld (c : PlayState) (w : World) : Type 0 where
  -- each row of a message is in the table with its parts and its state, and each message of the table has a row
  pub table : RefinesTable (messages_by c.centre.rows.messages) (parts_by c.centre.rows.parts) w.table
  -- what the rows of parts say is what the submissions of the table do
  pub parts : (id number : ℕ) (m : MessageRow) (p : PartSeen) → messages_by c.centre.rows.messages id ≡ Some m → parts_by c.centre.rows.parts id number ≡ Some p
      → IsAsInTable w id number p
  pub receipts : RefinesReceipts (report_of c).receipts w.receipts
  -- a status report is open exactly while its row is neither answered nor dropped
  pub reports : RefinesReports (reports_by c.centre.rows.reports) w.receipts w.reports
  pub handsets : (q : Party) → Among q c.parties → RefinesHandset q w
  -- no two handsets have one number
  pub apart : (q : Party) → Among q c.parties → OccursOnce q.number (numbers_of c.parties)
  -- no one else accepts
  pub takers : (a : Accepted) → Among a w.accepted → (q : Party) × (Among q c.parties × (q.number ≡ a.handset))
  -- the rows of allocations are the world's, those of the centre with their moments; and so is to whom each reference was given last
  pub given : AgreesDown c.given w.down
  -- Each part and each status report of the rows was given its reference, with the TPDU of its row. The centre gave to no others.
  pub holders : RefinesHolders (messages_by c.centre.rows.messages) (parts_by c.centre.rows.parts) (reports_by c.centre.rows.reports) w.down
  pub given_up : (handset : List ℕ) → AgreesUp handset c.given w.up
  -- the frames are the world's, by their numbers
  pub bag : w.bag ≡ all_seen [] c.bag
  -- their octets say the kind and the reference that they are said to carry
  pub sent : (f : FrameRow) → Among f c.bag → IsWholeBy f.direction f.octets f.carried
