-- Whence a message is: the event of the script that submitted it, and what it submitted.
use Rattle.std.specs.Prelude.{◌≡◌, ℕ, zero, suc, ◌≤◌, List, length, if◌then◌else◌, Option, Some, None, slice_get, Ok, [], ◌∷◌, ◌++◌}
use Rattle.sms_base.specs.Among.{Among}
use Rattle.sms_base.specs.HandsetNumber.{own_address}
use Rattle.sms_base.specs.declared.originator.Originator.TheVariants.{Handset}
use Rattle.sms_intake.specs.declared.submission.SinglePart.{SinglePart}
use Rattle.sms_intake.specs.declared.submission.Submission.{Submission}
use Rattle.sms_intake.specs.HandsetIntake.{wish_of}
use Rattle.sms_intake.specs.PartBodies.{bodies_under, is_long}
use Rattle.sms_centre_rows.specs.declared.messages.message.MessageRow.{MessageRow}
use Rattle.sms_centre_rows.specs.declared.messages.part.PartRow.{PartRow}
use Rattle.sms_centre_rows.specs.messages.Messages.{message_at, part_at}
use Rattle.sms_tpdu.specs.declared.carrier.Carrier.TheVariants.{InData}
use Rattle.sms_tpdu.specs.declared.deliver.Deliver.{Deliver as DeliverOf}
use Rattle.sms_tpdu.specs.declared.down.Down.TheVariants.{Deliver as DeliverDown}
use Rattle.sms_tpdu.specs.declared.user_data.UserData.{UserData}
use Rattle.sms_tpdu.specs.MoreMessages.{compared}
use Rattle.sms_tpdu.specs.TpduReading.{down_at, up_at}
use Rattle.sms_control.specs.ControlReading.{cp_at}
use Rattle.sms_world.specs.headline.SeenFrames.{frame_tpdu}
use Rattle.sms_intake.specs.declared.submission.CentreAccount.{CentreAccount}
use Rattle.sms_intake.specs.SmppIntake.{from_pdu}
use Rattle.sms_centre_spec.specs.MessageNumbers.{next_number}
use Rattle.sms_centre_spec.specs.Requests.{account_at}
use Rattle.sms_play.specs.PlayState.{PlayState, Party}
use Rattle.sms_play.specs.Meeting.{account_from}
use Rattle.sms_script.specs.Requests.{submit_of}
use Rattle.sms_play.specs.Playing.{play_state_of, report_of}
use Rattle.sms_play.specs.Premises.{pairs_of}
use Rattle.sms_script.specs.declared.report.rows.Direction.TheVariants.{Up}
use Rattle.sms_script.specs.declared.report.rows.FrameRow.{FrameRow}
use Rattle.sms_script.specs.declared.event.Act.{Act}
use Rattle.sms_script.specs.declared.event.Act.TheVariants.{Submit, Query, Cancel, Write, Delete, Discard, Deliver, Tick}
use Rattle.sms_script.specs.declared.event.StopPoint.TheVariants.{After, Before}
use Rattle.sms_script.specs.declared.event.Submission.{Submission as ScriptSubmission}
use Rattle.sms_script.specs.declared.event.WorldEvent.{WorldEvent}
use Rattle.sms_script.specs.declared.event.WorldEvent.TheVariants.{Whole, Stopped, Restart}
use Rattle.sms_script.specs.declared.setup.Setup.{Setup}
use Rattle.sms_tpdu.specs.declared.submit.Submit.{Submit as SubmitOf}
use Rattle.sms_tpdu.specs.declared.up.Up.TheVariants.{Submit as SubmitUp}
use Rattle.sms_world_model.specs.Groups.{OccursOnce}
use Rattle.sms_world_model.specs.World.{Accepted}
use Rattle.sms_script.specs.declared.report.rows.GivenRow.{GivenRow}
use Rattle.sms_world.specs.headline.Claims.{IsGivenTo}
use Rattle.sms_base.specs.declared.final_state.FinalState.TheVariants.{Delivered}
use Rattle.sms_centre_rows.specs.declared.report_lines.MessageState.TheVariants.{Final}
use Rattle.sms_centre_rows.specs.declared.report_lines.ReportedMessage.{ReportedMessage}
use Rattle.sms_centre_rows.specs.declared.report_lines.ReceiptRow.{ReceiptRow}

-- ---- a submission, and the rows of its message

abbrev pub user_data_of : SinglePart → UserData
user_data_of b = record { length = b.length; octets = b.octets }

-- The octets are a DELIVER (3GPP TS 23.040 9.2.2.1) of that part of the submission. What else a DELIVER says (TP-SCTS, TP-MMS, TP-SRI) is
-- the centre's own.
pub record IsDeliverFor (u : Submission) (b : SinglePart) (tpdu : List ℕ) : Type 0 where
  pub deliver : DeliverOf
  pub reads : down_at InData tpdu ≡ Ok (DeliverDown deliver)
  pub source : deliver.originating_address ≡ u.source
  pub protocol_identifier : deliver.protocol_identifier ≡ u.protocol_identifier
  pub data_coding_scheme : deliver.data_coding_scheme ≡ b.data_coding_scheme
  pub reply_path : deliver.reply_path ≡ u.reply_path
  pub header_indicator : deliver.user_data_header_indicator ≡ b.header_indicator
  pub user_data : deliver.user_data ≡ user_data_of b

-- the part of that number, from 1 on
abbrev pub part_numbered : ℕ → List SinglePart → Option SinglePart
part_numbered zero parts = None
part_numbered (suc n) parts = slice_get parts n

-- a text that is split takes a reference, and no other does
abbrev pub split_under : Submission → ℕ → Option ℕ
split_under u reference = if is_long u.text then Some reference else None

-- The message is that submission. That is what its row says of it, and each part of it, under its number and no other, as it is
-- offered.
pub record IsSubmitted (u : Submission) (m : MessageRow) (parts : List PartRow) : Type 0 where
  pub originator : m.originator ≡ u.originator
  pub source : m.source ≡ u.source
  pub handset : m.handset ≡ u.handset
  pub protocol_identifier : m.protocol_identifier ≡ u.protocol_identifier
  pub wish : m.wish ≡ u.wish
  pub limit : m.limit ≡ u.limit
  pub reference : ℕ
  pub split : m.split_reference ≡ split_under u reference
  pub few : length (bodies_under reference u.text) ≤ 20
  pub each : (n : ℕ) (b : SinglePart) → part_numbered n (bodies_under reference u.text) ≡ Some b
      → (p : PartRow) × ((part_at m.id n parts ≡ Some p) × IsDeliverFor u b (compared p.tpdu))
  pub only : (p : PartRow) → Among p parts → p.id ≡ m.id
      → (b : SinglePart) × ((part_numbered p.number (bodies_under reference u.text) ≡ Some b) × IsDeliverFor u b (compared p.tpdu))

-- ---- an application's submit_sm (SMPP v3.4 4.4)

-- At that play state the line's submit_sm, of its account, reads as a submission, and the message is that, under the next number.
pub record IsOfApplication (s : ScriptSubmission) (before : PlayState) (m : MessageRow) (parts : List PartRow) : Type 0 where
  pub number : m.id ≡ next_number before.centre.rows
  pub place : ℕ
  pub account : CentreAccount
  pub submission : Submission
  pub named : account_from 0 s.name before.centre.rows.setup.accounts ≡ Some place
  pub its : account_at place before.centre.rows.setup.accounts ≡ Some account
  pub reads : from_pdu account before.centre.moment (submit_of s) ≡ Ok submission
  pub is : IsSubmitted submission m parts

-- ---- a handset's SUBMIT (3GPP TS 23.040 9.2.2.2)

-- The octets are a DELIVER from that source with the user data of the SUBMIT, and what else both say.
pub record IsDeliverOfSubmit (submit : SubmitOf) (m : MessageRow) (tpdu : List ℕ) : Type 0 where
  pub deliver : DeliverOf
  pub reads : down_at InData tpdu ≡ Ok (DeliverDown deliver)
  pub source : deliver.originating_address ≡ m.source
  pub protocol_identifier : deliver.protocol_identifier ≡ submit.protocol_identifier
  pub data_coding_scheme : deliver.data_coding_scheme ≡ submit.data_coding_scheme
  pub reply_path : deliver.reply_path ≡ submit.reply_path
  pub header_indicator : deliver.user_data_header_indicator ≡ submit.user_data_header_indicator
  pub user_data : deliver.user_data ≡ submit.user_data

-- Among the frames sent so far one of that number was sent up with a SUBMIT. The message is from its handset, which submitted it, to the
-- SUBMIT's destination, with its wish (TP-SRR). It has the next number, and is one part, with the SUBMIT's user data.
pub record IsOfHandset (number : ℕ) (before : PlayState) (m : MessageRow) (parts : List PartRow) : Type 0 where
  pub next : m.id ≡ next_number before.centre.rows
  pub frame : FrameRow
  pub there : Among frame before.bag
  pub numbered : frame.number ≡ number
  pub from_handset : frame.direction ≡ Up
  pub submit : SubmitOf
  pub reads : up_at InData (frame_tpdu (cp_at frame.octets)) ≡ Ok (SubmitUp submit)
  -- its TP-Message-Reference (9.2.3.6), which a STATUS-REPORT gives back
  pub originator : m.originator ≡ Handset submit.message_reference
  pub source : m.source.digits ≡ frame.handset
  -- an international number of the telephone numbering plan
  pub address : m.source ≡ own_address m.source.digits
  pub wish : m.wish ≡ wish_of submit.status_report_request
  pub handset : m.handset ≡ submit.destination_address.digits
  pub part : PartRow
  pub part_there : part_at m.id 1 parts ≡ Some part
  pub alone : (p : PartRow) → Among p parts → p.id ≡ m.id → p ≡ part
  pub carries : IsDeliverOfSubmit submit m (compared part.tpdu)

-- ---- an event

abbrev pub ActMakes : Act → PlayState → MessageRow → List PartRow → Type 0
ActMakes (Submit s) before m parts = IsOfApplication s before m parts
ActMakes (Query name id) before m parts = ⊥
ActMakes (Cancel name id) before m parts = ⊥
ActMakes (Write handset to report text) before m parts = ⊥
ActMakes (Delete handset entry) before m parts = ⊥
ActMakes (Discard handset entry) before m parts = ⊥
ActMakes (Deliver number) before m parts = IsOfHandset number before m parts
ActMakes (Tick side now) before m parts = ⊥

-- a side that is stopped before its store call has stored nothing of the event
abbrev pub MakesMessage : WorldEvent → PlayState → MessageRow → List PartRow → Type 0
MakesMessage (Whole act) before m parts = ActMakes act before m parts
MakesMessage (Stopped Before act) before m parts = ⊥
MakesMessage (Stopped After act) before m parts = ActMakes act before m parts
MakesMessage (Restart side) before m parts = ⊥

-- One of the events, at the play state that those before it led to, made the message. It is there from that event on.
pub record IsFrom (s : Setup) (events : List WorldEvent) (m : MessageRow) (parts : List PartRow) : Type 0 where
  pub some : List WorldEvent
  pub event : WorldEvent
  pub others : List WorldEvent
  pub among : events ≡ some ++ event ∷ others
  pub before : PlayState
  pub leads : play_state_of s some ≡ Ok before
  pub makes : MakesMessage event before m parts
  -- at the centre's moment then, which its receipt or status report says
  pub submitted : m.submitted ≡ before.centre.moment
  pub next : PlayState
  pub leads_next : play_state_of s (some ++ event ∷ []) ≡ Ok next
  pub there : (x : MessageRow) × (message_at m.id next.centre.rows.messages ≡ Some x)

-- whatever happens, each message did
abbrev pub AreFromEvents : Setup → List WorldEvent → PlayState → Type 0
AreFromEvents s events c = (m : MessageRow) → Among m c.centre.rows.messages → IsFrom s events m c.centre.rows.parts

-- ---- while frames are timely

-- the handset of that number is one of the script's, and accepted that pair exactly once. It accepted it under the reference that the
-- centre gave that part, and with the moment of that giving as its time stamp
abbrev pub AcceptedOnce : PlayState → List ℕ → ℕ → ℕ → Accepted → Type 0
AcceptedOnce c handset id number a =
    (q : Party) × (Among q c.parties × (q.number ≡ handset) × OccursOnce a (pairs_of [] q.accepted) × ((g : GivenRow) × IsGivenTo c id number a g))

-- of an application's submission each part, and of a handset's SUBMIT its user data
abbrev pub AllAccepted : PlayState → MessageRow → Submission → ℕ → Type 0
AllAccepted c m u reference =
    (n : ℕ) (b : SinglePart) → part_numbered n (bodies_under reference u.text) ≡ Some b
    → (a : Accepted) × (AcceptedOnce c m.handset m.id n a × IsDeliverFor u b a.tpdu)

abbrev pub SubmitAccepted : PlayState → MessageRow → SubmitOf → Type 0
SubmitAccepted c m submit = (a : Accepted) × (AcceptedOnce c m.handset m.id 1 a × IsDeliverOfSubmit submit m a.tpdu)

abbrev pub ActAccepted : (act : Act) → (c before : PlayState) → (m : MessageRow) → ActMakes act before m c.centre.rows.parts → Type 0
ActAccepted (Submit s) c before m makes = AllAccepted c m makes.submission makes.is.reference
ActAccepted (Query name id) c before m makes = ⊥
ActAccepted (Cancel name id) c before m makes = ⊥
ActAccepted (Write handset to report text) c before m makes = ⊥
ActAccepted (Delete handset entry) c before m makes = ⊥
ActAccepted (Discard handset entry) c before m makes = ⊥
ActAccepted (Deliver number) c before m makes = SubmitAccepted c m makes.submit
ActAccepted (Tick side now) c before m makes = ⊥

abbrev pub WasAccepted : (e : WorldEvent) → (c before : PlayState) → (m : MessageRow) → MakesMessage e before m c.centre.rows.parts → Type 0
WasAccepted (Whole act) c before m makes = ActAccepted act c before m makes
WasAccepted (Stopped Before act) c before m makes = ⊥
WasAccepted (Stopped After act) c before m makes = ActAccepted act c before m makes
WasAccepted (Restart side) c before m makes = ⊥

-- What an event submitted was accepted by its handset, exactly once, all of it.
abbrev pub IsDeliveredFrom : Setup → List WorldEvent → PlayState → MessageRow → Type 0
IsDeliveredFrom s events c m = (o : IsFrom s events m c.centre.rows.parts) × WasAccepted o.event c o.before m o.makes

-- a receipt or status report that says DELIVRD, and the line of a message that says so
abbrev pub ReportedDelivered : Setup → List WorldEvent → PlayState → Type 0
ReportedDelivered s events c =
    (x : ReceiptRow) → Among x (report_of c).receipts → x.state ≡ Delivered
    → (m : MessageRow) × (Among m c.centre.rows.messages × (m.id ≡ x.id) × IsDeliveredFrom s events c m)

abbrev pub LinesDelivered : Setup → List WorldEvent → PlayState → Type 0
LinesDelivered s events c =
    (x : ReportedMessage) → Among x (report_of c).table → x.state ≡ Final Delivered
    → (m : MessageRow) × (Among m c.centre.rows.messages × (m.id ≡ x.id) × IsDeliveredFrom s events c m)
