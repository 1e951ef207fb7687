-- What is claimed of the report of a script, and of the play state that it is read off.
use Rattle.std.specs.Prelude.{◌≡◌, List, [], ◌∷◌, ℕ, Some, None, false, Ok, true, Result, Err, ◌+◌, ◌<◌, ◌≤◌}
use Rattle.sms_base.specs.Among.{Among}
use Rattle.sms_base.specs.declared.final_state.FinalState.{FinalState}
use Rattle.sms_centre_rows.specs.declared.report_lines.MessageState.TheVariants.{Final}
use Rattle.sms_script.specs.declared.report.Report.{Report}
use Rattle.sms_centre_rows.specs.declared.report_lines.ReportedMessage.{ReportedMessage}
use Rattle.sms_centre_rows.specs.declared.report_lines.ReceiptRow.{ReceiptRow}
use Rattle.sms_base.specs.declared.holder.Holder.{Holder}
use Rattle.sms_base.specs.declared.holder.Holder.TheVariants.{Part, Report as ReportHolder, Entry, Memory}
use Rattle.sms_centre_spec.specs.declared.rows.Rows.{Rows}
use Rattle.sms_centre_rows.specs.declared.messages.message.MessageRow.{MessageRow}
use Rattle.sms_centre_rows.specs.declared.messages.part.PartRow.{PartRow}
use Rattle.sms_centre_rows.specs.messages.Messages.{message_at}
use Rattle.sms_centre_rows.specs.reports.Reports.{report_of}
use Rattle.sms_centre_rows.specs.declared.reports.report.ReportKind.TheVariants.{Status}
use Rattle.sms_centre_rows.specs.declared.reports.report.ReportRow.{ReportRow}
use Rattle.sms_script.specs.declared.report.rows.Direction.TheVariants.{Down}
use Rattle.sms_script.specs.declared.report.rows.GivenRow.{GivenRow}
use Rattle.sms_play.specs.PlayState.{PlayState, Party}
use Rattle.sms_base.specs.declared.carried.Carried.{Carried}
use Rattle.sms_base.specs.declared.carried.Kind.TheVariants.{Data}
use Rattle.sms_script.specs.declared.report.answers.Answer.{Answer}
use Rattle.sms_script.specs.declared.report.answers.Answered.TheVariants.{Accepted as AnsweredAccepted}
use Rattle.sms_script.specs.declared.report.rows.FrameRow.{FrameRow}
use Rattle.sms_tpdu.specs.TpduReading.{down_at, submit_at}
use Rattle.sms_tpdu.specs.declared.carrier.Carrier.TheVariants.{InData}
use Rattle.sms_tpdu.specs.declared.down.Down.TheVariants.{StatusReport, Deliver}
use Rattle.sms_tpdu.specs.declared.status_report.StatusReport.{StatusReport as StatusReportOf}
pub use Rattle.sms_world.specs.headline.PlainReport.{AreOnce, GivenOnce}
use Rattle.sms_world.specs.headline.ReportClaims.{IsReceiptSent}
use Rattle.sms_world.specs.headline.SeenFrames.{octets_down}
use Rattle.sms_centre_rows.specs.declared.reports.delivery.Delivery.{Delivery}
use Rattle.sms_centre_spec.specs.CentreEvent.{happened}
use Rattle.sms_centre_spec.specs.Draft.{Core, Draft, core_of}
use Rattle.sms_centre_spec.specs.declared.event.CentreEvent.{CentreEvent}
use Rattle.sms_centre_spec.specs.declared.event.CentreEvent.TheVariants.{DeliverAnswered}
use Rattle.sms_play.specs.Meeting.{AtCentre, meeting_of}
use Rattle.sms_play.specs.Playing.{report_of as report_told_of}
use Rattle.sms_script.specs.declared.event.WorldEvent.{WorldEvent}
use Rattle.sms_script.specs.declared.event.WorldEvent.TheVariants.{Restart, Stopped, Whole}
use Rattle.sms_script.specs.declared.play_fault.PlayFault.{PlayFault}
use Rattle.sms_play.specs.PlayedEvent.{played}
use Rattle.sms_play.specs.Premises.{is_timely_event, is_fresh_event, pairs_of, newest_first, part_allocations}
use Rattle.sms_tpdu.specs.MoreMessages.{compared}
use Rattle.sms_tpdu.specs.declared.user_data.UserData.{UserData}
use Rattle.sms_world_model.specs.Submission.{HasPart, Submission, IsDeliverOf}
use Rattle.sms_world_model.specs.World.{Accepted}
use Rattle.sms_world.specs.headline.SeenWorld.{IsRowOf, user_data_in}
use Rattle.sms_base.specs.declared.final_state.FinalState.TheVariants.{Delivered}
use Rattle.sms_tpdu.specs.declared.deliver.Deliver.{Deliver as DeliverOf}
use Rattle.sms_world_model.specs.Groups.{OccursOnce, joined_content, is_for, Rounds, rounds_of}
use Rattle.sms_handset_rows.specs.declared.outbox.out_entry.EntryState.TheVariants.{Sent}
use Rattle.sms_handset_rows.specs.declared.outbox.out_entry.OutEntry.{OutEntry}
use Rattle.sms_script.specs.declared.report.rows.JoinedRow.{JoinedRow}
use Rattle.sms_concat.specs.declared.content.Content.{Content}
use Rattle.sms_play.specs.HandsetSide.{coding_of}
use Rattle.sms_world_model.specs.Place.{Key, place_in}

-- ---- lines of messages

-- a message that has ended in the one report has the very same line in the other: so it has one final state, for good
abbrev pub FinalStays : Report → Report → Type 0
FinalStays before after = (m : ReportedMessage) (state : FinalState) → Among m before.table → m.state ≡ Final state → Among m after.table

-- each message of the one report has a line in the other, from that source to that handset
abbrev pub LinesStay : Report → Report → Type 0
LinesStay before after =
    (m : ReportedMessage) → Among m before.table → (x : ReportedMessage) × (Among x after.table × (x.id ≡ m.id) × (x.from ≡ m.from) × (x.to ≡ m.to))

-- each receipt or status report of the one report is listed in the other
abbrev pub ReceiptsStay : Report → Report → Type 0
ReceiptsStay before after = (x : ReceiptRow) → Among x before.receipts → Among x after.receipts

-- each message has one line
abbrev pub HasOneLine : Report → Type 0
HasOneLine r = (a b : ReportedMessage) → Among a r.table → Among b r.table → a.id ≡ b.id → a ≡ b

-- ---- receipts and status reports

-- a receipt is of a message that has ended, and says its final state
abbrev pub ReceiptsHaveState : Report → Type 0
ReceiptsHaveState r = (x : ReceiptRow) → Among x r.receipts → (m : ReportedMessage) × (Among m r.table × (m.id ≡ x.id) × (m.state ≡ Final x.state))

-- ---- references

-- the reference at the handset is that of a part that is not done, of a message that is pending. Or it is that of a status report that
-- is neither answered nor dropped
abbrev pub Holds : Rows → List ℕ → ℕ → Holder → Type 0
Holds rows handset reference (Part id number) =
    (p : PartRow) × (m : MessageRow)
    × (Among p rows.parts × (p.id ≡ id) × (p.number ≡ number) × (p.reference ≡ reference) × (p.progress.is_done ≡ false)
    × (message_at id rows.messages ≡ Some m) × (m.state ≡ None)
    × (m.handset ≡ handset))
Holds rows handset reference (ReportHolder id) =
    (r : ReportRow) × (m : MessageRow) × (tpdu : List ℕ)
    × ((report_of id rows.reports ≡ Some r) × (r.kind ≡ Status reference tpdu) × (r.progress.is_done ≡ false) × (message_at id rows.messages ≡ Some m)
    × (m.source.digits ≡ handset))
Holds rows handset reference (Entry number) = ⊥
Holds rows handset reference (Memory number) = ⊥

-- each reference is held once at a handset
abbrev pub HeldDiffer : PlayState → Type 0
HeldDiffer c = (handset : List ℕ) (reference : ℕ) (a b : Holder) → Holds c.centre.rows handset reference a → Holds c.centre.rows handset reference b → a ≡ b

-- ---- what is confirmed, by an answer and by a STATUS-REPORT

-- a submit_sm that was answered ESME_ROK (SMPP v3.4 5.1.3) with a number is a message in the table
abbrev pub ConfirmedAreThere : Report → Type 0
ConfirmedAreThere r = (a : Answer) (id : ℕ) → Among a r.answers → a.answered ≡ AnsweredAccepted id → (m : ReportedMessage) × (Among m r.table × (m.id ≡ id))

-- A frame whose TPDU is a STATUS-REPORT (3GPP TS 23.040 9.2.2.3) was made for a status report that is listed.
abbrev pub StatusReportsAreListed : Report → Type 0
StatusReportsAreListed r =
    (f : FrameRow) (x : Carried) (s : StatusReportOf) → Among f r.bag → f.direction ≡ Down → f.carried ≡ Some x → x.kind ≡ Data
    → down_at InData (octets_down x.kind f.octets) ≡ Ok (StatusReport s) → (l : ReceiptRow) × (Among l r.receipts × (x.tag ≡ ReportHolder l.id))

-- ---- deliver_sm (SMPP v3.4 4.6)

-- what the centre does at an event, and then at the acceptance of each of these deliver_sm's, one after another
abbrev pub happened_then : List Delivery → CentreEvent → Core → Draft
happened_then [] event c = happened event c
happened_then (x ∷ accepted) event c = happened_then accepted (DeliverAnswered x.session x.id true) (core_of (happened event c))

-- each deliver_sm that the centre sends at the event, whatever was accepted since, is of a receipt, and goes to its account
abbrev pub SendsReceipts : CentreEvent → Core → Type 0
SendsReceipts event c =
    (accepted : List Delivery) (x : Delivery) → Among x (happened_then accepted event c).bindings.deliveries
    → IsReceiptSent (core_of (happened_then accepted event c)) x

-- An event of a script that the centre meets sends such deliver_sm's, and its applications accept each at once. A stopped event sends
-- none, nor does a restart.
abbrev pub DeliversReceipts : ℕ → WorldEvent → PlayState → Type 0
DeliversReceipts number (Whole act) c = (event : CentreEvent) → meeting_of number act c ≡ Ok (AtCentre event) → SendsReceipts event c.centre
DeliversReceipts number (Stopped stop act) c = Unit {0}
DeliversReceipts number (Restart side) c = Unit {0}

-- ---- the premises, as they are decided

-- of what is played
abbrev pub IfPlayed : Result PlayState PlayFault → (PlayState → Type 0) → Type 0
IfPlayed (Ok d) P = P d
IfPlayed (Err fault) P = Unit {0}

-- each frame that the events hand over is decided timely
abbrev pub AllTimely : ℕ → List WorldEvent → PlayState → Type 0
AllTimely number [] c = Unit {0}
AllTimely number (e ∷ es) c = (is_timely_event e c ≡ true) × IfPlayed (played number e c) (λ d. AllTimely (number + 1) es d)

-- each event is decided to begin rounds only where it may
abbrev pub AllFresh : ℕ → List WorldEvent → PlayState → Type 0
AllFresh number [] c = Unit {0}
AllFresh number (e ∷ es) c = IfPlayed (played number e c) (λ d. (is_fresh_event c d ≡ true) × AllFresh (number + 1) es d)

-- ---- while frames are timely

abbrev pub pair_in_row : MessageRow → PartRow → Accepted
pair_in_row m p = record { handset = m.handset; reference = p.reference; tpdu = compared p.tpdu }

-- The octets of the part's row are a DELIVER (3GPP TS 23.040 9.2.2.1) that says what the message's row says. That is its source, protocol
-- identifier and data coding. Its user data are the row's own. That they are those which were submitted is said of the rows
-- (`crate::submissions_stay`) and of scripts (`sms_world::messages_have_origins`).
abbrev pub IsAsSubmitted : MessageRow → ℕ → PartRow → Type 0
IsAsSubmitted m number p =
    (u : Submission) × (part : UserData) × (moment : ℕ) × (IsRowOf m u × HasPart u number part × IsDeliverOf u part moment (compared p.tpdu))

-- the octets read as a DELIVER (3GPP TS 23.040 9.2.2.1) with that time stamp, TP-SCTS (9.2.3.11)
abbrev pub IsStamped : List ℕ → ℕ → Type 0
IsStamped tpdu moment = (deliver : DeliverOf) × ((down_at InData tpdu ≡ Ok (Deliver deliver)) × (deliver.service_centre_time_stamp ≡ moment))

-- The centre gave that part of a message the reference under which the pair was accepted. The pair has the moment of the giving as its
-- time stamp.
pub record IsGivenTo (c : PlayState) (id number : ℕ) (a : Accepted) (g : GivenRow) : Type 0 where
  pub there : Among g c.given
  pub down : g.direction ≡ Down
  pub holder : g.holder ≡ Part id number
  pub handset : g.handset ≡ a.handset
  pub reference : g.reference ≡ a.reference
  pub stamped : IsStamped a.tpdu g.moment

-- Its handset is one of the script's, and accepted the part exactly once. It did so under the reference of its giving and with the octets
-- of its row. They are a DELIVER that says what the message's row says, with the moment of that giving. That the rows are what was
-- submitted is said in `sms_world::messages_have_origins`.
abbrev pub IsAcceptedOnce : PlayState → MessageRow → PartRow → Type 0
IsAcceptedOnce c m p =
    (q : Party)
    × (Among q c.parties × (q.number ≡ m.handset) × OccursOnce (pair_in_row m p) (pairs_of [] q.accepted) × IsAsSubmitted m p.number p
    × ((g : GivenRow) × IsGivenTo c m.id p.number (pair_in_row m p) g))

-- No part of any message was accepted twice, whatever became of the message.
abbrev pub PartsOnce : PlayState → Type 0
PartsOnce c =
    (m : MessageRow) (p : PartRow) (q : Party) → Among m c.centre.rows.messages → Among p c.centre.rows.parts → p.id ≡ m.id → Among q c.parties
    → q.number ≡ m.handset
    → Among (pair_in_row m p) (pairs_of [] q.accepted) → OccursOnce (pair_in_row m p) (pairs_of [] q.accepted)

-- A message counts as delivered only if that is so of each of its parts.
abbrev pub DeliveredOnce : PlayState → Type 0
DeliveredOnce c =
    (m : MessageRow) (p : PartRow) → Among m c.centre.rows.messages → m.state ≡ Some Delivered → Among p c.centre.rows.parts → p.id ≡ m.id
    → IsAcceptedOnce c m p

-- So a receipt or status report says that its message was delivered only if that is so.
abbrev pub ReportedOnce : PlayState → Type 0
ReportedOnce c =
    (x : ReceiptRow) → Among x (report_told_of c).receipts → x.state ≡ Delivered
    → (m : MessageRow)
    × (Among m c.centre.rows.messages × (m.id ≡ x.id) × ((p : PartRow) → Among p c.centre.rows.parts → p.id ≡ m.id → IsAcceptedOnce c m p))

-- ---- what handsets sent

-- The message is from that handset to the entry's destination. It has one part, whose octets are a DELIVER with the user data of
-- the entry's SUBMIT.
pub record IsMessageOf (c : PlayState) (q : Party) (o : OutEntry) (m : MessageRow) (p : PartRow) : Type 0 where
  pub there : Among m c.centre.rows.messages
  pub part_there : Among p c.centre.rows.parts
  pub its : p.id ≡ m.id
  pub alone : (x : PartRow) → Among x c.centre.rows.parts → x.id ≡ m.id → x ≡ p
  pub source : m.source.digits ≡ q.number
  pub handset : m.handset ≡ o.destination.digits
  pub submitted : (u : Submission) × (moment : ℕ)
      × (IsRowOf m u × (u.parts ≡ user_data_in (submit_at o.tpdu) ∷ []) × IsDeliverOf u (user_data_in (submit_at o.tpdu)) moment (compared p.tpdu))

-- While frames are timely, an entry of a handset's outbox counts as sent only if the centre has its message.
abbrev pub SentSubmitted : PlayState → Type 0
SentSubmitted c =
    (q : Party) (o : OutEntry) → Among q c.parties → Among o q.core.rows.outbox → o.state ≡ Sent → (m : MessageRow) × (p : PartRow) × IsMessageOf c q o m p

-- ---- what handsets joined

-- The pair is that of a part which a message from that source has, submitted to that handset. The handset accepted it, and it is of that
-- key.
pub record IsPartOf (c : PlayState) (q : Party) (key : Key) (x : Accepted) : Type 0 where
  pub accepted : Among x (pairs_of [] q.accepted)
  pub of_key : is_for q.number key x ≡ true
  pub message : MessageRow
  pub part : PartRow
  pub there : Among message c.centre.rows.messages
  pub part_there : Among part c.centre.rows.parts
  pub its : part.id ≡ message.id
  pub source : message.source ≡ key.source
  pub handset : message.handset ≡ q.number
  pub pair : x ≡ pair_in_row message part
  pub submitted : IsAsSubmitted message part.number part

-- The row says what a group of parts of one key joins to.
pub record IsJoinedFrom (c : PlayState) (q : Party) (row : JoinedRow) (group : List Accepted) : Type 0 where
  pub key : Key
  pub content : Content
  pub joins : joined_content key.total group ≡ Some content
  pub says : row ≡ record { handset = q.number; from = key.source.digits; coding = coding_of content.coding; units = content.units }
  pub parts : (x : Accepted) → Among x group → IsPartOf c q key x

-- each row a group, in order
abbrev pub AreJoinedFrom : PlayState → Party → List JoinedRow → List (List Accepted) → Type 0
AreJoinedFrom c q [] [] = Unit {0}
AreJoinedFrom c q [] (g ∷ gs) = ⊥
AreJoinedFrom c q (r ∷ rs) [] = ⊥
AreJoinedFrom c q (r ∷ rs) (g ∷ gs) = IsJoinedFrom c q r g × AreJoinedFrom c q rs gs

-- Whatever happens, each message that a handset joined was joined from parts that its source submitted to it.
abbrev pub JoinedOfParts : PlayState → Type 0
JoinedOfParts c = (q : Party) → Among q c.parties → (groups : List (List Accepted)) × AreJoinedFrom c q q.joined groups

-- no part is in two of them
abbrev pub HaveNoneInCommon : List (List Accepted) → Type 0
HaveNoneInCommon [] = Unit {0}
HaveNoneInCommon (g ∷ gs) = ((h : List Accepted) (x : Accepted) → Among h gs → Among x g → Among x h → ⊥) × HaveNoneInCommon gs

-- While frames are timely, no part is joined twice.
abbrev pub JoinedOnce : PlayState → Type 0
JoinedOnce c = (q : Party) → Among q c.parties → (groups : List (List Accepted)) × (AreJoinedFrom c q q.joined groups × HaveNoneInCommon groups)

-- ---- while originators keep references fresh, too

-- the rounds of a key that were submitted to a handset, in the order in which the parts were given references. They have the octets that
-- their rows have
abbrev pub rounds_submitted : PlayState → Party → Key → Rounds
rounds_submitted c q key = rounds_of q.number key (newest_first [] (part_allocations c.centre.rows.parts c.given))

-- a long message that was submitted at once: its parts are those of that key, each under its own number
pub record IsLongMessage (c : PlayState) (m : MessageRow) (key : Key) : Type 0 where
  pub placed : (p : PartRow) → Among p c.centre.rows.parts → p.id ≡ m.id → place_in p.tpdu ≡ Some (record { key = key; number = p.number })
  pub each : (n : ℕ) → 0 < n → n ≤ key.total → (p : PartRow) × (Among p c.centre.rows.parts × (p.id ≡ m.id) × (p.number ≡ n))

-- of which one part is among these only if all of these are its parts
abbrev pub IsWholeIn : PlayState → MessageRow → List Accepted → Type 0
IsWholeIn c m round =
    (p : PartRow) → Among p c.centre.rows.parts → p.id ≡ m.id → Among (pair_in_row m p) round
    → (y : Accepted) → Among y round → (x : PartRow) × (Among x c.centre.rows.parts × (x.id ≡ m.id) × (y ≡ pair_in_row m x))

-- The row says what one of these rounds joins to, and it has all its parts. A long message that was submitted at once is such a round by
-- itself.
pub record IsJoinedRound (c : PlayState) (q : Party) (row : JoinedRow) (round : List Accepted) : Type 0 where
  pub joined : IsJoinedFrom c q row round
  pub among : Among round ((rounds_submitted c q joined.key).present ∷ (rounds_submitted c q joined.key).finished)
  pub whole : (m : MessageRow) → Among m c.centre.rows.messages → m.handset ≡ q.number → IsLongMessage c m joined.key → IsWholeIn c m round

-- each row a round, in order
abbrev pub AreJoinedRounds : PlayState → Party → List JoinedRow → List (List Accepted) → Type 0
AreJoinedRounds c q [] [] = Unit {0}
AreJoinedRounds c q [] (g ∷ gs) = ⊥
AreJoinedRounds c q (r ∷ rs) [] = ⊥
AreJoinedRounds c q (r ∷ rs) (g ∷ gs) = IsJoinedRound c q r g × AreJoinedRounds c q rs gs

-- Each long message that a handset joined is one that was submitted to it: one round of one key, whole; and none was joined twice.
abbrev pub JoinedWhole : PlayState → Type 0
JoinedWhole c = (q : Party) → Among q c.parties → (rounds : List (List Accepted)) × (AreJoinedRounds c q q.joined rounds × HaveNoneInCommon rounds)
