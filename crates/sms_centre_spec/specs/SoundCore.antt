-- A centre on sound rows, between two events.
use Rattle.std.specs.Prelude.{◌≡◌, ℕ, ◌≤◌, true, List, [], ◌∷◌, Option, Some, None}
use Rattle.sms_base.specs.Among.{Among}
use Rattle.sms_base.specs.declared.carried.Carried.{Carried}
use Rattle.sms_base.specs.declared.carried.Kind.{Kind}
use Rattle.sms_base.specs.declared.carried.Kind.TheVariants.{Ack, Data, Error}
use Rattle.sms_base.specs.declared.holder.Holder.{Holder}
use Rattle.sms_base.specs.declared.holder.Holder.TheVariants.{Part, Report, Entry, Memory}
use Rattle.sms_base.specs.Reading.{AreOctets}
use Rattle.sms_base.specs.TimeStamp.{IsMoment}
use Rattle.sms_rows.specs.table.Table.{Rises}
use Rattle.sms_link.specs.declared.ending.Side.TheVariants.{Centre}
use Rattle.sms_centre_rows.specs.declared.messages.message.MessageRow.{MessageRow}
use Rattle.sms_centre_rows.specs.declared.messages.part.PartRow.{PartRow}
use Rattle.sms_centre_rows.specs.messages.Messages.{message_at, part_at}
use Rattle.sms_centre_rows.specs.declared.reports.report.ReportKind.TheVariants.{Status}
use Rattle.sms_centre_rows.specs.declared.reports.report.ReportRow.{ReportRow}
use Rattle.sms_centre_rows.specs.reports.Receipts.{Session, session_key}
use Rattle.sms_centre_rows.specs.reports.Reports.{is_receipt, report_of}
use Rattle.sms_centre_rows.specs.declared.waiting.handset_link.HandsetLink.{HandsetLink}
use Rattle.sms_centre_rows.specs.waiting.Links.{link_at}
use Rattle.sms_centre_rows.specs.waiting.SoundAllocations.{IsNumber}
use Rattle.sms_centre_spec.specs.declared.event.CentreEvent.{CentreEvent}
use Rattle.sms_centre_spec.specs.declared.event.CentreEvent.TheVariants.{Submit, Query, Cancel, Bound, Unbound, DeliverAnswered, Frame, LinkUp, LinkDown}
use Rattle.sms_centre_spec.specs.declared.event.CentreEvent.TheVariants.{Ordered, Tick}
use Rattle.sms_centre_spec.specs.declared.rows.Rows.{Rows}
use Rattle.sms_centre_spec.specs.CentreEvent.{moment_of}
use Rattle.sms_centre_spec.specs.Draft.{Core}
use Rattle.sms_centre_spec.specs.SoundRows.{IsSound}

-- What is under way to a handset is a part of one of its messages under the part's reference, or its status report. The part is that
-- of the message that the tag names.
abbrev pub IsSentFor : List ℕ → ℕ → Holder → Rows → Type 0
IsSentFor handset reference (Part id number) rows =
    (p : PartRow) × ((m : MessageRow)
    × ((part_at id number rows.parts ≡ Some p) × (p.reference ≡ reference) × (message_at id rows.messages ≡ Some m) × (m.handset ≡ handset) × (p.id ≡ id)))
IsSentFor handset reference (Report id) rows =
    (r : ReportRow) × ((m : MessageRow)
    × ((tpdu : List ℕ) × ((report_of id rows.reports ≡ Some r) × (r.kind ≡ Status reference tpdu) × (message_at id rows.messages ≡ Some m)
    × (m.source.digits ≡ handset))))
IsSentFor handset reference (Entry n) rows = ⊥
IsSentFor handset reference (Memory n) rows = ⊥

abbrev pub IsUnderWay : List ℕ → Option Carried → Rows → Type 0
IsUnderWay handset None rows = Unit {0}
IsUnderWay handset (Some transfer) rows = (transfer.kind ≡ Data) × IsSentFor handset transfer.reference transfer.tag rows

-- an answer, or nothing
abbrev pub IsAnswerKind : Kind → Type 0
IsAnswerKind Data = ⊥
IsAnswerKind Ack = Unit {0}
IsAnswerKind Error = Unit {0}

abbrev pub IsAnswer : Option Carried → Type 0
IsAnswer None = Unit {0}
IsAnswer (Some answer) = IsAnswerKind answer.kind

-- A frame to a handset was made for a part of one of its messages under the part's reference, or for its status report. Any other
-- was made for an answer, or for nothing.
abbrev pub BringsKind : Kind → List ℕ → Carried → Rows → Type 0
BringsKind Data handset transfer rows = IsSentFor handset transfer.reference transfer.tag rows
BringsKind Ack handset transfer rows = Unit {0}
BringsKind Error handset transfer rows = Unit {0}

abbrev pub Brings : List ℕ → Option Carried → Rows → Type 0
Brings handset None rows = Unit {0}
Brings handset (Some transfer) rows = BringsKind transfer.kind handset transfer rows

pub record IsLink (rows : Rows) (l : HandsetLink) : Type 0 where
  pub handset : IsNumber l.handset
  pub side : l.near_end.side ≡ Centre
  pub under_way : IsUnderWay l.handset l.near_end.under_way rows
  pub answered : IsAnswer l.near_end.answered

-- no handset has two links
abbrev pub AreLinks : List HandsetLink → Type 0
AreLinks [] = Unit {0}
AreLinks (l ∷ ls) = (link_at l.handset ls ≡ None) × AreLinks ls

-- the receipt of the message is in the rows
abbrev pub IsReceiptRow : Rows → ℕ → Type 0
IsReceiptRow rows id = (r : ReportRow) × ((report_of id rows.reports ≡ Some r) × (is_receipt r.kind ≡ true))

-- each receipt that a session was sent is in the rows
pub record IsSession (rows : Rows) (s : Session) : Type 0 where
  pub unanswered : (id : ℕ) → Among id s.unanswered → IsReceiptRow rows id

pub record IsSoundCore (c : Core) : Type 0 where
  pub rows : IsSound c.rows
  pub now : IsMoment c.moment
  -- no reference was given later than now
  pub moment : moment_of c.rows ≤ c.moment
  pub each_link : (l : HandsetLink) → Among l c.links → IsLink c.rows l
  pub apart : AreLinks c.links
  pub session_keys : Rises session_key c.sessions
  pub each_session : (s : Session) → Among s c.sessions → IsSession c.rows s

-- ---- the events of a centre

-- a handset that is named has a number, octets are octets, and moments are of the years that time stamps write
abbrev pub IsEvent : CentreEvent → Type 0
IsEvent (Submit account message) = Unit {0}
IsEvent (Query account wanted) = Unit {0}
IsEvent (Cancel account wanted) = Unit {0}
IsEvent (Bound session account receives) = Unit {0}
IsEvent (Unbound session) = Unit {0}
IsEvent (DeliverAnswered session id is_accepted) = Unit {0}
IsEvent (Frame handset octets tag) = IsNumber handset × AreOctets octets
IsEvent (LinkUp handset) = IsNumber handset
IsEvent (LinkDown handset) = IsNumber handset
IsEvent (Ordered order id) = Unit {0}
IsEvent (Tick now) = IsMoment now

-- no two are the same
abbrev pub AreDifferent : List (List ℕ) → Type 0
AreDifferent [] = Unit {0}
AreDifferent (n ∷ ns) = ¬ Among n ns × AreDifferent ns
