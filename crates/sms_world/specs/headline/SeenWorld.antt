-- How each list of a play state shows one of the world. Table, receipts and outboxes are read from the rows; what was given, accepted, joined and
-- sent was collected on the way. The play state has its lists in order, the world the newest first.
use Rattle.std.specs.Prelude.{◌≡◌, Bool, true, false, ℕ, nat_lt, if◌then◌else◌, Option, None, List, Some, ◌↔◌, ◌==◌, ◌&&◌, [], ◌∷◌, ◌++◌, Result, Ok, Err}
use Rattle.sms_base.specs.declared.originator.Originator.{Originator}
use Rattle.sms_base.specs.declared.originator.Originator.TheVariants.{Application, Handset}
use Rattle.sms_base.specs.declared.wish.Wish.{Wish as WishRow}
use Rattle.sms_base.specs.declared.wish.Wish.TheVariants.{Nothing, Always as AlwaysRow, OnFailure}
use Rattle.sms_centre_rows.specs.declared.messages.message.MessageRow.{MessageRow}
use Rattle.sms_world_model.specs.Submission.{Always, Failures, Never, Submission, Wish, HasPart}
use Rattle.sms_centre_rows.specs.messages.Messages.{message_at, part_at}
use Rattle.sms_centre_rows.specs.declared.messages.part.PartRow.{PartRow}
use Rattle.sms_tpdu.specs.MoreMessages.{compared}
use Rattle.sms_base.specs.Among.{Among}
use Rattle.sms_base.specs.declared.final_state.FinalState.{FinalState}
use Rattle.sms_tpdu.specs.declared.user_data.UserData.{UserData}
use Rattle.sms_world_model.specs.World.{Final, Message, Pending, IsRecorded, State, ReceiptOf, Allocation, Sent as Sent_frame, is_same_handset, Accepted}
use Rattle.sms_world_model.specs.World.{Joined, EntryState, Queued as Is_queued, Sending as Is_sending, Sent_up, Failed as Is_failed, Unsure as Is_unsure}
use Rattle.sms_world_model.specs.World.{OutEntry, World}
use Rattle.sms_centre_rows.specs.declared.report_lines.ReceiptRow.{ReceiptRow}
use Rattle.std.specs.Str.{bytes_eq}
use Rattle.sms_base.specs.declared.holder.Holder.{Holder}
use Rattle.sms_base.specs.declared.holder.Holder.TheVariants.{Part, Report, Entry, Memory}
use Rattle.sms_script.specs.declared.report.rows.Direction.TheVariants.{Down, Up}
use Rattle.sms_script.specs.declared.report.rows.GivenRow.{GivenRow}
use Rattle.sms_play.specs.Premises.{is_same_side, last_holder, pairs_of}
use Rattle.sms_base.specs.declared.carried.Carried.{Carried}
use Rattle.sms_script.specs.declared.report.rows.Direction.{Direction}
use Rattle.sms_script.specs.declared.report.rows.FrameRow.{FrameRow}
use Rattle.sms_world.specs.headline.SeenFrames.{sent_as, sent_down}
use Rattle.sms_base.specs.declared.address.Address.{Address}
use Rattle.sms_concat.specs.declared.content.Content.{Content}
use Rattle.sms_script.specs.declared.report.rows.JoinedRow.{JoinedRow}
use Rattle.sms_play.specs.HandsetSide.{coding_of}
use Rattle.sms_tpdu.specs.declared.fault.TpduFault.{TpduFault}
use Rattle.sms_tpdu.specs.declared.submit.Submit.{Submit as Submit_of}
use Rattle.sms_tpdu.specs.TpduReading.{submit_at}
use Rattle.sms_handset_rows.specs.declared.outbox.out_entry.EntryState.{EntryState as State_of}
use Rattle.sms_handset_rows.specs.declared.outbox.out_entry.EntryState.TheVariants.{Queued, Sending, Sent, Failed, Unsure}
use Rattle.sms_handset_rows.specs.declared.outbox.out_entry.OutEntry.{OutEntry as OutRow}
use Rattle.sms_play.specs.PlayState.{Party}

-- ---- the table: messages

abbrev pub wish_of : WishRow → Wish
wish_of Nothing = Never
wish_of AlwaysRow = Always
wish_of OnFailure = Failures

abbrev pub is_handset : Originator → Bool
is_handset (Application account) = false
is_handset (Handset message_reference) = true

-- The row is that of the submission. What only its DELIVERs say of it, their octets say.
pub record IsRowOf (m : MessageRow) (u : Submission) : Type 0 where
  pub id : u.id ≡ m.id
  pub source : u.source ≡ m.source
  pub handset : u.handset ≡ m.handset
  pub protocol_identifier : u.protocol_identifier ≡ m.protocol_identifier
  pub data_coding_scheme : u.data_coding_scheme ≡ m.data_coding_scheme
  pub limit : u.limit ≡ m.limit
  pub wish : u.wish ≡ wish_of m.wish
  pub by_report : u.by_report ≡ is_handset m.originator

-- ---- the table: parts, and what the world knows of them

abbrev pub by_octet : {A : Type 0} → ℕ → Option A → Option A
by_octet n found = if nat_lt n 256 then found else None

pub record PartSeen : Type 0 where
  pub reference : ℕ
  -- as it is compared
  pub tpdu : List ℕ
  pub is_done : Bool

abbrev pub part_seen : Option PartRow → Option PartSeen
part_seen None = None
part_seen (Some p) = Some (record { reference = p.reference; tpdu = compared p.tpdu; is_done = p.progress.is_done })

-- messages by their numbers, parts by the numbers of their message and their own
abbrev pub messages_by : List MessageRow → ℕ → Option MessageRow
messages_by messages id = message_at id messages

abbrev pub parts_by : List PartRow → ℕ → ℕ → Option PartSeen
parts_by parts id number = by_octet number (part_seen (part_at id number parts))

-- ---- the table

-- a message that is pending has those parts done whose rows are
abbrev pub IsStateOf : Option FinalState → (ℕ → Option PartSeen) → State → Type 0
IsStateOf (Some state) parts st = st ≡ Final state
IsStateOf None parts st =
    (done : List ℕ) × ((st ≡ Pending done) × ((number : ℕ) (p : PartSeen) → parts number ≡ Some p → (p.is_done ≡ true) ↔ Among number done))

-- the parts of the submission are those that have rows
pub record HasRows (u : Submission) (parts : ℕ → Option PartSeen) : Type 0 where
  pub there : (number : ℕ) (p : PartSeen) → parts number ≡ Some p → (part : UserData) × HasPart u number part
  pub only : (number : ℕ) (part : UserData) → HasPart u number part → (p : PartSeen) × (parts number ≡ Some p)

abbrev pub IsInTable : MessageRow → (ℕ → Option PartSeen) → List Message → Type 0
IsInTable m parts table =
    (u : Submission) × (st : State) × (IsRecorded table m.id u st × IsRowOf m u × IsStateOf m.state parts st × HasRows u parts)

pub record RefinesTable (messages : ℕ → Option MessageRow) (parts : ℕ → ℕ → Option PartSeen) (table : List Message) : Type 0 where
  pub there : (id : ℕ) (m : MessageRow) → messages id ≡ Some m → IsInTable m (parts id) table
  pub only : (id : ℕ) (u : Submission) (st : State) → IsRecorded table id u st → (m : MessageRow) × (messages id ≡ Some m)

-- ---- receipts and status reports

-- the receipts and status reports that are listed are those of the world
pub record RefinesReceipts (listed : List ReceiptRow) (receipts : List ReceiptOf) : Type 0 where
  pub there : (r : ReceiptRow) → Among r listed → Among (record { id = r.id; state = r.state }) receipts
  pub only : (x : ReceiptOf) → Among x receipts → Among (record { id = x.id; state = x.state }) listed

-- ---- references: what the world has

-- of the world's allocations, newest first
abbrev pub latest_holder : List ℕ → ℕ → List Allocation → Option Holder
latest_holder handset reference [] = None
latest_holder handset reference (g ∷ older) =
    if bytes_eq g.handset handset && (g.reference == reference) then Some g.holder else latest_holder handset reference older

-- the part of a message that was given a reference at a handset
pub record PartGiven : Type 0 where
  pub handset : List ℕ
  pub reference : ℕ
  pub id : ℕ
  pub number : ℕ

-- one more, where the holder is a part
abbrev pub with_part : Holder → List ℕ → ℕ → List PartGiven → List PartGiven
with_part (Part id number) handset reference parts = record { handset = handset; reference = reference; id = id; number = number } ∷ parts
with_part (Report id) handset reference parts = parts
with_part (Entry number) handset reference parts = parts
with_part (Memory number) handset reference parts = parts

-- those of the world's allocations, newest first
abbrev pub parts_given : List Allocation → List PartGiven
parts_given [] = []
parts_given (g ∷ older) = with_part g.holder g.handset g.reference (parts_given older)

-- ---- references that the centre gave: rows of a report

-- those that the rows record, on top of what was
abbrev pub parts_reported : List PartGiven → List GivenRow → List PartGiven
parts_reported newest [] = newest
parts_reported newest (r ∷ rows) = parts_reported (with_part r.holder r.handset r.reference newest) rows

abbrev pub IsDown : GivenRow → Type 0
IsDown g = is_same_side g.direction Down ≡ true

-- the row records the giving
pub record IsOfAllocation (g : GivenRow) (x : Allocation) : Type 0 where
  pub handset : x.handset ≡ g.handset
  pub reference : x.reference ≡ g.reference
  pub holder : x.holder ≡ g.holder
  pub moment : x.moment ≡ g.moment

-- no two of them are of one holder
abbrev pub HoldersDiffer : List GivenRow → Type 0
HoldersDiffer [] = Unit {0}
HoldersDiffer (g ∷ gs) = (IsDown g → (y : GivenRow) → Among y gs → IsDown y → ¬ (g.holder ≡ y.holder)) × HoldersDiffer gs

pub record AgreesDown (given : List GivenRow) (down : List Allocation) : Type 0 where
  pub each : (g : GivenRow) → Among g given → IsDown g → (x : Allocation) × (Among x down × IsOfAllocation g x)
  pub only : (x : Allocation) → Among x down → (g : GivenRow) × (Among g given × IsDown g × IsOfAllocation g x)
  pub differ : HoldersDiffer given
  pub last : (handset : List ℕ) (reference : ℕ) → last_holder None handset Down reference given ≡ latest_holder handset reference down
  -- the very parts, in order
  pub parts : parts_reported [] given ≡ parts_given down

-- ---- references that a handset gave

abbrev pub IsUp : GivenRow → Type 0
IsUp g = is_same_side g.direction Up ≡ true

-- The row records the giving, at a moment of its own: the handset's clock, where the giving has the centre's.
pub record IsOfAllocationUp (g : GivenRow) (x : Allocation) : Type 0 where
  pub handset : x.handset ≡ g.handset
  pub reference : x.reference ≡ g.reference
  pub holder : x.holder ≡ g.holder

-- what the rows record of the references that a handset gave
pub record AgreesUp (handset : List ℕ) (given : List GivenRow) (up : List Allocation) : Type 0 where
  pub each : (g : GivenRow) → Among g given → IsUp g → g.handset ≡ handset → (x : Allocation) × (Among x up × IsOfAllocationUp g x)
  pub only : (x : Allocation) → Among x up → x.handset ≡ handset → (g : GivenRow) × (Among g given × IsUp g × IsOfAllocationUp g x)
  pub last : (reference : ℕ) → last_holder None handset Up reference given ≡ latest_holder handset reference up

-- ---- frames

-- the frame of the world that a frame of the bag is
abbrev pub sent_by : Direction → ℕ → List ℕ → List ℕ → Option Carried → Sent_frame
sent_by Up number handset octets carried = sent_as handset number octets carried
sent_by Down number handset octets carried = sent_down handset number octets carried

abbrev pub sent_row : FrameRow → Sent_frame
sent_row f = sent_by f.direction f.number f.handset f.octets f.carried

-- the bag as the world has it, on top of what was
abbrev pub all_seen : List Sent_frame → List FrameRow → List Sent_frame
all_seen newest [] = newest
all_seen newest (f ∷ fs) = all_seen (sent_row f ∷ newest) fs

-- ---- a handset: what it accepted and joined, and its outbox

-- what this handset accepted
abbrev pub accepted_at : List ℕ → List Accepted → List Accepted
accepted_at handset [] = []
accepted_at handset (p ∷ ps) = if is_same_handset p.handset handset then p ∷ accepted_at handset ps else accepted_at handset ps

-- a message that was joined
pub record JoinedText : Type 0 where
  pub source : Address
  pub content : Content

abbrev pub text_of : Joined → JoinedText
text_of j = record { source = j.key.source; content = j.content }

-- what this handset joined
abbrev pub joined_at : List ℕ → List Joined → List JoinedText
joined_at handset [] = []
joined_at handset (j ∷ js) = if is_same_handset j.handset handset then text_of j ∷ joined_at handset js else joined_at handset js

-- the message that was joined, as a report has it
abbrev pub row_joined : List ℕ → JoinedText → JoinedRow
row_joined handset t = record { handset = handset; from = t.source.digits; coding = coding_of t.content.coding; units = t.content.units }

-- oldest first
abbrev pub rows_joined : List ℕ → List JoinedText → List JoinedRow
rows_joined handset [] = []
rows_joined handset (t ∷ ts) = rows_joined handset ts ++ row_joined handset t ∷ []

abbrev pub state_of : State_of → EntryState
state_of Queued = Is_queued
state_of Sending = Is_sending
state_of Sent = Sent_up
state_of Failed = Is_failed
state_of Unsure = Is_unsure

-- of the SUBMIT that the entry's octets are
abbrev pub user_data_in : Result Submit_of TpduFault → UserData
user_data_in (Ok m) = m.user_data
user_data_in (Err fault) = record { length = 0; octets = [] }

-- an entry as the world has it
abbrev pub entry_seen : List ℕ → OutRow → OutEntry
entry_seen handset o =
    record { handset = handset; number = o.number; destination = o.destination; user_data = user_data_in (submit_at o.tpdu); state = state_of o.state }

-- what it accepted and joined is the world's, in order. Each entry of its outbox is one of the world's, and the world has no other entry of
-- that handset
pub record RefinesHandset (q : Party) (w : World) : Type 0 where
  pub accepted : accepted_at q.number w.accepted ≡ pairs_of [] q.accepted
  pub joined : q.joined ≡ rows_joined q.number (joined_at q.number w.joined)
  pub outbox : (o : OutRow) → Among o q.core.rows.outbox → Among (entry_seen q.number o) w.outbox
  pub no_other : (e : OutEntry) → Among e w.outbox → e.handset ≡ q.number → (o : OutRow) × (Among o q.core.rows.outbox × (e ≡ entry_seen q.number o))
