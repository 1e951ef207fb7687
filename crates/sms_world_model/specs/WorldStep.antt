-- What may happen next, what it changes, and runs of such steps: the protocol between applications, the centre and handsets, by cases. Steps look
-- at references and octets, never at tags; a tag only names the holder for whom a frame was made.
use Rattle.std.specs.Prelude.{◌≡◌, ◌⊎◌, ℕ, ◌<◌, ◌≤◌, List, [], ◌∷◌, Bool, true, if◌then◌else◌, ◌==◌, ◌&&◌, length, Some, Ok}
use Rattle.sms_base.specs.Among.{Among}
use Rattle.sms_base.specs.declared.final_state.FinalState.{FinalState}
use Rattle.sms_base.specs.declared.final_state.FinalState.TheVariants.{Delivered, Expired, Deleted, Undeliverable}
use Rattle.sms_base.specs.declared.holder.Holder.TheVariants.{Part, Entry, Memory}
use Rattle.sms_tpdu.specs.TpduReading.{up_at}
use Rattle.sms_tpdu.specs.declared.carrier.Carrier.TheVariants.{InData}
use Rattle.sms_tpdu.specs.declared.submit.Submit.{Submit as SubmitOf}
use Rattle.sms_tpdu.specs.declared.up.Up.TheVariants.{Submit as SubmitUp}
use Rattle.sms_tpdu.specs.declared.user_data.UserData.{UserData}
use Rattle.sms_base.specs.declared.carried.Kind.{Kind}
use Rattle.sms_base.specs.declared.carried.Kind.TheVariants.{Data, Ack, Error}
use Rattle.sms_world_model.specs.World.{Bare, Carried, Down, EntryState, Failed, Final, Frame, Allocation, IsHeld, IsHeldUp, IsLast, IsUnfinished, Joined, Line}
use Rattle.sms_world_model.specs.World.{Message, OutEntry, Pending, Queued, Sending, Sent_up, IsRecorded, State, Unsure, Up, World, answer, changed}
use Rattle.sms_world_model.specs.World.{is_same_handset, next_number, pair_of, put, with_frames}
use Rattle.sms_world_model.specs.References.{CanGive, CanGiveParts, IsFreeUp, IsNewHolder, Ticket, entry_allocation, given_parts, memory_allocation}
use Rattle.sms_world_model.specs.References.{report_allocation}
use Rattle.sms_world_model.specs.Groups.{IsEndedAt, groups_of, joined_content, all_numbers, without}
use Rattle.sms_world_model.specs.Submission.{IsReportOf, IsSubmitTo, IsWished, Submission}
use Rattle.sms_world_model.specs.Place.{Key}
use Rattle.sms_tpdu.specs.MoreMessages.{compared}

pub data Step : Type 0 where
  -- a submission, with the references and TPDUs of its parts
  Submit : (s : Submission) → (tickets : List Ticket) → Step
  -- the data of a part or of a status report
  Offer : (g : Allocation) → (tpdu : List ℕ) → Step
  -- the handset accepts; answers a double; refuses
  Take : (u : Frame) → Step
  Take_again : (u : Frame) → Step
  Refuse : (u : Frame) → Step
  -- an acknowledgement settles the part that holds its reference; the last one of a message delivers it
  Settle : (u : Frame) → (g : Allocation) → (id : ℕ) → (part : ℕ) → Step
  -- a pending message ends: at its limit, by a cancel, by an error with the reference of one of its parts
  Expire : (id : ℕ) → Step
  Delete : (id : ℕ) → Step
  Fail : (u : Frame) → (g : Allocation) → (id : ℕ) → (part : ℕ) → Step
  -- a receipt that takes no reference, and one that does
  Receipt : (s : Submission) → (f : FinalState) → Step
  Status : (s : Submission) → (f : FinalState) → (t : Ticket) → Step
  -- an open status report is answered or dropped
  Close : (id : ℕ) → Step
  -- a handset joins a group that ended
  Join : (j : Joined) → Step
  -- a handset's own messages: written, deleted, sent; and memory available (3GPP TS 24.011 7.3.2, RP-SMMA), sent and repeated
  Write : (e : OutEntry) → (reference : ℕ) → Step
  Remove : (e : OutEntry) → Step
  Offer_up : (g : Allocation) → (e : OutEntry) → (tpdu : List ℕ) → Step
  Offer_memory : (handset : List ℕ) → (number : ℕ) → (reference : ℕ) → Step
  Repeat_memory : (g : Allocation) → (number : ℕ) → Step
  -- the centre takes a handset's message as a submission, rejects it, acknowledges memory available
  Receive : (u : Frame) → (s : Submission) → (tickets : List Ticket) → Step
  Reject : (u : Frame) → Step
  Memory_free : (u : Frame) → Step
  -- an entry under way waits again or is given up; an answer with its reference ends it, or has it wait again
  Lapse : (e : OutEntry) → (st : EntryState) → Step
  Acknowledged : (u : Frame) → (g : Allocation) → (e : OutEntry) → Step
  Refused : (u : Frame) → (g : Allocation) → (e : OutEntry) → (st : EntryState) → Step
  -- a copy of a frame, or a frame of the layer below
  Again : (u : Frame) → Step
  Control : (handset : List ℕ) → Step

-- ---- submissions

-- the message is in the table, pending
abbrev pub enter : World → Submission → World
enter w s = record w { table = record { submission = s; state = Pending [] } ∷ w.table }

abbrev pub IsUnusedId : List Message → ℕ → Type 0
IsUnusedId [] id = Unit {0}
IsUnusedId (e ∷ es) id = ¬ (e.submission.id ≡ id) × IsUnusedId es id

-- the id is new, and each part takes a reference
abbrev pub CanSubmit : World → ℕ → Submission → List Ticket → Type 0
CanSubmit w moment s tickets =
    IsUnusedId w.table s.id × (0 < length s.parts) × (length tickets ≡ length s.parts) × CanGiveParts (enter w s) s moment 1 tickets

abbrev pub submitted : World → ℕ → Submission → List Ticket → World
submitted w moment s tickets =
    record w {
      table = record { submission = s; state = Pending [] } ∷ w.table;
      down = given_parts s moment 1 tickets w.down;
    }

-- part n is done
abbrev pub marked : ℕ → List UserData → State → State
marked n parts (Final f) = Final f
marked n parts (Pending done) = if all_numbers (length parts) (n ∷ done) then Final Delivered else Pending (n ∷ done)

abbrev pub settled : World → ℕ → ℕ → World
settled w id n = record w { table = changed id (λ e. marked n e.submission.parts e.state) w.table }

abbrev pub ended : World → ℕ → FinalState → World
ended w id f = record w { table = changed id (λ e. Final f) w.table }

abbrev pub IsPending : World → ℕ → Type 0
IsPending w id = (s : Submission) × (done : List ℕ) × IsRecorded w.table id s (Pending done)

-- ---- frames

-- the frame was sent, and is such a one
abbrev pub IsSent : World → Frame → Line → Kind → Type 0
IsSent w u line kind = Among (Carried u) w.bag × (u.line ≡ line) × (u.kind ≡ kind)

-- the frame has the reference that part n of the message holds
abbrev pub HasReference : World → Frame → Allocation → ℕ → ℕ → Type 0
HasReference w u g id n = IsHeld w g × (g.holder ≡ Part id n) × (g.handset ≡ u.handset) × (g.reference ≡ u.reference)

-- the frame has the reference that the entry holds
abbrev pub HasReferenceUp : World → Frame → Allocation → OutEntry → Type 0
HasReferenceUp w u g e = IsHeldUp w g e × (g.handset ≡ u.handset) × (g.reference ≡ u.reference)

abbrev pub data_of : World → Allocation → Line → List ℕ → Frame
data_of w g line tpdu =
    record { number = next_number w; handset = g.handset; line = line; kind = Data; reference = g.reference; tpdu = tpdu; tag = g.holder }

abbrev pub memory_of : World → List ℕ → ℕ → ℕ → Frame
memory_of w handset number reference =
    record { number = next_number w; handset = handset; line = Up; kind = Data; reference = reference; tpdu = []; tag = Memory number }

-- ---- receipts

-- the id has no receipt
abbrev pub HasNoReceipt : World → ℕ → Type 0
HasNoReceipt w id = (f : FinalState) → Among (record { id = id; state = f }) w.receipts → ⊥

-- a final state for which a receipt is asked
abbrev pub IsOwed : World → Submission → FinalState → Type 0
IsOwed w s f = IsRecorded w.table s.id s (Final f) × IsWished s.wish f × HasNoReceipt w s.id

-- ---- the handsets' own messages

abbrev pub is_entry : OutEntry → OutEntry → Bool
is_entry e x = is_same_handset x.handset e.handset && (x.number == e.number)

abbrev pub replaced : OutEntry → EntryState → List OutEntry → List OutEntry
replaced e st [] = []
replaced e st (x ∷ xs) = (if is_entry e x then record x { state = st } else x) ∷ replaced e st xs

abbrev pub removed : OutEntry → List OutEntry → List OutEntry
removed e [] = []
removed e (x ∷ xs) = if is_entry e x then removed e xs else x ∷ removed e xs

-- the frame has a SUBMIT, and the submission is what that asks for
pub record Asks (u : Frame) (s : Submission) : Type 0 where
  pub submit : SubmitOf
  pub reads : up_at InData u.tpdu ≡ Ok (SubmitUp submit)
  pub source : s.source.digits ≡ u.handset
  pub handset : s.handset ≡ submit.destination_address.digits
  pub protocol_identifier : s.protocol_identifier ≡ submit.protocol_identifier
  pub data_coding_scheme : s.data_coding_scheme ≡ submit.data_coding_scheme
  pub reply_path : s.reply_path ≡ submit.reply_path
  pub header_indicator : s.user_data_header_indicator ≡ submit.user_data_header_indicator
  pub parts : s.parts ≡ submit.user_data ∷ []

-- ---- joining

-- nothing was joined at that place among the groups of the key
abbrev pub HasNotJoined : List Joined → List ℕ → Key → ℕ → Type 0
HasNotJoined [] handset k place = Unit {0}
HasNotJoined (x ∷ xs) handset k place = ¬ ((x.handset ≡ handset) × (x.key ≡ k) × (x.place ≡ place)) × HasNotJoined xs handset k place

-- ---- steps

-- when a step may happen
abbrev pub Can : World → ℕ → Step → Type 0
Can w moment (Submit s tickets) = CanSubmit w moment s tickets
Can w moment (Offer g tpdu) = IsHeld w g × (compared tpdu ≡ g.tpdu)
Can w moment (Take u) = IsSent w u Down Data × ¬ IsLast (pair_of u) w.accepted
Can w moment (Take_again u) = IsSent w u Down Data × IsLast (pair_of u) w.accepted
Can w moment (Refuse u) = IsSent w u Down Data × ¬ IsLast (pair_of u) w.accepted
Can w moment (Settle u g id n) = IsSent w u Down Ack × HasReference w u g id n
Can w moment (Expire id) = (s : Submission) × (done : List ℕ) × (IsRecorded w.table id s (Pending done) × (s.limit ≤ moment))
Can w moment (Delete id) = IsPending w id
Can w moment (Fail u g id n) = IsSent w u Down Error × HasReference w u g id n
Can w moment (Receipt s f) =
    IsOwed w s f × (s.by_report ≡ true → (r : ℕ) → CanGive w s.source.digits r moment → ⊥)
Can w moment (Status s f t) = IsOwed w s f × (s.by_report ≡ true) × CanGive w s.source.digits t.reference moment × IsReportOf s f t.tpdu
Can w moment (Close id) = Among id w.reports
Can w moment (Join j) =
    IsEndedAt j.place j.group (groups_of j.handset j.key w.accepted).ended × HasNotJoined w.joined j.handset j.key j.place
    × (joined_content j.key.total j.group ≡ Some j.content)
Can w moment (Write e r) = (e.state ≡ Queued) × IsNewHolder w.up e.handset (Entry e.number) × IsFreeUp w e.handset r
Can w moment (Remove e) = Among e w.outbox × ¬ IsUnfinished e.state
Can w moment (Offer_up g e tpdu) = IsHeldUp w g e × IsSubmitTo e.destination e.user_data tpdu
Can w moment (Offer_memory handset number r) = IsNewHolder w.up handset (Memory number) × IsFreeUp w handset r
Can w moment (Repeat_memory g number) = Among g w.up × (g.holder ≡ Memory number)
Can w moment (Receive u s tickets) = IsSent w u Up Data × Asks u s × CanSubmit w moment s tickets
Can w moment (Reject u) = IsSent w u Up Data
Can w moment (Memory_free u) = IsSent w u Up Data × (u.tpdu ≡ [])
Can w moment (Lapse e st) = Among e w.outbox × (e.state ≡ Sending) × ((st ≡ Queued) ⊎ (st ≡ Unsure))
Can w moment (Acknowledged u g e) = IsSent w u Up Ack × HasReferenceUp w u g e
Can w moment (Refused u g e st) =
    IsSent w u Up Error × HasReferenceUp w u g e × ((st ≡ Queued) ⊎ (st ≡ Failed) ⊎ (st ≡ Unsure))
Can w moment (Again u) = Among (Carried u) w.bag
Can w moment (Control handset) = Unit {0}

-- the world after it
abbrev pub after : World → ℕ → Step → World
after w moment (Submit s tickets) = submitted w moment s tickets
after w moment (Offer g tpdu) = put w (data_of w g Down tpdu)
after w moment (Take u) = put (record w { accepted = pair_of u ∷ w.accepted }) (answer u Ack (next_number w))
after w moment (Take_again u) = put w (answer u Ack (next_number w))
after w moment (Refuse u) = put w (answer u Error (next_number w))
after w moment (Settle u g id n) = settled w id n
after w moment (Expire id) = ended w id Expired
after w moment (Delete id) = ended w id Deleted
after w moment (Fail u g id n) = ended w id Undeliverable
after w moment (Receipt s f) = record w { receipts = record { id = s.id; state = f } ∷ w.receipts }
after w moment (Status s f t) =
    record w {
      receipts = record { id = s.id; state = f } ∷ w.receipts;
      reports = s.id ∷ w.reports;
      down = report_allocation s moment t ∷ w.down;
    }
after w moment (Close id) = record w { reports = without id w.reports }
after w moment (Join j) = record w { joined = j ∷ w.joined }
after w moment (Write e r) = record w { outbox = e ∷ w.outbox; up = entry_allocation e moment r ∷ w.up }
after w moment (Remove e) = record w { outbox = removed e w.outbox }
after w moment (Offer_up g e tpdu) = put (record w { outbox = replaced e Sending w.outbox }) (data_of w g Up tpdu)
after w moment (Offer_memory handset number r) =
    put (record w { up = memory_allocation handset number moment r ∷ w.up }) (memory_of w handset number r)
after w moment (Repeat_memory g number) = put w (memory_of w g.handset number g.reference)
after w moment (Receive u s tickets) = put (submitted w moment s tickets) (answer u Ack (next_number w))
after w moment (Reject u) = put w (answer u Error (next_number w))
after w moment (Memory_free u) = put w (answer u Ack (next_number w))
after w moment (Lapse e st) = record w { outbox = replaced e st w.outbox }
after w moment (Acknowledged u g e) = record w { outbox = replaced e Sent_up w.outbox }
after w moment (Refused u g e st) = record w { outbox = replaced e st w.outbox }
after w moment (Again u) = put w (record u { number = next_number w })
after w moment (Control handset) = record w { bag = Bare (next_number w) handset ∷ w.bag }

-- ---- runs: steps, each at its moment, one after another

-- a step at a moment; a step of a stopped event keeps no frame
pub record Item : Type 0 where
  pub step : Step
  pub moment : ℕ
  pub stopped : Bool

abbrev pub after_item : World → Item → World
after_item w i = with_frames (if i.stopped then w.bag else (after w i.moment i.step).bag) (after w i.moment i.step)

-- the items may happen one after another, oldest first
abbrev pub Run : World → List Item → Type 0
Run w [] = Unit {0}
Run w (i ∷ is) = Can w i.moment i.step × Run (after_item w i) is

abbrev pub end : World → List Item → World
end w [] = w
end w (i ∷ is) = end (after_item w i) is
