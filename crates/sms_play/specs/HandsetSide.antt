-- What an event of a handset leads to: its rows change, and its frames are sent.
use Rattle.std.specs.Prelude.{ℕ, ◌&&◌, nat_le, not, List, [], ◌∷◌, ◌++◌, Bool, true, false, if◌then◌else◌, Option, Some, None, Result, Ok, Err, is_some}
use Rattle.sms_base.specs.declared.carried.Carried.{Carried}
use Rattle.sms_base.specs.declared.carried.Kind.{Kind}
use Rattle.sms_base.specs.declared.carried.Kind.TheVariants.{Data, Ack, Error}
use Rattle.sms_base.specs.declared.holder.Holder.{Holder}
use Rattle.sms_base.specs.declared.holder.Holder.TheVariants.{Part, Report, Entry as EntryHolder, Memory}
use Rattle.sms_concat.specs.declared.content.Content.{Content}
use Rattle.sms_alphabet.specs.declared.scheme.Coding.{Coding}
use Rattle.sms_alphabet.specs.declared.scheme.Coding.TheVariants.{Septets, Octets, Ucs2, Compressed}
use Rattle.sms_handset_rows.specs.declared.inbox.entry.Entry.{Entry}
use Rattle.sms_handset_rows.specs.declared.inbox.entry.Message.{Message}
use Rattle.sms_handset_rows.specs.declared.inbox.entry.Message.TheVariants.{Single, Part as PartOf, Joined}
use Rattle.sms_handset.specs.declared.event.HandsetEvent.{HandsetEvent}
use Rattle.sms_handset.specs.declared.event.HandsetEvent.TheVariants.{Frame, Tick, Write, Delete, Discard}
use Rattle.sms_handset_rows.specs.declared.inbox.last_accepted.LastAccepted.{LastAccepted}
use Rattle.sms_handset_rows.specs.declared.outbox.out_entry.OutEntry.{OutEntry}
use Rattle.sms_handset.specs.declared.refusal.Refusal.{Refusal}
use Rattle.sms_handset_draft.specs.Draft.{Core, Draft, core_of}
use Rattle.sms_handset.specs.FaultCodes.{refusal_code}
use Rattle.sms_handset.specs.HandsetEvent.{frame_received, tag_of, ticked, wrote, deleted, discarded}
use Rattle.sms_handset_rows.specs.outbox.Keys.{out_key}
use Rattle.sms_link.specs.declared.outgoing.Outgoing.{Outgoing}
use Rattle.sms_script.specs.declared.report.answers.Answered.TheVariants.{Done, Refused}
use Rattle.sms_script.specs.declared.report.rows.AcceptedRow.{AcceptedRow}
use Rattle.sms_script.specs.declared.report.rows.Direction.TheVariants.{Up}
use Rattle.sms_script.specs.declared.report.rows.FrameRow.{FrameRow}
use Rattle.sms_script.specs.declared.report.rows.GivenRow.{GivenRow}
use Rattle.sms_script.specs.declared.report.rows.JoinedCoding.{JoinedCoding}
use Rattle.sms_script.specs.declared.report.rows.JoinedCoding.TheVariants.{Septets as InSeptets, Octets as InOctets, Ucs2 as InUcs2}
use Rattle.sms_script.specs.declared.report.rows.JoinedRow.{JoinedRow}
use Rattle.sms_rows.specs.declared.table.change.Change.{Change}
use Rattle.sms_rows.specs.declared.table.change.Change.TheVariants.{Put, Remove}
use Rattle.sms_rows.specs.table.Table.{put, row_at, without}
use Rattle.sms_play.specs.PlayState.{PlayState, Party, sent, answer, with_party}

-- ---- every event

-- an act of the owner may be refused
abbrev pub happened : HandsetEvent → Core → Result Draft Refusal
happened (Frame octets tag) c = Ok (frame_received octets (tag_of tag) c)
happened (Tick now) c = Ok (ticked now c)
happened (Write text to report) c = wrote text to report c
happened (Delete entry) c = deleted entry c
happened (Discard entry) c = discarded entry c

-- ---- what the changes put into the list of what was accepted last, and the joined entries that they put

abbrev pub accepted_in : List ℕ → List (Change LastAccepted) → List AcceptedRow
accepted_in handset [] = []
accepted_in handset (Put l ∷ changes) = record { handset = handset; reference = l.reference; tpdu = l.tpdu } ∷ accepted_in handset changes
accepted_in handset (Remove key ∷ changes) = accepted_in handset changes

-- compressed text counts as octets
abbrev pub coding_of : Coding → JoinedCoding
coding_of Septets = InSeptets
coding_of Octets = InOctets
coding_of Ucs2 = InUcs2
coding_of Compressed = InOctets

abbrev pub joined_as : List ℕ → Message → List JoinedRow
joined_as handset (Single tpdu) = []
joined_as handset (PartOf group number tpdu) = []
joined_as handset (Joined source content) =
    record { handset = handset; from = source.digits; coding = coding_of content.coding; units = content.units } ∷ []

abbrev pub joined_in : List ℕ → List (Change Entry) → List JoinedRow
joined_in handset [] = []
joined_in handset (Put e ∷ changes) = joined_as handset e.message ++ joined_in handset changes
joined_in handset (Remove key ∷ changes) = joined_in handset changes

-- ---- the references that were given: to each entry that entered the outbox, and to each RP-SMMA that was sent for the first
-- time, whose number was not given before

abbrev pub entry_given : List ℕ → ℕ → OutEntry → List GivenRow
entry_given handset moment o =
    record { handset = handset; direction = Up; reference = o.reference; holder = EntryHolder o.number; moment = moment } ∷ []

abbrev pub entries_given : List ℕ → ℕ → List OutEntry → List (Change OutEntry) → List GivenRow
entries_given handset moment outbox [] = []
entries_given handset moment outbox (Put o ∷ changes) =
    (if is_some (row_at out_key o.number outbox) then [] else entry_given handset moment o)
    ++ entries_given handset moment (put out_key o outbox) changes
entries_given handset moment outbox (Remove key ∷ changes) = entries_given handset moment (without out_key key outbox) changes

abbrev pub memory_given : List ℕ → ℕ → ℕ → ℕ → Holder → List GivenRow
memory_given handset moment next reference (Part id number) = []
memory_given handset moment next reference (Report id) = []
memory_given handset moment next reference (EntryHolder n) = []
memory_given handset moment next reference (Memory n) =
    if nat_le next n
    then record { handset = handset; direction = Up; reference = reference; holder = Memory n; moment = moment } ∷ []
    else []

abbrev pub data_given : List ℕ → ℕ → ℕ → ℕ → Holder → Kind → List GivenRow
data_given handset moment next reference tag Data = memory_given handset moment next reference tag
data_given handset moment next reference tag Ack = []
data_given handset moment next reference tag Error = []

abbrev pub carried_given : List ℕ → ℕ → ℕ → Option Carried → List GivenRow
carried_given handset moment next None = []
carried_given handset moment next (Some carried) = data_given handset moment next carried.reference carried.tag carried.kind

abbrev pub memories_given : List ℕ → ℕ → ℕ → List Outgoing → List GivenRow
memories_given handset moment next [] = []
memories_given handset moment next (f ∷ frames) =
    (if f.is_copy then [] else carried_given handset moment next f.carried) ++ memories_given handset moment next frames

abbrev pub given_by : Party → Draft → List GivenRow
given_by party d =
    entries_given party.number d.moment party.core.rows.outbox d.changes.outbox
    ++ memories_given party.number d.moment party.core.rows.counters.notice d.frames

-- ---- the changes are committed, and the frames are sent

abbrev pub party_after : Party → Draft → Party
party_after party d = record party {
  core = core_of d;
  accepted = party.accepted ++ accepted_in party.number d.changes.last;
  joined = party.joined ++ joined_in party.number d.changes.entries;
}

abbrev pub committed : Party → Draft → PlayState → PlayState
committed party d c = record c { parties = with_party (party_after party d) c.parties; given = c.given ++ given_by party d }

abbrev pub all_sent : List ℕ → List Outgoing → List FrameRow → List FrameRow
all_sent handset [] bag = bag
all_sent handset (f ∷ fs) bag = all_sent handset fs (sent Up handset f bag)

abbrev pub done : Party → Draft → PlayState → PlayState
done party d c = record (committed party d c) { bag = all_sent party.number d.frames c.bag }

-- ---- the handset meets an event, and nothing stops it: an act of its owner is answered

abbrev pub whole : Party → Result Draft Refusal → PlayState → PlayState
whole party (Ok d) c = done party d c
whole party (Err refusal) c = c

abbrev pub with_answer : ℕ → Result Draft Refusal → PlayState → PlayState
with_answer event (Ok d) c = answer event Done c
with_answer event (Err refusal) c = answer event (Refused (refusal_code refusal)) c

abbrev pub is_owners : HandsetEvent → Bool
is_owners (Frame octets tag) = false
is_owners (Tick now) = false
is_owners (Write text to report) = true
is_owners (Delete entry) = true
is_owners (Discard entry) = true

abbrev pub handset_meets : ℕ → Party → HandsetEvent → PlayState → PlayState
handset_meets event party e c =
    let d : Result Draft Refusal = happened e party.core in
    if is_owners e then with_answer event d (whole party d c) else whole party d c
