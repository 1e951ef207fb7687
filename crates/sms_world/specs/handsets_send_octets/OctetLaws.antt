-- What a handset sends is octets: after one event, and over any course of them.
use Rattle.std.specs.Prelude.{◌≡◌, ℕ, List, [], ◌∷◌, Result, Ok, Err}
use Rattle.sms_base.specs.Address.{IsAddress}
use Rattle.sms_base.specs.Reading.{AreOctets}
use Rattle.sms_handset_draft.specs.Draft.{Core, Draft, core_of, recovered}
use Rattle.sms_handset_draft.specs.FirstRows.{first_rows}
use Rattle.sms_handset_draft.specs.declared.setup.Setup.{Setup}
use Rattle.sms_handset.specs.HandsetEvent.{deleted, discarded, frame_received, tag_of, ticked, wrote}
use Rattle.sms_handset.specs.declared.event.HandsetEvent.{HandsetEvent}
use Rattle.sms_handset.specs.declared.event.HandsetEvent.TheVariants.{Frame, Tick, Write, Delete, Discard}
use Rattle.sms_handset.specs.declared.refusal.Refusal.{Refusal}
use Rattle.sms_world.specs.handsets_send_octets.Arriving.{ArrivesInOctets, EventInOctets}
use Rattle.sms_world.specs.handsets_send_octets.Keeping.{CoreKeepsOctets, SentInOctets}

-- ---- one event

-- an act of the owner may be refused
abbrev pub happened : HandsetEvent → Core → Result Draft Refusal
happened (Frame octets tag) c = Ok (frame_received octets (tag_of tag) c)
happened (Tick now) c = Ok (ticked now c)
happened (Write text to report) c = wrote text to report c
happened (Delete entry) c = deleted entry c
happened (Discard entry) c = discarded entry c

-- what it sends is octets, and it still keeps them
pub record SendsOctets (d : Draft) : Type 0 where
  pub sent : SentInOctets d.frames
  pub core : CoreKeepsOctets (core_of d)

abbrev pub EventLaw : Type 0
EventLaw = (event : HandsetEvent) (c : Core) (d : Draft) → CoreKeepsOctets c → EventInOctets event → happened event c ≡ Ok d → SendsOctets d

-- ---- starts

abbrev pub RestartLaw : Type 0
RestartLaw = (c : Core) (setup : Setup) → CoreKeepsOctets c → IsAddress setup.centre → CoreKeepsOctets (recovered (record c.rows { setup = setup }))

abbrev pub StartLaw : Type 0
StartLaw = (setup : Setup) → IsAddress setup.centre → CoreKeepsOctets (recovered (first_rows setup))

-- ---- a course

pub data Episode : Type 0 where
  -- an event whose changes are committed, and whose frames are sent
  Whole : HandsetEvent → Episode
  -- one that is stopped behind the store call: the handset recovers with a setup, and nothing is sent
  Stopped : HandsetEvent → Setup → Episode
  -- a restart, and no more is an event that is stopped before its store call
  Restart : Setup → Episode

abbrev pub EpisodeInOctets : Episode → Type 0
EpisodeInOctets (Whole event) = EventInOctets event
EpisodeInOctets (Stopped event setup) = EventInOctets event × IsAddress setup.centre
EpisodeInOctets (Restart setup) = IsAddress setup.centre

-- of what is done; what is refused changes nothing and sends nothing
abbrev pub IfDone : Result Draft Refusal → Core → (Core → Type 0) → (Draft → Type 0) → Type 0
IfDone (Ok d) c Refused Done = Done d
IfDone (Err refusal) c Refused Done = Refused c

abbrev pub again : Setup → Core → Core
again setup c = recovered (record c.rows { setup = setup })

-- all that is sent over these episodes is octets
abbrev pub AllSendOctets : List Episode → Core → Type 0
AllSendOctets [] c = Unit {0}
AllSendOctets (Whole event ∷ es) c =
    IfDone (happened event c) c (λ z. AllSendOctets es z) (λ d. SentInOctets d.frames × AllSendOctets es (core_of d))
AllSendOctets (Stopped event setup ∷ es) c =
    IfDone (happened event c) c (λ z. AllSendOctets es (again setup z)) (λ d. AllSendOctets es (again setup (core_of d)))
AllSendOctets (Restart setup ∷ es) c = AllSendOctets es (again setup c)

abbrev pub AreInOctets : List Episode → Type 0
AreInOctets [] = Unit {0}
AreInOctets (e ∷ es) = EpisodeInOctets e × AreInOctets es

abbrev pub RunLaw : Type 0
RunLaw = (episodes : List Episode) (setup : Setup) → IsAddress setup.centre → AreInOctets episodes → AllSendOctets episodes (recovered (first_rows setup))

-- ---- frames

abbrev pub ArrivalLaw : Type 0
ArrivalLaw = (octets : List ℕ) → AreOctets octets → ArrivesInOctets octets
