-- To whom the frames of a run go.
use Rattle.std.specs.Prelude.{◌≡◌, ◌⊎◌, ℕ, List, [], ◌∷◌, ◌++◌, ⊤}
use Rattle.sms_base.specs.Among.{Among}
use Rattle.sms_centre_rows.specs.declared.waiting.handset_link.Sent.{Sent}
use Rattle.sms_centre_spec.specs.CentreEvent.{happened}
use Rattle.sms_centre_spec.specs.declared.event.CentreEvent.{CentreEvent}
use Rattle.sms_centre_spec.specs.declared.jobs.job.Job.{Job}
use Rattle.sms_centre_spec.specs.declared.jobs.job.Job.TheVariants.{LinkUp, LinkDown}
use Rattle.sms_centre_spec.specs.declared.jobs.reply.Reply.{Reply}
use Rattle.sms_centre_spec.specs.declared.jobs.reply.Reply.TheVariants.{Frame as FrameOut}
use Rattle.sms_keeper.specs.declared.machine.Fate.TheVariants.{NoMemory}
use Rattle.sms_keeper.specs.declared.machine.Item.{Item}
use Rattle.sms_keeper.specs.declared.machine.Stimulus.{Stimulus}
use Rattle.sms_keeper.specs.declared.machine.Stimulus.TheVariants.{Job as JobOf}
use Rattle.sms_keeper.specs.declared.outs.Out.{Out}
use Rattle.sms_keeper.specs.History.{IsHistory}
use Rattle.smsc_service.specs.Asking.{asked_by}
use Rattle.smsc_service.specs.Serving.{Serving, after, gives}
use Rattle.smsc_service.specs.declared.asking.SeatRequest.TheVariants.{Event}

abbrev pub frame_for : ℕ → List ℕ → Out Reply
frame_for seat octets = record { seat = seat; out = FrameOut octets }

-- ---- whose link is at a seat

-- No link of the seat was taken down. What the centre has no memory for is not done.
abbrev pub StaysUp : ℕ → List (Item Job Reply) → Type 0
StaysUp seat [] = ⊤
StaysUp seat (e ∷ items) = (e.stimulus ≡ JobOf seat LinkDown → e.fate ≡ NoMemory) × StaysUp seat items

-- a job of the seat named the handset, and the link was not taken down since
abbrev pub IsLinked : ℕ → List ℕ → List (Item Job Reply) → Type 0
IsLinked seat handset items =
    (one : List (Item Job Reply)) × (other : List (Item Job Reply)) × (e : Item Job Reply)
    × (items ≡ one ++ e ∷ other) × (e.stimulus ≡ JobOf seat (LinkUp handset)) × StaysUp seat other

-- ---- what is claimed

-- The frame goes to the handset whose link is at the seat, or comes up there by this very item. It is one that the centre's definition sends
-- to that handset there.
pub record IsOfHandset (first : Serving) (one : List (Item Job Reply)) (e : Item Job Reply) (seat : ℕ) (octets : List ℕ) : Type 0 where
  pub handset : List ℕ
  pub linked : IsLinked seat handset one ⊎ (e.stimulus ≡ JobOf seat (LinkUp handset))
  pub moment : Serving
  pub history : IsHistory gives after first one moment
  pub event : CentreEvent
  pub event_so : asked_by moment.seats e.stimulus ≡ Event event
  pub sent : Sent
  pub is_sent : Among sent (happened event moment.core).links.frames
  pub handset_so : sent.handset ≡ handset
  pub octets_so : sent.frame.octets ≡ octets

-- so of each frame that a seat got
abbrev pub GoToHandsets : Serving → List (Item Job Reply) → Type 0
GoToHandsets first items =
    (one other : List (Item Job Reply)) (e : Item Job Reply) (seat : ℕ) (octets : List ℕ) → items ≡ one ++ e ∷ other → Among (frame_for seat octets) e.outs
    → IsOfHandset first one e seat octets
