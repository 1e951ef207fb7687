-- What calls of a play answer.
use Rattle.std.specs.Prelude.{◌≡◌, ℕ, List, Option, Some, None, Result, Ok, Err}
use Rattle.sms_base.specs.Reading.{◌>>=◌}
use Rattle.sms_centre_spec.specs.Draft.{Draft as CentreDraft}
use Rattle.sms_centre_spec.specs.declared.answer.CentreAnswer.{CentreAnswer}
use Rattle.sms_centre_rows.specs.declared.reports.delivery.Delivery.{Delivery}
use Rattle.sms_centre_rows.specs.declared.waiting.handset_link.Sent.{Sent}
use Rattle.sms_handset_draft.specs.Draft.{Draft}
use Rattle.sms_handset.specs.declared.refusal.Refusal.{Refusal}
use Rattle.sms_script.specs.declared.play_fault.PlayFault.{PlayFault}
use Rattle.sms_script.specs.declared.play_fault.PlayFault.TheVariants.{BadSetup, NoMemory, NoSuchAccount, NoSuchFrame, NoSuchSide}
use Rattle.sms_play.specs.PlayState.{PlayState, Party}
use Rattle.sms_play.specs.HandsetSide.{committed}
use Rattle.sms_play.specs.Meeting.{Meeting, meeting_of, tag_in}
use Rattle.sms_play.specs.PlayedEvent.{met, stopped}
use Rattle.sms_player_handset.specs.declared.played.HandsetOutcome.{HandsetOutcome}
use Rattle.sms_player_handset.specs.declared.played.HandsetOutcome.TheVariants.{Done, Refused}
use Rattle.sms_player.specs.declared.playing.acts.Handed.{Handed}
use Rattle.sms_script.specs.declared.report.rows.FrameRow.{FrameRow}
use Rattle.sms_script.specs.declared.event.Act.{Act}
use Rattle.sms_script.specs.declared.event.StopPoint.{StopPoint}
use Rattle.sms_player.specs.playing.Plays.{Represents}
use Rattle.sms_player.specs.playing.Played.{PlayingOf}

-- what the centre gives of an event, beside the changes of its rows
pub record GivesOutputs (d : CentreDraft) (out : List Sent) (said : Option CentreAnswer) (receipts : List Delivery) : Type 0 where
  pub frames : out ≡ d.links.frames
  pub answer : said ≡ d.answer
  pub deliveries : receipts ≡ d.bindings.deliveries

-- what is handed over of a frame
pub record IsFrame (h : Handed) (f : FrameRow) : Type 0 where
  pub direction : h.direction ≡ f.direction
  pub handset : h.handset ≡ f.handset
  pub octets : h.octets ≡ f.octets
  pub tag : h.tag ≡ tag_in f.carried

-- an act, done or stopped
abbrev pub met_as : Option StopPoint → ℕ → Act → Meeting → PlayState → PlayState
met_as None event act meeting c = met event meeting c
met_as (Some stop) event act meeting c = stopped event act stop meeting c

-- the same, if the act concerns a side
abbrev pub carried_out : Option StopPoint → ℕ → Act → Result Meeting PlayFault → PlayState → Result PlayState PlayFault
carried_out stop event act meeting c = meeting >>= λ (m : Meeting). Ok (met_as stop event act m c)

abbrev pub acted : Option StopPoint → ℕ → Act → PlayState → Result PlayState PlayFault
acted stop event act c = carried_out stop event act (meeting_of event act c) c

-- the course that was wanted is shown, or its fault is reported, or there was no memory for it
abbrev pub LeadsTo : {X : Type 0} → Result X PlayFault → PlayingOf → Result PlayState PlayFault → Type 0
LeadsTo (Ok done) new wanted = (d : PlayState) × ((wanted ≡ Ok d) × Represents d new)
LeadsTo (Err (NoMemory event)) new wanted = Unit {0}
LeadsTo (Err (NoSuchFrame event)) new wanted = wanted ≡ Err (NoSuchFrame event)
LeadsTo (Err (NoSuchSide event)) new wanted = wanted ≡ Err (NoSuchSide event)
LeadsTo (Err (NoSuchAccount event)) new wanted = wanted ≡ Err (NoSuchAccount event)
LeadsTo (Err BadSetup) new wanted = wanted ≡ Err BadSetup

-- want of memory at that event
abbrev pub or_no_memory : {X E : Type 0} → ℕ → Result X E → Result X PlayFault
or_no_memory event (Ok x) = Ok x
or_no_memory event (Err e) = Err (NoMemory event)

-- the frame that is handed over is that of the bag, or neither is there
abbrev pub Hands : Option Handed → Option FrameRow → Type 0
Hands None None = Unit {0}
Hands None (Some f) = ⊥
Hands (Some h) None = ⊥
Hands (Some h) (Some f) = IsFrame h f

-- What a handset of the course does with an event, as far as its rows are concerned. The course with that committed is shown, with the
-- frames that are sent. Or it is refused alike, and the course is shown as it was.
abbrev pub MeetsAs : HandsetOutcome → Party → PlayState → PlayingOf → Result Draft Refusal → Type 0
MeetsAs (Done frames) party c new wanted = (d : Draft) × ((wanted ≡ Ok d) × (frames ≡ d.frames) × Represents (committed party d c) new)
MeetsAs (Refused refusal) party c new wanted = (wanted ≡ Err refusal) × Represents c new
