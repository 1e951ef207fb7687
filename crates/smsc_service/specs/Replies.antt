-- The replies to seats.
use Rattle.std.specs.Prelude.{ℕ, List, [], ◌∷◌, ◌++◌, Option, Some, None, Bool, false, if◌then◌else◌, bytes_eq}
use Rattle.smpp_pdu.specs.declared.status.CommandStatus.{CommandStatus}
use Rattle.smpp_pdu.specs.declared.status.CommandStatus.TheVariants.{ESME_RINVMSGID, ESME_RSYSERR}
use Rattle.sms_base.specs.declared.final_state.FinalState.{FinalState}
use Rattle.sms_centre_spec.specs.declared.answer.CentreAnswer.{CentreAnswer}
use Rattle.sms_centre_spec.specs.declared.answer.CentreAnswer.TheVariants.{Refused}
use Rattle.sms_centre_spec.specs.Draft.{Draft, messages_in}
use Rattle.sms_centre_spec.specs.Finals.{final_of}
use Rattle.sms_centre_spec.specs.declared.jobs.job.Job.{Job}
use Rattle.sms_centre_spec.specs.declared.jobs.job.Job.TheVariants.{LinkUp}
use Rattle.sms_centre_spec.specs.declared.jobs.reply.Reply.{Reply}
use Rattle.sms_centre_spec.specs.declared.jobs.reply.Reply.TheVariants.{Answer, Receipt, Frame as FrameOut, Taken}
use Rattle.sms_centre_spec.specs.jobs.Requests.{is_request}
use Rattle.sms_keeper.specs.declared.machine.Stimulus.{Stimulus}
use Rattle.sms_keeper.specs.declared.machine.Stimulus.TheVariants.{Job as JobOf, Tick, Own}
use Rattle.sms_keeper.specs.declared.outs.Out.{Out}
use Rattle.sms_centre_rows.specs.declared.messages.message.MessageRow.{MessageRow}
use Rattle.sms_centre_rows.specs.messages.Messages.{message_at}
use Rattle.sms_receipt.specs.declared.final_message.Final.{Final}
use Rattle.sms_centre_rows.specs.declared.reports.delivery.Delivery.{Delivery}
use Rattle.sms_centre_rows.specs.declared.waiting.handset_link.Sent.{Sent}
use Rattle.smsc_service.specs.declared.seat_map.LinkSeat.{LinkSeat}
use Rattle.smsc_service.specs.Seats.{Seats, is_vacant, seat_of}

abbrev pub for_seat : ℕ → Reply → List (Out Reply)
for_seat seat reply = record { seat = seat; out = reply } ∷ []

abbrev pub answer_for : ℕ → CentreAnswer → Out Reply
answer_for seat answer = record { seat = seat; out = Answer answer }

-- ---- what fails, or asks nothing

-- A request that failed is answered by RSYSERR (SMPP v3.4 5.1.3).
abbrev pub failed : ℕ → Job → List (Out Reply)
failed seat job = if is_request job then for_seat seat (Answer (Refused ESME_RSYSERR)) else []

abbrev pub failed_by : Stimulus Job → List (Out Reply)
failed_by (JobOf seat job) = failed seat job
failed_by (Tick now) = []
failed_by (Own errand) = []

-- A request that asks nothing is answered by who is at its seat: RINVMSGID where nobody is, and else RSYSERR.
abbrev pub vacancy : ℕ → Seats → CommandStatus
vacancy seat s = if is_vacant seat s then ESME_RINVMSGID else ESME_RSYSERR

abbrev pub nothing_by : Seats → Stimulus Job → List (Out Reply)
nothing_by s (JobOf seat job) = if is_request job then for_seat seat (Answer (Refused (vacancy seat s))) else []
nothing_by s (Tick now) = []
nothing_by s (Own errand) = []

-- the request of the seat is refused with this status
abbrev pub refused_by : CommandStatus → Stimulus Job → List (Out Reply)
refused_by status (JobOf seat job) = for_seat seat (Answer (Refused status))
refused_by status (Tick now) = []
refused_by status (Own errand) = []

-- another seat has the link
abbrev pub taken_by : Stimulus Job → List (Out Reply)
taken_by (JobOf seat job) = for_seat seat Taken
taken_by (Tick now) = []
taken_by (Own errand) = []

-- ---- answers

abbrev pub answer_out : ℕ → Option CentreAnswer → List (Out Reply)
answer_out seat None = []
answer_out seat (Some answer) = for_seat seat (Answer answer)

-- ---- frames

abbrev pub is_that : Option (List ℕ) → List ℕ → Bool
is_that None handset = false
is_that (Some other) handset = bytes_eq other handset

-- the link that the job brings up is at the seat that asks
abbrev pub seat_for : Option (List ℕ) → ℕ → List LinkSeat → List ℕ → Option ℕ
seat_for risen seat links handset = if is_that risen handset then Some seat else seat_of handset links

abbrev pub frame_out : Option ℕ → List ℕ → List (Out Reply)
frame_out None octets = []
frame_out (Some seat) octets = for_seat seat (FrameOut octets)

-- each frame is sent to the seat of its handset's link, if it has one
abbrev pub frame_outs : Option (List ℕ) → ℕ → List LinkSeat → List Sent → List (Out Reply)
frame_outs risen seat links [] = []
frame_outs risen seat links (sent ∷ others) = frame_out (seat_for risen seat links sent.handset) sent.frame.octets ++ frame_outs risen seat links others

-- ---- receipts

abbrev pub ended : MessageRow → FinalState → Option ℕ → Option Final
ended m state None = None
ended m state (Some done) = Some (final_of state done m)

-- what is reported of a message in this state, if it ended
abbrev pub end_in : MessageRow → Option FinalState → Option Final
end_in m None = None
end_in m (Some state) = ended m state m.done

abbrev pub end_of : Option MessageRow → Option Final
end_of None = None
end_of (Some m) = end_in m m.state

abbrev pub receipt_out : ℕ → Option Final → List (Out Reply)
receipt_out session None = []
receipt_out session (Some end) = for_seat session (Receipt end)

-- each receipt is sent to the seat of its session, of its message as it is now
abbrev pub receipt_outs : List MessageRow → List Delivery → List (Out Reply)
receipt_outs messages [] = []
receipt_outs messages (delivery ∷ others) = receipt_out delivery.session (end_of (message_at delivery.id messages)) ++ receipt_outs messages others

-- ---- the replies to an event

abbrev pub risen_by : Stimulus Job → Option (List ℕ)
risen_by (JobOf seat (LinkUp handset)) = Some handset
risen_by (JobOf seat other) = None
risen_by (Tick now) = None
risen_by (Own errand) = None

abbrev pub asker : Stimulus Job → ℕ
asker (JobOf seat job) = seat
asker (Tick now) = 0
asker (Own errand) = 0

-- the answer to an errand is for its owner, and for no seat
abbrev pub seat_answer : Stimulus Job → Option CentreAnswer → Option CentreAnswer
seat_answer (JobOf seat job) answer = answer
seat_answer (Tick now) answer = answer
seat_answer (Own errand) answer = None

-- the answer to the seat that asked, then frames, then receipts
abbrev pub replies_at : Option (List ℕ) → ℕ → List LinkSeat → Option CentreAnswer → List Sent → List MessageRow → List Delivery → List (Out Reply)
replies_at risen seat links answer frames messages deliveries =
    (answer_out seat answer ++ frame_outs risen seat links frames) ++ receipt_outs messages deliveries

abbrev pub replies_to : Seats → Stimulus Job → Draft → List (Out Reply)
replies_to s stimulus d =
    replies_at (risen_by stimulus) (asker stimulus) s.links (seat_answer stimulus d.answer) d.links.frames (messages_in d.store) d.bindings.deliveries
