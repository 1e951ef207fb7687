-- A number in the answer to a submission is that of a message in the rows after it.
use Rattle.std.proofs.Common.{◌≡◌, ◌⊎◌, inl, inr, ⊎_elim, refl, sym, subst, ap, ℕ, List, [], ◌∷◌, ◌++◌, Option, Some, None, Result, Ok, Err}
use Rattle.std.specs.Prelude.{nat_lt}
use Rattle.std.proofs.lemmas.Bool.{cond_both}
use Rattle.sms_base.proofs.Lists.{among_parts}
use Rattle.smpp_pdu.specs.PduReading.{pdu_at}
use Rattle.smpp_pdu.specs.declared.body.Body.{Body}
use Rattle.smpp_pdu.specs.declared.body.Body.TheVariants.{BindReceiver, BindTransmitter, BindTransceiver, SubmitSm}
use Rattle.smpp_pdu.specs.declared.fault.PduFault.{PduFault}
use Rattle.smpp_pdu.specs.declared.message.Message.{Message}
use Rattle.smpp_pdu.specs.declared.pdu.Pdu.{Pdu}
use Rattle.smpp_pdu.specs.declared.status.CommandStatus.{CommandStatus}
use Rattle.smpp_pdu.specs.declared.status.CommandStatus.TheVariants.{ESME_RSYSERR}
use Rattle.sms_base.specs.Among.{Among}
use Rattle.sms_centre_spec.specs.CentreEvent.{happened}
use Rattle.sms_centre_spec.specs.Draft.{core_of, messages_in}
use Rattle.sms_centre_spec.specs.declared.answer.CentreAnswer.{CentreAnswer}
use Rattle.sms_centre_spec.specs.declared.answer.CentreAnswer.TheVariants.{Submitted, Refused as RefusedBy}
use Rattle.sms_centre_spec.specs.declared.event.CentreEvent.{CentreEvent}
use Rattle.sms_centre_spec.specs.declared.event.CentreEvent.TheVariants.{Submit as SubmitOf}
use Rattle.sms_centre_spec.proofs.Answered.{answer_names}
use Rattle.sms_centre_spec.specs.declared.jobs.job.Job.TheVariants.{Submit}
use Rattle.sms_centre_spec.specs.declared.jobs.reply.Reply.{Reply}
use Rattle.sms_centre_spec.specs.declared.jobs.reply.Reply.TheVariants.{Answer, Receipt, Frame as FrameOut}
use Rattle.sms_keeper.specs.declared.machine.Fate.{Fate}
use Rattle.sms_keeper.specs.declared.machine.Fate.TheVariants.{Done, NoMemory, Refused}
use Rattle.sms_keeper.specs.declared.machine.Stimulus.TheVariants.{Job as JobOf}
use Rattle.sms_keeper.specs.declared.outs.Out.{Out}
use Rattle.sms_centre_rows.specs.messages.Messages.{message_at}
use Rattle.sms_centre_rows.specs.declared.messages.message.MessageRow.{MessageRow}
use Rattle.sms_receipt.specs.declared.final_message.Final.{Final}
use Rattle.sms_centre_rows.specs.declared.reports.delivery.Delivery.{Delivery}
use Rattle.sms_centre_rows.specs.declared.waiting.handset_link.Sent.{Sent}
use Rattle.smsc_service.specs.declared.asking.SeatRequest.{SeatRequest}
use Rattle.smsc_service.specs.declared.asking.SeatRequest.TheVariants.{Event, Nothing, Taken, Forget, Enrol}
use Rattle.smsc_service.specs.declared.seat_map.LinkSeat.{LinkSeat}
use Rattle.smsc_service.specs.Asking.{asked, asked_by, read_as, submission}
use Rattle.smsc_service.specs.Serving.{Serving, after, after_for, gives, gives_for, refusal_for, unless_refused}
use Rattle.smsc_service.specs.Replies.{answer_for, answer_out, end_of, failed_by, frame_out, frame_outs, nothing_by, receipt_out, receipt_outs, seat_for, replies_at, vacancy}

-- ---- an answer among what is told

module _ (seat : ℕ) (answer : CentreAnswer) where
  no_frame : (o : Option ℕ) (octets : List ℕ) → Among (answer_for seat answer) (frame_out o octets) → ⊥
  no_frame None octets there = there
  no_frame (Some at) octets (inl e) = let k : Answer answer ≡ FrameOut octets = ap (λ (o : Out Reply). o.out) e in absurd cc
  no_frame (Some at) octets (inr there) = there

  no_frames : (risen : Option (List ℕ)) (asker : ℕ) (links : List LinkSeat) (frames : List Sent) → Among (answer_for seat answer) (frame_outs risen asker links frames) → ⊥
  no_frames risen asker links [] there = there
  no_frames risen asker links (f ∷ fs) there =
      let to : Option ℕ = seat_for risen asker links f.handset in
      ⊎_elim (λ h. no_frame to f.frame.octets h) (λ h. no_frames risen asker links fs h)
      (among_parts (answer_for seat answer) (frame_out to f.frame.octets) (frame_outs risen asker links fs) there)

  no_receipt : (session : ℕ) (end : Option Final) → Among (answer_for seat answer) (receipt_out session end) → ⊥
  no_receipt session None there = there
  no_receipt session (Some end) (inl e) = let k : Answer answer ≡ Receipt end = ap (λ (o : Out Reply). o.out) e in absurd cc
  no_receipt session (Some end) (inr there) = there

  no_receipts : (messages : List MessageRow) (ds : List Delivery) → Among (answer_for seat answer) (receipt_outs messages ds) → ⊥
  no_receipts messages [] there = there
  no_receipts messages (d ∷ ds) there =
      let end : Option Final = end_of (message_at d.id messages) in
      ⊎_elim (λ h. no_receipt d.session end h) (λ h. no_receipts messages ds h)
      (among_parts (answer_for seat answer) (receipt_out d.session end) (receipt_outs messages ds) there)

  answer_replied : (asker : ℕ) (o : Option CentreAnswer) → Among (answer_for seat answer) (answer_out asker o) → (seat ≡ asker) × (o ≡ Some answer)
  answer_replied asker None there = absurd there
  answer_replied asker (Some other) (inl e) = let k : Answer answer ≡ Answer other = ap (λ (o : Out Reply). o.out) e in (ap (λ (x : Out Reply). x.seat) e, (let same : other ≡ answer = cc in ap (λ (a : CentreAnswer). Some a) same))
  answer_replied asker (Some other) (inr there) = absurd there

  pub replied_answer : (risen : Option (List ℕ)) (asker : ℕ) (links : List LinkSeat) (o : Option CentreAnswer) (frames : List Sent) (messages : List MessageRow) (ds : List Delivery)
      → Among (answer_for seat answer) (replies_at risen asker links o frames messages ds) → (seat ≡ asker) × (o ≡ Some answer)
  replied_answer risen asker links o frames messages ds there =
      let first : List (Out Reply) = answer_out asker o in
      let second : List (Out Reply) = frame_outs risen asker links frames in
      ⊎_elim
      (λ h. ⊎_elim (λ k. answer_replied asker o k) (λ k. let no : ⊥ = no_frames risen asker links frames k in absurd no) (among_parts (answer_for seat answer) first second h))
      (λ h. let no : ⊥ = no_receipts messages ds h in absurd no)
      (among_parts (answer_for seat answer) (first ++ second) (receipt_outs messages ds) there)

-- ---- what a submission asks

abbrev IsSubmission : SeatRequest → Type 0
IsSubmission (Event event) = (account : ℕ) × ((message : Message) × (event ≡ SubmitOf account message))
IsSubmission Nothing = Unit {0}
IsSubmission Taken = ⊥
IsSubmission (Forget before from most) = ⊥
IsSubmission (Enrol account) = ⊥

body_asks : (account : ℕ) (body : Body) → IsSubmission (submission account body)
body_asks account (BindReceiver x) = tt
body_asks account (BindTransmitter x) = tt
body_asks account (BindTransceiver x) = tt
body_asks account (SubmitSm message) = (account, (message, refl))
body_asks account _ = tt

read_asks : (account : ℕ) (r : Result Pdu PduFault) → IsSubmission (read_as (submission account) r)
read_asks account (Ok pdu) = body_asks account pdu.body
read_asks account (Err fault) = tt

submission_asks : (s : Serving) (seat account : ℕ) (pdu : List ℕ) → IsSubmission (asked_by s.seats (JobOf seat (Submit account pdu)))
submission_asks s seat account pdu =
    cond_both (nat_lt seat 32) (asked s.seats seat (Submit account pdu)) Nothing (λ (a : SeatRequest). IsSubmission a) (λ t. read_asks account (pdu_at pdu)) (λ t. tt)

-- ---- together

module _ (s : Serving) (seat account : ℕ) (pdu : List ℕ) (to id : ℕ) where
  abbrev Names : SeatRequest → Fate → Type 0
  Names a fate = Among (answer_for to (Submitted id)) (gives_for a fate s (JobOf seat (Submit account pdu)))
      → (to ≡ seat) × ((row : MessageRow) × (message_at id (after_for a fate s (JobOf seat (Submit account pdu))).core.rows.messages ≡ Some row))

  event_names : (event : CentreEvent) → IsSubmission (Event event) → Names (Event event) Done
  event_names event is there =
      let outputs = replied_answer to (Submitted id) None seat s.seats.links (happened event s.core).answer (happened event s.core).links.frames (messages_in (happened event s.core).store) (happened event s.core).bindings.deliveries there in
      let named : (happened event s.core).answer ≡ Some (Submitted id) → (row : MessageRow) × (message_at id (core_of (happened event s.core)).rows.messages ≡ Some row) =
      subst (λ (ev : CentreEvent). (happened ev s.core).answer ≡ Some (Submitted id) → (row : MessageRow) × (message_at id (core_of (happened ev s.core)).rows.messages ≡ Some row))
      (sym is.1.1) (answer_names is.0 is.1.0 s.core id) in
      (outputs.0, named outputs.1)

  failed_names : (a : SeatRequest) (fate : Fate) → Among (answer_for to (Submitted id)) (failed_by (JobOf seat (Submit account pdu))) → (to ≡ seat) × ((row : MessageRow) × (message_at id (after_for a fate s (JobOf seat (Submit account pdu))).core.rows.messages ≡ Some row))
  failed_names a fate (inl e) = let k : Answer (Submitted id) ≡ Answer (RefusedBy ESME_RSYSERR) = ap (λ (o : Out Reply). o.out) e in absurd cc
  failed_names a fate (inr there) = absurd there

  nothing_names : (a : SeatRequest) (fate : Fate) → Among (answer_for to (Submitted id)) (nothing_by s.seats (JobOf seat (Submit account pdu))) → (to ≡ seat) × ((row : MessageRow) × (message_at id (after_for a fate s (JobOf seat (Submit account pdu))).core.rows.messages ≡ Some row))
  nothing_names a fate (inl e) = let k : Answer (Submitted id) ≡ Answer (RefusedBy (vacancy seat s.seats)) = ap (λ (o : Out Reply). o.out) e in absurd cc
  nothing_names a fate (inr there) = absurd there

  asked_names : (a : SeatRequest) (fate : Fate) → IsSubmission a → Names a fate
  asked_names (Event event) Done is there = event_names event is there
  asked_names (Event event) NoMemory is there = failed_names (Event event) NoMemory there
  asked_names (Event event) Refused is there = failed_names (Event event) Refused there
  asked_names Nothing fate is there = nothing_names Nothing fate there
  asked_names Taken fate is there = absurd is
  asked_names (Forget before from most) fate is there = absurd is
  asked_names (Enrol account) fate is there = absurd is

  -- a refusal by octets has no number
  outs_names : (a : SeatRequest) (fate : Fate) (refusal : Option CommandStatus) → IsSubmission a → Among (answer_for to (Submitted id)) (unless_refused fate refusal (JobOf seat (Submit account pdu)) (gives_for a fate s (JobOf seat (Submit account pdu))))
      → (to ≡ seat) × ((row : MessageRow) × (message_at id (after_for a fate s (JobOf seat (Submit account pdu))).core.rows.messages ≡ Some row))
  outs_names a Done refusal is there = asked_names a Done is there
  outs_names a Refused refusal is there = asked_names a Refused is there
  outs_names a NoMemory None is there = asked_names a NoMemory is there
  outs_names a NoMemory (Some status) is (inl e) = let k : Answer (Submitted id) ≡ Answer (RefusedBy status) = ap (λ (o : Out Reply). o.out) e in absurd cc
  outs_names a NoMemory (Some status) is (inr there) = absurd there

pub answer_stands : (s : Serving) (seat account to id : ℕ) (pdu : List ℕ) (fate : Fate) → Among (answer_for to (Submitted id)) (gives s (JobOf seat (Submit account pdu)) fate)
    → (to ≡ seat) × ((row : MessageRow) × (message_at id (after s (JobOf seat (Submit account pdu)) fate).core.rows.messages ≡ Some row))
answer_stands s seat account to id pdu fate there =
    outs_names s seat account pdu to id (asked_by s.seats (JobOf seat (Submit account pdu))) fate (refusal_for (asked_by s.seats (JobOf seat (Submit account pdu))) s.core) (submission_asks s seat account pdu) there
