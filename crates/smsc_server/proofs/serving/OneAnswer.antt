-- Each request of a seat has one answer among what is given to the seat, and nothing else has any.
use Rattle.std.proofs.Common.{◌≡◌, ◌<◌, ◌==◌, ◌+◌, ◌∙◌, ℕ, suc, Bool, true, false, true≢false, List, [], ◌∷◌, ◌++◌, Option, Some, None, Result, Ok, Err, if◌then◌else◌, refl, sym, ap, subst, zero-add, arith}
use Rattle.std.specs.Prelude.{nat_lt}
use Rattle.std.specs.Option.{is_some}
use Rattle.std.proofs.lemmas.Bool.{cond_both, eq-eqb}
use Rattle.std.proofs.lemmas.Option.{none-some}
use Rattle.smpp_pdu.specs.declared.body.Body.{Body}
use Rattle.smpp_pdu.specs.declared.body.Body.TheVariants.{BindReceiver, BindTransmitter, BindTransceiver, SubmitSm, DeliverSm, QuerySm, CancelSm}
use Rattle.smpp_pdu.specs.declared.fault.PduFault.{PduFault}
use Rattle.smpp_pdu.specs.declared.pdu.Pdu.{Pdu}
use Rattle.smpp_pdu.specs.declared.status.CommandStatus.{CommandStatus}
use Rattle.smpp_pdu.specs.declared.status.CommandStatus.TheVariants.{ESME_RSYSERR}
use Rattle.smpp_pdu.specs.declared.fault.PduFault.TheVariants.{Truncated}
use Rattle.smpp_pdu.specs.FieldReading.{four_in, two_in}
use Rattle.smpp_pdu.specs.PduReading.{pdu_at}
use Rattle.sms_centre_rows.specs.declared.messages.message.MessageRow.{MessageRow}
use Rattle.sms_centre_rows.specs.declared.reports.delivery.Delivery.{Delivery}
use Rattle.sms_centre_rows.specs.declared.waiting.handset_link.Sent.{Sent}
use Rattle.sms_centre_rows.specs.messages.Messages.{message_at}
use Rattle.sms_centre_spec.specs.CentreEvent.{happened}
use Rattle.sms_centre_spec.specs.Draft.{Core, messages_in}
use Rattle.sms_centre_spec.specs.declared.answer.CentreAnswer.{CentreAnswer}
use Rattle.sms_centre_spec.specs.declared.answer.CentreAnswer.TheVariants.{Refused as RefusedBy}
use Rattle.sms_centre_spec.specs.declared.event.CentreEvent.{CentreEvent}
use Rattle.sms_centre_spec.specs.declared.event.CentreEvent.TheVariants.{Submit as SubmitOf, Query as QueryOf, Cancel as CancelOf, Bound as BoundOf, Unbound as UnboundOf, DeliverAnswered as DeliverAnsweredOf, Frame as FrameOf, LinkUp as LinkUpOf, LinkDown as LinkDownOf, Ordered as OrderedOf, Tick as TickOf}
use Rattle.sms_centre_spec.specs.declared.order.Order.TheVariants.{Retry as RetryOf, Delete as DeleteOf}
use Rattle.sms_centre_spec.specs.declared.jobs.job.Job.{Job}
use Rattle.sms_centre_spec.specs.declared.jobs.job.Job.TheVariants.{Bound, Unbound, Submit, Query, Cancel, DeliverAnswered, LinkUp, LinkDown, Frame}
use Rattle.sms_centre_spec.specs.declared.jobs.reply.Reply.{Reply}
use Rattle.sms_centre_spec.specs.declared.jobs.reply.Reply.TheVariants.{Answer, Receipt, Frame as FrameOut, Taken as TakenOut}
use Rattle.sms_centre_spec.specs.jobs.Requests.{is_request}
use Rattle.sms_keeper.specs.declared.machine.Fate.{Fate}
use Rattle.sms_keeper.specs.declared.machine.Fate.TheVariants.{Done, NoMemory, Refused}
use Rattle.sms_keeper.specs.declared.machine.Errand.{Errand}
use Rattle.sms_keeper.specs.declared.machine.Errand.TheVariants.{Forget as ForgetErrand, Retry, Delete, Enrol as EnrolErrand}
use Rattle.sms_keeper.specs.declared.machine.Stimulus.{Stimulus}
use Rattle.sms_keeper.specs.declared.machine.Stimulus.TheVariants.{Job as JobOf, Tick, Own}
use Rattle.sms_keeper.specs.declared.outs.Out.{Out}
use Rattle.sms_keeper.specs.History.{outs_to}
use Rattle.sms_receipt.specs.declared.final_message.Final.{Final}
use Rattle.smsc_loop.specs.Owing.{answers_in, asks_nothing}
use Rattle.smsc_service.specs.declared.asking.SeatRequest.{SeatRequest}
use Rattle.smsc_service.specs.declared.asking.SeatRequest.TheVariants.{Event, Nothing, Taken, Forget, Enrol}
use Rattle.smsc_service.specs.declared.seat_map.LinkSeat.{LinkSeat}
use Rattle.smsc_service.specs.Asking.{asked, asked_by, link_for, of_handset, question, read_as, submission, withdrawal}
use Rattle.smsc_service.specs.Numbers.{is_number}
use Rattle.smsc_service.specs.Replies.{answer_out, end_of, failed, for_seat, frame_out, frame_outs, receipt_out, receipt_outs, replies_at, replies_to, risen_by, seat_for, vacancy}
use Rattle.smsc_service.specs.Seats.{Seats, handset_at, seat_of}
use Rattle.smsc_service.specs.Serving.{Serving, after, after_for, gives, gives_for, outs_for, refusal_for, refusal_of, short_of, unless_refused}
use Rattle.sms_centre_spec.proofs.Unanswered.{answered_unanswered, bound_unanswered, cancel_answered, down_unanswered, frame_unanswered, query_answered, submit_answered, tick_unanswered, unbound_unanswered, up_unanswered}

-- ---- counted among what is given to a seat

pub answers_join : (a b : List Reply) → answers_in (a ++ b) ≡ answers_in a + answers_in b
answers_join [] b = sym (zero-add (answers_in b))
answers_join (Answer answer ∷ a) b = let e = answers_join a b in omega arith
answers_join (Receipt end ∷ a) b = answers_join a b
answers_join (FrameOut octets ∷ a) b = answers_join a b
answers_join (TakenOut ∷ a) b = answers_join a b

abbrev here : Bool → Reply → List Reply
here b reply = if b then reply ∷ [] else []

given_join : (n : ℕ) (a b : List (Out Reply)) → outs_to n (a ++ b) ≡ outs_to n a ++ outs_to n b
given_join n [] b = refl
given_join n (o ∷ a) b = ap (λ (l : List Reply). if n == o.seat then o.out ∷ l else l) (given_join n a b) ∙ behind (n == o.seat) o.out (outs_to n a) (outs_to n b)
  where
    behind : (at : Bool) (x : Reply) (l m : List Reply) → (if at then x ∷ (l ++ m) else l ++ m) ≡ (if at then x ∷ l else l) ++ m
    behind true x l m = refl
    behind false x l m = refl

abbrev answers_to : ℕ → List (Out Reply) → ℕ
answers_to n outs = answers_in (outs_to n outs)

to_join : (n : ℕ) (a b : List (Out Reply)) → answers_to n (a ++ b) ≡ answers_to n a + answers_to n b
to_join n a b = ap answers_in (given_join n a b) ∙ answers_join (outs_to n a) (outs_to n b)

none_here : (b : Bool) (reply : Reply) → answers_in (reply ∷ []) ≡ 0 → answers_in (here b reply) ≡ 0
none_here true reply e = e
none_here false reply e = refl

-- ---- frames and receipts are no answers

no_frame : (n : ℕ) (o : Option ℕ) (octets : List ℕ) → answers_to n (frame_out o octets) ≡ 0
no_frame n None octets = refl
no_frame n (Some seat) octets = none_here (n == seat) (FrameOut octets) refl

no_frames : (n : ℕ) (risen : Option (List ℕ)) (seat : ℕ) (links : List LinkSeat) (frames : List Sent) → answers_to n (frame_outs risen seat links frames) ≡ 0
no_frames n risen seat links [] = refl
no_frames n risen seat links (f ∷ fs) =
    let to = seat_for risen seat links f.handset in
    to_join n (frame_out to f.frame.octets) (frame_outs risen seat links fs)
    ∙ (ap (λ (m : ℕ). m + answers_to n (frame_outs risen seat links fs)) (no_frame n to f.frame.octets)
    ∙ (zero-add (answers_to n (frame_outs risen seat links fs)) ∙ no_frames n risen seat links fs))

no_receipt : (n session : ℕ) (end : Option Final) → answers_to n (receipt_out session end) ≡ 0
no_receipt n session None = refl
no_receipt n session (Some end) = none_here (n == session) (Receipt end) refl

no_receipts : (n : ℕ) (messages : List MessageRow) (ds : List Delivery) → answers_to n (receipt_outs messages ds) ≡ 0
no_receipts n messages [] = refl
no_receipts n messages (d ∷ ds) =
    let end = end_of (message_at d.id messages) in
    to_join n (receipt_out d.session end) (receipt_outs messages ds)
    ∙ (ap (λ (m : ℕ). m + answers_to n (receipt_outs messages ds)) (no_receipt n d.session end)
    ∙ (zero-add (answers_to n (receipt_outs messages ds)) ∙ no_receipts n messages ds))

-- ---- by what is asked

-- one at the seat, where a request is put there
abbrev pub one_if : Bool → Bool → ℕ
one_if at is = if at then (if is then 1 else 0) else 0

one_out : (n seat : ℕ) (a : Option CentreAnswer) → answers_to n (answer_out seat a) ≡ one_if (n == seat) (is_some a)
one_out n seat None = none_there (n == seat)
  where
    none_there : (b : Bool) → 0 ≡ one_if b false
    none_there true = refl
    none_there false = refl
one_out n seat (Some answer) = one_there (n == seat)
  where
    one_there : (b : Bool) → answers_in (here b (Answer answer)) ≡ one_if b true
    one_there true = refl
    one_there false = refl

one_replied : (n : ℕ) (risen : Option (List ℕ)) (seat : ℕ) (links : List LinkSeat) (a : Option CentreAnswer) (frames : List Sent) (messages : List MessageRow)
    (ds : List Delivery) → answers_to n (replies_at risen seat links a frames messages ds) ≡ one_if (n == seat) (is_some a)
one_replied n risen seat links a frames messages ds =
    let x = answer_out seat a in let y = frame_outs risen seat links frames in let z = receipt_outs messages ds in
    let e = to_join n (x ++ y) z in let f = to_join n x y in let h = one_out n seat a in
    let k = no_frames n risen seat links frames in let l = no_receipts n messages ds in
    e ∙ (ap (λ (m : ℕ). m + answers_to n z) (f ∙ ap (λ (m : ℕ). answers_to n x + m) k) ∙ (ap (λ (m : ℕ). (answers_to n x + 0) + m) l ∙ (plain (answers_to n x) ∙ h)))
  where
    plain : (m : ℕ) → (m + 0) + 0 ≡ m
    plain m = omega arith

one_failed : (n seat : ℕ) (job : Job) → answers_to n (failed seat job) ≡ one_if (n == seat) (is_request job)
one_failed n seat job = by_kind (is_request job)
  where
    at_seat : (at : Bool) → answers_in (here at (Answer (RefusedBy ESME_RSYSERR))) ≡ one_if at true
    at_seat true = refl
    at_seat false = refl

    at_none : (at : Bool) → 0 ≡ one_if at false
    at_none true = refl
    at_none false = refl

    by_kind : (is : Bool) → answers_to n (if is then for_seat seat (Answer (RefusedBy ESME_RSYSERR)) else []) ≡ one_if (n == seat) is
    by_kind true = at_seat (n == seat)
    by_kind false = at_none (n == seat)

one_nothing : (n seat : ℕ) (job : Job) (status : CommandStatus)
    → answers_to n (if is_request job then for_seat seat (Answer (RefusedBy status)) else []) ≡ one_if (n == seat) (is_request job)
one_nothing n seat job status = by_kind (is_request job)
  where
    at_seat : (at : Bool) → answers_in (here at (Answer (RefusedBy status))) ≡ one_if at true
    at_seat true = refl
    at_seat false = refl

    at_none : (at : Bool) → 0 ≡ one_if at false
    at_none true = refl
    at_none false = refl

    by_kind : (is : Bool) → answers_to n (if is then for_seat seat (Answer (RefusedBy status)) else []) ≡ one_if (n == seat) is
    by_kind true = at_seat (n == seat)
    by_kind false = at_none (n == seat)

-- what is asked of the centre is answered as the job has an answer
abbrev Suits : Core → Job → SeatRequest → Type 0
Suits c job (Event event) = (is_some (happened event c).answer ≡ is_request job) × ((status : CommandStatus) → refusal_of event c ≡ Some status → is_request job ≡ true)
Suits c job Nothing = Unit {0}
Suits c job Taken = is_request job ≡ false
Suits c job (Forget before from most) = ⊥
Suits c job (Enrol account) = ⊥

submits : (c : Core) (account : ℕ) (pdu : List ℕ) (body : Body) → Suits c (Submit account pdu) (submission account body)
submits c account pdu (BindReceiver x) = tt
submits c account pdu (BindTransmitter x) = tt
submits c account pdu (BindTransceiver x) = tt
submits c account pdu (SubmitSm asked) = (submit_answered account asked c, λ status e. refl)
submits c account pdu _ = tt

queries : (c : Core) (account : ℕ) (pdu : List ℕ) (body : Body) → Suits c (Query account pdu) (question account body)
queries c account pdu (BindReceiver x) = tt
queries c account pdu (BindTransmitter x) = tt
queries c account pdu (BindTransceiver x) = tt
queries c account pdu (SubmitSm x) = tt
queries c account pdu (DeliverSm x) = tt
queries c account pdu (QuerySm asked) = (query_answered account asked c, λ status e. refl)
queries c account pdu _ = tt

cancels : (c : Core) (account : ℕ) (pdu : List ℕ) (body : Body) → Suits c (Cancel account pdu) (withdrawal account body)
cancels c account pdu (BindReceiver x) = tt
cancels c account pdu (BindTransmitter x) = tt
cancels c account pdu (BindTransceiver x) = tt
cancels c account pdu (SubmitSm x) = tt
cancels c account pdu (DeliverSm x) = tt
cancels c account pdu (QuerySm x) = tt
cancels c account pdu (CancelSm asked) = (cancel_answered account asked c, λ status e. refl)
cancels c account pdu _ = tt

reads : (c : Core) (job : Job) (ask : Body → SeatRequest) → ((body : Body) → Suits c job (ask body)) → (r : Result Pdu PduFault) → Suits c job (read_as ask r)
reads c job ask h (Ok pdu) = h pdu.body
reads c job ask h (Err fault) = tt

no_status : {A : Type 0} (status : CommandStatus) → None ≡ Some status → A
no_status status e = absurd (none-some status e)

suits_link : (c : Core) (handset : List ℕ) (o : Option ℕ) → Suits c (LinkUp handset) (link_for o handset)
suits_link c handset (Some seat) = refl
suits_link c handset None = (ap is_some (up_unanswered handset c), λ status e. no_status status e)

suits_handset : (c : Core) (job : Job) (event : List ℕ → CentreEvent) → ((handset : List ℕ) → Suits c job (Event (event handset))) → (o : Option (List ℕ))
    → Suits c job (of_handset event o)
suits_handset c job event h None = tt
suits_handset c job event h (Some handset) =
    cond_both (is_number handset) (Event (event handset)) Nothing (λ (a : SeatRequest). Suits c job a) (λ t. h handset) (λ t. tt)

suits : (c : Core) (s : Seats) (seat : ℕ) (job : Job) → Suits c job (asked s seat job)
suits c s seat (Bound account receives) = (ap is_some (bound_unanswered seat account receives c), λ status e. no_status status e)
suits c s seat Unbound = (ap is_some (unbound_unanswered seat c), λ status e. no_status status e)
suits c s seat (Submit account pdu) = reads c (Submit account pdu) (submission account) (submits c account pdu) (pdu_at pdu)
suits c s seat (Query account pdu) = reads c (Query account pdu) (question account) (queries c account pdu) (pdu_at pdu)
suits c s seat (Cancel account pdu) = reads c (Cancel account pdu) (withdrawal account) (cancels c account pdu) (pdu_at pdu)
suits c s seat (DeliverAnswered id is_accepted) = (ap is_some (answered_unanswered seat id is_accepted c), λ status e. no_status status e)
suits c s seat (LinkUp handset) =
    cond_both (is_number handset) (link_for (seat_of handset s.links) handset) Nothing (λ (a : SeatRequest). Suits c (LinkUp handset) a)
    (λ t. suits_link c handset (seat_of handset s.links)) (λ t. tt)
suits c s seat LinkDown =
    suits_handset c LinkDown (λ (handset : List ℕ). LinkDownOf handset)
    (λ handset. (ap is_some (down_unanswered handset c), λ status e. no_status status e)) (handset_at seat s.links)
suits c s seat (Frame octets) =
    suits_handset c (Frame octets) (λ (handset : List ℕ). FrameOf handset octets None)
    (λ handset. (ap is_some (frame_unanswered handset octets None c), λ status e. no_status status e)) (handset_at seat s.links)

-- ---- by what is given

module _ (n seat : ℕ) (job : Job) where
  one_short : (o : Option CommandStatus) → ((status : CommandStatus) → o ≡ Some status → is_request job ≡ true)
      → answers_to n (short_of o (JobOf seat job) (failed seat job)) ≡ one_if (n == seat) (is_request job)
  one_short None h = one_failed n seat job
  one_short (Some status) h = one_there (n == seat) ∙ ap (one_if (n == seat)) (sym (h status refl))
    where
      one_there : (b : Bool) → answers_in (here b (Answer (RefusedBy status))) ≡ one_if b true
      one_there true = refl
      one_there false = refl

  none_taken : (at : Bool) → answers_in (here at TakenOut) ≡ one_if at false
  none_taken true = refl
  none_taken false = refl

  one_asked : (s : Serving) (fate : Fate) (a : SeatRequest) → Suits s.core job a
      → answers_to n (outs_for a fate s (JobOf seat job)) ≡ one_if (n == seat) (is_request job)
  one_asked s Done (Event event) h =
      let d = happened event s.core in
      one_replied n (risen_by (JobOf seat job)) seat s.seats.links d.answer d.links.frames (messages_in d.store) d.bindings.deliveries
      ∙ ap (one_if (n == seat)) h.0
  one_asked s NoMemory (Event event) h = one_short (refusal_of event s.core) h.1
  one_asked s Refused (Event event) h = one_failed n seat job
  one_asked s Done Nothing h = one_nothing n seat job (vacancy seat s.seats)
  one_asked s NoMemory Nothing h = one_nothing n seat job (vacancy seat s.seats)
  one_asked s Refused Nothing h = one_nothing n seat job (vacancy seat s.seats)
  one_asked s Done Taken h = none_taken (n == seat) ∙ ap (one_if (n == seat)) (sym h)
  one_asked s NoMemory Taken h = none_taken (n == seat) ∙ ap (one_if (n == seat)) (sym h)
  one_asked s Refused Taken h = none_taken (n == seat) ∙ ap (one_if (n == seat)) (sym h)
  one_asked s Done (Forget before from most) h = absurd h
  one_asked s NoMemory (Forget before from most) h = absurd h
  one_asked s Refused (Forget before from most) h = absurd h
  one_asked s Done (Enrol account) h = absurd h
  one_asked s NoMemory (Enrol account) h = absurd h
  one_asked s Refused (Enrol account) h = absurd h

  one_of : (s : Serving) (fate : Fate) (b : Bool)
      → answers_to n (outs_for (if b then asked s.seats seat job else Nothing) fate s (JobOf seat job)) ≡ one_if (n == seat) (is_request job)
  one_of s fate true = one_asked s fate (asked s.seats seat job) (suits s.core s.seats seat job)
  one_of s fate false = one_asked s fate Nothing tt

-- how many requests of the seat a stimulus is
abbrev pub requests_of : ℕ → Stimulus Job → ℕ
requests_of n (JobOf seat job) = one_if (n == seat) (is_request job)
requests_of n (Tick now) = 0
requests_of n (Own errand) = 0

none_at : (b : Bool) → one_if b false ≡ 0
none_at true = refl
none_at false = refl

-- the answer to an errand goes to no seat
own_given : (s : Serving) (n : ℕ) (errand : Errand) (event : CentreEvent) → answers_to n (replies_to s.seats (Own errand) (happened event s.core)) ≡ 0
own_given s n errand event =
    let d = happened event s.core in
    one_replied n None 0 s.seats.links None d.links.frames (messages_in d.store) d.bindings.deliveries ∙ none_at (n == 0)

-- Each request of a seat has one answer there, and nothing else has any.
pub one_given : (s : Serving) (n : ℕ) (stimulus : Stimulus Job) (fate : Fate) → answers_to n (gives s stimulus fate) ≡ requests_of n stimulus
one_given s n (JobOf seat job) fate = one_of n seat job s fate (nat_lt seat 32)
one_given s n (Tick now) Done =
    let d = happened (TickOf now) s.core in
    one_replied n None 0 s.seats.links d.answer d.links.frames (messages_in d.store) d.bindings.deliveries
    ∙ (ap (λ (a : Option CentreAnswer). one_if (n == 0) (is_some a)) (tick_unanswered now s.core) ∙ none_at (n == 0))
one_given s n (Tick now) NoMemory = refl
one_given s n (Tick now) Refused = refl
one_given s n (Own (ForgetErrand before from most)) Done = refl
one_given s n (Own (ForgetErrand before from most)) NoMemory = refl
one_given s n (Own (ForgetErrand before from most)) Refused = refl
one_given s n (Own (Retry id)) Done = own_given s n (Retry id) (OrderedOf RetryOf id)
one_given s n (Own (Retry id)) NoMemory = refl
one_given s n (Own (Retry id)) Refused = refl
one_given s n (Own (Delete id)) Done = own_given s n (Delete id) (OrderedOf DeleteOf id)
one_given s n (Own (Delete id)) NoMemory = refl
one_given s n (Own (Delete id)) Refused = refl
one_given s n (Own (EnrolErrand account)) Done = refl
one_given s n (Own (EnrolErrand account)) NoMemory = refl
one_given s n (Own (EnrolErrand account)) Refused = refl

-- ---- what asks nothing

nothing_read : pdu_at [] ≡ Err Truncated
unfolding pdu_at four_in two_in
nothing_read = refl

nothing_asked : (ask : Body → SeatRequest) → read_as ask (pdu_at []) ≡ Nothing
nothing_asked ask = ap (read_as ask) nothing_read

either_nothing : (b : Bool) (a : SeatRequest) → a ≡ Nothing → (if b then a else Nothing) ≡ Nothing
either_nothing true a e = e
either_nothing false a e = refl

nothing_outs : (s : Serving) (n account : ℕ) (fate : Fate) → outs_for Nothing fate s (JobOf n (Query account [])) ≡ for_seat n (Answer (RefusedBy (vacancy n s.seats)))
nothing_outs s n account Done = refl
nothing_outs s n account NoMemory = refl
nothing_outs s n account Refused = refl

nothing_is : (s : Serving) (n account : ℕ) → asked_by s.seats (JobOf n (Query account [])) ≡ Nothing
nothing_is s n account = either_nothing (nat_lt n 32) (asked s.seats n (Query account [])) (nothing_asked (question account))

-- a request that asks nothing changes nothing
pub nothing_after : (s : Serving) (n : ℕ) (job : Job) (fate : Fate) → asks_nothing job ≡ true → after s (JobOf n job) fate ≡ s
nothing_after s n (Query account []) fate h = ap (λ (x : SeatRequest). after_for x fate s (JobOf n (Query account []))) (nothing_is s n account)
nothing_after s n _ fate h = absurd (true≢false (sym h))

-- It has an answer, and that alone: who is at the seat.
pub nothing_given : (s : Serving) (n : ℕ) (job : Job) (fate : Fate) → asks_nothing job ≡ true
    → outs_to n (gives s (JobOf n job) fate) ≡ Answer (RefusedBy (vacancy n s.seats)) ∷ []
nothing_given s n (Query account []) fate h =
    ap (λ (x : SeatRequest). outs_to n (outs_for x fate s (JobOf n (Query account [])))) (nothing_is s n account)
    ∙ (ap (outs_to n) (nothing_outs s n account fate) ∙ ap (λ (b : Bool). here b (Answer (RefusedBy (vacancy n s.seats)))) (eq-eqb n n refl))
nothing_given s n (Query account (octet ∷ pdu)) fate h = absurd (true≢false (sym h))
nothing_given s n _ fate h = absurd (true≢false (sym h))
