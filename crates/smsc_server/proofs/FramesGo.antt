-- Each frame goes to the seat at which its handset's link is.
use Rattle.std.proofs.Common.{◌≡◌, ◌⊎◌, ◌∙◌, inl, inr, ⊎_elim, ℕ, Bool, true, false, true≢false, List, [], ◌∷◌, ◌++◌, Option, Some, None, if◌then◌else◌, refl, sym, ap, subst, append_assoc, append-nil, bytes_eq}
use Rattle.std.specs.Prelude.{⊤, nat_lt}
use Rattle.std.proofs.lemmas.Bool.{cases_Bool, cond-false, cond-true, cond_both}
use Rattle.std.proofs.lemmas.Option.{none-some}
use Rattle.std.proofs.lemmas.Slice.Eq.{bytes_eq-Decides}
use Rattle.sms_base.proofs.Lists.{among_parts}
use Rattle.sms_base.specs.Among.{Among}
use Rattle.smpp_pdu.specs.declared.status.CommandStatus.{CommandStatus}
use Rattle.smpp_pdu.specs.declared.status.CommandStatus.TheVariants.{ESME_RSYSERR}
use Rattle.sms_centre_rows.specs.declared.messages.message.MessageRow.{MessageRow}
use Rattle.sms_centre_rows.specs.declared.reports.delivery.Delivery.{Delivery}
use Rattle.sms_centre_rows.specs.declared.waiting.handset_link.Sent.{Sent}
use Rattle.sms_centre_rows.specs.messages.Messages.{message_at}
use Rattle.sms_centre_spec.specs.CentreEvent.{happened}
use Rattle.sms_centre_spec.specs.Draft.{messages_in}
use Rattle.sms_centre_spec.specs.declared.answer.CentreAnswer.{CentreAnswer}
use Rattle.sms_centre_spec.specs.declared.answer.CentreAnswer.TheVariants.{Refused as RefusedBy}
use Rattle.sms_centre_spec.specs.declared.event.CentreEvent.{CentreEvent}
use Rattle.sms_centre_spec.specs.declared.event.CentreEvent.TheVariants.{LinkDown as LinkDownOf}
use Rattle.sms_centre_spec.specs.declared.jobs.job.Job.{Job}
use Rattle.sms_centre_spec.specs.declared.jobs.job.Job.TheVariants.{Bound, Unbound, Submit, Query, Cancel, DeliverAnswered, LinkUp, LinkDown, Frame}
use Rattle.sms_centre_spec.specs.declared.jobs.reply.Reply.{Reply}
use Rattle.sms_centre_spec.specs.declared.jobs.reply.Reply.TheVariants.{Answer, Receipt, Frame as FrameOut, Taken as TakenOut}
use Rattle.sms_centre_spec.specs.declared.rows.Rows.{Rows}
use Rattle.sms_centre_spec.specs.jobs.Requests.{is_request}
use Rattle.sms_keeper.specs.declared.machine.Fate.{Fate}
use Rattle.sms_keeper.specs.declared.machine.Fate.TheVariants.{Done, NoMemory, Refused}
use Rattle.sms_keeper.specs.declared.machine.Item.{Item}
use Rattle.sms_intake.specs.declared.submission.CentreAccount.{CentreAccount}
use Rattle.sms_keeper.specs.declared.machine.Errand.{Errand}
use Rattle.sms_keeper.specs.declared.machine.Stimulus.{Stimulus}
use Rattle.sms_keeper.specs.declared.machine.Stimulus.TheVariants.{Job as JobOf, Tick, Own}
use Rattle.sms_keeper.specs.declared.outs.Out.{Out}
use Rattle.sms_keeper.specs.History.{IsHistory}
use Rattle.sms_receipt.specs.declared.final_message.Final.{Final}
use Rattle.sms_rows.specs.table.Table.{Rises, put, row_at, without}
use Rattle.sms_rows.proofs.table.Tables.{among_found, among_put, among_without, rises_put, rises_without}
use Rattle.smsc_service.specs.Asking.{asked, asked_by, link_for, of_handset}
use Rattle.smsc_service.specs.Numbers.{is_number}
use Rattle.smsc_service.specs.Replies.{answer_for, answer_out, asker, end_of, failed, failed_by, frame_out, frame_outs, is_that, nothing_by, receipt_out, receipt_outs, replies_at, risen_by, seat_for, taken_by, seat_answer, vacancy}
use Rattle.smsc_service.specs.Seats.{Seats, followed, handset_at, handset_of, link_key, nobody, raised, seat_of}
use Rattle.smsc_service.specs.Serving.{Serving, after, after_for, followed_by, gives, gives_for, refusal_for, restarted, unless_refused}
use Rattle.smsc_service.specs.declared.asking.SeatRequest.{SeatRequest}
use Rattle.smsc_service.specs.declared.asking.SeatRequest.TheVariants.{Event, Nothing, Taken, Forget, Enrol}
use Rattle.smsc_service.specs.declared.seat_map.LinkSeat.{LinkSeat}
use Rattle.smsc_server.specs.FramesGiven.{GoToHandsets, IsLinked, IsOfHandset, StaysUp, frame_for}
use Rattle.smsc_server.proofs.RunKept.{between}

-- ---- a frame among what is given

module _ (n : ℕ) (octets : List ℕ) where
  no_answer : (from : ℕ) (o : Option CentreAnswer) → Among (frame_for n octets) (answer_out from o) → ⊥
  no_answer from None there = there
  no_answer from (Some answer) (inl e) = let k : FrameOut octets ≡ Answer answer = ap (λ (o : Out Reply). o.out) e in absurd cc
  no_answer from (Some answer) (inr there) = there

  no_receipt : (session : ℕ) (end : Option Final) → Among (frame_for n octets) (receipt_out session end) → ⊥
  no_receipt session None there = there
  no_receipt session (Some end) (inl e) = let k : FrameOut octets ≡ Receipt end = ap (λ (o : Out Reply). o.out) e in absurd cc
  no_receipt session (Some end) (inr there) = there

  no_receipts : (messages : List MessageRow) (ds : List Delivery) → Among (frame_for n octets) (receipt_outs messages ds) → ⊥
  no_receipts messages [] there = there
  no_receipts messages (d ∷ ds) there =
      let end : Option Final = end_of (message_at d.id messages) in
      ⊎_elim (λ h. no_receipt d.session end h) (λ h. no_receipts messages ds h)
      (among_parts (frame_for n octets) (receipt_out d.session end) (receipt_outs messages ds) there)

  no_failure : (b : Bool) (from : ℕ) (status : CommandStatus) → Among (frame_for n octets) (if b then answer_for from (RefusedBy status) ∷ [] else []) → ⊥
  no_failure true from status (inl e) = let k : FrameOut octets ≡ Answer (RefusedBy status) = ap (λ (o : Out Reply). o.out) e in absurd cc
  no_failure true from status (inr there) = there
  no_failure false from status there = there

  none_failed : (stimulus : Stimulus Job) → Among (frame_for n octets) (failed_by stimulus) → ⊥
  none_failed (JobOf from job) there = no_failure (is_request job) from ESME_RSYSERR there
  none_failed (Tick now) there = there
  none_failed (Own errand) there = there

  none_by_nothing : (seats : Seats) (stimulus : Stimulus Job) → Among (frame_for n octets) (nothing_by seats stimulus) → ⊥
  none_by_nothing seats (JobOf from job) there = no_failure (is_request job) from (vacancy from seats) there
  none_by_nothing seats (Tick now) there = there
  none_by_nothing seats (Own errand) there = there

  none_taken : (stimulus : Stimulus Job) → Among (frame_for n octets) (taken_by stimulus) → ⊥
  none_taken (JobOf from job) (inl e) = let k : FrameOut octets ≡ TakenOut = ap (λ (o : Out Reply). o.out) e in absurd cc
  none_taken (JobOf from job) (inr there) = there
  none_taken (Tick now) there = there
  none_taken (Own errand) there = there

  -- a frame that was sent, to the seat of its handset
  abbrev pub IsSent : Option (List ℕ) → ℕ → List LinkSeat → List Sent → Type 0
  IsSent risen from links frames = (f : Sent) × Among f frames × (f.frame.octets ≡ octets) × (seat_for risen from links f.handset ≡ Some n)

  one_frame : (o : Option ℕ) (own : List ℕ) → Among (frame_for n octets) (frame_out o own) → (own ≡ octets) × (o ≡ Some n)
  one_frame None own there = absurd there
  one_frame (Some at) own (inl e) =
      let k : FrameOut octets ≡ FrameOut own = ap (λ (o : Out Reply). o.out) e in
      let same : own ≡ octets = cc in (same, ap (λ (o : Out Reply). Some o.seat) (sym e))
  one_frame (Some at) own (inr there) = absurd there

  a_frame : (risen : Option (List ℕ)) (from : ℕ) (links : List LinkSeat) (frames : List Sent) → Among (frame_for n octets) (frame_outs risen from links frames) → IsSent risen from links frames
  a_frame risen from links [] there = absurd there
  a_frame risen from links (f ∷ fs) there =
      ⊎_elim
      (λ h. let one = one_frame (seat_for risen from links f.handset) f.frame.octets h in (f, inl refl, one.0, one.1))
      (λ h. let x = a_frame risen from links fs h in (x.0, inr x.1, x.2, x.3))
      (among_parts (frame_for n octets) (frame_out (seat_for risen from links f.handset) f.frame.octets) (frame_outs risen from links fs) there)

  replied : (risen : Option (List ℕ)) (from : ℕ) (links : List LinkSeat) (o : Option CentreAnswer) (frames : List Sent) (messages : List MessageRow) (ds : List Delivery)
      → Among (frame_for n octets) (replies_at risen from links o frames messages ds) → IsSent risen from links frames
  replied risen from links o frames messages ds there =
      let first : List (Out Reply) = answer_out from o in
      let second : List (Out Reply) = frame_outs risen from links frames in
      ⊎_elim
      (λ h. ⊎_elim (λ k. absurd (no_answer from o k)) (λ k. a_frame risen from links frames k) (among_parts (frame_for n octets) first second h))
      (λ h. absurd (no_receipts messages ds h))
      (among_parts (frame_for n octets) (first ++ second) (receipt_outs messages ds) there)

  module _ (s : Serving) where
    abbrev pub WasSent : Stimulus Job → Type 0
    WasSent stimulus =
        (event : CentreEvent) × (asked_by s.seats stimulus ≡ Event event)
        × IsSent (risen_by stimulus) (asker stimulus) s.seats.links (happened event s.core).links.frames

    request_sent : (stimulus : Stimulus Job) (a : SeatRequest) (fate : Fate) (refusal : Option CommandStatus) → asked_by s.seats stimulus ≡ a
        → Among (frame_for n octets) (unless_refused fate refusal stimulus (gives_for a fate s stimulus)) → WasSent stimulus
    request_sent stimulus (Event event) Done refusal e there =
        let d = happened event s.core in
        (event, e, replied (risen_by stimulus) (asker stimulus) s.seats.links (seat_answer stimulus d.answer) d.links.frames (messages_in d.store) d.bindings.deliveries there)
    request_sent stimulus Nothing Done refusal e there = absurd (none_by_nothing s.seats stimulus there)
    request_sent stimulus Taken Done refusal e there = absurd (none_taken stimulus there)
    request_sent stimulus (Forget before from most) Done refusal e there = absurd there
    request_sent stimulus (Enrol account) Done refusal e there = absurd there
    request_sent stimulus (Event event) Refused refusal e there = absurd (none_failed stimulus there)
    request_sent stimulus Nothing Refused refusal e there = absurd (none_by_nothing s.seats stimulus there)
    request_sent stimulus Taken Refused refusal e there = absurd (none_taken stimulus there)
    request_sent stimulus (Forget before from most) Refused refusal e there = absurd (none_failed stimulus there)
    request_sent stimulus (Enrol account) Refused refusal e there = absurd (none_failed stimulus there)
    request_sent (JobOf from job) a NoMemory (Some status) e there = absurd (no_failure true from status there)
    request_sent (Tick now) a NoMemory (Some status) e there = absurd there
    request_sent (Own errand) a NoMemory (Some status) e there = absurd there
    request_sent stimulus (Event event) NoMemory None e there = absurd (none_failed stimulus there)
    request_sent stimulus Nothing NoMemory None e there = absurd (none_by_nothing s.seats stimulus there)
    request_sent stimulus Taken NoMemory None e there = absurd (none_taken stimulus there)
    request_sent stimulus (Forget before from most) NoMemory None e there = absurd (none_failed stimulus there)
    request_sent stimulus (Enrol account) NoMemory None e there = absurd (none_failed stimulus there)

    pub was_sent : (stimulus : Stimulus Job) (fate : Fate) → Among (frame_for n octets) (gives s stimulus fate) → WasSent stimulus
    was_sent stimulus fate there = request_sent stimulus (asked_by s.seats stimulus) fate (refusal_for (asked_by s.seats stimulus) s.core) refl there

-- ---- the link of a handset

pub record IsAt (handset : List ℕ) (n : ℕ) (links : List LinkSeat) : Type 0 where
  pub link : LinkSeat
  pub among : Among link links
  pub seat_so : link.seat ≡ n
  pub handset_so : link.handset ≡ handset

found : (handset : List ℕ) (n : ℕ) (links : List LinkSeat) → seat_of handset links ≡ Some n → IsAt handset n links
found handset n [] e = absurd (none-some n e)
found handset n (l ∷ links) e = ⊎_elim
    (λ (t : bytes_eq l.handset handset ≡ true).
    let at : Some l.seat ≡ Some n = sym (cond-true (bytes_eq l.handset handset) (Some l.seat) (seat_of handset links) t) ∙ e in
    let same : l.seat ≡ n = cc in
    record { link = l; among = inl refl; seat_so = same; handset_so = (bytes_eq-Decides l.handset handset).0 t })
    (λ (t : bytes_eq l.handset handset ≡ false).
    let x = found handset n links (sym (cond-false (bytes_eq l.handset handset) (Some l.seat) (seat_of handset links) t) ∙ e) in
    record { link = x.link; among = inr x.among; seat_so = x.seat_so; handset_so = x.handset_so })
    (cases_Bool (bytes_eq l.handset handset))

-- the job brings the link of that handset up
rises : (stimulus : Stimulus Job) (handset : List ℕ) → is_that (risen_by stimulus) handset ≡ true → stimulus ≡ JobOf (asker stimulus) (LinkUp handset)
rises (JobOf seat (LinkUp other)) handset e = ap (λ (h : List ℕ). JobOf seat (LinkUp h)) ((bytes_eq-Decides other handset).0 e)
rises _ handset e = absurd (true≢false (sym e))

abbrev pub IsNamed : Stimulus Job → List LinkSeat → List ℕ → ℕ → Type 0
IsNamed stimulus links handset n = (stimulus ≡ JobOf n (LinkUp handset)) ⊎ IsAt handset n links

pub named : (stimulus : Stimulus Job) (links : List LinkSeat) (handset : List ℕ) (n : ℕ) → seat_for (risen_by stimulus) (asker stimulus) links handset ≡ Some n → IsNamed stimulus links handset n
named stimulus links handset n e = ⊎_elim
    (λ (t : is_that (risen_by stimulus) handset ≡ true).
    let at : Some (asker stimulus) ≡ Some n = sym (cond-true (is_that (risen_by stimulus) handset) (Some (asker stimulus)) (seat_of handset links) t) ∙ e in
    let same : asker stimulus ≡ n = cc in
    inl (rises stimulus handset t ∙ ap (λ (k : ℕ). JobOf k (LinkUp handset)) same))
    (λ (t : is_that (risen_by stimulus) handset ≡ false).
    inr (found handset n links (sym (cond-false (is_that (risen_by stimulus) handset) (Some (asker stimulus)) (seat_of handset links) t) ∙ e)))
    (cases_Bool (is_that (risen_by stimulus) handset))

-- ---- links and the jobs that brought them up

stays_more : (n : ℕ) (items : List (Item Job Reply)) (e : Item Job Reply) → StaysUp n items → (e.stimulus ≡ JobOf n LinkDown → e.fate ≡ NoMemory) → StaysUp n (items ++ e ∷ [])
stays_more n [] e h k = (k, tt)
stays_more n (first ∷ items) e h k = (h.0, stays_more n items e h.1 k)

linked_more : (n : ℕ) (handset : List ℕ) (items : List (Item Job Reply)) (e : Item Job Reply) → IsLinked n handset items → (e.stimulus ≡ JobOf n LinkDown → e.fate ≡ NoMemory)
    → IsLinked n handset (items ++ e ∷ [])
linked_more n handset items e h k = (
  h.0,
  h.1 ++ e ∷ [],
  h.2,
  ap (λ (l : List (Item Job Reply)). l ++ e ∷ []) h.3 ∙ append_assoc h.0 (h.2 ∷ h.1) (e ∷ []),
  h.4,
  stays_more n h.1 e h.5 k,
)

linked_now : (n : ℕ) (handset : List ℕ) (items : List (Item Job Reply)) (e : Item Job Reply) → e.stimulus ≡ JobOf n (LinkUp handset) → IsLinked n handset (items ++ e ∷ [])
linked_now n handset items e is = (items, [], e, refl, is, tt)

-- each link, and that these items brought it up, where it is said of its seat
pub record AreLinked (At : ℕ → Type 0) (items : List (Item Job Reply)) (links : List LinkSeat) : Type 0 where
  pub keys : Rises link_key links
  pub each : (l : LinkSeat) → Among l links → (nat_lt l.seat 32 ≡ true) × (is_number l.handset ≡ true) × (At l.seat → IsLinked l.seat l.handset items)

same_seat : (n m : ℕ) (job other : Job) → JobOf n job ≡ JobOf m other → n ≡ m
same_seat n m job other e = cc

same_job : (n m : ℕ) (job other : Job) → JobOf n job ≡ JobOf m other → job ≡ other
same_job n m job other e = cc

abbrev NoDown : Job → Type 0
NoDown LinkDown = ⊥
NoDown job = ⊤

no_down_so : (job : Job) → NoDown job → job ≡ LinkDown → ⊥
no_down_so job h e = subst (λ (j : Job). NoDown j) e h

event_none : (event : CentreEvent) (a : SeatRequest) → a ≡ Event event → a ≡ Nothing → ⊥
event_none event a e f = let k : Event event ≡ Nothing = sym e ∙ f in absurd cc

event_taken : (event : CentreEvent) (a : SeatRequest) → a ≡ Event event → a ≡ Taken → ⊥
event_taken event a e f = let k : Event event ≡ Taken = sym e ∙ f in absurd cc

module _ (At : ℕ → Type 0) (s : Serving) (items : List (Item Job Reply)) (e : Item Job Reply) (h : AreLinked At items s.seats.links) where
  -- who sits where stays as it was
  all_stay : ((l : LinkSeat) → Among l s.seats.links → e.stimulus ≡ JobOf l.seat LinkDown → e.fate ≡ NoMemory) → AreLinked At (items ++ e ∷ []) s.seats.links
  all_stay k = record { keys = h.keys; each = λ l i. let x = h.each l i in (x.0, x.1, λ at. linked_more l.seat l.handset items e (x.2 at) (k l i)) }

  module _ (seat : ℕ) (job : Job) (is : e.stimulus ≡ JobOf seat job) where
    -- a job that takes no link down
    other_stays : NoDown job → (l : LinkSeat) → Among l s.seats.links → e.stimulus ≡ JobOf l.seat LinkDown → e.fate ≡ NoMemory
    other_stays none l i down = absurd (no_down_so job none (same_job seat l.seat job LinkDown (sym is ∙ down)))

    -- a link that is there is taken down by an event
    asks_event : (l : LinkSeat) → Among l s.seats.links → l.seat ≡ seat → asked s.seats seat LinkDown ≡ Event (LinkDownOf l.handset)
    asks_event l i at =
        let there : handset_at seat s.seats.links ≡ Some l.handset =
        ap (λ (k : ℕ). handset_at k s.seats.links) (sym at) ∙ ap handset_of (among_found link_key l s.seats.links h.keys i) in
        ap (λ (o : Option (List ℕ)). of_handset (λ (handset : List ℕ). LinkDownOf handset) o) there
        ∙ cond-true (is_number l.handset) (Event (LinkDownOf l.handset)) Nothing (h.each l i).1

  -- the job of a seat changes who sits there
  job_follows : (seat : ℕ) (job : Job) → e.stimulus ≡ JobOf seat job → nat_lt seat 32 ≡ true → ((handset : List ℕ) → job ≡ LinkUp handset → is_number handset ≡ true)
      → AreLinked At (items ++ e ∷ []) (followed seat job s.seats).links
  job_follows seat (LinkUp handset) is few number = by_seat (seat_of handset s.seats.links)
    where
      by_seat : (o : Option ℕ) → AreLinked At (items ++ e ∷ []) (raised o seat handset s.seats.links)
      by_seat (Some other) = all_stay (other_stays seat (LinkUp handset) is tt)
      by_seat None =
          let new : LinkSeat = record { seat = seat; handset = handset } in record {
            keys = rises_put link_key new s.seats.links h.keys;
            each = λ l i. ⊎_elim
                (λ (same : l ≡ new). subst (λ (x : LinkSeat). (nat_lt x.seat 32 ≡ true) × (is_number x.handset ≡ true) × (At x.seat → IsLinked x.seat x.handset (items ++ e ∷ []))) (sym same)
                (few, number handset refl, λ at. linked_now seat handset items e is))
                (λ old. let x = h.each l old.0 in (x.0, x.1, λ at. linked_more l.seat l.handset items e (x.2 at) (other_stays seat (LinkUp handset) is tt l old.0)))
                (among_put link_key l new s.seats.links i);
          }
  job_follows seat LinkDown is few number = record {
    keys = rises_without link_key seat s.seats.links h.keys;
    each = λ l i.
        let old = among_without link_key l seat s.seats.links i in
        let x = h.each l old.0 in
        (x.0, x.1, λ at. linked_more l.seat l.handset items e (x.2 at) (λ down. absurd (old.1 (sym (same_seat seat l.seat LinkDown LinkDown (sym is ∙ down))))));
  }
  job_follows seat (Bound account receives) is few number = all_stay (other_stays seat (Bound account receives) is tt)
  job_follows seat Unbound is few number = all_stay (other_stays seat Unbound is tt)
  job_follows seat (Submit account pdu) is few number = all_stay (other_stays seat (Submit account pdu) is tt)
  job_follows seat (Query account pdu) is few number = all_stay (other_stays seat (Query account pdu) is tt)
  job_follows seat (Cancel account pdu) is few number = all_stay (other_stays seat (Cancel account pdu) is tt)
  job_follows seat (DeliverAnswered id is_accepted) is few number = all_stay (other_stays seat (DeliverAnswered id is_accepted) is tt)
  job_follows seat (Frame octets) is few number = all_stay (other_stays seat (Frame octets) is tt)

  tick_stays : (now : ℕ) → e.stimulus ≡ Tick now → (l : LinkSeat) → Among l s.seats.links → e.stimulus ≡ JobOf l.seat LinkDown → e.fate ≡ NoMemory
  tick_stays now is l i down = let never : Tick now ≡ JobOf l.seat LinkDown = sym is ∙ down in absurd cc

  own_stays : (errand : Errand) → e.stimulus ≡ Own errand → (l : LinkSeat) → Among l s.seats.links → e.stimulus ≡ JobOf l.seat LinkDown → e.fate ≡ NoMemory
  own_stays errand is l i down = let never : Own errand ≡ JobOf l.seat LinkDown = sym is ∙ down in absurd cc

  -- only a number is asked for as a link
  up_number : (event : CentreEvent) (seat : ℕ) (job : Job) → asked s.seats seat job ≡ Event event → (handset : List ℕ) → job ≡ LinkUp handset → is_number handset ≡ true
  up_number event seat job asks handset up = ⊎_elim
      (λ (t : is_number handset ≡ true). t)
      (λ (t : is_number handset ≡ false).
      let none : asked s.seats seat (LinkUp handset) ≡ Nothing = cond-false (is_number handset) (link_for (seat_of handset s.seats.links) handset) Nothing t in
      absurd (event_none event (asked s.seats seat job) asks (ap (asked s.seats seat) up ∙ none)))
      (cases_Bool (is_number handset))

  -- an event was asked for, and was not left undone
  event_follows : (stimulus : Stimulus Job) (event : CentreEvent) → e.stimulus ≡ stimulus → asked_by s.seats stimulus ≡ Event event
      → AreLinked At (items ++ e ∷ []) (followed_by stimulus s.seats).links
  event_follows (Tick now) event is asks = all_stay (tick_stays now is)
  event_follows (Own errand) event is asks = all_stay (own_stays errand is)
  event_follows (JobOf seat job) event is asks = ⊎_elim
      (λ (t : nat_lt seat 32 ≡ true).
      subst (λ (x : Seats). AreLinked At (items ++ e ∷ []) x.links) (sym (cond-true (nat_lt seat 32) (followed seat job s.seats) s.seats t))
      (job_follows seat job is t (up_number event seat job (sym (cond-true (nat_lt seat 32) (asked s.seats seat job) Nothing t) ∙ asks))))
      (λ (t : nat_lt seat 32 ≡ false).
      absurd (event_none event (asked_by s.seats (JobOf seat job)) asks (cond-false (nat_lt seat 32) (asked s.seats seat job) Nothing t)))
      (cases_Bool (nat_lt seat 32))

  -- a link is taken down by an event alone
  down_asks : (a : SeatRequest) → asked_by s.seats e.stimulus ≡ a → ((event : CentreEvent) → a ≡ Event event → ⊥) → (l : LinkSeat) → Among l s.seats.links
      → e.stimulus ≡ JobOf l.seat LinkDown → e.fate ≡ NoMemory
  down_asks a asks none l i down =
      absurd (none (LinkDownOf l.handset)
      (sym asks ∙ (ap (asked_by s.seats) down ∙ (cond-true (nat_lt l.seat 32) (asked s.seats l.seat LinkDown) Nothing (h.each l i).0 ∙ asks_event l.seat LinkDown down l i refl))))

  not_nothing : (event : CentreEvent) → Nothing ≡ Event event → ⊥
  not_nothing event f = cc

  not_taken : (event : CentreEvent) → Taken ≡ Event event → ⊥
  not_taken event f = cc

  not_forget : (before from most : ℕ) (event : CentreEvent) → Forget before from most ≡ Event event → ⊥
  not_forget before from most event f = cc

  not_enrol : (account : CentreAccount) (event : CentreEvent) → Enrol account ≡ Event event → ⊥
  not_enrol account event f = cc

  request_links : (a : SeatRequest) (fate : Fate) → asked_by s.seats e.stimulus ≡ a → e.fate ≡ fate → AreLinked At (items ++ e ∷ []) (after_for a fate s e.stimulus).seats.links
  request_links (Event event) Done asks f = event_follows e.stimulus event refl asks
  request_links (Event event) NoMemory asks f = all_stay (λ l i down. f)
  request_links (Event event) Refused asks f = event_follows e.stimulus event refl asks
  request_links Nothing fate asks f = all_stay (down_asks Nothing asks not_nothing)
  request_links Taken fate asks f = all_stay (down_asks Taken asks not_taken)
  request_links (Forget before from most) Done asks f = all_stay (down_asks (Forget before from most) asks (not_forget before from most))
  request_links (Forget before from most) NoMemory asks f = all_stay (λ l i down. f)
  request_links (Forget before from most) Refused asks f = all_stay (down_asks (Forget before from most) asks (not_forget before from most))
  request_links (Enrol account) Done asks f = all_stay (down_asks (Enrol account) asks (not_enrol account))
  request_links (Enrol account) NoMemory asks f = all_stay (λ l i down. f)
  request_links (Enrol account) Refused asks f = all_stay (down_asks (Enrol account) asks (not_enrol account))

  item_links : AreLinked At (items ++ e ∷ []) (after s e.stimulus e.fate).seats.links
  item_links = request_links (asked_by s.seats e.stimulus) e.fate refl refl

pub run_links : (At : ℕ → Type 0) (done items : List (Item Job Reply)) (s t : Serving) → AreLinked At done s.seats.links → IsHistory gives after s items t
    → AreLinked At (done ++ items) t.seats.links
run_links At done [] s t h k =
    subst (λ (l : List (Item Job Reply)). AreLinked At l t.seats.links) (sym (append-nil done)) (subst (λ (x : Serving). AreLinked At done x.seats.links) (sym k) h)
run_links At done (e ∷ items) s t h k =
    subst (λ (l : List (Item Job Reply)). AreLinked At l t.seats.links) (append_assoc done (e ∷ []) items)
    (run_links At (done ++ e ∷ []) items (after s e.stimulus e.fate) t (item_links At s done e h) k.1)

pub at_seat : (seat : ℕ) (handset : List ℕ) (At : ℕ → Type 0) (one : List (Item Job Reply)) (links : List LinkSeat) → At seat → AreLinked At one links → IsAt handset seat links
    → IsLinked seat handset one
at_seat seat handset At one links there h at =
    subst (λ (number : List ℕ). IsLinked seat number one) at.handset_so
    (subst (λ (k : ℕ). IsLinked k at.link.handset one) at.seat_so ((h.each at.link at.among).2 (subst At (sym at.seat_so) there)))

pub no_links : (At : ℕ → Type 0) (rows : Rows) → AreLinked At [] (restarted rows nobody).seats.links
no_links At rows = record { keys = tt; each = λ l i. absurd i }

-- ---- together

module _ (rows : Rows) (items : List (Item Job Reply)) (last : Serving) (run : IsHistory gives after (restarted rows nobody) items last) where
  pub frames_go : GoToHandsets (restarted rows nobody) items
  frames_go one other e seat octets is there =
      let m = between one (e ∷ other) (restarted rows nobody) last (subst (λ (l : List (Item Job Reply)). IsHistory gives after (restarted rows nobody) l last) is run) in
      let links = run_links (λ (k : ℕ). ⊤) [] one (restarted rows nobody) m.0 (no_links (λ (k : ℕ). ⊤) rows) m.1 in
      let sent = was_sent seat octets m.0 e.stimulus e.fate (subst (λ (l : List (Out Reply)). Among (frame_for seat octets) l) m.2.0 there) in
      let f = sent.2.0 in record {
        handset = f.handset;
        linked = ⊎_elim (λ (up : e.stimulus ≡ JobOf seat (LinkUp f.handset)). inr up)
            (λ (at : IsAt f.handset seat m.0.seats.links). inl (at_seat seat f.handset (λ (k : ℕ). ⊤) one m.0.seats.links tt links at))
            (named e.stimulus m.0.seats.links f.handset seat sent.2.3);
        moment = m.0;
        history = m.1;
        event = sent.0;
        event_so = sent.1;
        sent = f;
        is_sent = sent.2.1;
        handset_so = refl;
        octets_so = sent.2.2;
      }
