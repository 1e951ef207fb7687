-- What the items of a run ask are events of a centre.
use Rattle.std.proofs.Common.{◌≡◌, ◌≤◌, ◌||◌, ◌⊎◌, inl, inr, ⊎_elim, ℕ, true, not, List, ◌++◌, length, Option, Some, None, Result, Ok, Err, if◌then◌else◌, refl, sym, subst}
use Rattle.std.specs.Prelude.{nat_eq, nat_lt}
use Rattle.std.specs.List.{list_all}
use Rattle.std.proofs.lemmas.Bool.{and_parts, cond_both, not-true}
use Rattle.sms_base.specs.Among.{Among}
use Rattle.sms_base.specs.Reading.{AreOctets}
use Rattle.sms_base.specs.SemiOctet.{is_digit}
use Rattle.sms_centre_rows.specs.waiting.SoundAllocations.{IsNumber}
use Rattle.sms_centre_spec.specs.SoundCore.{IsEvent}
use Rattle.sms_centre_spec.specs.declared.event.CentreEvent.{CentreEvent}
use Rattle.sms_centre_spec.specs.declared.event.CentreEvent.TheVariants.{LinkUp as LinkUpOf, LinkDown as LinkDownOf, Frame as FrameOf}
use Rattle.sms_centre_spec.specs.declared.jobs.job.Job.{Job}
use Rattle.sms_centre_spec.specs.declared.jobs.job.Job.TheVariants.{Bound, Unbound, Submit, Query, Cancel, DeliverAnswered, LinkUp, LinkDown, Frame}
use Rattle.sms_keeper.specs.declared.machine.Errand.TheVariants.{Forget as ForgetErrand, Retry, Delete, Enrol as EnrolErrand}
use Rattle.sms_keeper.specs.declared.machine.Stimulus.{Stimulus}
use Rattle.sms_keeper.specs.declared.machine.Stimulus.TheVariants.{Job as JobOf, Tick, Own}
use Rattle.sms_rows.specs.table.Table.{row_at}
use Rattle.sms_rows.proofs.table.Tables.{among_put, among_without, found_among}
use Rattle.smpp_pdu.specs.PduReading.{pdu_at}
use Rattle.smpp_pdu.specs.declared.body.Body.{Body}
use Rattle.smpp_pdu.specs.declared.body.Body.TheVariants.{BindReceiver}
use Rattle.smpp_pdu.specs.declared.fault.PduFault.{PduFault}
use Rattle.smpp_pdu.specs.declared.pdu.Pdu.{Pdu}
use Rattle.smsc_service.specs.declared.asking.SeatRequest.{SeatRequest}
use Rattle.smsc_service.specs.declared.asking.SeatRequest.TheVariants.{Event, Nothing}
use Rattle.smsc_service.specs.declared.seat_map.LinkSeat.{LinkSeat}
use Rattle.smsc_service.specs.Asking.{IfEvent, asked, asked_by, link_for, of_handset, question, read_as, submission, withdrawal}
use Rattle.smsc_service.specs.Numbers.{is_number}
use Rattle.smsc_service.specs.Seats.{Seats, followed, handset_of, link_key, raised, seat_of}
use Rattle.smsc_service.specs.Serving.{followed_by}
use Rattle.smsc_server.specs.RunPromises.{IsAsked, IsJob}
use Rattle.smsc_service.proofs.Numbers.{number_is, some_there}

-- the number of each link has at most 20 digits
abbrev pub AreShort : List LinkSeat → Type 0
AreShort links = (l : LinkSeat) → Among l links → length l.handset ≤ 20

-- ---- numbers

pub number_of : (number : List ℕ) → length number ≤ 20 → is_number number ≡ true → IsNumber number
number_of number few e =
    let p = and_parts (not (nat_eq (length number) 0)) (list_all is_digit number) e in
    number_is number (some_there (length number) (not-true (nat_eq (length number) 0) p.0)) few p.1

-- ---- requests

submission_is : (account : ℕ) (body : Body) → IfEvent IsEvent (submission account body)
submission_is account (BindReceiver x) = tt
submission_is account _ = tt

question_is : (account : ℕ) (body : Body) → IfEvent IsEvent (question account body)
question_is account (BindReceiver x) = tt
question_is account _ = tt

withdrawal_is : (account : ℕ) (body : Body) → IfEvent IsEvent (withdrawal account body)
withdrawal_is account (BindReceiver x) = tt
withdrawal_is account _ = tt

read_is : (ask : Body → SeatRequest) → ((body : Body) → IfEvent IsEvent (ask body)) → (r : Result Pdu PduFault) → IfEvent IsEvent (read_as ask r)
read_is ask h (Ok pdu) = h pdu.body
read_is ask h (Err fault) = tt

-- ---- links

link_is : (o : Option ℕ) (handset : List ℕ) → IsNumber handset → IfEvent IsEvent (link_for o handset)
link_is (Some seat) handset is = tt
link_is None handset is = is

of_handset_is : (event : List ℕ → CentreEvent) (o : Option LinkSeat) → ((l : LinkSeat) → o ≡ Some l → length l.handset ≤ 20)
    → ((number : List ℕ) → IsNumber number → IsEvent (event number)) → IfEvent IsEvent (of_handset event (handset_of o))
of_handset_is event None short h = tt
of_handset_is event (Some l) short h =
    cond_both (is_number l.handset) (Event (event l.handset)) Nothing (λ (a : SeatRequest). IfEvent IsEvent a)
    (λ t. h l.handset (number_of l.handset (short l refl) t)) (λ t. tt)

-- ---- what is asked

job_is : (s : Seats) (seat : ℕ) (job : Job) → IsJob job → AreShort s.links → IfEvent IsEvent (asked s seat job)
job_is s seat (Bound account receives) is short = tt
job_is s seat Unbound is short = tt
job_is s seat (Submit account pdu) is short = read_is (submission account) (submission_is account) (pdu_at pdu)
job_is s seat (Query account pdu) is short = read_is (question account) (question_is account) (pdu_at pdu)
job_is s seat (Cancel account pdu) is short = read_is (withdrawal account) (withdrawal_is account) (pdu_at pdu)
job_is s seat (DeliverAnswered id is_accepted) is short = tt
job_is s seat (LinkUp handset) is short =
    cond_both (is_number handset) (link_for (seat_of handset s.links) handset) Nothing (λ (a : SeatRequest). IfEvent IsEvent a)
    (λ t. link_is (seat_of handset s.links) handset (number_of handset is t)) (λ t. tt)
job_is s seat LinkDown is short =
    of_handset_is (λ handset. LinkDownOf handset) (row_at link_key seat s.links) (λ l e. short l (found_among link_key seat l s.links e)) (λ number h. h)
job_is s seat (Frame octets) is short =
    of_handset_is (λ handset. FrameOf handset octets None) (row_at link_key seat s.links) (λ l e. short l (found_among link_key seat l s.links e)) (λ number h. (h, is))

pub asked_is : (s : Seats) (stimulus : Stimulus Job) → IsAsked stimulus → AreShort s.links → IfEvent IsEvent (asked_by s stimulus)
asked_is s (JobOf seat job) is short =
    cond_both (nat_lt seat 32) (asked s seat job) Nothing (λ (a : SeatRequest). IfEvent IsEvent a) (λ t. job_is s seat job is short) (λ t. tt)
asked_is s (Tick now) is short = is
asked_is s (Own (ForgetErrand before from most)) is short = tt
asked_is s (Own (Retry id)) is short = tt
asked_is s (Own (Delete id)) is short = tt
asked_is s (Own (EnrolErrand account)) is short = tt

-- ---- who sits where afterwards

raised_short : (o : Option ℕ) (seat : ℕ) (handset : List ℕ) (links : List LinkSeat) → length handset ≤ 20 → AreShort links → AreShort (raised o seat handset links)
raised_short None seat handset links few short l there =
    ⊎_elim (λ (new : l ≡ record { seat = seat; handset = handset }). subst (λ (x : LinkSeat). length x.handset ≤ 20) (sym new) few) (λ old. short l old.0)
    (among_put link_key l (record { seat = seat; handset = handset }) links there)
raised_short (Some other) seat handset links few short l there = short l there

followed_short : (seat : ℕ) (job : Job) (s : Seats) → IsJob job → AreShort s.links → AreShort (followed seat job s).links
followed_short seat (Bound account receives) s is short = short
followed_short seat Unbound s is short = short
followed_short seat (Submit account pdu) s is short = short
followed_short seat (Query account pdu) s is short = short
followed_short seat (Cancel account pdu) s is short = short
followed_short seat (DeliverAnswered id is_accepted) s is short = short
followed_short seat (LinkUp handset) s is short = raised_short (seat_of handset s.links) seat handset s.links is short
followed_short seat LinkDown s is short = λ l there. short l (among_without link_key l seat s.links there).0
followed_short seat (Frame octets) s is short = short

pub seats_short : (stimulus : Stimulus Job) (s : Seats) → IsAsked stimulus → AreShort s.links → AreShort (followed_by stimulus s).links
seats_short (JobOf seat job) s is short =
    cond_both (nat_lt seat 32) (followed seat job s) s (λ (t : Seats). AreShort t.links) (λ t. followed_short seat job s is short) (λ t. short)
seats_short (Tick now) s is short = short
seats_short (Own errand) s is short = short
