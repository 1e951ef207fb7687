-- Each receipt goes to a seat where the account that submitted the message is bound.
use Rattle.std.proofs.Common.{◌≡◌, ◌==◌, ◌⊎◌, ◌∙◌, inl, inr, ⊎_elim, ℕ, zero, suc, Bool, true, false, true≢false, List, [], ◌∷◌, ◌++◌, Option, Some, None, Result, Ok, Err, if◌then◌else◌, refl, sym, ap, subst, eq-eqb}
use Rattle.std.specs.Prelude.{nat_lt, slice_get}
use Rattle.std.proofs.lemmas.Bool.{cases_Bool, cases_eq, cond-false, cond-true, cond_both, ne_eqb}
use Rattle.std.proofs.lemmas.Option.{none-some}
use Rattle.sms_base.proofs.Lists.{among_parts}
use Rattle.sms_base.specs.Among.{Among}
use Rattle.sms_base.specs.declared.final_state.FinalState.{FinalState}
use Rattle.sms_base.specs.declared.originator.Originator.{Originator}
use Rattle.smpp_pdu.specs.PduReading.{pdu_at}
use Rattle.smpp_pdu.specs.declared.body.Body.{Body}
use Rattle.smpp_pdu.specs.declared.body.Body.TheVariants.{SubmitSm, QuerySm, CancelSm}
use Rattle.smpp_pdu.specs.declared.fault.PduFault.{PduFault}
use Rattle.smpp_pdu.specs.declared.pdu.Pdu.{Pdu}
use Rattle.smpp_pdu.specs.declared.status.CommandStatus.{CommandStatus}
use Rattle.sms_centre_rows.specs.declared.messages.message.MessageRow.{MessageRow}
use Rattle.sms_centre_rows.specs.declared.reports.delivery.Delivery.{Delivery}
use Rattle.sms_centre_rows.specs.messages.Messages.{message_at, message_key}
use Rattle.sms_centre_rows.specs.reports.Receipts.{Session, is_account, session_key}
use Rattle.sms_centre_spec.specs.CentreEvent.{happened}
use Rattle.sms_centre_spec.specs.Draft.{Core, core_of, messages_in}
use Rattle.sms_centre_spec.specs.Finals.{final_of}
use Rattle.sms_centre_spec.specs.Requests.{account_at}
use Rattle.sms_centre_spec.specs.SoundCore.{IsSoundCore}
use Rattle.sms_centre_spec.specs.SoundRows.{IsSound}
use Rattle.sms_centre_spec.specs.declared.answer.CentreAnswer.{CentreAnswer}
use Rattle.sms_centre_spec.specs.declared.event.CentreEvent.{CentreEvent}
use Rattle.sms_centre_spec.specs.declared.event.CentreEvent.TheVariants.{Submit as SubmitOf, Query as QueryOf, Cancel as CancelOf, Bound as BoundOf, Unbound as UnboundOf, DeliverAnswered as DeliverAnsweredOf, Frame as FrameOf, LinkUp as LinkUpOf, LinkDown as LinkDownOf, Ordered as OrderedOf, Tick as TickOf}
use Rattle.sms_centre_spec.specs.declared.order.Order.TheVariants.{Retry as RetryOf, Delete as DeleteOf}
use Rattle.sms_centre_spec.specs.forgetting.Forget.{forget}
use Rattle.sms_centre_spec.proofs.forgetting.Removed.{forget_leaves}
use Rattle.sms_centre_spec.specs.declared.jobs.job.Job.{Job}
use Rattle.sms_centre_spec.specs.declared.jobs.job.Job.TheVariants.{Bound, Unbound, Submit, Query, Cancel, DeliverAnswered, LinkUp, LinkDown, Frame}
use Rattle.sms_centre_spec.specs.declared.jobs.reply.Reply.{Reply}
use Rattle.sms_centre_spec.specs.declared.jobs.reply.Reply.TheVariants.{Receipt}
use Rattle.sms_centre_spec.specs.declared.rows.Rows.{Rows}
use Rattle.sms_centre_spec.proofs.Resting.{happened_rests}
use Rattle.sms_intake.specs.declared.submission.CentreAccount.{CentreAccount}
use Rattle.sms_keeper.specs.declared.machine.Fate.{Fate}
use Rattle.sms_keeper.specs.declared.machine.Fate.TheVariants.{Done, NoMemory, Refused}
use Rattle.sms_keeper.specs.declared.machine.Item.{Item}
use Rattle.sms_keeper.specs.declared.machine.Errand.TheVariants.{Forget as ForgetErrand, Retry, Delete, Enrol as EnrolErrand}
use Rattle.sms_keeper.specs.declared.machine.Stimulus.{Stimulus}
use Rattle.sms_keeper.specs.declared.machine.Stimulus.TheVariants.{Job as JobOf, Tick, Own}
use Rattle.sms_keeper.specs.declared.outs.Out.{Out}
use Rattle.sms_keeper.specs.History.{IsHistory}
use Rattle.sms_receipt.specs.declared.final_message.Final.{Final}
use Rattle.sms_rows.specs.table.Table.{put, without}
use Rattle.sms_rows.proofs.table.Tables.{among_put, among_without, found_key}
use Rattle.sms_centre.specs.Enrolling.{accounts_with}
use Rattle.smsc_service.proofs.AccountsCome.{event_leaves}
use Rattle.smsc_service.specs.Asking.{IfEvent, asked, asked_by, link_for, of_handset, question, read_as, submission, withdrawal}
use Rattle.smsc_service.specs.BoundSession.{sessions_from, with_session}
use Rattle.smsc_service.specs.Numbers.{is_number}
use Rattle.smsc_service.specs.Replies.{asker, end_in, end_of, ended, frame_outs, receipt_out, receipt_outs, replies_at, answer_out, risen_by, seat_answer}
use Rattle.smsc_service.specs.Seats.{Seats, bound_session_key, followed, handset_at, nobody, seat_of}
use Rattle.smsc_service.specs.Serving.{Serving, after, after_for, followed_by, gives, gives_for, outs_for, refusal_for, restarted, unless_refused}
use Rattle.smsc_service.specs.declared.asking.SeatRequest.{SeatRequest}
use Rattle.smsc_service.specs.declared.asking.SeatRequest.TheVariants.{Event, Nothing, Taken, Forget, Enrol}
use Rattle.smsc_service.specs.declared.seat_map.BoundSession.{BoundSession}
use Rattle.smsc_server.specs.ReceiptsGiven.{Binding, GoToAccounts, IsOfAccount, bound_after, bound_behind, bound_by, bound_there, if_done}
use Rattle.smsc_server.specs.AccountsCome.{accounts_behind}
use Rattle.smsc_server.specs.Forgotten.{KeepsOrForgets, message_left}
use Rattle.smsc_server.specs.RunPromises.{AreAsked, receipt_for}
use Rattle.smsc_server.proofs.AccountsBehind.{keeps_place, run_accounts}
use Rattle.sms_centre_spec.proofs.BoundSessions.{Becomes, Each, Sends, StaysSo, sends_of}
use Rattle.smsc_server.proofs.RunKept.{IsGood, asked_parts, between, history_more, item_good, no_answer, no_failure, no_frames, none_by_nothing, none_failed, none_taken, restart_sound, run_good, run_left}

-- ---- which events bind

abbrev pub is_binding : CentreEvent → Bool
is_binding (BoundOf session account receives) = true
is_binding (UnboundOf session) = true
is_binding event = false

abbrev pub BindsNobody : SeatRequest → Type 0
BindsNobody a = IfEvent (λ (event : CentreEvent). is_binding event ≡ false) a

submission_binds : (account : ℕ) (body : Body) → BindsNobody (submission account body)
submission_binds account (SubmitSm asked) = refl
submission_binds account body = tt

question_binds : (account : ℕ) (body : Body) → BindsNobody (question account body)
question_binds account (QuerySm asked) = refl
question_binds account body = tt

withdrawal_binds : (account : ℕ) (body : Body) → BindsNobody (withdrawal account body)
withdrawal_binds account (CancelSm asked) = refl
withdrawal_binds account body = tt

read_binds : (ask : Body → SeatRequest) → ((body : Body) → BindsNobody (ask body)) → (r : Result Pdu PduFault) → BindsNobody (read_as ask r)
read_binds ask h (Ok pdu) = h pdu.body
read_binds ask h (Err fault) = tt

link_binds : (o : Option ℕ) (handset : List ℕ) → BindsNobody (link_for o handset)
link_binds (Some seat) handset = tt
link_binds None handset = refl

handset_binds : (event : List ℕ → CentreEvent) → ((handset : List ℕ) → is_binding (event handset) ≡ false) → (o : Option (List ℕ)) → BindsNobody (of_handset event o)
handset_binds event h None = tt
handset_binds event h (Some handset) =
    cond_both (is_number handset) (Event (event handset)) Nothing (λ (a : SeatRequest). BindsNobody a) (λ t. h handset) (λ t. tt)

becomes_same : (accounts : List CentreAccount) (R Q : ℕ → List ℕ → Bool → Type 0) (event : CentreEvent) → is_binding event ≡ false → StaysSo R Q → Becomes event accounts R Q
becomes_same accounts R Q (BoundOf session account receives) e f = absurd (true≢false e)
becomes_same accounts R Q (UnboundOf session) e f = absurd (true≢false e)
becomes_same accounts R Q event e f = f

-- ---- a job that binds nobody

abbrev moved : (ℕ → Option Binding) → Stimulus Job → ℕ → Option Binding
moved bound stimulus k = bound_there k stimulus (bound k)

pub both_same : (b : Bool) (o : Option Binding) → (if b then o else o) ≡ o
both_same true o = refl
both_same false o = refl

-- of another seat
elsewhere : (bound : ℕ → Option Binding) (seat k : ℕ) (job : Job) → (k ≡ seat → ⊥) → moved bound (JobOf seat job) k ≡ bound k
elsewhere bound seat k job ne = cond-false (k == seat) (bound_by job (bound k)) (bound k) (ne_eqb k seat ne)

at_seat : (bound : ℕ → Option Binding) (seat : ℕ) (job : Job) → moved bound (JobOf seat job) seat ≡ bound_by job (bound seat)
at_seat bound seat job = cond-true (seat == seat) (bound_by job (bound seat)) (bound seat) (eq-eqb seat seat refl)

-- a request of a seat, and whom its job binds
abbrev pub IsSame : Seats → ℕ → Job → Type 0
IsSame seats seat job = BindsNobody (asked seats seat job) × ((o : Option Binding) → bound_by job o ≡ o) × ((followed seat job seats).bound_sessions ≡ seats.bound_sessions)

-- any but bind and unbind
abbrev pub IsOther : Job → Type 0
IsOther (Bound account receives) = ⊥
IsOther Unbound = ⊥
IsOther job = Unit {0}

pub other : (seats : Seats) (seat : ℕ) (job : Job) → IsOther job → IsSame seats seat job
other seats seat (Bound account receives) h = absurd h
other seats seat Unbound h = absurd h
other seats seat (Submit account pdu) h = (read_binds (submission account) (submission_binds account) (pdu_at pdu), (λ o. refl), refl)
other seats seat (Query account pdu) h = (read_binds (question account) (question_binds account) (pdu_at pdu), (λ o. refl), refl)
other seats seat (Cancel account pdu) h = (read_binds (withdrawal account) (withdrawal_binds account) (pdu_at pdu), (λ o. refl), refl)
other seats seat (DeliverAnswered id is_accepted) h = (refl, (λ o. refl), refl)
other seats seat (LinkUp handset) h = (
  cond_both (is_number handset) (link_for (seat_of handset seats.links) handset) Nothing (λ (a : SeatRequest). BindsNobody a)
      (λ t. link_binds (seat_of handset seats.links) handset) (λ t. tt),
  (λ o. refl),
  refl,
)
other seats seat LinkDown h = (handset_binds (λ (handset : List ℕ). LinkDownOf handset) (λ handset. refl) (handset_at seat seats.links), (λ o. refl), refl)
other seats seat (Frame octets) h = (handset_binds (λ (handset : List ℕ). FrameOf handset octets None) (λ handset. refl) (handset_at seat seats.links), (λ o. refl), refl)

same_moved : (bound : ℕ → Option Binding) (seats : Seats) (seat k : ℕ) (job : Job) → IsSame seats seat job → moved bound (JobOf seat job) k ≡ bound k
same_moved bound seats seat k job h = ap (λ (o : Option Binding). if k == seat then o else bound k) (h.1 (bound k)) ∙ both_same (k == seat) (bound k)

event_same : (a b : CentreEvent) → Event a ≡ Event b → a ≡ b
event_same a b e = cc

no_event : (event : CentreEvent) → Nothing ≡ Event event → ⊥
no_event event e = cc

no_forgetting : (event : CentreEvent) (before from most : ℕ) → Forget before from most ≡ Event event → ⊥
no_forgetting event before from most e = cc

no_enrolling : (event : CentreEvent) (account : CentreAccount) → Enrol account ≡ Event event → ⊥
no_enrolling event account e = cc

abbrev AsksNone : SeatRequest → Type 0
AsksNone (Event event) = ⊥
AsksNone Nothing = Unit {0}
AsksNone Taken = Unit {0}
AsksNone (Forget before from most) = Unit {0}
AsksNone (Enrol account) = Unit {0}

place_of : (place : ℕ) (accounts : List CentreAccount) → account_at place accounts ≡ slice_get accounts place
place_of place [] = refl
place_of zero (a ∷ accounts) = refl
place_of (suc place) (a ∷ accounts) = place_of place accounts

module _ (accounts : List CentreAccount) where
  -- said of a session, by who is bound at each seat
  abbrev OfBound : (ℕ → Option Binding) → ℕ → List ℕ → Bool → Type 0
  OfBound bound k name receives =
      (nat_lt k 32 ≡ true) × (place : ℕ) × (account : CentreAccount)
      × (bound k ≡ Some (place, receives)) × (slice_get accounts place ≡ Some account) × (account.name ≡ name)

  abbrev AreBound : (ℕ → Option Binding) → List BoundSession → Type 0
  AreBound bound bound_sessions = (b : BoundSession) → Among b bound_sessions → (nat_lt b.seat 32 ≡ true) × (bound b.seat ≡ Some (b.account, b.receives))

  record Fits (bound : ℕ → Option Binding) (s : Serving) : Type 0 where
    pub sessions : Each (OfBound bound) s.core.sessions
    pub bound_sessions : AreBound bound s.seats.bound_sessions
    pub setup : s.core.rows.setup.accounts ≡ accounts

  of_same : (bound behind : ℕ → Option Binding) (k : ℕ) (name : List ℕ) (receives : Bool) → behind k ≡ bound k → OfBound bound k name receives → OfBound behind k name receives
  of_same bound behind k name receives e h = (h.0, h.1, h.2, e ∙ h.3, h.4, h.5)

  fits_same : (bound behind : ℕ → Option Binding) (s : Serving) → ((k : ℕ) → nat_lt k 32 ≡ true → behind k ≡ bound k) → Fits bound s → Fits behind s
  fits_same bound behind s e h = record {
    sessions = λ x i. let y = h.sessions x i in of_same bound behind x.number x.account x.receives (e x.number y.0) y;
    bound_sessions = λ b i. let y = h.bound_sessions b i in (y.0, e b.seat y.0 ∙ y.1);
    setup = h.setup;
  }

  -- ---- a centre that starts again

  with_each : (bound : ℕ → Option Binding) (o : Option CentreAccount) (b : BoundSession) (sessions : List Session) → slice_get accounts b.account ≡ o
      → (nat_lt b.seat 32 ≡ true) × (bound b.seat ≡ Some (b.account, b.receives)) → Each (OfBound bound) sessions → Each (OfBound bound) (with_session o b sessions)
  with_each bound None b sessions at is h = h
  with_each bound (Some account) b sessions at is h =
      let new : Session = record { number = b.seat; account = account.name; receives = b.receives; unanswered = [] } in
      let own : OfBound bound b.seat account.name b.receives = (is.0, b.account, account, is.1, at, refl) in
      λ x i. ⊎_elim (λ (e : x ≡ new). subst (λ (y : Session). OfBound bound y.number y.account y.receives) (sym e) own) (λ old. h x old.0) (among_put session_key x new sessions i)

  from_each : (bound : ℕ → Option Binding) (bound_sessions : List BoundSession) (sessions : List Session) → AreBound bound bound_sessions → Each (OfBound bound) sessions
      → Each (OfBound bound) (sessions_from accounts sessions bound_sessions)
  from_each bound [] sessions are h = h
  from_each bound (b ∷ bound_sessions) sessions are h =
      from_each bound bound_sessions (with_session (slice_get accounts b.account) b sessions) (λ x i. are x (inr i))
      (with_each bound (slice_get accounts b.account) b sessions refl (are b (inl refl)) h)

  restart_fits : (bound : ℕ → Option Binding) (rows : Rows) (seats : Seats) → rows.setup.accounts ≡ accounts → AreBound bound seats.bound_sessions → Fits bound (restarted rows seats)
  restart_fits bound rows seats e are = record {
    sessions = subst (λ (l : List CentreAccount). Each (OfBound bound) (sessions_from l [] seats.bound_sessions)) (sym e)
        (from_each bound seats.bound_sessions [] are (λ x i. absurd i));
    bound_sessions = are;
    setup = e;
  }

  -- ---- one item

  module _ (bound : ℕ → Option Binding) (s : Serving) (fits : Fits bound s) where
    same_sits : (seat : ℕ) (job : Job) → IsSame s.seats seat job → AreBound (moved bound (JobOf seat job)) (followed seat job s.seats).bound_sessions
    same_sits seat job h b i =
        let y = fits.bound_sessions b (subst (λ (l : List BoundSession). Among b l) h.2 i) in (y.0, same_moved bound s.seats seat b.seat job h ∙ y.1)

    -- who sits where behind a job
    job_sits : (seat : ℕ) (job : Job) → nat_lt seat 32 ≡ true → AreBound (moved bound (JobOf seat job)) (followed seat job s.seats).bound_sessions
    job_sits seat (Bound account receives) few b i =
        let new : BoundSession = record { seat = seat; account = account; receives = receives } in
        ⊎_elim
        (λ (e : b ≡ new). subst (λ (x : BoundSession). (nat_lt x.seat 32 ≡ true) × (moved bound (JobOf seat (Bound account receives)) x.seat ≡ Some (x.account, x.receives))) (sym e)
        (few, at_seat bound seat (Bound account receives)))
        (λ old. let y = fits.bound_sessions b old.0 in (y.0, elsewhere bound seat b.seat (Bound account receives) old.1 ∙ y.1))
        (among_put bound_session_key b new s.seats.bound_sessions i)
    job_sits seat Unbound few b i =
        let old = among_without bound_session_key b seat s.seats.bound_sessions i in
        let y = fits.bound_sessions b old.0 in (y.0, elsewhere bound seat b.seat Unbound old.1 ∙ y.1)
    job_sits seat job few b i = same_sits seat job (other s.seats seat job tt) b i

    far_seat : (seat k : ℕ) → nat_lt seat 32 ≡ false → nat_lt k 32 ≡ true → k ≡ seat → ⊥
    far_seat seat k far few e = true≢false (sym few ∙ (ap (λ (m : ℕ). nat_lt m 32) e ∙ far))

    far_moved : (seat : ℕ) (job : Job) → nat_lt seat 32 ≡ false → (k : ℕ) → nat_lt k 32 ≡ true → moved bound (JobOf seat job) k ≡ bound k
    far_moved seat job far k few = elsewhere bound seat k job (far_seat seat k far few)

    sits : (stimulus : Stimulus Job) → AreBound (moved bound stimulus) (followed_by stimulus s.seats).bound_sessions
    sits (Tick now) = fits.bound_sessions
    sits (Own errand) = fits.bound_sessions
    sits (JobOf seat job) =
        cond_both (nat_lt seat 32) (followed seat job s.seats) s.seats (λ (x : Seats). AreBound (moved bound (JobOf seat job)) x.bound_sessions)
        (λ t. job_sits seat job t)
        (λ t b i. let y = fits.bound_sessions b i in (y.0, far_moved seat job t b.seat y.0 ∙ y.1))

    -- ---- what an event leads to

    abbrev Leads : Stimulus Job → CentreEvent → Type 0
    Leads stimulus event = Becomes event s.core.rows.setup.accounts (OfBound bound) (OfBound (moved bound stimulus))

    same_leads : (seat : ℕ) (job : Job) (event : CentreEvent) → IsSame s.seats seat job → asked s.seats seat job ≡ Event event → Leads (JobOf seat job) event
    same_leads seat job event h e =
        becomes_same s.core.rows.setup.accounts (OfBound bound) (OfBound (moved bound (JobOf seat job))) event (subst (λ (a : SeatRequest). BindsNobody a) e h.0)
        (λ k name is x. of_same bound (moved bound (JobOf seat job)) k name is (same_moved bound s.seats seat k job h) x)

    job_leads : (seat : ℕ) (job : Job) (event : CentreEvent) → nat_lt seat 32 ≡ true → asked s.seats seat job ≡ Event event → Leads (JobOf seat job) event
    job_leads seat (Bound account receives) event few e =
        subst (λ (x : CentreEvent). Leads (JobOf seat (Bound account receives)) x) (event_same (BoundOf seat account receives) event e) (
          (λ k name is ne h. of_same bound (moved bound (JobOf seat (Bound account receives))) k name is (elsewhere bound seat k (Bound account receives) ne) h),
          (λ own at. (
            few,
            account,
            own,
            at_seat bound seat (Bound account receives),
            sym (place_of account accounts) ∙ (ap (λ (l : List CentreAccount). account_at account l) (sym fits.setup) ∙ at),
            refl,
          )),
        )
    job_leads seat Unbound event few e =
        subst (λ (x : CentreEvent). Leads (JobOf seat Unbound) x) (event_same (UnboundOf seat) event e)
        (λ k name is ne h. of_same bound (moved bound (JobOf seat Unbound)) k name is (elsewhere bound seat k Unbound ne) h)
    job_leads seat job event few e = same_leads seat job event (other s.seats seat job tt) e

    leads : (stimulus : Stimulus Job) (event : CentreEvent) → asked_by s.seats stimulus ≡ Event event → Leads stimulus event
    leads (Tick now) event e =
        subst (λ (x : CentreEvent). Leads (Tick now) x) (event_same (TickOf now) event e) (λ k name is h. h)
    leads (Own (ForgetErrand before from most)) event e = absurd (no_forgetting event before from most e)
    leads (Own (EnrolErrand account)) event e = absurd (no_enrolling event account e)
    leads (Own (Retry id)) event e =
        subst (λ (x : CentreEvent). Leads (Own (Retry id)) x) (event_same (OrderedOf RetryOf id) event e) (λ k name is h. h)
    leads (Own (Delete id)) event e =
        subst (λ (x : CentreEvent). Leads (Own (Delete id)) x) (event_same (OrderedOf DeleteOf id) event e) (λ k name is h. h)
    leads (JobOf seat job) event e = ⊎_elim
        (λ (t : nat_lt seat 32 ≡ true). job_leads seat job event t (sym (cond-true (nat_lt seat 32) (asked s.seats seat job) Nothing t) ∙ e))
        (λ (t : nat_lt seat 32 ≡ false). absurd (no_event event (sym (cond-false (nat_lt seat 32) (asked s.seats seat job) Nothing t) ∙ e)))
        (cases_Bool (nat_lt seat 32))

    event_sends : IsSoundCore s.core → (stimulus : Stimulus Job) (event : CentreEvent) → asked_by s.seats stimulus ≡ Event event
        → Sends (messages_in (happened event s.core).store) (OfBound (moved bound stimulus)) (happened event s.core).bindings
    event_sends sound stimulus event e = sends_of (OfBound bound) (OfBound (moved bound stimulus)) s.core sound fits.sessions event (leads stimulus event e)

    -- ---- where no event is asked

    job_unmoved : (seat : ℕ) (job : Job) → AsksNone (asked s.seats seat job) → (k : ℕ) → moved bound (JobOf seat job) k ≡ bound k
    job_unmoved seat (Bound account receives) none k = absurd none
    job_unmoved seat Unbound none k = absurd none
    job_unmoved seat job none k = same_moved bound s.seats seat k job (other s.seats seat job tt)

    unmoved : (stimulus : Stimulus Job) → AsksNone (asked_by s.seats stimulus) → (k : ℕ) → nat_lt k 32 ≡ true → moved bound stimulus k ≡ bound k
    unmoved (Tick now) none k few = absurd none
    unmoved (Own errand) none k few = refl
    unmoved (JobOf seat job) none k few = ⊎_elim
        (λ (t : nat_lt seat 32 ≡ true). job_unmoved seat job (subst AsksNone (cond-true (nat_lt seat 32) (asked s.seats seat job) Nothing t) none) k)
        (λ (t : nat_lt seat 32 ≡ false). far_moved seat job t k few)
        (cases_Bool (nat_lt seat 32))

    setup_stays : (event : CentreEvent) → (core_of (happened event s.core)).rows.setup.accounts ≡ accounts
    setup_stays event = sym (ap (λ (r : Rows). r.setup.accounts) (happened_rests event s.core)) ∙ fits.setup

    -- what is forgotten is of nobody's session
    forget_setup : IsSoundCore s.core → (before from most : ℕ) → (core_of (forget before from most s.core)).rows.setup.accounts ≡ accounts
    forget_setup sound before from most = ap (λ (x : Core). x.rows.setup.accounts) (forget_leaves before from most s.core sound.rows) ∙ fits.setup

-- ---- one item, and the accounts behind it

module _ (accounts : List CentreAccount) (bound : ℕ → Option Binding) (s : Serving) (fits : Fits accounts bound s) where
  -- the accounts behind it are those that it is said of
  abbrev NextFits : Stimulus Job → SeatRequest → Fate → Type 0
  NextFits stimulus a fate = (now : List CentreAccount) × Fits now (λ (k : ℕ). bound_behind k (bound k) stimulus fate) (after_for a fate s stimulus)

  stays_fit : (stimulus : Stimulus Job) (a : SeatRequest) → asked_by s.seats stimulus ≡ a → AsksNone a → Fits accounts (moved bound stimulus) s
  stays_fit stimulus a e none =
      fits_same accounts bound (moved bound stimulus) s (unmoved accounts bound s fits stimulus (subst AsksNone (sym e) none)) fits

  request_fits : IsSoundCore s.core → (stimulus : Stimulus Job) (a : SeatRequest) (fate : Fate) → asked_by s.seats stimulus ≡ a → NextFits stimulus a fate
  request_fits sound stimulus (Event event) Done e =
      (accounts, record { sessions = (event_sends accounts bound s fits sound stimulus event e).held; bound_sessions = sits accounts bound s fits stimulus; setup = setup_stays accounts bound s fits event })
  request_fits sound stimulus (Event event) NoMemory e = (accounts, fits)
  request_fits sound stimulus (Event event) Refused e = (accounts, restart_fits accounts (moved bound stimulus) s.core.rows (followed_by stimulus s.seats) fits.setup (sits accounts bound s fits stimulus))
  request_fits sound stimulus Nothing Done e = (accounts, stays_fit stimulus Nothing e tt)
  request_fits sound stimulus Nothing NoMemory e = (accounts, fits)
  request_fits sound stimulus Nothing Refused e = (accounts, stays_fit stimulus Nothing e tt)
  request_fits sound stimulus Taken Done e = (accounts, stays_fit stimulus Taken e tt)
  request_fits sound stimulus Taken NoMemory e = (accounts, fits)
  request_fits sound stimulus Taken Refused e = (accounts, stays_fit stimulus Taken e tt)
  request_fits sound stimulus (Forget before from most) Done e =
      let still = stays_fit stimulus (Forget before from most) e tt in
      (accounts, record { sessions = still.sessions; bound_sessions = still.bound_sessions; setup = forget_setup accounts bound s fits sound before from most })
  request_fits sound stimulus (Forget before from most) NoMemory e = (accounts, fits)
  request_fits sound stimulus (Forget before from most) Refused e =
      (accounts, restart_fits accounts (moved bound stimulus) s.core.rows s.seats fits.setup (stays_fit stimulus (Forget before from most) e tt).bound_sessions)
  request_fits sound stimulus (Enrol account) Done e =
      let still = stays_fit stimulus (Enrol account) e tt in (
        accounts_with account accounts,
        record {
          sessions = λ x i. let y = still.sessions x i in (y.0, y.1, y.2, y.3, keeps_place account accounts y.1 y.2 y.4, y.5);
          bound_sessions = still.bound_sessions;
          setup = ap (λ (l : List CentreAccount). accounts_with account l) fits.setup;
        },
      )
  request_fits sound stimulus (Enrol account) NoMemory e = (accounts, fits)
  request_fits sound stimulus (Enrol account) Refused e =
      (accounts, restart_fits accounts (moved bound stimulus) s.core.rows s.seats fits.setup (stays_fit stimulus (Enrol account) e tt).bound_sessions)

  item_fits : IsSoundCore s.core → (e : Item Job Reply) → NextFits e.stimulus (asked_by s.seats e.stimulus) e.fate
  item_fits sound e = request_fits sound e.stimulus (asked_by s.seats e.stimulus) e.fate refl

-- ---- a run

run_fits : (items : List (Item Job Reply)) (accounts : List CentreAccount) (bound : ℕ → Option Binding) (s t : Serving) → IsGood s → Fits accounts bound s → AreAsked items
    → IsHistory gives after s items t → (now : List CentreAccount) × Fits now (λ (k : ℕ). bound_after k (bound k) items) t
run_fits [] accounts bound s t good fits are h = (accounts, subst (λ (x : Serving). Fits accounts bound x) (sym h) fits)
run_fits (e ∷ items) accounts bound s t good fits are h =
    let one = item_fits accounts bound s fits good.core e in
    run_fits items one.0 (λ (k : ℕ). bound_behind k (bound k) e.stimulus e.fate) (after s e.stimulus e.fate) t (item_good s e good are.0) one.1 are.1 h.1

-- ---- a receipt that is given

-- the delivery that it is
abbrev IsDelivery : ℕ → Final → List MessageRow → List Delivery → Type 0
IsDelivery seat end messages ds = (d : Delivery) × Among d ds × (seat ≡ d.session) × (end_of (message_at d.id messages) ≡ Some end)

module _ (seat : ℕ) (end : Final) where
  one_delivery : (messages : List MessageRow) (session id : ℕ) (o : Option Final) → end_of (message_at id messages) ≡ o → Among (receipt_for seat end) (receipt_out session o)
      → (seat ≡ session) × (end_of (message_at id messages) ≡ Some end)
  one_delivery messages session id None is there = absurd there
  one_delivery messages session id (Some other) is (inl e) =
      let k : Receipt end ≡ Receipt other = ap (λ (o : Out Reply). o.out) e in
      let same : other ≡ end = cc in (ap (λ (o : Out Reply). o.seat) e, is ∙ ap (λ (f : Final). Some f) same)
  one_delivery messages session id (Some other) is (inr there) = absurd there

  a_delivery : (messages : List MessageRow) (ds : List Delivery) → Among (receipt_for seat end) (receipt_outs messages ds) → IsDelivery seat end messages ds
  a_delivery messages [] there = absurd there
  a_delivery messages (d ∷ ds) there =
      ⊎_elim
      (λ h. let one = one_delivery messages d.session d.id (end_of (message_at d.id messages)) refl h in (d, inl refl, one.0, one.1))
      (λ h. let x = a_delivery messages ds h in (x.0, inr x.1, x.2, x.3))
      (among_parts (receipt_for seat end) (receipt_out d.session (end_of (message_at d.id messages))) (receipt_outs messages ds) there)

  replied_delivery : (risen : Option (List ℕ)) (from : ℕ) (told : Option CentreAnswer) (s : Serving) (event : CentreEvent)
      → Among (receipt_for seat end) (replies_at risen from s.seats.links told (happened event s.core).links.frames
      (messages_in (happened event s.core).store) (happened event s.core).bindings.deliveries)
      → IsDelivery seat end (messages_in (happened event s.core).store) (happened event s.core).bindings.deliveries
  replied_delivery risen from told s event there =
      let d = happened event s.core in
      let first : List (Out Reply) = answer_out from told in
      let second : List (Out Reply) = frame_outs risen from s.seats.links d.links.frames in
      let third : List (Out Reply) = receipt_outs (messages_in d.store) d.bindings.deliveries in
      ⊎_elim
      (λ h. absurd (⊎_elim (λ k. no_answer seat end from told k) (λ k. no_frames seat end risen from s.seats.links d.links.frames k) (among_parts (receipt_for seat end) first second h)))
      (λ h. a_delivery (messages_in d.store) d.bindings.deliveries h)
      (among_parts (receipt_for seat end) (first ++ second) third there)

  module _ (s : Serving) where
    -- an event was done, and made the delivery
    abbrev WasSent : Stimulus Job → Fate → Type 0
    WasSent stimulus fate =
        (event : CentreEvent) × (asked_by s.seats stimulus ≡ Event event) × (fate ≡ Done)
        × IsDelivery seat end (messages_in (happened event s.core).store) (happened event s.core).bindings.deliveries

    request_sent : (stimulus : Stimulus Job) (a : SeatRequest) (fate : Fate) (refusal : Option CommandStatus) → asked_by s.seats stimulus ≡ a
        → Among (receipt_for seat end) (unless_refused fate refusal stimulus (gives_for a fate s stimulus)) → WasSent stimulus fate
    request_sent stimulus (Event event) Done refusal e there = (event, e, refl, replied_delivery (risen_by stimulus) (asker stimulus) (seat_answer stimulus (happened event s.core).answer) s event there)
    request_sent stimulus Nothing Done refusal e there = absurd (none_by_nothing seat end s.seats stimulus there)
    request_sent stimulus Taken Done refusal e there = absurd (none_taken seat end stimulus there)
    request_sent stimulus (Forget before from most) Done refusal e there = absurd there
    request_sent stimulus (Enrol account) Done refusal e there = absurd there
    request_sent stimulus (Event event) Refused refusal e there = absurd (none_failed seat end stimulus there)
    request_sent stimulus Nothing Refused refusal e there = absurd (none_by_nothing seat end s.seats stimulus there)
    request_sent stimulus Taken Refused refusal e there = absurd (none_taken seat end stimulus there)
    request_sent stimulus (Forget before from most) Refused refusal e there = absurd (none_failed seat end stimulus there)
    request_sent stimulus (Enrol account) Refused refusal e there = absurd (none_failed seat end stimulus there)
    request_sent (JobOf from job) a NoMemory (Some status) e there = absurd (no_failure seat end true from status there)
    request_sent (Tick now) a NoMemory (Some status) e there = absurd there
    request_sent (Own errand) a NoMemory (Some status) e there = absurd there
    request_sent stimulus (Event event) NoMemory None e there = absurd (none_failed seat end stimulus there)
    request_sent stimulus Nothing NoMemory None e there = absurd (none_by_nothing seat end s.seats stimulus there)
    request_sent stimulus Taken NoMemory None e there = absurd (none_taken seat end stimulus there)
    request_sent stimulus (Forget before from most) NoMemory None e there = absurd (none_failed seat end stimulus there)
    request_sent stimulus (Enrol account) NoMemory None e there = absurd (none_failed seat end stimulus there)

    was_sent : (stimulus : Stimulus Job) (fate : Fate) → Among (receipt_for seat end) (gives s stimulus fate) → WasSent stimulus fate
    was_sent stimulus fate there = request_sent stimulus (asked_by s.seats stimulus) fate (refusal_for (asked_by s.seats stimulus) s.core) refl there

-- ---- together

-- a receipt has the number of its message
ended_id : (m : MessageRow) (state : FinalState) (at : Option ℕ) (end : Final) → ended m state at ≡ Some end → end.id ≡ m.id
ended_id m state None end e = absurd (none-some end e)
ended_id m state (Some done) end e = let same : final_of state done m ≡ end = cc in sym (ap (λ (f : Final). f.id) same)

in_id : (m : MessageRow) (o : Option FinalState) (end : Final) → end_in m o ≡ Some end → end.id ≡ m.id
in_id m None end e = absurd (none-some end e)
in_id m (Some state) end e = ended_id m state m.done end e

numbered : (m : MessageRow) (id : ℕ) (messages : List MessageRow) {end : Final} → message_at id messages ≡ Some m → end_of (Some m) ≡ Some end → end.id ≡ id
numbered m id messages {end} at e = in_id m m.state end e ∙ found_key message_key id m messages at

behind_more : (n : ℕ) (o : Option Binding) (one : List (Item Job Reply)) (e : Item Job Reply)
    → bound_after n o (one ++ e ∷ []) ≡ bound_behind n (bound_after n o one) e.stimulus e.fate
behind_more n o [] e = refl
behind_more n o (first ∷ one) e = behind_more n (bound_behind n o first.stimulus first.fate) one e

module _ (accounts : List CentreAccount) (bound : ℕ → Option Binding) (s : Serving) (others : List (Item Job Reply)) (fits : Fits accounts bound s) (sound : IsSoundCore s.core) (seat : ℕ) (end : Final) where
  goes_to_account : (stimulus : Stimulus Job) (fate : Fate) → WasSent seat end s stimulus fate → KeepsOrForgets (after s stimulus fate) others
      → IsOfAccount accounts (after s stimulus fate) others (bound_behind seat (bound seat) stimulus fate) end
  goes_to_account stimulus fate sent keeps =
      let event = sent.0 in
      let asks = sent.1 in
      let done = sent.2 in
      let delivery = sent.3.0 in
      let messages = messages_in (happened event s.core).store in
      let rows : (after s stimulus fate).core.rows ≡ (core_of (happened event s.core)).rows =
      ap (λ (f : Fate). (after s stimulus f).core.rows) done ∙ ap (λ (a : SeatRequest). (after_for a Done s stimulus).core.rows) asks in
      let sends = event_sends accounts bound s fits sound stimulus event asks in
      let g = sends.each delivery sent.3.1 in
      let h = sends.held g.session g.bound in
      let m = g.message in
      let own : end.id ≡ delivery.id = numbered m delivery.id messages g.there (ap end_of (sym g.there) ∙ sent.3.3) in
      let x = keeps.messages delivery.id m (ap (λ (r : Rows). message_at delivery.id r.messages) rows ∙ g.there) in record {
        place = h.1;
        bound_so = ap (λ (f : Fate). bound_behind seat (bound seat) stimulus f) done
            ∙ (ap (λ (k : ℕ). moved bound stimulus k) (sent.3.2 ∙ sym g.number) ∙ (h.3 ∙ ap (λ (b : Bool). Some (h.1, b)) g.receives));
        account = h.2;
        account_so = h.4;
        row = x.0;
        row_so = ap (λ (k : ℕ). message_left k (after s stimulus fate) others) own ∙ x.1.0;
        submitted = ap (λ (name : List ℕ). is_account name x.0.originator) h.5 ∙ (ap (λ (o : Originator). is_account g.session.account o) x.1.1.originator ∙ g.account);
      }

-- no account comes by an item that made a delivery
sent_stays : (seat : ℕ) (end : Final) (s : Serving) (stimulus : Stimulus Job) (fate : Fate) → WasSent seat end s stimulus fate
    → (after s stimulus fate).core.rows.setup.accounts ≡ s.core.rows.setup.accounts
sent_stays seat end s stimulus fate sent =
    ap (λ (f : Fate). (after s stimulus f).core.rows.setup.accounts) sent.2
    ∙ (ap (λ (a : SeatRequest). (after_for a Done s stimulus).core.rows.setup.accounts) sent.1 ∙ event_leaves sent.0 s.core)

module _ (rows : Rows) (items : List (Item Job Reply)) (last : Serving) (sound : IsSound rows) (are : AreAsked items)
    (run : IsHistory gives after (restarted rows nobody) items last) where
  start_good : IsGood (restarted rows nobody)
  start_good = record { core = restart_sound rows nobody sound (λ l there. absurd there); short = λ l there. absurd there }

  nobody_fits : Fits rows.setup.accounts (λ (k : ℕ). None) (restarted rows nobody)
  nobody_fits = record { sessions = λ x i. absurd i; bound_sessions = λ b i. absurd i; setup = refl }

  pub receipts_go : GoToAccounts rows items
  receipts_go one other e seat end is there =
      let parts = asked_parts one (e ∷ other) (subst AreAsked is are) in
      let m = between one (e ∷ other) (restarted rows nobody) last (subst (λ (l : List (Item Job Reply)). IsHistory gives after (restarted rows nobody) l last) is run) in
      let good = run_good one (restarted rows nobody) m.0 start_good parts.0 m.1 in
      let fits = run_fits one rows.setup.accounts (λ (k : ℕ). None) (restarted rows nobody) m.0 start_good nobody_fits parts.0 m.1 in
      let sent = was_sent seat end m.0 e.stimulus e.fate (subst (λ (l : List (Out Reply)). Among (receipt_for seat end) l) m.2.0 there) in
      let run_to = history_more one e (restarted rows nobody) m.0 m.1 m.2.0 in
      let now : fits.0 ≡ accounts_behind rows.setup.accounts (one ++ e ∷ []) =
      sym fits.1.setup ∙ (sym (sent_stays seat end m.0 e.stimulus e.fate sent) ∙ run_accounts (one ++ e ∷ []) (restarted rows nobody) (after m.0 e.stimulus e.fate) run_to) in
      let keeps = run_left other (after m.0 e.stimulus e.fate) (item_good m.0 e good parts.1.0) parts.1.1 in (
        after m.0 e.stimulus e.fate,
        (
          run_to,
          subst (λ (l : List CentreAccount). IsOfAccount l (after m.0 e.stimulus e.fate) other (bound_after seat None (one ++ e ∷ [])) end) now
              (subst (λ (o : Option Binding). IsOfAccount fits.0 (after m.0 e.stimulus e.fate) other o end) (sym (behind_more seat None one e))
              (goes_to_account fits.0 (λ (k : ℕ). bound_after k None one) m.0 other fits.1 good.core seat end e.stimulus e.fate sent keeps)),
        ),
      )
