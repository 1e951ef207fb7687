-- A run of the centre keeps its promises.
use Rattle.std.proofs.Common.{◌≡◌, ◌≤◌, ◌||◌, ◌⊎◌, inl, inr, ⊎_elim, ℕ, Bool, true, false, not, List, [], ◌∷◌, ◌++◌, length, slice_get, Option, Some, None, if◌then◌else◌, refl, sym, ap, subst, ◌∙◌}
use Rattle.std.proofs.lemmas.Bool.{cond_both, not-false, or_parts}
use Rattle.sms_base.proofs.Lists.{among_parts}
use Rattle.sms_centre_rows.specs.waiting.SoundAllocations.{IsNumber}
use Rattle.sms_base.specs.Among.{Among}
use Rattle.sms_base.specs.declared.final_state.FinalState.{FinalState}
use Rattle.sms_centre_rows.specs.declared.messages.message.MessageRow.{MessageRow}
use Rattle.sms_centre_rows.specs.declared.reports.delivery.Delivery.{Delivery}
use Rattle.sms_centre_rows.specs.declared.waiting.handset_link.Sent.{Sent}
use Rattle.sms_centre_rows.specs.declared.messages.part.PartRow.{PartRow}
use Rattle.sms_centre_rows.specs.declared.reports.report.ReportRow.{ReportRow}
use Rattle.sms_centre_rows.specs.messages.Messages.{message_at, message_key, part_at}
use Rattle.sms_centre_rows.specs.reports.Reports.{report_of}
use Rattle.sms_centre_rows.specs.reports.Receipts.{Session, session_key}
use Rattle.sms_centre_spec.specs.CentreEvent.{happened}
use Rattle.sms_centre_spec.specs.Draft.{core_of, messages_in}
use Rattle.sms_centre_spec.specs.Finals.{final_of}
use Rattle.sms_centre_spec.specs.Keeping.{IsMessageStill, IsPartStill, IsReportStill}
use Rattle.sms_centre_spec.specs.SoundCore.{AreDifferent, IsEvent, IsSession, IsSoundCore}
use Rattle.sms_centre_spec.specs.SoundRows.{IsSound}
use Rattle.sms_centre_spec.specs.declared.answer.CentreAnswer.{CentreAnswer}
use Rattle.sms_centre_spec.specs.declared.answer.CentreAnswer.TheVariants.{Refused as RefusedBy, Submitted}
use Rattle.smpp_pdu.specs.declared.status.CommandStatus.{CommandStatus}
use Rattle.smpp_pdu.specs.declared.status.CommandStatus.TheVariants.{ESME_RSYSERR}
use Rattle.sms_centre_spec.specs.declared.event.CentreEvent.{CentreEvent}
use Rattle.sms_centre_spec.specs.declared.jobs.job.Job.{Job}
use Rattle.sms_centre_spec.specs.declared.jobs.job.Job.TheVariants.{Submit}
use Rattle.sms_centre_spec.specs.declared.jobs.reply.Reply.{Reply}
use Rattle.sms_centre_spec.specs.declared.jobs.reply.Reply.TheVariants.{Answer, Receipt, Frame as FrameOut, Taken as TakenOut}
use Rattle.sms_centre_spec.specs.declared.rows.Rows.{Rows}
use Rattle.sms_centre_spec.specs.jobs.Requests.{is_request}
use Rattle.sms_centre_spec.proofs.EventLaws.{keeps_rows, stays_sound}
use Rattle.sms_centre_spec.proofs.Keeping.{keeps_same, same_message, same_part, same_report}
use Rattle.sms_centre_spec.proofs.forgetting.Now.{forgot_now, may_now}
use Rattle.sms_centre_spec.specs.forgetting.Forget.{is_going_now, may_go_now}
use Rattle.sms_centre_spec.proofs.SoundBegins.{recovered_sound}
use Rattle.sms_intake.specs.declared.submission.CentreAccount.{CentreAccount}
use Rattle.sms_keeper.specs.declared.machine.Fate.{Fate}
use Rattle.sms_keeper.specs.declared.machine.Fate.TheVariants.{Done, NoMemory, Refused}
use Rattle.sms_keeper.specs.declared.machine.Item.{Item}
use Rattle.sms_keeper.specs.declared.machine.Errand.TheVariants.{Forget as ForgetErrand}
use Rattle.sms_keeper.specs.declared.machine.Stimulus.{Stimulus}
use Rattle.sms_keeper.specs.declared.machine.Stimulus.TheVariants.{Job as JobOf, Tick, Own}
use Rattle.sms_keeper.specs.declared.outs.Out.{Out}
use Rattle.sms_keeper.specs.History.{IsHistory}
use Rattle.sms_receipt.specs.declared.final_message.Final.{Final}
use Rattle.sms_rows.specs.table.Table.{Rises}
use Rattle.sms_rows.proofs.table.Tables.{among_put, found_among, found_key, rises_put}
use Rattle.sms_centre.specs.Enrolling.{rows_with}
use Rattle.smsc_service.specs.Asking.{IfEvent, asked_by}
use Rattle.smsc_service.specs.BoundSession.{handsets_from, handsets_of, is_among, sessions_from, sessions_of, with_number, with_session}
use Rattle.smsc_service.specs.Numbers.{is_number}
use Rattle.smsc_service.specs.Replies.{answer_for, answer_out, end_in, end_of, ended, failed, failed_by, frame_out, frame_outs, nothing_by, receipt_out, receipt_outs, replies_at, risen_by, seat_for, taken_by, vacancy}
use Rattle.smsc_service.specs.Seats.{Seats, nobody}
use Rattle.smsc_service.specs.Serving.{Serving, after, after_for, followed_by, gives, gives_for, outs_for, refusal_for, restarted, unless_refused}
use Rattle.smsc_service.specs.declared.asking.SeatRequest.{SeatRequest}
use Rattle.smsc_service.specs.declared.asking.SeatRequest.TheVariants.{Event, Nothing, Taken, Forget, Enrol}
use Rattle.smsc_service.specs.declared.seat_map.BoundSession.{BoundSession}
use Rattle.smsc_service.specs.declared.seat_map.LinkSeat.{LinkSeat}
use Rattle.smsc_server.specs.Forgotten.{Behind, KeepsOrForgets, forgets, forgets_for, message_left}
use Rattle.smsc_server.specs.RunPromises.{AreAsked, IsAsked, IsReported, KeepsPromises, receipt_for}
use Rattle.smsc_server.proofs.AccountsBehind.{run_accounts}
use Rattle.smsc_server.proofs.ForgetAsked.{forget_asked, forgot_so}
use Rattle.smsc_server.proofs.Forgotten.{KeepsOne, forget_one, message_through, one_of, part_through, report_through, still_left}
use Rattle.smsc_server.proofs.RunEvents.{AreShort, asked_is, number_of, seats_short}
use Rattle.smsc_service.proofs.Sittings.{among_snoc, different_snoc, not_among}
use Rattle.sms_centre.proofs.Enrolled.{core_more}

-- ---- a centre that starts again

abbrev AreNumbers : List (List ℕ) → Type 0
AreNumbers numbers = (number : List ℕ) → Among number numbers → IsNumber number

numbers_snoc : (ns : List (List ℕ)) (m : List ℕ) → AreNumbers ns → IsNumber m → AreNumbers (ns ++ m ∷ [])
numbers_snoc ns m h k n there = ⊎_elim (λ x. h n x) (λ is. subst IsNumber (sym is) k) (among_snoc n ns m there)

abbrev AreApart : List (List ℕ) → Type 0
AreApart numbers = AreNumbers numbers × AreDifferent numbers

number_apart : (number : List ℕ) (numbers : List (List ℕ)) → length number ≤ 20 → AreApart numbers → AreApart (with_number number numbers)
number_apart number numbers few h =
    cond_both (not (is_number number) || is_among number numbers) numbers (numbers ++ number ∷ []) AreApart (λ t. h)
    (λ t. let p = or_parts (not (is_number number)) (is_among number numbers) t in (
      numbers_snoc numbers number h.0 (number_of number few (not-false (is_number number) p.0)),
      different_snoc numbers number h.1 (not_among number numbers p.1),
    ))

handsets_apart : (links : List LinkSeat) (numbers : List (List ℕ)) → AreShort links → AreApart numbers → AreApart (handsets_from numbers links)
handsets_apart [] numbers short h = h
handsets_apart (l ∷ links) numbers short h =
    handsets_apart links (with_number l.handset numbers) (λ x there. short x (inr there)) (number_apart l.handset numbers (short l (inl refl)) h)

record AreFresh (sessions : List Session) : Type 0 where
  pub rises : Rises session_key sessions
  pub new : (s : Session) → Among s sessions → s.unanswered ≡ []

session_fresh : (o : Option CentreAccount) (b : BoundSession) (sessions : List Session) → AreFresh sessions → AreFresh (with_session o b sessions)
session_fresh None b sessions h = h
session_fresh (Some account) b sessions h =
    let x : Session = record { number = b.seat; account = account.name; receives = b.receives; unanswered = [] } in record {
      rises = rises_put session_key x sessions h.rises;
      new = λ s there. ⊎_elim (λ (here : s ≡ x). ap (λ (y : Session). y.unanswered) here) (λ old. h.new s old.0) (among_put session_key s x sessions there);
    }

sessions_fresh : (accounts : List CentreAccount) (bound_sessions : List BoundSession) (sessions : List Session) → AreFresh sessions → AreFresh (sessions_from accounts sessions bound_sessions)
sessions_fresh accounts [] sessions h = h
sessions_fresh accounts (b ∷ bound_sessions) sessions h =
    sessions_fresh accounts bound_sessions (with_session (slice_get accounts b.account) b sessions) (session_fresh (slice_get accounts b.account) b sessions h)

pub restart_sound : (rows : Rows) (seats : Seats) → IsSound rows → AreShort seats.links → IsSoundCore (restarted rows seats).core
restart_sound rows seats sound short =
    let apart = handsets_apart seats.links [] short ((λ n there. absurd there), tt) in
    let fresh = sessions_fresh rows.setup.accounts seats.bound_sessions [] (record { rises = tt; new = λ s there. absurd there }) in
    recovered_sound rows (handsets_of seats.links) (sessions_of rows.setup.accounts seats.bound_sessions) sound apart.0 apart.1 fresh.rises
    (λ s there. record { unanswered = λ id among. absurd (subst (λ (l : List ℕ). Among id l) (fresh.new s there) among) })

-- ---- one item

pub record IsGood (s : Serving) : Type 0 where
  pub core : IsSoundCore s.core
  pub short : AreShort s.seats.links

request_good : (a : SeatRequest) (fate : Fate) (s : Serving) (stimulus : Stimulus Job) → IsGood s → IsAsked stimulus → IfEvent IsEvent a → IsGood (after_for a fate s stimulus)
request_good (Event event) Done s stimulus good is e = record { core = stays_sound event s.core good.core e; short = seats_short stimulus s.seats is good.short }
request_good (Event event) NoMemory s stimulus good is e = good
request_good (Event event) Refused s stimulus good is e =
    let short = seats_short stimulus s.seats is good.short in
    record { core = restart_sound s.core.rows (followed_by stimulus s.seats) good.core.rows short; short = short }
request_good Nothing fate s stimulus good is e = good
request_good Taken fate s stimulus good is e = good
request_good (Forget before from most) Done s stimulus good is e = record { core = (forgot_now before from most s.core good.core).left; short = good.short }
request_good (Forget before from most) NoMemory s stimulus good is e = good
request_good (Forget before from most) Refused s stimulus good is e = record { core = restart_sound s.core.rows s.seats good.core.rows good.short; short = good.short }
request_good (Enrol account) Done s stimulus good is e = record { core = core_more account s.core good.core; short = good.short }
request_good (Enrol account) NoMemory s stimulus good is e = good
request_good (Enrol account) Refused s stimulus good is e = record { core = restart_sound s.core.rows s.seats good.core.rows good.short; short = good.short }

pub item_good : (s : Serving) (e : Item Job Reply) → IsGood s → IsAsked e.stimulus → IsGood (after s e.stimulus e.fate)
item_good s e good is = request_good (asked_by s.seats e.stimulus) e.fate s e.stimulus good is (asked_is s.seats e.stimulus is good.short)

-- an account that comes changes no message
one_enrolled : (n : ℕ) (account : CentreAccount) (rows : Rows) → KeepsOne n rows (rows_with account rows)
one_enrolled n account rows = let same = one_of n rows rows (keeps_same rows) in record { messages = same.messages; parts = same.parts; reports = same.reports }

request_one : (n : ℕ) (a : SeatRequest) (fate : Fate) (s : Serving) (stimulus : Stimulus Job) → IsGood s → IfEvent IsEvent a → forgets_for a fate s n ≡ false
    → KeepsOne n s.core.rows (after_for a fate s stimulus).core.rows
request_one n (Event event) Done s stimulus good e t = one_of n s.core.rows (core_of (happened event s.core)).rows (keeps_rows event s.core good.core e)
request_one n (Event event) NoMemory s stimulus good e t = one_of n s.core.rows s.core.rows (keeps_same s.core.rows)
request_one n (Event event) Refused s stimulus good e t = one_of n s.core.rows s.core.rows (keeps_same s.core.rows)
request_one n Nothing fate s stimulus good e t = one_of n s.core.rows s.core.rows (keeps_same s.core.rows)
request_one n Taken fate s stimulus good e t = one_of n s.core.rows s.core.rows (keeps_same s.core.rows)
request_one n (Forget before from most) Done s stimulus good e t = forget_one before from most n s.core good.core.rows t
request_one n (Forget before from most) NoMemory s stimulus good e t = one_of n s.core.rows s.core.rows (keeps_same s.core.rows)
request_one n (Forget before from most) Refused s stimulus good e t = one_of n s.core.rows s.core.rows (keeps_same s.core.rows)
request_one n (Enrol account) Done s stimulus good e t = one_enrolled n account s.core.rows
request_one n (Enrol account) NoMemory s stimulus good e t = one_of n s.core.rows s.core.rows (keeps_same s.core.rows)
request_one n (Enrol account) Refused s stimulus good e t = one_of n s.core.rows s.core.rows (keeps_same s.core.rows)

item_one : (n : ℕ) (s : Serving) (e : Item Job Reply) → IsGood s → IsAsked e.stimulus → forgets s e n ≡ false → KeepsOne n s.core.rows (after s e.stimulus e.fate).core.rows
item_one n s e good is t = request_one n (asked_by s.seats e.stimulus) e.fate s e.stimulus good (asked_is s.seats e.stimulus is good.short) t

-- ---- a run

pub run_good : (items : List (Item Job Reply)) (s t : Serving) → IsGood s → AreAsked items → IsHistory gives after s items t → IsGood t
run_good [] s t good are h = subst (λ (x : Serving). IsGood x) (sym h) good
run_good (e ∷ items) s t good are h = run_good items (after s e.stimulus e.fate) t (item_good s e good are.0) are.1 h.1

abbrev IsItem : Item Job Reply → Type 0
IsItem e = IsAsked e.stimulus

pub run_left : (items : List (Item Job Reply)) (s : Serving) → IsGood s → AreAsked items → KeepsOrForgets s items
run_left items s good are = record {
  messages = λ id m at.
      still_left IsGood IsItem AreAsked (λ e l h. h.0) (λ e l h. h.1) item_good (λ (rows : Rows). message_at id rows.messages) id (λ (m : MessageRow). id) IsMessageStill same_message message_through
      (λ x y h. refl) (λ s e good is t x own found. (item_one id s e good is t).messages x found) items s good are m refl at;
  parts = λ id number p at.
      still_left IsGood IsItem AreAsked (λ e l h. h.0) (λ e l h. h.1) item_good (λ (rows : Rows). part_at id number rows.parts) p.id (λ (q : PartRow). q.id) IsPartStill same_part part_through
      (λ x y h. h.id) (λ s e good is t x own found. (item_one p.id s e good is t).parts id number x own found) items s good are p refl at;
  reports = λ id r at.
      still_left IsGood IsItem AreAsked (λ e l h. h.0) (λ e l h. h.1) item_good (λ (rows : Rows). report_of id rows.reports) id (λ (r : ReportRow). id) IsReportStill same_report report_through
      (λ x y h. refl) (λ s e good is t x own found. (item_one id s e good is t).reports x found) items s good are r refl at;
}

pub asked_parts : (one other : List (Item Job Reply)) → AreAsked (one ++ other) → AreAsked one × AreAsked other
asked_parts [] other h = (tt, h)
asked_parts (e ∷ one) other h = let p = asked_parts one other h.1 in ((h.0, p.0), p.1)

-- what stands behind some items
behind : (one other : List (Item Job Reply)) (s m t : Serving) → IsHistory gives after s one m → IsHistory gives after s (one ++ other) t → IsHistory gives after m other t
behind [] other s m t h k = subst (λ (x : Serving). IsHistory gives after x other t) (sym h) k
behind (e ∷ one) other s m t h k = behind one other (after s e.stimulus e.fate) m t h.1 k.1

pub between : (one other : List (Item Job Reply)) (s t : Serving) → IsHistory gives after s (one ++ other) t → (m : Serving) × IsHistory gives after s one m × IsHistory gives after m other t
between [] other s t h = (s, refl, h)
between (e ∷ one) other s t h = let m = between one other (after s e.stimulus e.fate) t h.1 in (m.0, (h.0, m.1), m.2)

-- an item more
pub history_more : (one : List (Item Job Reply)) (e : Item Job Reply) (s m : Serving) → IsHistory gives after s one m → e.outs ≡ gives m e.stimulus e.fate
    → IsHistory gives after s (one ++ e ∷ []) (after m e.stimulus e.fate)
history_more [] e s m h outs =
    (subst (λ (x : Serving). e.outs ≡ gives x e.stimulus e.fate) h outs, ap (λ (x : Serving). after x e.stimulus e.fate) h)
history_more (x ∷ one) e s m h outs = (h.0, history_more one e (after s x.stimulus x.fate) m h.1 outs)

-- ---- receipts

module _ (seat : ℕ) (end : Final) where
  pub no_answer : (asker : ℕ) (o : Option CentreAnswer) → Among (receipt_for seat end) (answer_out asker o) → ⊥
  no_answer asker None there = there
  no_answer asker (Some answer) (inl e) = let k : Receipt end ≡ Answer answer = ap (λ (o : Out Reply). o.out) e in absurd cc
  no_answer asker (Some answer) (inr there) = there

  no_frame : (o : Option ℕ) (octets : List ℕ) → Among (receipt_for seat end) (frame_out o octets) → ⊥
  no_frame None octets there = there
  no_frame (Some at) octets (inl e) = let k : Receipt end ≡ FrameOut octets = ap (λ (o : Out Reply). o.out) e in absurd cc
  no_frame (Some at) octets (inr there) = there

  pub no_frames : (risen : Option (List ℕ)) (asker : ℕ) (links : List LinkSeat) (frames : List Sent) → Among (receipt_for seat end) (frame_outs risen asker links frames) → ⊥
  no_frames risen asker links [] there = there
  no_frames risen asker links (f ∷ fs) there =
      let to : Option ℕ = seat_for risen asker links f.handset in
      ⊎_elim (λ h. no_frame to f.frame.octets h) (λ h. no_frames risen asker links fs h)
      (among_parts (receipt_for seat end) (frame_out to f.frame.octets) (frame_outs risen asker links fs) there)

  pub no_failure : (b : Bool) (asker : ℕ) (status : CommandStatus) → Among (receipt_for seat end) (if b then answer_for asker (RefusedBy status) ∷ [] else []) → ⊥
  no_failure true asker status (inl e) = let k : Receipt end ≡ Answer (RefusedBy status) = ap (λ (o : Out Reply). o.out) e in absurd cc
  no_failure true asker status (inr there) = there
  no_failure false asker status there = there

  pub none_failed : (stimulus : Stimulus Job) → Among (receipt_for seat end) (failed_by stimulus) → ⊥
  none_failed (JobOf asker job) there = no_failure (is_request job) asker ESME_RSYSERR there
  none_failed (Tick now) there = there
  none_failed (Own errand) there = there

  pub none_by_nothing : (seats : Seats) (stimulus : Stimulus Job) → Among (receipt_for seat end) (nothing_by seats stimulus) → ⊥
  none_by_nothing seats (JobOf asker job) there = no_failure (is_request job) asker (vacancy asker seats) there
  none_by_nothing seats (Tick now) there = there
  none_by_nothing seats (Own errand) there = there

  pub none_taken : (stimulus : Stimulus Job) → Among (receipt_for seat end) (taken_by stimulus) → ⊥
  none_taken (JobOf asker job) (inl e) = let k : Receipt end ≡ TakenOut = ap (λ (o : Out Reply). o.out) e in absurd cc
  none_taken (JobOf asker job) (inr there) = there
  none_taken (Tick now) there = there
  none_taken (Own errand) there = there

  -- a message of these rows ended so
  abbrev pub IsOf : List MessageRow → Type 0
  IsOf messages =
      (id : ℕ) × (row : MessageRow) × (message_at id messages ≡ Some row) × (row.state ≡ Some end.state) × (row.done ≡ Some end.done) × (end ≡ final_of end.state end.done row)

  done_is : (m : MessageRow) (state : FinalState) (done : Option ℕ) → ended m state done ≡ Some end
      → (state ≡ end.state) × (done ≡ Some end.done) × (end ≡ final_of end.state end.done m)
  done_is m state None e = absurd cc
  done_is m state (Some done) e =
      let same : final_of state done m ≡ end = cc in
      (ap (λ (f : Final). f.state) same, ap (λ (f : Final). Some f.done) same, sym same ∙ ap (λ (f : Final). final_of f.state f.done m) same)

  state_is : (m : MessageRow) (o : Option FinalState) → m.state ≡ o → end_in m o ≡ Some end
      → (m.state ≡ Some end.state) × (m.done ≡ Some end.done) × (end ≡ final_of end.state end.done m)
  state_is m None is e = absurd cc
  state_is m (Some state) is e = let d = done_is m state m.done e in (is ∙ ap (λ (s : FinalState). Some s) d.0, d.1, d.2)

  pub row_is : (messages : List MessageRow) (id : ℕ) (o : Option MessageRow) → message_at id messages ≡ o → end_of o ≡ Some end → IsOf messages
  row_is messages id None is e = absurd cc
  row_is messages id (Some m) is e = let s = state_is m m.state refl e in (id, m, is, s.0, s.1, s.2)

  receipt_is : (messages : List MessageRow) (session id : ℕ) (o : Option Final) → end_of (message_at id messages) ≡ o → Among (receipt_for seat end) (receipt_out session o) → IsOf messages
  receipt_is messages session id None is there = absurd there
  receipt_is messages session id (Some other) is (inl e) =
      let k : Receipt end ≡ Receipt other = ap (λ (o : Out Reply). o.out) e in
      let same : other ≡ end = cc in
      row_is messages id (message_at id messages) refl (is ∙ ap (λ (f : Final). Some f) same)
  receipt_is messages session id (Some other) is (inr there) = absurd there

  receipts_are : (messages : List MessageRow) (ds : List Delivery) → Among (receipt_for seat end) (receipt_outs messages ds) → IsOf messages
  receipts_are messages [] there = absurd there
  receipts_are messages (d ∷ ds) there =
      ⊎_elim (λ h. receipt_is messages d.session d.id (end_of (message_at d.id messages)) refl h) (λ h. receipts_are messages ds h)
      (among_parts (receipt_for seat end) (receipt_out d.session (end_of (message_at d.id messages))) (receipt_outs messages ds) there)

  replied_is : (risen : Option (List ℕ)) (asker : ℕ) (links : List LinkSeat) (o : Option CentreAnswer) (frames : List Sent) (messages : List MessageRow) (ds : List Delivery)
      → Among (receipt_for seat end) (replies_at risen asker links o frames messages ds) → IsOf messages
  replied_is risen asker links o frames messages ds there =
      let first : List (Out Reply) = answer_out asker o in
      let second : List (Out Reply) = frame_outs risen asker links frames in
      ⊎_elim
      (λ h. absurd (⊎_elim (λ k. no_answer asker o k) (λ k. no_frames risen asker links frames k) (among_parts (receipt_for seat end) first second h)))
      (λ h. receipts_are messages ds h)
      (among_parts (receipt_for seat end) (first ++ second) (receipt_outs messages ds) there)

  module _ (s : Serving) where
    request_is : (a : SeatRequest) (fate : Fate) (stimulus : Stimulus Job) → Among (receipt_for seat end) (gives_for a fate s stimulus)
        → IsOf (after_for a fate s stimulus).core.rows.messages
    request_is (Event event) Done (JobOf asker job) there =
        let d = happened event s.core in
        replied_is (risen_by (JobOf asker job)) asker s.seats.links d.answer d.links.frames (messages_in d.store) d.bindings.deliveries there
    request_is (Event event) Done (Tick now) there =
        let d = happened event s.core in
        replied_is None 0 s.seats.links d.answer d.links.frames (messages_in d.store) d.bindings.deliveries there
    request_is (Event event) Done (Own errand) there =
        let d = happened event s.core in
        replied_is None 0 s.seats.links None d.links.frames (messages_in d.store) d.bindings.deliveries there
    request_is (Event event) NoMemory stimulus there = absurd (none_failed stimulus there)
    request_is (Event event) Refused stimulus there = absurd (none_failed stimulus there)
    request_is Nothing fate stimulus there = absurd (none_by_nothing s.seats stimulus there)
    request_is Taken fate stimulus there = absurd (none_taken stimulus there)
    request_is (Forget before from most) Done stimulus there = absurd there
    request_is (Forget before from most) NoMemory stimulus there = absurd (none_failed stimulus there)
    request_is (Forget before from most) Refused stimulus there = absurd (none_failed stimulus there)
    request_is (Enrol account) Done stimulus there = absurd there
    request_is (Enrol account) NoMemory stimulus there = absurd (none_failed stimulus there)
    request_is (Enrol account) Refused stimulus there = absurd (none_failed stimulus there)

    outs_are : (a : SeatRequest) (fate : Fate) (refusal : Option CommandStatus) (stimulus : Stimulus Job)
        → Among (receipt_for seat end) (unless_refused fate refusal stimulus (gives_for a fate s stimulus)) → IsOf (after_for a fate s stimulus).core.rows.messages
    outs_are a Done refusal stimulus there = request_is a Done stimulus there
    outs_are a Refused refusal stimulus there = request_is a Refused stimulus there
    outs_are a NoMemory None stimulus there = request_is a NoMemory stimulus there
    outs_are a NoMemory (Some status) (JobOf asker job) there = absurd (no_failure true asker status there)
    outs_are a NoMemory (Some status) (Tick now) there = absurd there
    outs_are a NoMemory (Some status) (Own errand) there = absurd there

    pub given_is : (stimulus : Stimulus Job) (fate : Fate) → Among (receipt_for seat end) (gives s stimulus fate) → IsOf (after s stimulus fate).core.rows.messages
    given_is stimulus fate there = outs_are (asked_by s.seats stimulus) fate (refusal_for (asked_by s.seats stimulus) s.core) stimulus there

-- ---- together

-- a row that had ended is the same at the end, and as it is forgotten
reported_still : (s : Serving) (items : List (Item Job Reply)) (end : Final) → KeepsOrForgets s items → IsOf 0 end s.core.rows.messages → IsReported items end s
reported_still s items end keeps h =
    let x = keeps.messages h.0 h.1 h.2 in
    let same = x.1.1.final end.state h.3 in (
      h.0,
      x.0,
      x.1.0,
      subst (λ (m : MessageRow). m.state ≡ Some end.state) (sym same) h.3,
      subst (λ (m : MessageRow). m.done ≡ Some end.done) (sym same) h.4,
      subst (λ (m : MessageRow). end ≡ final_of end.state end.done m) (sym same) h.5,
    )

-- the law that an answer names a message of the rows behind it
abbrev AnswersStand : Type 0
AnswersStand =
    (s : Serving) (seat account asked id : ℕ) (pdu : List ℕ) (fate : Fate) → Among (answer_for asked (Submitted id)) (gives s (JobOf seat (Submit account pdu)) fate)
    → (asked ≡ seat) × ((row : MessageRow) × (message_at id (after s (JobOf seat (Submit account pdu)) fate).core.rows.messages ≡ Some row))

module _ (stand : AnswersStand) (rows : Rows) (items : List (Item Job Reply)) (last : Serving) (sound : IsSound rows) (are : AreAsked items)
    (run : IsHistory gives after (restarted rows nobody) items last) where
  first_good : IsGood (restarted rows nobody)
  first_good = record { core = restart_sound rows nobody sound (λ l there. absurd there); short = λ l there. absurd there }

  -- what stands between the beginning and the items behind
  part : (one other : List (Item Job Reply)) → items ≡ one ++ other → (s : Serving) → IsHistory gives after (restarted rows nobody) one s
      → IsGood s × KeepsOrForgets s other
  part one other e s h =
      let parts = asked_parts one other (subst AreAsked e are) in
      let good = run_good one (restarted rows nobody) s first_good parts.0 h in
      (good, run_left other s good parts.1)

  -- the step of an item, and what is kept behind it
  step : (one other : List (Item Job Reply)) (e : Item Job Reply) → items ≡ one ++ e ∷ other
      → (s : Serving) × (e.outs ≡ gives s e.stimulus e.fate) × IsHistory gives after (restarted rows nobody) (one ++ e ∷ []) (after s e.stimulus e.fate)
      × KeepsOrForgets (after s e.stimulus e.fate) other
  step one other e is =
      let parts = asked_parts one (e ∷ other) (subst AreAsked is are) in
      let m = between one (e ∷ other) (restarted rows nobody) last (subst (λ (l : List (Item Job Reply)). IsHistory gives after (restarted rows nobody) l last) is run) in
      let good = run_good one (restarted rows nobody) m.0 first_good parts.0 m.1 in (
        m.0,
        m.2.0,
        history_more one e (restarted rows nobody) m.0 m.1 m.2.0,
        run_left other (after m.0 e.stimulus e.fate) (item_good m.0 e good parts.1.0) parts.1.1,
      )

  submitted : (one other : List (Item Job Reply)) (e : Item Job Reply) (seat account asked id : ℕ) (pdu : List ℕ) → items ≡ one ++ e ∷ other
      → e.stimulus ≡ JobOf seat (Submit account pdu) → Among (answer_for asked (Submitted id)) e.outs
      → (asked ≡ seat) × Behind (restarted rows nobody) (one ++ e ∷ []) (λ s. (row : MessageRow) × (message_left id s other ≡ Some row))
  submitted one other e seat account asked id pdu is stimulus there =
      let s = step one other e is in
      let told = stand s.0 seat account asked id pdu e.fate
      (subst (λ (x : Stimulus Job). Among (answer_for asked (Submitted id)) (gives s.0 x e.fate)) stimulus (subst (λ (l : List (Out Reply)). Among (answer_for asked (Submitted id)) l) s.1 there)) in
      let named = subst (λ (x : Stimulus Job). message_at id (after s.0 x e.fate).core.rows.messages ≡ Some told.1.0) (sym stimulus) told.1.1 in
      let x = s.3.messages id told.1.0 named in
      (told.0, (after s.0 e.stimulus e.fate, (s.2, (x.0, x.1.0))))

  went : (one other : List (Item Job Reply)) (e : Item Job Reply) (s : Serving) (id : ℕ) (row : MessageRow) → items ≡ one ++ e ∷ other
      → IsHistory gives after (restarted rows nobody) one s → forgets s e id ≡ true → message_at id s.core.rows.messages ≡ Some row
      → (before : ℕ) × (from : ℕ) × (most : ℕ) × (e.stimulus ≡ Own (ForgetErrand before from most)) × (may_go_now before s.core row ≡ true)
  went one other e s id row is h goes found =
      let asks = forgot_so (asked_by s.seats e.stimulus) e.fate s id goes in
      let good = (part one (e ∷ other) is s h).0 in
      let own : row.id ≡ id = found_key message_key id row s.core.rows.messages found in (
        asks.0,
        asks.1,
        asks.2,
        forget_asked s.seats e.stimulus asks.0 asks.1 asks.2 asks.3,
        may_now asks.0 asks.1 asks.2 s.core good.core row (found_among message_key id row s.core.rows.messages found)
            (ap (λ (n : ℕ). is_going_now asks.0 asks.1 asks.2 s.core n) own ∙ asks.4),
      )

  pub run_keeps : KeepsPromises (restarted rows nobody) items last
  run_keeps = record {
    sound = λ one other s e h. (part one other e s h).0.core;
    accounts = λ one other s e h. run_accounts one (restarted rows nobody) s h;
    kept = λ one other s e h. (part one other e s h).1;
    forgotten = went;
    confirmed = submitted;
    receipts = λ one other e seat end is there.
        let s = step one other e is in (
          after s.0 e.stimulus e.fate,
          (
            s.2,
            reported_still (after s.0 e.stimulus e.fate) other end s.3
                (given_is seat end s.0 e.stimulus e.fate (subst (λ (l : List (Out Reply)). Among (receipt_for seat end) l) s.1 there)),
          ),
        );
  }
