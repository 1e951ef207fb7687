-- The requests that a session passes up stand in the octets that it was fed, one behind the other.
use Rattle.std.proofs.Common.{◌≡◌, ◌⊎◌, inl, inr, ℕ, ◌+◌, Bool, true, false, cond, eqb, ltb, List, [], ◌∷◌, ◌++◌, length, Option, Some, None, Result, Ok, Err, refl, sym, ap, subst, ◌∙◌, append_assoc, append-nil}
use Rattle.smpp_pdu.specs.declared.fault.PduFault.{PduFault}
use Rattle.smpp_pdu.specs.declared.command.CommandId.{CommandId}
use Rattle.smpp_pdu.specs.declared.command.CommandId.TheVariants.{BindReceiver as BindReceiverId, BindTransmitter as BindTransmitterId, BindTransceiver as BindTransceiverId, SubmitSm as SubmitSmId, DeliverSm as DeliverSmId, QuerySm as QuerySmId, CancelSm as CancelSmId, Unbind as UnbindId, EnquireLink as EnquireLinkId, GenericNack as GenericNackId, DeliverSmResp as DeliverSmRespId, UnbindResp as UnbindRespId}
use Rattle.smpp_pdu.specs.declared.status.CommandStatus.{CommandStatus}
use Rattle.smpp_pdu.specs.declared.status.CommandStatus.TheVariants.{ESME_ROK, ESME_RALYBND, ESME_RBINDFAIL, ESME_RINVBNDSTS, ESME_RINVCMDLEN, ESME_RINVCMDID, ESME_RINVPASWD, ESME_RINVSYSID}
use Rattle.smpp_pdu.specs.declared.bind.Bind.{Bind}
use Rattle.smpp_pdu.specs.declared.body.Body.{Body}
use Rattle.smpp_pdu.specs.declared.body.Body.TheVariants.{BindReceiver, BindTransmitter, BindTransceiver, SubmitSm, QuerySm, CancelSm, Unbind, EnquireLink, GenericNack, DeliverSmResp, UnbindResp, EnquireLinkResp}
use Rattle.smpp_pdu.specs.declared.header.Header.{Header}
use Rattle.smpp_pdu.specs.declared.message.Message.{Message}
use Rattle.smpp_pdu.specs.declared.pdu.Pdu.{Pdu}
use Rattle.smpp_pdu.specs.Commands.{command_of}
use Rattle.smpp_pdu.specs.PduReading.{pdu_at}
use Rattle.smpp_pdu.specs.Writing.{written}
use Rattle.smpp_session.specs.declared.account.Account.{Account}
use Rattle.std.specs.Str.{bytes_eq}
use Rattle.smpp_session.specs.declared.action.Action.{Action}
use Rattle.smpp_session.specs.declared.action.Action.TheVariants.{Send, Bound, Submit, Query, Cancel, DeliverAnswered, BindRefused, Unbound}
use Rattle.smpp_session.specs.declared.action.BindKind.{BindKind}
use Rattle.smpp_session.specs.declared.action.BindKind.TheVariants.{Transmitter, Receiver, Transceiver}
use Rattle.smpp_session.specs.declared.calling.Call.{Call}
use Rattle.smpp_session.specs.declared.calling.Call.TheVariants.{Full as FullCall, Feed, Answer, Deliver, Unbind as UnbindCall, Close}
use Rattle.smpp_session.specs.declared.conversation.SessionState.{SessionState}
use Rattle.smpp_session.specs.declared.conversation.SessionState.TheVariants.{Opened, BoundTx, BoundRx, BoundTrx, Unbinding, Finishing, Broken, Closed}
use Rattle.smpp_session.specs.declared.fault.DeliverFault.{DeliverFault}
use Rattle.smpp_session.specs.Answers.{is_last}
use Rattle.smpp_session.specs.Calls.{called, delivering, sending, ran}
use Rattle.smpp_session.specs.Logins.{admitted, is_full, is_own, login}
use Rattle.smpp_session.specs.Sessions.{SessionView, after_stream, opened, turn_of, fed, delivery_fault, unbinding}
use Rattle.smpp_session.specs.SessionRun.{StreamProgress, fronted, one_more, stream}
use Rattle.smpp_session.specs.SessionTable.{judged, judged_fault, status_of_fault, to_answer, to_bind, to_leave, to_submit, to_unbind, refusal, without_bind_resp, priority_of, given, sent, logged_in, bind_taken, delivered, taken, refused, read, judging, by_command, treated, bad_length}
use Rattle.smpp_session.specs.SessionTable.{response, accepting_bind, bind_refused, broken_by, kind_of_command, left_by, name_of, refused_by, unbind_number, unbound_by}
use Rattle.smpp_session.specs.Stream.{header_at, front_at, front_of, in_range, number_at}
use Rattle.smpp_session.specs.Windows.{is_among}
use Rattle.smsc_endpoint.specs.LoopCourses.{octets_fed}
use Rattle.smsc_server.specs.WhatIsRead.{StandIn, requests_in}

-- ---- lists

stand_more : (rs : List (List ℕ)) (octets more : List ℕ) → StandIn rs octets → StandIn rs (octets ++ more)
stand_more [] octets more h = tt
stand_more (r ∷ rs) octets more h = (
  h.0,
  h.1 ++ more,
  ap (λ (os : List ℕ). os ++ more) h.2 ∙ (append_assoc h.0 (r ++ h.1) more ∙ ap (λ (os : List ℕ). h.0 ++ os) (append_assoc r h.1 more)),
  stand_more rs h.1 more h.3,
)

stand_end : (rs : List (List ℕ)) (r octets : List ℕ) → StandIn rs octets → StandIn (rs ++ r ∷ []) (octets ++ r)
stand_end [] r octets h = (octets, [], ap (λ (os : List ℕ). octets ++ os) (sym (append-nil r)), tt)
stand_end (one ∷ rs) r octets h = (
  h.0,
  h.1 ++ r,
  ap (λ (os : List ℕ). os ++ r) h.2 ∙ (append_assoc h.0 (one ++ h.1) r ∙ ap (λ (os : List ℕ). h.0 ++ os) (append_assoc one h.1 r)),
  stand_end rs r h.1 h.3,
)

pub requests_append : (xs ys : List Action) → requests_in (xs ++ ys) ≡ requests_in xs ++ requests_in ys
requests_append [] ys = refl
requests_append (Send octets ∷ xs) ys = requests_append xs ys
requests_append (Bound place kind ∷ xs) ys = requests_append xs ys
requests_append (Submit pdu priority ∷ xs) ys = ap (λ (rs : List (List ℕ)). pdu ∷ rs) (requests_append xs ys)
requests_append (Query pdu ∷ xs) ys = ap (λ (rs : List (List ℕ)). pdu ∷ rs) (requests_append xs ys)
requests_append (Cancel pdu ∷ xs) ys = ap (λ (rs : List (List ℕ)). pdu ∷ rs) (requests_append xs ys)
requests_append (DeliverAnswered number is_accepted ∷ xs) ys = requests_append xs ys
requests_append (BindRefused status name ∷ xs) ys = requests_append xs ys
requests_append (Unbound ∷ xs) ys = requests_append xs ys

-- ---- one PDU: it is passed up whole, or no request is

record Passes (octets : List ℕ) (a b : List Action) : Type 0 where
  passed : (requests_in b ≡ requests_in a) ⊎ (requests_in b ≡ requests_in a ++ octets ∷ [])

still : (octets : List ℕ) (a b : List Action) → requests_in b ≡ requests_in a → Passes octets a b
still octets a b e = record { passed = inl e }

ends_quiet : (acts : List Action) (action : Action) → requests_in (action ∷ []) ≡ [] → requests_in (acts ++ action ∷ []) ≡ requests_in acts
ends_quiet acts action e = requests_append acts (action ∷ []) ∙ (ap (λ (rs : List (List ℕ)). requests_in acts ++ rs) e ∙ append-nil (requests_in acts))

sent_quiet : (body : Body) (status : CommandStatus) (n : ℕ) (at : StreamProgress) → requests_in (sent body status n at.0).actions ≡ requests_in at.0.actions
unfolding sent
sent_quiet body status n at = ends_quiet at.0.actions (Send (written (response body status n))) refl

refused_quiet : (body : Body) (status : CommandStatus) (n : ℕ) (name : List ℕ) (at : StreamProgress)
    → requests_in (bind_refused body status n name at.0).actions ≡ requests_in at.0.actions
refused_quiet body status n name at = ends_quiet (sent body status n at.0).actions (BindRefused status name) refl ∙ sent_quiet body status n at

-- what holds of both choices
pick : {F : Type 0} (P : F → Type 0) (b : Bool) (x y : F) → P x → P y → P (cond b x y)
pick P true x y p q = p
pick P false x y p q = q

known_quiet : (kind : BindKind) (n : ℕ) (bind : Bind) (place : ℕ) (at : StreamProgress)
    → requests_in ((at.0.actions ++ Send (accepting_bind kind bind.interface_version n) ∷ []) ++ Bound place kind ∷ []) ≡ requests_in at.0.actions
known_quiet kind n bind place at =
    let said = Send (accepting_bind kind bind.interface_version n) in
    ends_quiet (at.0.actions ++ said ∷ []) (Bound place kind) refl ∙ ends_quiet at.0.actions said refl

login_quiet : (accounts : List Account) (kind : BindKind) (n : ℕ) (bind : Bind) (full : List Bool) (place : ℕ) (name password : List ℕ) (at : StreamProgress)
    → requests_in (logged_in kind n bind (admitted full (login place name password accounts)) at.0).actions ≡ requests_in at.0.actions
login_quiet [] kind n bind full place name password at = refused_quiet (without_bind_resp kind) ESME_RINVSYSID n bind.system_id at
login_quiet (account ∷ accounts) kind n bind full place name password at =
    pick (λ l. requests_in (logged_in kind n bind (admitted full l) at.0).actions ≡ requests_in at.0.actions) (bytes_eq account.name name) _ _
    (pick (λ l. requests_in (logged_in kind n bind (admitted full l) at.0).actions ≡ requests_in at.0.actions) (is_own account.password password) _ _
    (pick (λ l. requests_in (logged_in kind n bind l at.0).actions ≡ requests_in at.0.actions) (is_full place full) _ _
    (refused_quiet (without_bind_resp kind) ESME_RBINDFAIL n bind.system_id at) (known_quiet kind n bind place at))
    (refused_quiet (without_bind_resp kind) ESME_RINVPASWD n bind.system_id at))
    (login_quiet accounts kind n bind full (place + 1) name password at)

bind_quiet : (accounts : List Account) (kind : BindKind) (n : ℕ) (bind : Bind) (at : StreamProgress) → requests_in (bind_taken accounts kind n bind at.0).actions ≡ requests_in at.0.actions
bind_quiet accounts kind n bind at = login_quiet accounts kind n bind at.0.conversation.full 0 bind.system_id bind.password at

unbound_quiet : (owed : List ℕ) (n : ℕ) (at : StreamProgress) → requests_in (unbound_by owed n at.0).actions ≡ requests_in at.0.actions
unbound_quiet [] n at = ends_quiet (sent UnbindResp ESME_ROK n at.0).actions Unbound refl ∙ sent_quiet UnbindResp ESME_ROK n at
unbound_quiet (first ∷ owed) n at = ends_quiet at.0.actions Unbound refl

left_quiet : (owed : List ℕ) (at : StreamProgress) → requests_in (left_by owed at.0).actions ≡ requests_in at.0.actions
left_quiet [] at = ends_quiet at.0.actions Unbound refl
left_quiet (first ∷ owed) at = ends_quiet at.0.actions Unbound refl

broken_quiet : (owed : List ℕ) (at : StreamProgress) → requests_in (broken_by owed at.0).actions ≡ requests_in at.0.actions
broken_quiet [] at = refl
broken_quiet (first ∷ owed) at = refl

left_if : (b : Bool) (at : StreamProgress) → requests_in (cond b (left_by at.0.conversation.owed at.0) at.0).actions ≡ requests_in at.0.actions
left_if true at = left_quiet at.0.conversation.owed at
left_if false at = refl

delivered_quiet : (n : ℕ) (accepted : Bool) (at : StreamProgress) → requests_in (delivered n accepted at.0).actions ≡ requests_in at.0.actions
delivered_quiet n accepted at =
    pick (λ t. requests_in (after_stream (opened []) (t, [])).1 ≡ requests_in at.0.actions) (is_among n at.0.conversation.unanswered) _ _
    (ends_quiet at.0.actions (DeliverAnswered n accepted) refl) refl

taken_passes : (accounts : List Account) (octets : List ℕ) (n : ℕ) (pdu : Pdu) (body : Body) (at : StreamProgress) → Passes octets at.0.actions (taken accounts octets n pdu body at.0).actions
taken_passes accounts octets n pdu (BindTransmitter bind) at = still octets at.0.actions _ (bind_quiet accounts Transmitter n bind at)
taken_passes accounts octets n pdu (BindReceiver bind) at = still octets at.0.actions _ (bind_quiet accounts Receiver n bind at)
taken_passes accounts octets n pdu (BindTransceiver bind) at = still octets at.0.actions _ (bind_quiet accounts Transceiver n bind at)
taken_passes accounts octets n pdu (SubmitSm message) at = record { passed = inr (requests_append at.0.actions (Submit octets (priority_of message.priority_flag) ∷ [])) }
taken_passes accounts octets n pdu (QuerySm query) at = record { passed = inr (requests_append at.0.actions (Query octets ∷ [])) }
taken_passes accounts octets n pdu (CancelSm cancel) at = record { passed = inr (requests_append at.0.actions (Cancel octets ∷ [])) }
taken_passes accounts octets n pdu Unbind at = still octets at.0.actions _ (unbound_quiet at.0.conversation.owed n at)
taken_passes accounts octets n pdu UnbindResp at = still octets at.0.actions _ (left_if (eqb n unbind_number) at)
taken_passes accounts octets n pdu EnquireLink at = still octets at.0.actions _ (sent_quiet EnquireLinkResp ESME_ROK n at)
taken_passes accounts octets n pdu (DeliverSmResp body) at = still octets at.0.actions _ (delivered_quiet n (eqb pdu.command_status 0) at)
taken_passes accounts octets n pdu GenericNack at = still octets at.0.actions _ (delivered_quiet n false at)
taken_passes accounts octets n pdu body at = still octets at.0.actions at.0.actions refl

refused_by_quiet : (kind : Option BindKind) (c : CommandId) (status : CommandStatus) (n : ℕ) (name : List ℕ) (at : StreamProgress)
    → requests_in (refused_by kind c status n name at.0).actions ≡ requests_in at.0.actions
refused_by_quiet (Some kind) c status n name at = refused_quiet (without_bind_resp kind) status n name at
refused_by_quiet None c status n name at = sent_quiet (refusal c) status n at

-- a body that can't be read
fault_quiet : (octets : List ℕ) (c : CommandId) (n : ℕ) (fault : PduFault) (at : StreamProgress)
    → requests_in (refused octets c n (judged_fault c fault) at.0).actions ≡ requests_in at.0.actions
fault_quiet octets DeliverSmRespId n fault at = refl
fault_quiet octets GenericNackId n fault at = refl
fault_quiet octets UnbindRespId n fault at = refl
fault_quiet octets c n fault at = refused_by_quiet (kind_of_command c) c (status_of_fault fault) n (name_of (pdu_at octets)) at

read_passes : (accounts : List Account) (octets : List ℕ) (c : CommandId) (n : ℕ) (r : Result Pdu PduFault) (at : StreamProgress) → Passes octets at.0.actions (read accounts octets c n r at.0).actions
read_passes accounts octets c n (Ok pdu) at = taken_passes accounts octets n pdu pdu.body at
read_passes accounts octets c n (Err fault) at = still octets at.0.actions _ (fault_quiet octets c n fault at)

-- ---- what becomes of a command by the state

module _ (accounts : List Account) (octets : List ℕ) (c : CommandId) (n : ℕ) (at : StreamProgress) where
  reads_it : Passes octets at.0.actions (read accounts octets c n (pdu_at octets) at.0).actions
  reads_it = read_passes accounts octets c n (pdu_at octets) at

  refuses_it : (status : CommandStatus) → Passes octets at.0.actions (refused_by (kind_of_command c) c status n (name_of (pdu_at octets)) at.0).actions
  refuses_it status = still octets at.0.actions _ (refused_by_quiet (kind_of_command c) c status n (name_of (pdu_at octets)) at)

  binds : (state : SessionState) → Passes octets at.0.actions (judging accounts octets c n (to_bind state) at.0).actions
  binds Opened = reads_it
  binds Finishing = refuses_it ESME_RINVBNDSTS
  binds state = refuses_it ESME_RALYBND

  submits : (state : SessionState) → Passes octets at.0.actions (judging accounts octets c n (to_submit state) at.0).actions
  submits BoundTx = reads_it
  submits BoundTrx = reads_it
  submits state = refuses_it ESME_RINVBNDSTS

  unbinds : (state : SessionState) → Passes octets at.0.actions (judging accounts octets c n (to_unbind state) at.0).actions
  unbinds Opened = refuses_it ESME_RINVBNDSTS
  unbinds Finishing = refuses_it ESME_RINVBNDSTS
  unbinds state = reads_it

  answers : (state : SessionState) → Passes octets at.0.actions (judging accounts octets c n (to_answer state) at.0).actions
  answers BoundRx = reads_it
  answers BoundTrx = reads_it
  answers Unbinding = reads_it
  answers state = still octets at.0.actions at.0.actions refl

  leaves : (state : SessionState) → Passes octets at.0.actions (judging accounts octets c n (to_leave state) at.0).actions
  leaves Unbinding = reads_it
  leaves state = still octets at.0.actions at.0.actions refl

judged_passes : (accounts : List Account) (octets : List ℕ) (c : CommandId) (n : ℕ) (state : SessionState) (at : StreamProgress)
    → Passes octets at.0.actions (judging accounts octets c n (judged c state) at.0).actions
judged_passes accounts octets BindReceiverId n state at = binds accounts octets BindReceiverId n at state
judged_passes accounts octets BindTransmitterId n state at = binds accounts octets BindTransmitterId n at state
judged_passes accounts octets BindTransceiverId n state at = binds accounts octets BindTransceiverId n at state
judged_passes accounts octets SubmitSmId n state at = submits accounts octets SubmitSmId n at state
judged_passes accounts octets QuerySmId n state at = submits accounts octets QuerySmId n at state
judged_passes accounts octets CancelSmId n state at = submits accounts octets CancelSmId n at state
judged_passes accounts octets UnbindId n state at = unbinds accounts octets UnbindId n at state
judged_passes accounts octets EnquireLinkId n state at = reads_it accounts octets EnquireLinkId n at
judged_passes accounts octets DeliverSmId n state at = refuses_it accounts octets DeliverSmId n at ESME_RINVCMDID
judged_passes accounts octets DeliverSmRespId n state at = answers accounts octets DeliverSmRespId n at state
judged_passes accounts octets GenericNackId n state at = answers accounts octets GenericNackId n at state
judged_passes accounts octets UnbindRespId n state at = leaves accounts octets UnbindRespId n at state
judged_passes accounts octets c n state at = still octets at.0.actions at.0.actions refl

command_passes : (accounts : List Account) (octets : List ℕ) (header : Header) (c : Option CommandId) (at : StreamProgress) → Passes octets at.0.actions (by_command accounts octets header c at.0).actions
command_passes accounts octets header (Some c) at = judged_passes accounts octets c header.sequence_number at.0.conversation.state at
command_passes accounts octets header None at = by_test (ltb header.command_id 0x80000000) where
  by_test : (b : Bool) → Passes octets at.0.actions (cond b (sent GenericNack ESME_RINVCMDID header.sequence_number at.0) at.0).actions
  by_test true = still octets at.0.actions _ (sent_quiet GenericNack ESME_RINVCMDID header.sequence_number at)
  by_test false = still octets at.0.actions at.0.actions refl

treated_passes : (accounts : List Account) (octets : List ℕ) (at : StreamProgress) → Passes octets at.0.actions (treated accounts octets at.0).actions
unfolding treated
treated_passes accounts octets at = command_passes accounts octets (header_at octets) (command_of (header_at octets).command_id) at

bad_quiet : (octets : List ℕ) (at : StreamProgress) → requests_in (bad_length octets at.0).actions ≡ requests_in at.0.actions
unfolding bad_length
bad_quiet octets at =
    let t = sent GenericNack ESME_RINVCMDLEN (header_at octets).sequence_number at.0 in
    broken_quiet t.conversation.owed (t, []) ∙ sent_quiet GenericNack ESME_RINVCMDLEN (header_at octets).sequence_number at

-- ---- octets one after the other

-- The octets are some in which the requests stand, and then those that are not treated yet.
record Stands (rs : List (List ℕ)) (octets buffered : List ℕ) : Type 0 where
  treated : List ℕ
  parts : octets ≡ treated ++ buffered
  stand : StandIn rs treated

-- what was buffered is treated, or dropped
eaten : (rs : List (List ℕ)) (octets buffered : List ℕ) → Stands rs octets buffered → Stands rs octets []
eaten rs octets buffered h = record {
  treated = h.treated ++ buffered;
  parts = h.parts ∙ sym (append-nil (h.treated ++ buffered));
  stand = stand_more rs h.treated buffered h.stand;
}

passed_up : (rs : List (List ℕ)) (octets buffered : List ℕ) → Stands rs octets buffered → Stands (rs ++ buffered ∷ []) octets []
passed_up rs octets buffered h = record {
  treated = h.treated ++ buffered;
  parts = h.parts ∙ sym (append-nil (h.treated ++ buffered));
  stand = stand_end rs buffered h.treated h.stand;
}

arriving : (rs : List (List ℕ)) (octets buffered more : List ℕ) → Stands rs octets buffered → Stands rs (octets ++ more) (buffered ++ more)
arriving rs octets buffered more h = record {
  treated = h.treated;
  parts = ap (λ (os : List ℕ). os ++ more) h.parts ∙ append_assoc h.treated buffered more;
  stand = h.stand;
}

same_requests : (rs qs : List (List ℕ)) (octets buffered : List ℕ) → qs ≡ rs → Stands rs octets buffered → Stands qs octets buffered
same_requests rs qs octets buffered e h = subst (λ (ps : List (List ℕ)). Stands ps octets buffered) (sym e) h

-- the requests that were passed up, behind those of before
abbrev passed_by : List (List ℕ) → List Action → List (List ℕ)
passed_by before actions = before ++ requests_in actions

passes_stand : (before : List (List ℕ)) (a b : List Action) (octets buffered : List ℕ) → Passes buffered a b → Stands (passed_by before a) octets buffered
    → Stands (passed_by before b) octets []
passes_stand before a b octets buffered p h = by_case p.passed where
  by_case : (requests_in b ≡ requests_in a) ⊎ (requests_in b ≡ requests_in a ++ buffered ∷ []) → Stands (passed_by before b) octets []
  by_case (inl e) = same_requests (passed_by before a) (passed_by before b) octets [] (ap (λ (rs : List (List ℕ)). before ++ rs) e) (eaten (passed_by before a) octets buffered h)
  by_case (inr e) =
      same_requests (passed_by before a ++ buffered ∷ []) (passed_by before b) octets []
      (ap (λ (rs : List (List ℕ)). before ++ rs) e ∙ sym (append_assoc before (requests_in a) (buffered ∷ [])))
      (passed_up (passed_by before a) octets buffered h)

front_stand : (before : List (List ℕ)) (accounts : List Account) (at : StreamProgress) (octets buffered : List ℕ) → Stands (passed_by before at.0.actions) octets buffered
    → Stands (passed_by before (fronted accounts (front_at buffered) at.0 buffered).0.actions) octets (fronted accounts (front_at buffered) at.0 buffered).1
front_stand before accounts at octets buffered h =
    pick (λ f. Stands (passed_by before (fronted accounts f at.0 buffered).0.actions) octets (fronted accounts f at.0 buffered).1) (ltb (length buffered) 16) _ _ h
    (pick (λ f. Stands (passed_by before (fronted accounts f at.0 buffered).0.actions) octets (fronted accounts f at.0 buffered).1) (in_range (number_at 0 buffered)) _ _
    (pick (λ f. Stands (passed_by before (fronted accounts f at.0 buffered).0.actions) octets (fronted accounts f at.0 buffered).1) (ltb (length buffered) (number_at 0 buffered)) _ _ h
    (passes_stand before at.0.actions (treated accounts buffered at.0).actions octets buffered (treated_passes accounts buffered at) h))
    (passes_stand before at.0.actions (bad_length buffered at.0).actions octets buffered (still buffered at.0.actions (bad_length buffered at.0).actions (bad_quiet buffered at)) h))

fronted_stand : (before : List (List ℕ)) (accounts : List Account) (state : SessionState) (at : StreamProgress) (octets buffered : List ℕ) → Stands (passed_by before at.0.actions) octets buffered
    → Stands (passed_by before (fronted accounts (front_of state buffered) at.0 buffered).0.actions) octets (fronted accounts (front_of state buffered) at.0 buffered).1
fronted_stand before accounts Closed at octets buffered h = eaten (passed_by before at.0.actions) octets buffered h
fronted_stand before accounts Broken at octets buffered h = eaten (passed_by before at.0.actions) octets buffered h
fronted_stand before accounts state at octets buffered h = front_stand before accounts at octets buffered h

more_stand : (before : List (List ℕ)) (accounts : List Account) (c : StreamProgress) (octets : List ℕ) (x : ℕ) → Stands (passed_by before c.0.actions) octets c.1
    → Stands (passed_by before (one_more accounts c x).0.actions) (octets ++ x ∷ []) (one_more accounts c x).1
unfolding one_more
more_stand before accounts c octets x h =
    fronted_stand before accounts c.0.conversation.state c (octets ++ x ∷ []) (c.1 ++ x ∷ []) (arriving (passed_by before c.0.actions) octets c.1 (x ∷ []) h)

stream_stand : (before : List (List ℕ)) (accounts : List Account) (c : StreamProgress) (octets xs : List ℕ) → Stands (passed_by before c.0.actions) octets c.1
    → Stands (passed_by before (stream accounts c xs).0.actions) (octets ++ xs) (stream accounts c xs).1
unfolding stream
stream_stand before accounts c octets [] h = subst (λ (os : List ℕ). Stands (passed_by before c.0.actions) os c.1) (sym (append-nil octets)) h
stream_stand before accounts c octets (x ∷ xs) h =
    subst (λ (os : List ℕ). Stands (passed_by before (stream accounts (one_more accounts c x) xs).0.actions) os (stream accounts (one_more accounts c x) xs).1) (append_assoc octets (x ∷ []) xs)
    (stream_stand before accounts (one_more accounts c x) (octets ++ x ∷ []) xs (more_stand before accounts c octets x h))

-- ---- calls

-- a session begins anew with what it has buffered
fed_stand : (rs : List (List ℕ)) (s : SessionView) (octets xs : List ℕ) → Stands rs octets s.buffered
    → Stands (rs ++ requests_in (fed s xs).1) (octets ++ xs) (fed s xs).0.buffered
fed_stand rs s octets xs h =
    let whole : octets ++ xs ≡ h.treated ++ (s.buffered ++ xs) = ap (λ (os : List ℕ). os ++ xs) h.parts ∙ append_assoc h.treated s.buffered xs in
    let begun : Stands (rs ++ []) h.treated [] = record {
      treated = h.treated;
      parts = sym (append-nil h.treated);
      stand = subst (λ (ps : List (List ℕ)). StandIn ps h.treated) (sym (append-nil rs)) h.stand;
    } in
    subst (λ (os : List ℕ). Stands (rs ++ requests_in (fed s xs).1) os (fed s xs).0.buffered) (sym whole)
    (stream_stand rs s.accounts (turn_of s, []) h.treated (s.buffered ++ xs) begun)

sending_quiet : (octets : Option (List ℕ)) → requests_in (sending octets) ≡ []
sending_quiet None = refl
sending_quiet (Some octets) = refl

-- actions that pass nothing up, and the same octets
quiet_stand : (given new : List Action) (octets buffered : List ℕ) → requests_in new ≡ [] → Stands (requests_in given) octets buffered
    → Stands (requests_in (given ++ new)) octets buffered
quiet_stand given new octets buffered e h =
    same_requests (requests_in given) (requests_in (given ++ new)) octets buffered
    (requests_append given new ∙ (ap (λ (rs : List (List ℕ)). requests_in given ++ rs) e ∙ append-nil (requests_in given))) h

answered_stand : (b : Bool) (rs : List (List ℕ)) (octets buffered : List ℕ) → Stands rs octets buffered → Stands rs octets (cond b [] buffered)
answered_stand true rs octets buffered h = eaten rs octets buffered h
answered_stand false rs octets buffered h = h

delivering_stand : (fault : Option DeliverFault) (s : SessionView) (message : Message) (given : List Action) (octets : List ℕ) → Stands (requests_in given) octets s.buffered
    → Stands (requests_in (given ++ (delivering s message fault).1)) octets (delivering s message fault).0.buffered
delivering_stand None s message given octets h = quiet_stand given _ octets s.buffered refl h
delivering_stand (Some fault) s message given octets h = quiet_stand given [] octets s.buffered refl h

same_octets : (rs : List (List ℕ)) (octets buffered : List ℕ) → Stands rs octets buffered → Stands rs (octets ++ []) buffered
same_octets rs octets buffered h = subst (λ (os : List ℕ). Stands rs os buffered) (sym (append-nil octets)) h

call_stand : (call : Call) (s : SessionView) (given : List Action) (octets : List ℕ) → Stands (requests_in given) octets s.buffered
    → Stands (requests_in (given ++ (called s call).1)) (octets ++ octets_fed (call ∷ [])) (called s call).0.buffered
call_stand (FullCall full) s given octets h = same_octets _ octets _ (quiet_stand given [] octets s.buffered refl h)
call_stand (Feed xs) s given octets h =
    subst (λ (os : List ℕ). Stands (requests_in (given ++ (fed s xs).1)) (octets ++ os) (fed s xs).0.buffered) (sym (append-nil xs))
    (same_requests (requests_in given ++ requests_in (fed s xs).1) (requests_in (given ++ (fed s xs).1)) (octets ++ xs) (fed s xs).0.buffered
    (requests_append given (fed s xs).1) (fed_stand (requests_in given) s octets xs h))
call_stand (Answer number answer) s given octets h =
    same_octets _ octets _ (quiet_stand given _ octets _ (sending_quiet _) (answered_stand (is_last number s.conversation) (requests_in given) octets s.buffered h))
call_stand (Deliver message) s given octets h = same_octets _ octets _ (delivering_stand (delivery_fault s.conversation) s message given octets h)
call_stand UnbindCall s given octets h = same_octets _ octets _ (quiet_stand given (sending (unbinding s.conversation.state)) octets s.buffered (sending_quiet (unbinding s.conversation.state)) h)
call_stand Close s given octets h = same_octets _ octets [] (quiet_stand given [] octets [] refl (eaten (requests_in given) octets s.buffered h))

fed_first : (call : Call) (calls : List Call) → octets_fed (call ∷ calls) ≡ octets_fed (call ∷ []) ++ octets_fed calls
fed_first (FullCall full) calls = refl
fed_first (Feed octets) calls = ap (λ (os : List ℕ). os ++ octets_fed calls) (sym (append-nil octets))
fed_first (Answer number answer) calls = refl
fed_first (Deliver message) calls = refl
fed_first UnbindCall calls = refl
fed_first Close calls = refl

ran_stand : (calls : List Call) (c : SessionView × List Action) (octets : List ℕ) → Stands (requests_in c.1) octets c.0.buffered
    → Stands (requests_in (ran c calls).1) (octets ++ octets_fed calls) (ran c calls).0.buffered
ran_stand [] c octets h = same_octets (requests_in c.1) octets c.0.buffered h
ran_stand (call ∷ calls) c octets h =
    let d : SessionView × List Action = ((called c.0 call).0, c.1 ++ (called c.0 call).1) in
    subst (λ (os : List ℕ). Stands (requests_in (ran d calls).1) os (ran d calls).0.buffered)
    (append_assoc octets (octets_fed (call ∷ [])) (octets_fed calls) ∙ ap (λ (os : List ℕ). octets ++ os) (sym (fed_first call calls)))
    (ran_stand calls d (octets ++ octets_fed (call ∷ [])) (call_stand call c.0 c.1 octets h))

-- the requests that a new session passes up stand in what it was fed
pub requests_stand : (accounts : List Account) (calls : List Call) → StandIn (requests_in (ran (opened accounts, []) calls).1) (octets_fed calls)
requests_stand accounts calls =
    let h = ran_stand calls (opened accounts, []) [] (record { treated = []; parts = refl; stand = tt }) in
    subst (λ (os : List ℕ). StandIn (requests_in (ran (opened accounts, []) calls).1) os) (sym h.parts)
    (stand_more (requests_in (ran (opened accounts, []) calls).1) h.treated (ran (opened accounts, []) calls).0.buffered h.stand)
