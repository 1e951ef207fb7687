-- What a turn gives does not depend on what it gave before.
use Rattle.std.proofs.Common.{◌≡◌, ℕ, Bool, true, false, cond, eqb, ltb, List, [], ◌∷◌, ◌++◌, Option, Some, None, Result, Ok, Err, refl, ap, ◌∙◌, append_assoc}
use Rattle.smpp_pdu.specs.declared.fault.PduFault.{PduFault}
use Rattle.smpp_pdu.specs.declared.command.CommandId.{CommandId}
use Rattle.smpp_pdu.specs.declared.status.CommandStatus.{CommandStatus}
use Rattle.smpp_pdu.specs.declared.status.CommandStatus.TheVariants.{ESME_ROK, ESME_RINVCMDLEN, ESME_RINVCMDID, ESME_RBINDFAIL, ESME_RINVPASWD, ESME_RINVSYSID}
use Rattle.smpp_pdu.specs.declared.bind.Bind.{Bind}
use Rattle.smpp_pdu.specs.declared.body.Body.{Body}
use Rattle.smpp_pdu.specs.declared.body.Body.TheVariants.{BindReceiver, BindTransmitter, BindTransceiver, SubmitSm, QuerySm, CancelSm, Unbind, EnquireLink, GenericNack, DeliverSmResp, UnbindResp, EnquireLinkResp}
use Rattle.smpp_pdu.specs.declared.header.Header.{Header}
use Rattle.smpp_pdu.specs.declared.pdu.Pdu.{Pdu}
use Rattle.smpp_pdu.specs.Commands.{command_of}
use Rattle.smpp_pdu.specs.PduReading.{pdu_at}
use Rattle.smpp_pdu.specs.Writing.{written}
use Rattle.smpp_session.specs.declared.account.Account.{Account}
use Rattle.smpp_session.specs.declared.account.Login.{Login}
use Rattle.smpp_session.specs.declared.account.Login.TheVariants.{Known, UnknownName, WrongPassword, Full}
use Rattle.smpp_session.specs.declared.action.Action.{Action}
use Rattle.smpp_session.specs.declared.action.Action.TheVariants.{Send, Bound, Submit, Query, Cancel, BindRefused, Unbound}
use Rattle.smpp_session.specs.declared.action.BindKind.{BindKind}
use Rattle.smpp_session.specs.declared.action.BindKind.TheVariants.{Transmitter, Receiver, Transceiver}
use Rattle.smpp_session.specs.declared.front.Front.{Front}
use Rattle.smpp_session.specs.declared.front.Front.TheVariants.{Waiting, Whole, BadLength, Dropped}
use Rattle.smpp_session.specs.declared.table.Judgement.{Judgement}
use Rattle.smpp_session.specs.declared.table.Judgement.TheVariants.{Read, Refused, Ignored}
use Rattle.smpp_session.specs.declared.turn.SessionStep.{SessionStep}
use Rattle.smpp_session.specs.Logins.{admitted, login}
use Rattle.smpp_session.specs.Windows.{is_among}
use Rattle.smpp_session.specs.Stream.{header_at, front_of}
use Rattle.smpp_session.specs.SessionTable.{judged, judged_fault, refusal, without_bind_resp, response, given, sent, closed, bound_turn, in_conversation, logged_in, bind_taken, delivered, taken, refused, read, judging, by_command, treated, bad_length, priority_of}
use Rattle.smpp_session.specs.SessionTable.{accepting_bind, bind_refused, broken, broken_by, finishing_conversation, kind_of_command, left_by, name_of, passed_up, refused_by, unbind_number, unbound_by}
use Rattle.smpp_session.specs.SessionRun.{StreamProgress, fronted, one_more, stream}

-- a turn that gave these actions before
abbrev pub behind : List Action → SessionStep → SessionStep
behind before turn = record { conversation = turn.conversation; actions = before ++ turn.actions }

given_behind : (before : List Action) (action : Action) (turn : SessionStep) → given action (behind before turn) ≡ behind before (given action turn)
given_behind before action turn = ap (λ (acts : List Action). with_actions acts) (append_assoc before turn.actions (action ∷ [])) where
  with_actions : List Action → SessionStep
  with_actions acts = record { conversation = turn.conversation; actions = acts }

sent_behind : (before : List Action) (body : Body) (status : CommandStatus) (n : ℕ) (turn : SessionStep) → sent body status n (behind before turn) ≡ behind before (sent body status n turn)
unfolding sent
sent_behind before body status n turn = given_behind before (Send (written (response body status n))) turn

bind_refused_behind : (before : List Action) (body : Body) (status : CommandStatus) (n : ℕ) (name : List ℕ) (turn : SessionStep)
    → bind_refused body status n name (behind before turn) ≡ behind before (bind_refused body status n name turn)
bind_refused_behind before body status n name turn =
    ap (given (BindRefused status name)) (sent_behind before body status n turn) ∙ given_behind before (BindRefused status name) (sent body status n turn)

logged_in_behind : (before : List Action) (kind : BindKind) (n : ℕ) (bind : Bind) (l : Login) (turn : SessionStep) → logged_in kind n bind l (behind before turn) ≡ behind before (logged_in kind n bind l turn)
logged_in_behind before kind n bind (Known place) turn =
    let said = Send (accepting_bind kind bind.interface_version n) in
    ap (λ (t : SessionStep). bound_turn kind bind.interface_version (given (Bound place kind) t)) (given_behind before said turn)
    ∙ ap (bound_turn kind bind.interface_version) (given_behind before (Bound place kind) (given said turn))
logged_in_behind before kind n bind UnknownName turn = bind_refused_behind before (without_bind_resp kind) ESME_RINVSYSID n bind.system_id turn
logged_in_behind before kind n bind WrongPassword turn = bind_refused_behind before (without_bind_resp kind) ESME_RINVPASWD n bind.system_id turn
logged_in_behind before kind n bind Full turn = bind_refused_behind before (without_bind_resp kind) ESME_RBINDFAIL n bind.system_id turn

bind_behind : (before : List Action) (accounts : List Account) (kind : BindKind) (n : ℕ) (bind : Bind) (turn : SessionStep) → bind_taken accounts kind n bind (behind before turn) ≡ behind before (bind_taken accounts kind n bind turn)
bind_behind before accounts kind n bind turn = logged_in_behind before kind n bind (admitted turn.conversation.full (login 0 bind.system_id bind.password accounts)) turn

passed_behind : (before : List Action) (action : Action) (n : ℕ) (turn : SessionStep) → passed_up action n (behind before turn) ≡ behind before (passed_up action n turn)
passed_behind before action n turn = ap (λ (acts : List Action). with_actions acts) (append_assoc before turn.actions (action ∷ [])) where
  with_actions : List Action → SessionStep
  with_actions acts = record { conversation = record turn.conversation { owed = turn.conversation.owed ++ n ∷ [] }; actions = acts }

unbound_behind : (before : List Action) (owed : List ℕ) (n : ℕ) (turn : SessionStep) → unbound_by owed n (behind before turn) ≡ behind before (unbound_by owed n turn)
unbound_behind before [] n turn =
    ap (λ (t : SessionStep). closed (given Unbound t)) (sent_behind before UnbindResp ESME_ROK n turn)
    ∙ ap closed (given_behind before Unbound (sent UnbindResp ESME_ROK n turn))
unbound_behind before (first ∷ owed) n turn =
    ap (in_conversation (finishing_conversation (Some n) turn.conversation)) (given_behind before Unbound turn)

left_by_behind : (before : List Action) (owed : List ℕ) (turn : SessionStep) → left_by owed (behind before turn) ≡ behind before (left_by owed turn)
left_by_behind before [] turn = ap closed (given_behind before Unbound turn)
left_by_behind before (first ∷ owed) turn = ap (in_conversation (finishing_conversation None turn.conversation)) (given_behind before Unbound turn)

left_behind : (before : List Action) (b : Bool) (turn : SessionStep) → cond b (left_by turn.conversation.owed (behind before turn)) (behind before turn) ≡ behind before (cond b (left_by turn.conversation.owed turn) turn)
left_behind before true turn = left_by_behind before turn.conversation.owed turn
left_behind before false turn = refl

delivered_behind : (before : List Action) (n : ℕ) (accepted : Bool) (turn : SessionStep) → delivered n accepted (behind before turn) ≡ behind before (delivered n accepted turn)
delivered_behind before n accepted turn = by_test (is_among n turn.conversation.unanswered) refl where
  by_test : (b : Bool) → is_among n turn.conversation.unanswered ≡ b → delivered n accepted (behind before turn) ≡ behind before (delivered n accepted turn)
  by_test true e = rw e (rw append_assoc refl)
  by_test false e = rw e refl

taken_behind : (before : List Action) (accounts : List Account) (octets : List ℕ) (n : ℕ) (pdu : Pdu) (body : Body) (turn : SessionStep) → taken accounts octets n pdu body (behind before turn) ≡ behind before (taken accounts octets n pdu body turn)
taken_behind before accounts octets n pdu (BindTransmitter bind) turn = bind_behind before accounts Transmitter n bind turn
taken_behind before accounts octets n pdu (BindReceiver bind) turn = bind_behind before accounts Receiver n bind turn
taken_behind before accounts octets n pdu (BindTransceiver bind) turn = bind_behind before accounts Transceiver n bind turn
taken_behind before accounts octets n pdu (SubmitSm message) turn = passed_behind before (Submit octets (priority_of message.priority_flag)) n turn
taken_behind before accounts octets n pdu (QuerySm query) turn = passed_behind before (Query octets) n turn
taken_behind before accounts octets n pdu (CancelSm cancel) turn = passed_behind before (Cancel octets) n turn
taken_behind before accounts octets n pdu Unbind turn = unbound_behind before turn.conversation.owed n turn
taken_behind before accounts octets n pdu UnbindResp turn = left_behind before (eqb n unbind_number) turn
taken_behind before accounts octets n pdu EnquireLink turn = sent_behind before EnquireLinkResp ESME_ROK n turn
taken_behind before accounts octets n pdu (DeliverSmResp body) turn = delivered_behind before n (eqb pdu.command_status 0) turn
taken_behind before accounts octets n pdu GenericNack turn = delivered_behind before n false turn
taken_behind before accounts octets n pdu body turn = refl

refused_by_behind : (before : List Action) (kind : Option BindKind) (c : CommandId) (status : CommandStatus) (n : ℕ) (name : List ℕ) (turn : SessionStep)
    → refused_by kind c status n name (behind before turn) ≡ behind before (refused_by kind c status n name turn)
refused_by_behind before (Some kind) c status n name turn = bind_refused_behind before (without_bind_resp kind) status n name turn
refused_by_behind before None c status n name turn = sent_behind before (refusal c) status n turn

refused_behind : (before : List Action) (octets : List ℕ) (c : CommandId) (n : ℕ) (j : Judgement) (turn : SessionStep) → refused octets c n j (behind before turn) ≡ behind before (refused octets c n j turn)
refused_behind before octets c n (Refused status) turn = refused_by_behind before (kind_of_command c) c status n (name_of (pdu_at octets)) turn
refused_behind before octets c n Ignored turn = refl
refused_behind before octets c n Read turn = refl

read_behind : (before : List Action) (accounts : List Account) (octets : List ℕ) (c : CommandId) (n : ℕ) (r : Result Pdu PduFault) (turn : SessionStep) → read accounts octets c n r (behind before turn) ≡ behind before (read accounts octets c n r turn)
read_behind before accounts octets c n (Ok pdu) turn = taken_behind before accounts octets n pdu pdu.body turn
read_behind before accounts octets c n (Err fault) turn = refused_behind before octets c n (judged_fault c fault) turn

judging_behind : (before : List Action) (accounts : List Account) (octets : List ℕ) (c : CommandId) (n : ℕ) (j : Judgement) (turn : SessionStep) → judging accounts octets c n j (behind before turn) ≡ behind before (judging accounts octets c n j turn)
judging_behind before accounts octets c n Read turn = read_behind before accounts octets c n (pdu_at octets) turn
judging_behind before accounts octets c n (Refused status) turn = refused_behind before octets c n (Refused status) turn
judging_behind before accounts octets c n Ignored turn = refl

command_behind : (before : List Action) (accounts : List Account) (octets : List ℕ) (h : Header) (c : Option CommandId) (turn : SessionStep) → by_command accounts octets h c (behind before turn) ≡ behind before (by_command accounts octets h c turn)
command_behind before accounts octets h (Some c) turn = judging_behind before accounts octets c h.sequence_number (judged c turn.conversation.state) turn
command_behind before accounts octets h None turn = by_test (ltb h.command_id 0x80000000) where
  by_test : (b : Bool) → cond b (sent GenericNack ESME_RINVCMDID h.sequence_number (behind before turn)) (behind before turn) ≡ behind before (cond b (sent GenericNack ESME_RINVCMDID h.sequence_number turn) turn)
  by_test true = sent_behind before GenericNack ESME_RINVCMDID h.sequence_number turn
  by_test false = refl

treated_behind : (before : List Action) (accounts : List Account) (octets : List ℕ) (turn : SessionStep) → treated accounts octets (behind before turn) ≡ behind before (treated accounts octets turn)
unfolding treated
treated_behind before accounts octets turn = command_behind before accounts octets (header_at octets) (command_of (header_at octets).command_id) turn

broken_behind : (before : List Action) (owed : List ℕ) (turn : SessionStep) → broken_by owed (behind before turn) ≡ behind before (broken_by owed turn)
broken_behind before [] turn = refl
broken_behind before (first ∷ owed) turn = refl

bad_behind : (before : List Action) (octets : List ℕ) (turn : SessionStep) → bad_length octets (behind before turn) ≡ behind before (bad_length octets turn)
unfolding bad_length
bad_behind before octets turn =
    let next = sent GenericNack ESME_RINVCMDLEN (header_at octets).sequence_number turn in
    ap broken (sent_behind before GenericNack ESME_RINVCMDLEN (header_at octets).sequence_number turn) ∙ broken_behind before next.conversation.owed next

-- ---- of progress

abbrev pub progress_behind : List Action → StreamProgress → StreamProgress
progress_behind before progress = (behind before progress.0, progress.1)

fronted_behind : (before : List Action) (accounts : List Account) (f : Front) (turn : SessionStep) (octets : List ℕ) → fronted accounts f (behind before turn) octets ≡ progress_behind before (fronted accounts f turn octets)
fronted_behind before accounts Waiting turn octets = refl
fronted_behind before accounts (Whole len) turn octets = ap (λ (t : SessionStep). with_none t) (treated_behind before accounts octets turn) where
  with_none : SessionStep → StreamProgress
  with_none t = (t, [])
fronted_behind before accounts BadLength turn octets = ap (λ (t : SessionStep). with_none t) (bad_behind before octets turn) where
  with_none : SessionStep → StreamProgress
  with_none t = (t, [])
fronted_behind before accounts Dropped turn octets = refl

more_behind : (before : List Action) (accounts : List Account) (c : StreamProgress) (x : ℕ) → one_more accounts (progress_behind before c) x ≡ progress_behind before (one_more accounts c x)
unfolding one_more
more_behind before accounts c x = fronted_behind before accounts (front_of c.0.conversation.state (c.1 ++ x ∷ [])) c.0 (c.1 ++ x ∷ [])

pub stream_behind : (before : List Action) (accounts : List Account) (c : StreamProgress) (xs : List ℕ) → stream accounts (progress_behind before c) xs ≡ progress_behind before (stream accounts c xs)
unfolding stream
stream_behind before accounts c [] = refl
stream_behind before accounts c (x ∷ xs) =
    ap (λ (d : StreamProgress). stream accounts d xs) (more_behind before accounts c x) ∙ stream_behind before accounts (one_more accounts c x) xs
