-- What a session owes is what was passed up and has no answer, and it ends by itself only where that is nothing.
use Rattle.std.proofs.Common.{◌≡◌, ◌⊎◌, inl, inr, ℕ, Bool, true, false, cond, eqb, eq-eqb, ltb, le-ltb, ◌≤◌, length, List, [], ◌∷◌, ◌++◌, map, Option, Some, None, Result, Ok, Err, refl, sym, ap, ◌∙◌, arith, append_assoc, append-nil}
use Rattle.smpp_pdu.specs.declared.fault.PduFault.{PduFault}
use Rattle.smpp_pdu.specs.declared.command.CommandId.{CommandId}
use Rattle.smpp_pdu.specs.declared.command.CommandId.TheVariants.{SubmitSm as SubmitSmId, QuerySm as QuerySmId, CancelSm as CancelSmId}
use Rattle.smpp_pdu.specs.declared.status.CommandStatus.{CommandStatus}
use Rattle.smpp_pdu.specs.declared.status.CommandStatus.TheVariants.{ESME_ROK, ESME_RINVBNDSTS, ESME_RINVCMDLEN, ESME_RINVCMDID, ESME_RBINDFAIL, ESME_RINVPASWD, ESME_RINVSYSID}
use Rattle.smpp_pdu.specs.declared.bind.Bind.{Bind}
use Rattle.smpp_pdu.specs.declared.body.Body.{Body}
use Rattle.smpp_pdu.specs.declared.body.Body.TheVariants.{BindReceiver, BindTransmitter, BindTransceiver, SubmitSm, QuerySm, CancelSm, Unbind, EnquireLink, GenericNack, DeliverSmResp, UnbindResp, EnquireLinkResp}
use Rattle.smpp_pdu.specs.declared.header.Header.{Header}
use Rattle.smpp_pdu.specs.declared.message.Message.{Message}
use Rattle.smpp_pdu.specs.declared.pdu.Pdu.{Pdu}
use Rattle.smpp_pdu.specs.Commands.{command_of}
use Rattle.smpp_pdu.specs.PduReading.{pdu_at}
use Rattle.smpp_pdu.specs.Writing.{written}
use Rattle.smpp_session.specs.declared.account.Account.{Account}
use Rattle.smpp_session.specs.declared.account.Login.{Login}
use Rattle.smpp_session.specs.declared.account.Login.TheVariants.{Known, UnknownName, WrongPassword, Full}
use Rattle.smpp_session.specs.declared.action.Action.{Action}
use Rattle.smpp_session.specs.declared.action.Action.TheVariants.{Send, Bound, Submit, Query, Cancel, DeliverAnswered, BindRefused, Unbound}
use Rattle.smpp_session.specs.declared.action.BindKind.{BindKind}
use Rattle.smpp_session.specs.declared.action.BindKind.TheVariants.{Transmitter, Receiver, Transceiver}
use Rattle.smpp_session.specs.declared.calling.Call.{Call}
use Rattle.smpp_session.specs.declared.calling.Call.TheVariants.{Full as FullCall, Feed, Answer, Deliver, Unbind as UnbindCall, Close}
use Rattle.smpp_session.specs.declared.conversation.Conversation.{Conversation}
use Rattle.smpp_session.specs.declared.conversation.SessionState.{SessionState}
use Rattle.smpp_session.specs.declared.conversation.SessionState.TheVariants.{Opened, BoundTx, BoundRx, BoundTrx, Unbinding, Finishing, Broken, Closed}
use Rattle.smpp_session.specs.declared.fault.DeliverFault.{DeliverFault}
use Rattle.smpp_session.specs.declared.front.Front.{Front}
use Rattle.smpp_session.specs.declared.front.Front.TheVariants.{Waiting, Whole, BadLength, Dropped}
use Rattle.smpp_session.specs.declared.table.Judgement.{Judgement}
use Rattle.smpp_session.specs.declared.table.Judgement.TheVariants.{Read, Refused, Ignored}
use Rattle.smpp_session.specs.declared.turn.SessionStep.{SessionStep}
use Rattle.smpp_session.specs.Answers.{answer_pdu, answered, is_last, last_unbind, owed_behind}
use Rattle.smpp_session.specs.Bindings.{is_bound, is_closed, is_deaf, bound_after, bound_behind}
use Rattle.smpp_session.specs.Calls.{called, delivering, sending, and_then, ran}
use Rattle.smpp_session.specs.Logins.{admitted, login}
use Rattle.smpp_session.specs.Owing.{IsConnected, IsRequest, IsUnbinding, Reply, call_of, is_close, left_unanswered, number_in, numbers_in, numbers_passed, octets_sent, owed_after, replies_written}
use Rattle.smpp_session.specs.Sessions.{SessionView, opened, turn_of, after_stream, fed, delivery_fault, may_unbind}
use Rattle.smpp_session.specs.SessionRun.{StreamProgress, fronted, one_more, stream}
use Rattle.smpp_session.specs.SessionTable.{judged, judged_fault, refusal, without_bind_resp, bound_as, priority_of, given, sent, closed, bound_turn, in_conversation, logged_in, bind_taken, delivered, taken, refused, read, judging, by_command, treated, bad_length}
use Rattle.smpp_session.specs.SessionTable.{accepting_bind, bind_refused, broken_by, closed_conversation, finishing_conversation, has_settled, kind_of_command, left_by, name_of, passed_up, refused_by, unbind_number, unbind_resp, to_submit, unbind_resp_to, unbound_by}
use Rattle.smpp_session.specs.Stream.{header_at, front_of}
use Rattle.smpp_session.specs.Windows.{is_among, without}
use Rattle.smpp_session.proofs.Cutting.{IsDeaf, IsOpen, dropped, open_or_deaf, whole_fits}
use Rattle.smpp_session.proofs.Promises.{bound_end, kind_is_bound}
use Rattle.smpp_session.proofs.Cuts.{WaitsInBuffer, fed_preserved}
use Rattle.smpp_session.proofs.Rooms.{fed_full}

passed_append : (xs ys : List Action) → numbers_passed (xs ++ ys) ≡ numbers_passed xs ++ numbers_passed ys
passed_append [] ys = refl
passed_append (Send octets ∷ xs) ys = passed_append xs ys
passed_append (Bound place kind ∷ xs) ys = passed_append xs ys
passed_append (Submit octets priority ∷ xs) ys = ap (λ (ns : List ℕ). numbers_in octets ++ ns) (passed_append xs ys) ∙ sym (append_assoc (numbers_in octets) (numbers_passed xs) (numbers_passed ys))
passed_append (Query octets ∷ xs) ys = ap (λ (ns : List ℕ). numbers_in octets ++ ns) (passed_append xs ys) ∙ sym (append_assoc (numbers_in octets) (numbers_passed xs) (numbers_passed ys))
passed_append (Cancel octets ∷ xs) ys = ap (λ (ns : List ℕ). numbers_in octets ++ ns) (passed_append xs ys) ∙ sym (append_assoc (numbers_in octets) (numbers_passed xs) (numbers_passed ys))
passed_append (DeliverAnswered number accepted ∷ xs) ys = passed_append xs ys
passed_append (BindRefused status name ∷ xs) ys = passed_append xs ys
passed_append (Unbound ∷ xs) ys = passed_append xs ys

-- what was so before a turn: the requests that were owed, whether an account was bound, and the next number
record Start : Type 0 where
  owed : List ℕ
  bound : Bool
  next : ℕ

-- What a turn owes is what was owed before it and what it passed up. One that is closed owes nothing.
record IsOwing (start : Start) (turn : SessionStep) : Type 0 where
  owed : turn.conversation.owed ≡ start.owed ++ numbers_passed turn.actions
  none : turn.conversation.state ≡ Closed → turn.conversation.owed ≡ []
  bound : (is_deaf turn.conversation.state ≡ true) ⊎ (is_bound turn.conversation.state ≡ bound_behind start.bound turn.actions)
  number : turn.conversation.next_number ≡ start.next

abbrev IsNotClosed : SessionStep → Type 0
IsNotClosed turn = turn.conversation.state ≡ Closed → ⊥

passed_more : (start : Start) (turn : SessionStep) (action : Action) (more : List ℕ) → numbers_passed (action ∷ []) ≡ more
    → (start.owed ++ numbers_passed turn.actions) ++ more ≡ start.owed ++ numbers_passed (turn.actions ++ action ∷ [])
passed_more start turn action more e =
    append_assoc start.owed (numbers_passed turn.actions) more
    ∙ ap (λ (ns : List ℕ). start.owed ++ ns) (ap (λ (ns : List ℕ). numbers_passed turn.actions ++ ns) (sym e) ∙ sym (passed_append turn.actions (action ∷ [])))

still_bound : (start : Start) (turn : SessionStep) (action : Action) → ((b : Bool) → bound_after b action ≡ b)
    → (is_deaf turn.conversation.state ≡ true) ⊎ (is_bound turn.conversation.state ≡ bound_behind start.bound turn.actions)
    → (is_deaf turn.conversation.state ≡ true) ⊎ (is_bound turn.conversation.state ≡ bound_behind start.bound (turn.actions ++ action ∷ []))
still_bound start turn action same (inl e) = inl e
still_bound start turn action same (inr e) = inr (e ∙ (sym (same (bound_behind start.bound turn.actions)) ∙ sym (bound_end start.bound turn.actions action)))

-- an action that passes nothing up, and binds and unbinds nobody
given_owing : (start : Start) (action : Action) (turn : SessionStep) → numbers_passed (action ∷ []) ≡ [] → ((b : Bool) → bound_after b action ≡ b) → IsOwing start turn → IsOwing start (given action turn)
given_owing start action turn quiet same h = record {
  owed = h.owed ∙ (sym (append-nil (start.owed ++ numbers_passed turn.actions)) ∙ passed_more start turn action [] quiet);
  none = h.none;
  bound = still_bound start turn action same h.bound;
  number = h.number;
}

sent_owing : (start : Start) (body : Body) (status : CommandStatus) (n : ℕ) (turn : SessionStep) → IsOwing start turn → IsOwing start (sent body status n turn)
unfolding sent
sent_owing start body status n turn h = given_owing start _ turn refl (λ b. refl) h

bind_refused_owing : (start : Start) (body : Body) (status : CommandStatus) (n : ℕ) (name : List ℕ) (turn : SessionStep) → IsOwing start turn → IsOwing start (bind_refused body status n name turn)
bind_refused_owing start body status n name turn h = given_owing start (BindRefused status name) (sent body status n turn) refl (λ b. refl) (sent_owing start body status n turn h)

kind_open : (kind : BindKind) → bound_as kind ≡ Closed → ⊥
kind_open Transmitter e = absurd cc
kind_open Receiver e = absurd cc
kind_open Transceiver e = absurd cc

bound_owing : (start : Start) (kind : BindKind) (place version : ℕ) (turn : SessionStep) → IsOwing start turn → IsOwing start (bound_turn kind version (given (Bound place kind) turn))
bound_owing start kind place version turn h = record {
  owed = h.owed ∙ (sym (append-nil (start.owed ++ numbers_passed turn.actions)) ∙ passed_more start turn (Bound place kind) [] refl);
  none = λ e. absurd (kind_open kind e);
  bound = inr (kind_is_bound kind ∙ sym (bound_end start.bound turn.actions (Bound place kind)));
  number = h.number;
}

logged_in_owing : (start : Start) (kind : BindKind) (n : ℕ) (bind : Bind) (l : Login) (turn : SessionStep) → IsOwing start turn → IsOwing start (logged_in kind n bind l turn)
logged_in_owing start kind n bind (Known place) turn h =
    let said = given (Send (accepting_bind kind bind.interface_version n)) turn in
    bound_owing start kind place bind.interface_version said (given_owing start (Send (accepting_bind kind bind.interface_version n)) turn refl (λ b. refl) h)
logged_in_owing start kind n bind UnknownName turn h = bind_refused_owing start (without_bind_resp kind) ESME_RINVSYSID n bind.system_id turn h
logged_in_owing start kind n bind WrongPassword turn h = bind_refused_owing start (without_bind_resp kind) ESME_RINVPASWD n bind.system_id turn h
logged_in_owing start kind n bind Full turn h = bind_refused_owing start (without_bind_resp kind) ESME_RBINDFAIL n bind.system_id turn h

bind_owing : (start : Start) (accounts : List Account) (kind : BindKind) (n : ℕ) (bind : Bind) (turn : SessionStep) → IsOwing start turn → IsOwing start (bind_taken accounts kind n bind turn)
bind_owing start accounts kind n bind turn h = logged_in_owing start kind n bind (admitted turn.conversation.full (login 0 bind.system_id bind.password accounts)) turn h

passed_owing : (start : Start) (action : Action) (n : ℕ) (turn : SessionStep) → IsNotClosed turn → numbers_passed (action ∷ []) ≡ n ∷ [] → ((b : Bool) → bound_after b action ≡ b)
    → IsOwing start turn → IsOwing start (passed_up action n turn)
passed_owing start action n turn live is same h = record {
  owed = ap (λ (ns : List ℕ). ns ++ n ∷ []) h.owed ∙ passed_more start turn action (n ∷ []) is;
  none = λ e. absurd (live e);
  bound = still_bound start turn action same h.bound;
  number = h.number;
}

closed_owing : (start : Start) (turn : SessionStep) → turn.conversation.owed ≡ [] → turn.conversation.owed ≡ start.owed ++ numbers_passed turn.actions → turn.conversation.next_number ≡ start.next
    → IsOwing start (closed turn)
closed_owing start turn e owed number = record { owed = sym e ∙ owed; none = λ c. refl; bound = inl refl; number = number }

unbound_owed : (start : Start) (turn : SessionStep) → IsOwing start turn → turn.conversation.owed ≡ start.owed ++ numbers_passed (turn.actions ++ Unbound ∷ [])
unbound_owed start turn h = h.owed ∙ (sym (append-nil (start.owed ++ numbers_passed turn.actions)) ∙ passed_more start turn Unbound [] refl)

finishing_owing : (start : Start) (unbind : Option ℕ) (turn : SessionStep) → IsOwing start turn → IsOwing start (in_conversation (finishing_conversation unbind turn.conversation) (given Unbound turn))
finishing_owing start unbind turn h = record {
  owed = unbound_owed start turn h;
  none = λ (e : Finishing ≡ Closed). absurd cc;
  bound = inr (sym (bound_end start.bound turn.actions Unbound));
  number = h.number;
}

unbound_owing : (start : Start) (owed : List ℕ) (n : ℕ) (turn : SessionStep) → turn.conversation.owed ≡ owed → IsOwing start turn → IsOwing start (unbound_by owed n turn)
unfolding sent
unbound_owing start [] n turn e h =
    let s = sent_owing start UnbindResp ESME_ROK n turn h in
    closed_owing start (given Unbound (sent UnbindResp ESME_ROK n turn)) e (unbound_owed start (sent UnbindResp ESME_ROK n turn) s) s.number
unbound_owing start (first ∷ owed) n turn e h = finishing_owing start (Some n) turn h

left_owing : (start : Start) (owed : List ℕ) (turn : SessionStep) → turn.conversation.owed ≡ owed → IsOwing start turn → IsOwing start (left_by owed turn)
left_owing start [] turn e h = closed_owing start (given Unbound turn) e (unbound_owed start turn h) h.number
left_owing start (first ∷ owed) turn e h = finishing_owing start None turn h

left_if : (start : Start) (b : Bool) (turn : SessionStep) → IsOwing start turn → IsOwing start (cond b (left_by turn.conversation.owed turn) turn)
left_if start true turn h = left_owing start turn.conversation.owed turn refl h
left_if start false turn h = h

broken_owing : (start : Start) (owed : List ℕ) (turn : SessionStep) → turn.conversation.owed ≡ owed → IsOwing start turn → IsOwing start (broken_by owed turn)
broken_owing start [] turn e h = closed_owing start turn e h.owed h.number
broken_owing start (first ∷ owed) turn e h = record { owed = h.owed; none = λ (e : Broken ≡ Closed). absurd cc; bound = inl refl; number = h.number }

delivered_owing : (start : Start) (n : ℕ) (accepted : Bool) (turn : SessionStep) → IsOwing start turn → IsOwing start (delivered n accepted turn)
delivered_owing start n accepted turn h = by_test (is_among n turn.conversation.unanswered) where
  told : IsOwing start (given (DeliverAnswered n accepted) turn)
  told = given_owing start (DeliverAnswered n accepted) turn refl (λ b. refl) h

  answered_turn : SessionStep
  answered_turn = record {
    conversation = record turn.conversation { unanswered = without n turn.conversation.unanswered };
    actions = turn.actions ++ DeliverAnswered n accepted ∷ [];
  }

  by_test : (b : Bool) → IsOwing start (cond b answered_turn turn)
  by_test true = record { owed = told.owed; none = told.none; bound = told.bound; number = told.number }
  by_test false = h

taken_owing : (start : Start) (accounts : List Account) (octets : List ℕ) (n : ℕ) (pdu : Pdu) (body : Body) (turn : SessionStep) → numbers_in octets ≡ n ∷ [] → IsNotClosed turn
    → IsOwing start turn → IsOwing start (taken accounts octets n pdu body turn)
taken_owing start accounts octets n pdu (BindTransmitter bind) turn e live h = bind_owing start accounts Transmitter n bind turn h
taken_owing start accounts octets n pdu (BindReceiver bind) turn e live h = bind_owing start accounts Receiver n bind turn h
taken_owing start accounts octets n pdu (BindTransceiver bind) turn e live h = bind_owing start accounts Transceiver n bind turn h
taken_owing start accounts octets n pdu (SubmitSm message) turn e live h =
    passed_owing start (Submit octets (priority_of message.priority_flag)) n turn live (append-nil (numbers_in octets) ∙ e) (λ b. refl) h
taken_owing start accounts octets n pdu (QuerySm query) turn e live h = passed_owing start (Query octets) n turn live (append-nil (numbers_in octets) ∙ e) (λ b. refl) h
taken_owing start accounts octets n pdu (CancelSm cancel) turn e live h = passed_owing start (Cancel octets) n turn live (append-nil (numbers_in octets) ∙ e) (λ b. refl) h
taken_owing start accounts octets n pdu Unbind turn e live h = unbound_owing start turn.conversation.owed n turn refl h
taken_owing start accounts octets n pdu UnbindResp turn e live h = left_if start (eqb n unbind_number) turn h
taken_owing start accounts octets n pdu EnquireLink turn e live h = sent_owing start EnquireLinkResp ESME_ROK n turn h
taken_owing start accounts octets n pdu (DeliverSmResp body) turn e live h = delivered_owing start n (eqb pdu.command_status 0) turn h
taken_owing start accounts octets n pdu GenericNack turn e live h = delivered_owing start n false turn h
taken_owing start accounts octets n pdu body turn e live h = h

refused_by_owing : (start : Start) (kind : Option BindKind) (c : CommandId) (status : CommandStatus) (n : ℕ) (name : List ℕ) (turn : SessionStep) → IsOwing start turn → IsOwing start (refused_by kind c status n name turn)
refused_by_owing start (Some kind) c status n name turn h = bind_refused_owing start (without_bind_resp kind) status n name turn h
refused_by_owing start None c status n name turn h = sent_owing start (refusal c) status n turn h

refused_owing : (start : Start) (octets : List ℕ) (c : CommandId) (n : ℕ) (j : Judgement) (turn : SessionStep) → IsOwing start turn → IsOwing start (refused octets c n j turn)
refused_owing start octets c n (Refused status) turn h = refused_by_owing start (kind_of_command c) c status n (name_of (pdu_at octets)) turn h
refused_owing start octets c n Ignored turn h = h
refused_owing start octets c n Read turn h = h

read_owing : (start : Start) (accounts : List Account) (octets : List ℕ) (c : CommandId) (n : ℕ) (r : Result Pdu PduFault) (turn : SessionStep) → numbers_in octets ≡ n ∷ [] → IsNotClosed turn
    → IsOwing start turn → IsOwing start (read accounts octets c n r turn)
read_owing start accounts octets c n (Ok pdu) turn e live h = taken_owing start accounts octets n pdu pdu.body turn e live h
read_owing start accounts octets c n (Err fault) turn e live h = refused_owing start octets c n (judged_fault c fault) turn h

judging_owing : (start : Start) (accounts : List Account) (octets : List ℕ) (c : CommandId) (n : ℕ) (j : Judgement) (turn : SessionStep) → numbers_in octets ≡ n ∷ [] → IsNotClosed turn
    → IsOwing start turn → IsOwing start (judging accounts octets c n j turn)
judging_owing start accounts octets c n Read turn e live h = read_owing start accounts octets c n (pdu_at octets) turn e live h
judging_owing start accounts octets c n (Refused status) turn e live h = refused_owing start octets c n (Refused status) turn h
judging_owing start accounts octets c n Ignored turn e live h = h

command_owing : (start : Start) (accounts : List Account) (octets : List ℕ) (header : Header) (c : Option CommandId) (turn : SessionStep) → numbers_in octets ≡ header.sequence_number ∷ [] → IsNotClosed turn
    → IsOwing start turn → IsOwing start (by_command accounts octets header c turn)
command_owing start accounts octets header (Some c) turn e live h = judging_owing start accounts octets c header.sequence_number (judged c turn.conversation.state) turn e live h
command_owing start accounts octets header None turn e live h = by_test (ltb header.command_id 0x80000000) where
  by_test : (b : Bool) → IsOwing start (cond b (sent GenericNack ESME_RINVCMDID header.sequence_number turn) turn)
  by_test true = sent_owing start GenericNack ESME_RINVCMDID header.sequence_number turn h
  by_test false = h

treated_owing : (start : Start) (accounts : List Account) (octets : List ℕ) (turn : SessionStep) → 16 ≤ length octets → IsNotClosed turn → IsOwing start turn → IsOwing start (treated accounts octets turn)
unfolding treated
treated_owing start accounts octets turn long live h =
    let header : ltb (length octets) 16 ≡ false = le-ltb _ _ long in
    command_owing start accounts octets (header_at octets) (command_of (header_at octets).command_id) turn
    (ap (λ (b : Bool). cond b [] ((header_at octets).sequence_number ∷ [])) header) live h

bad_owing : (start : Start) (octets : List ℕ) (turn : SessionStep) → IsOwing start turn → IsOwing start (bad_length octets turn)
unfolding bad_length
bad_owing start octets turn h =
    broken_owing start (sent GenericNack ESME_RINVCMDLEN (header_at octets).sequence_number turn).conversation.owed (sent GenericNack ESME_RINVCMDLEN (header_at octets).sequence_number turn) refl
    (sent_owing start GenericNack ESME_RINVCMDLEN (header_at octets).sequence_number turn h)

whole_open : (state : SessionState) (octets : List ℕ) (len : ℕ) → front_of state octets ≡ Whole len → state ≡ Closed → ⊥
whole_open state octets len e c = let never : Dropped ≡ Whole len = sym (ap (λ (s : SessionState). front_of s octets) c) ∙ e in absurd cc

whole_long : (state : SessionState) (octets : List ℕ) (len : ℕ) → front_of state octets ≡ Whole len → 16 ≤ length octets
whole_long state octets len e = let fits = whole_fits state octets len (sym e) in omega (arith, fits.0, fits.1)

fronted_owing : (start : Start) (accounts : List Account) (f : Front) (turn : SessionStep) (octets : List ℕ) → front_of turn.conversation.state octets ≡ f
    → IsOwing start turn → IsOwing start (fronted accounts f turn octets).0
fronted_owing start accounts Waiting turn octets e h = h
fronted_owing start accounts (Whole len) turn octets e h = treated_owing start accounts octets turn (whole_long turn.conversation.state octets len e) (whole_open turn.conversation.state octets len e) h
fronted_owing start accounts BadLength turn octets e h = bad_owing start octets turn h
fronted_owing start accounts Dropped turn octets e h = h

more_owing : (start : Start) (accounts : List Account) (c : StreamProgress) (x : ℕ) → IsOwing start c.0 → IsOwing start (one_more accounts c x).0
unfolding one_more
more_owing start accounts c x h = fronted_owing start accounts (front_of c.0.conversation.state (c.1 ++ x ∷ [])) c.0 (c.1 ++ x ∷ []) refl h

stream_owing : (start : Start) (accounts : List Account) (c : StreamProgress) (xs : List ℕ) → IsOwing start c.0 → IsOwing start (stream accounts c xs).0
unfolding stream
stream_owing start accounts c [] h = h
stream_owing start accounts c (x ∷ xs) h = stream_owing start accounts (one_more accounts c x) xs (more_owing start accounts c x h)

-- ---- calls

-- the session owes these, and nothing once it is closed
pub record Owes (numbers : List ℕ) (conversation : Conversation) : Type 0 where
  pub owed : conversation.owed ≡ numbers
  pub none : conversation.state ≡ Closed → conversation.owed ≡ []

abbrev fed_start : SessionView → Start
fed_start s = record { owed = s.conversation.owed; bound = is_bound s.conversation.state; next = s.conversation.next_number }

fed_owing : (s : SessionView) (xs : List ℕ) → (s.conversation.state ≡ Closed → s.conversation.owed ≡ []) → IsOwing (fed_start s) (stream s.accounts (turn_of s, []) (s.buffered ++ xs)).0
fed_owing s xs none =
    stream_owing (fed_start s) s.accounts (turn_of s, []) (s.buffered ++ xs)
    (record { owed = sym (append-nil s.conversation.owed); none = none; bound = inr refl; number = refl })

fed_owes : (owed : List ℕ) (s : SessionView) (xs : List ℕ) → Owes owed s.conversation → Owes (owed ++ numbers_passed (fed s xs).1) (fed s xs).0.conversation
fed_owes owed s xs h =
    let g = fed_owing s xs h.none in
    record { owed = g.owed ∙ ap (λ (ns : List ℕ). ns ++ numbers_passed (fed s xs).1) h.owed; none = g.none }

-- octets that arrived add what they pass up
pub fed_owed : (s : SessionView) (xs : List ℕ) → (s.conversation.state ≡ Closed → s.conversation.owed ≡ [])
    → (fed s xs).0.conversation.owed ≡ s.conversation.owed ++ numbers_passed (fed s xs).1
fed_owed s xs none = (fed_owes s.conversation.owed s xs (record { owed = refl; none = none })).owed

pub settled_none : (state : SessionState) (owed : List ℕ) → has_settled state owed ≡ true → owed ≡ []
settled_none state [] e = refl
settled_none Opened (n ∷ owed) e = absurd cc
settled_none _ (n ∷ owed) e = absurd cc

answer_owes : (b : Bool) (n : ℕ) (owed : List ℕ) (c : Conversation) → has_settled c.state (owed_behind n c) ≡ b → Owes owed c
    → Owes (without n owed) (cond b (closed_conversation c) (record c { owed = owed_behind n c }))
answer_owes true n owed c e h = record { owed = sym (settled_none c.state (owed_behind n c) e) ∙ ap (without n) h.owed; none = λ s. refl }
answer_owes false n owed c e h = record { owed = ap (without n) h.owed; none = λ s. ap (without n) (h.none s) }

unbind_owes : (b : Bool) (owed : List ℕ) (c : Conversation) → Owes owed c → Owes owed (cond b (record c { state = Unbinding }) c)
unbind_owes true owed c h = record { owed = h.owed; none = λ (e : Unbinding ≡ Closed). absurd cc }
unbind_owes false owed c h = h

deliver_owes : (fault : Option DeliverFault) (owed : List ℕ) (s : SessionView) (message : Message) → Owes owed s.conversation → Owes owed (delivering s message fault).0.conversation
deliver_owes None owed s message h = record { owed = h.owed; none = h.none }
deliver_owes (Some fault) owed s message h = h

called_owes : (owed : List ℕ) (s : SessionView) (call : Call) → is_close call ≡ false → Owes owed s.conversation → Owes (owed_after owed s call) (called s call).0.conversation
called_owes owed s (FullCall full) on h = record { owed = h.owed; none = h.none }
called_owes owed s (Feed xs) on h = fed_owes owed s xs h
called_owes owed s (Answer n answer) on h = answer_owes (is_last n s.conversation) n owed s.conversation refl h
called_owes owed s (Deliver message) on h = deliver_owes (delivery_fault s.conversation) owed s message h
called_owes owed s UnbindCall on h = unbind_owes (may_unbind s.conversation.state) owed s.conversation h
called_owes owed s Close on h = absurd cc

pub ran_owes : (owed : List ℕ) (c : SessionView × List Action) (calls : List Call) → IsConnected calls → Owes owed c.0.conversation
    → Owes (left_unanswered owed c.0 calls) (ran c calls).0.conversation
ran_owes owed c [] on h = h
ran_owes owed c (call ∷ calls) on h =
    ran_owes (owed_after owed c.0 call) (and_then c (called c.0 call)) calls on.1 (called_owes owed c.0 call on.0 h)

pub opened_owes : (accounts : List Account) (calls : List Call) → IsConnected calls → Owes (left_unanswered [] (opened accounts) calls) (ran (opened accounts, []) calls).0.conversation
opened_owes accounts calls on = ran_owes [] (opened accounts, []) calls on (record { owed = refl; none = λ e. refl })

pub closed_owes_none : (accounts : List Account) (calls : List Call) → IsConnected calls → (ran (opened accounts, []) calls).0.conversation.state ≡ Closed
    → left_unanswered [] (opened accounts) calls ≡ []
closed_owes_none accounts calls on e = let h = opened_owes accounts calls on in sym h.owed ∙ h.none e

-- ---- the answers, and the unbind_resp behind the last of them

sent_append : (xs ys : List Action) → octets_sent (xs ++ ys) ≡ octets_sent xs ++ octets_sent ys
sent_append [] ys = refl
sent_append (Send octets ∷ xs) ys = ap (λ (os : List ℕ). octets ++ os) (sent_append xs ys) ∙ sym (append_assoc octets (octets_sent xs) (octets_sent ys))
sent_append (Bound place kind ∷ xs) ys = sent_append xs ys
sent_append (Submit octets priority ∷ xs) ys = sent_append xs ys
sent_append (Query octets ∷ xs) ys = sent_append xs ys
sent_append (Cancel octets ∷ xs) ys = sent_append xs ys
sent_append (DeliverAnswered number accepted ∷ xs) ys = sent_append xs ys
sent_append (BindRefused status name ∷ xs) ys = sent_append xs ys
sent_append (Unbound ∷ xs) ys = sent_append xs ys

pub first_gone : (n : ℕ) (ns : List ℕ) → without n (n ∷ ns) ≡ ns
first_gone n ns = ap (λ (b : Bool). cond b ns (n ∷ without n ns)) (eq-eqb n n refl)

finishing_sends : (b : Bool) (c : Conversation) (reply : Reply) → c.state ≡ Finishing → is_last reply.0 c ≡ b
    → octets_sent (sending (answered c reply.0 reply.1)) ≡ written (answer_pdu reply.0 reply.1) ++ unbind_resp_to (cond b c.unbind None)
finishing_sends b c reply e l =
    let live : is_closed c.state ≡ false = ap is_closed e in
    let octets = written (answer_pdu reply.0 reply.1) in
    ap (λ (d : Bool). octets_sent (sending (cond d None (Some (octets ++ unbind_resp_to (last_unbind reply.0 c)))))) live
    ∙ (append-nil (octets ++ unbind_resp_to (last_unbind reply.0 c))
    ∙ ap (λ (d : Bool). octets ++ unbind_resp_to (cond d c.unbind None)) l)

-- The session answers those that it owes, in order, and then the unbind.
pub replies_finish : (replies : List Reply) (s : SessionView) (acts : List Action) (reply : Reply) (number : ℕ) → s.conversation.state ≡ Finishing → s.conversation.unbind ≡ Some number
    → s.conversation.owed ≡ map number_in (reply ∷ replies)
    → (let after = ran (s, acts) (map call_of (reply ∷ replies)) in
    (after.0.conversation.state ≡ Closed) × (octets_sent after.1 ≡ octets_sent acts ++ (replies_written (reply ∷ replies) ++ unbind_resp number)))
replies_finish [] s acts reply number state unbind owed =
    let left : owed_behind reply.0 s.conversation ≡ [] = ap (without reply.0) owed ∙ first_gone reply.0 [] in
    let last : is_last reply.0 s.conversation ≡ true = ap (λ (ns : List ℕ). has_settled s.conversation.state ns) left ∙ ap (λ (st : SessionState). has_settled st []) state in
    let octets = written (answer_pdu reply.0 reply.1) in (
      ap (λ (b : Bool). (cond b (closed_conversation s.conversation) (record s.conversation { owed = owed_behind reply.0 s.conversation })).state) last,
      sent_append acts (sending (answered s.conversation reply.0 reply.1))
          ∙ ap (λ (os : List ℕ). octets_sent acts ++ os)
          (finishing_sends true s.conversation reply state last
          ∙ (ap (λ (u : Option ℕ). octets ++ unbind_resp_to u) unbind ∙ ap (λ (os : List ℕ). os ++ unbind_resp number) (sym (append-nil octets)))),
    )
replies_finish (next ∷ replies) s acts reply number state unbind owed =
    let left : owed_behind reply.0 s.conversation ≡ map number_in (next ∷ replies) = ap (without reply.0) owed ∙ first_gone reply.0 (map number_in (next ∷ replies)) in
    let more : is_last reply.0 s.conversation ≡ false = ap (λ (ns : List ℕ). has_settled s.conversation.state ns) left ∙ ap (λ (st : SessionState). has_settled st (map number_in (next ∷ replies))) state in
    let octets = written (answer_pdu reply.0 reply.1) in
    let after = called s (call_of reply) in
    let is : after.0.conversation ≡ record s.conversation { owed = owed_behind reply.0 s.conversation } =
    ap (λ (b : Bool). cond b (closed_conversation s.conversation) (record s.conversation { owed = owed_behind reply.0 s.conversation })) more in
    let rest = replies_finish replies after.0 (acts ++ after.1) next number
    (ap (λ (c : Conversation). c.state) is ∙ state) (ap (λ (c : Conversation). c.unbind) is ∙ unbind) (ap (λ (c : Conversation). c.owed) is ∙ left) in
    let said : octets_sent after.1 ≡ octets = finishing_sends false s.conversation reply state more ∙ append-nil octets in
    let tail = replies_written (next ∷ replies) ++ unbind_resp number in (
      rest.0,
      rest.1
          ∙ (ap (λ (os : List ℕ). os ++ tail) (sent_append acts after.1 ∙ ap (λ (os : List ℕ). octets_sent acts ++ os) said)
          ∙ (append_assoc (octets_sent acts) octets tail
          ∙ ap (λ (os : List ℕ). octets_sent acts ++ os) (sym (append_assoc octets (replies_written (next ∷ replies)) (unbind_resp number))))),
    )

-- ---- what octets that arrive do to any session

open_goes : (state : SessionState) → IsOpen state → state ≡ Closed → ⊥
open_goes state o c = let never : Dropped ≡ Waiting = sym (ap (λ (s : SessionState). front_of s []) c) ∙ o [] in absurd cc

pub record IsFed (s : SessionView) (f : SessionView × List Action) : Type 0 where
  pub accounts : f.0.accounts ≡ s.accounts
  pub number : f.0.conversation.next_number ≡ s.conversation.next_number
  pub full : f.0.conversation.full ≡ s.conversation.full
  pub bound : (is_deaf f.0.conversation.state ≡ true) ⊎ (is_bound f.0.conversation.state ≡ bound_behind (is_bound s.conversation.state) f.1)

pub fed_is : (s : SessionView) (xs : List ℕ) → IsFed s (fed s xs)
fed_is s xs = by_state (open_or_deaf s.conversation.state) where
  by_state : IsOpen s.conversation.state ⊎ IsDeaf s.conversation.state → IsFed s (fed s xs)
  by_state (inl o) =
      let g = fed_owing s xs (λ c. absurd (open_goes s.conversation.state o c)) in
      record { accounts = refl; number = g.number; full = fed_full s xs; bound = g.bound }
  by_state (inr d) =
      let none : stream s.accounts (turn_of s, []) (s.buffered ++ xs) ≡ (turn_of s, []) = dropped s.accounts (turn_of s) (s.buffered ++ xs) d in
      record {
        accounts = refl;
        number = ap (λ (c : StreamProgress). c.0.conversation.next_number) none;
        full = fed_full s xs;
        bound = inr (ap (λ (c : StreamProgress). is_bound c.0.conversation.state) none ∙ sym (ap (λ (c : StreamProgress). bound_behind (is_bound s.conversation.state) c.0.actions) none));
      }

deaf_is : (state : SessionState) → is_deaf state ≡ true → IsDeaf state
deaf_is Opened e = absurd cc
deaf_is BoundTx e = absurd cc
deaf_is BoundRx e = absurd cc
deaf_is BoundTrx e = absurd cc
deaf_is Unbinding e = absurd cc
deaf_is Finishing e = absurd cc
deaf_is Broken e = λ xs. refl
deaf_is Closed e = λ xs. refl

abbrev pub with_none : SessionView → SessionView
with_none s = record { accounts = s.accounts; conversation = s.conversation; buffered = [] }

-- a session that takes no octet in gives nothing for any
pub deaf_gives_none : (s : SessionView) (xs : List ℕ) → is_deaf s.conversation.state ≡ true → fed s xs ≡ (with_none s, [])
deaf_gives_none s xs e =
    ap (λ (c : StreamProgress). after_stream s c) (dropped s.accounts (turn_of s) (s.buffered ++ xs) (deaf_is s.conversation.state e))

pub none_buffered : (s : SessionView) (xs : List ℕ) → is_deaf (fed s xs).0.conversation.state ≡ true → (fed s xs).0.buffered ≡ []
none_buffered s xs e = by_wait (fed_preserved s xs) where
  by_wait : WaitsInBuffer (fed s xs).0 → (fed s xs).0.buffered ≡ []
  by_wait (inl w) = let never : Dropped ≡ Waiting = sym (deaf_is (fed s xs).0.conversation.state e (fed s xs).0.buffered) ∙ w in absurd cc
  by_wait (inr none) = none

-- ---- requests behind an unbind

to_submit_is : (state : SessionState) → IsUnbinding state → to_submit state ≡ Refused ESME_RINVBNDSTS
to_submit_is Unbinding h = refl
to_submit_is Finishing h = refl
to_submit_is Opened h = absurd h
to_submit_is BoundTx h = absurd h
to_submit_is BoundRx h = absurd h
to_submit_is BoundTrx h = absurd h
to_submit_is Broken h = absurd h
to_submit_is Closed h = absurd h

refuses : (accounts : List Account) (octets : List ℕ) (header : Header) (c : CommandId) (turn : SessionStep) → IsRequest c → IsUnbinding turn.conversation.state
    → by_command accounts octets header (Some c) turn ≡ sent (refusal c) ESME_RINVBNDSTS header.sequence_number turn
refuses accounts octets header SubmitSmId turn r h = ap (λ (j : Judgement). judging accounts octets SubmitSmId header.sequence_number j turn) (to_submit_is turn.conversation.state h)
refuses accounts octets header QuerySmId turn r h = ap (λ (j : Judgement). judging accounts octets QuerySmId header.sequence_number j turn) (to_submit_is turn.conversation.state h)
refuses accounts octets header CancelSmId turn r h = ap (λ (j : Judgement). judging accounts octets CancelSmId header.sequence_number j turn) (to_submit_is turn.conversation.state h)
refuses accounts octets header c turn r h = absurd r

pub request_refused : (accounts : List Account) (octets : List ℕ) (turn : SessionStep) (c : CommandId) → command_of (header_at octets).command_id ≡ Some c → IsRequest c
    → IsUnbinding turn.conversation.state → treated accounts octets turn ≡ sent (refusal c) ESME_RINVBNDSTS (header_at octets).sequence_number turn
unfolding treated
request_refused accounts octets turn c e r h =
    ap (λ (o : Option CommandId). by_command accounts octets (header_at octets) o turn) e ∙ refuses accounts octets (header_at octets) c turn r h
