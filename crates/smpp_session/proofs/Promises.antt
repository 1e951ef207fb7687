-- What every turn, and so every list of calls, keeps.
use Rattle.std.proofs.Common.{◌≡◌, ◌⊎◌, inl, inr, ℕ, ◌<◌, Bool, true, false, cond, eqb, ltb, List, [], ◌∷◌, ◌++◌, length, Option, Some, None, Result, Ok, Err, refl, sym, ap, subst, ◌∙◌, arith}
use Rattle.std.specs.List.{AllByRecursion}
use Rattle.std.proofs.lemmas.Bool.{ltb-true}
use Rattle.std.proofs.lemmas.List.{append-nil}
use Rattle.sms_base.proofs.Lists.{all_append}
use Rattle.smpp_pdu.specs.declared.fault.PduFault.{PduFault}
use Rattle.smpp_pdu.specs.declared.command.CommandId.{CommandId}
use Rattle.smpp_pdu.specs.declared.status.CommandStatus.{CommandStatus}
use Rattle.smpp_pdu.specs.declared.status.CommandStatus.TheVariants.{ESME_ROK, ESME_RINVCMDLEN, ESME_RINVCMDID, ESME_RBINDFAIL, ESME_RINVPASWD, ESME_RINVSYSID}
use Rattle.smpp_pdu.specs.declared.bind.Bind.{Bind}
use Rattle.smpp_pdu.specs.declared.body.Body.{Body}
use Rattle.smpp_pdu.specs.declared.body.Body.TheVariants.{BindReceiver, BindTransmitter, BindTransceiver, SubmitSm, QuerySm, CancelSm, Unbind, EnquireLink, GenericNack, DeliverSmResp, UnbindResp, EnquireLinkResp}
use Rattle.smpp_pdu.specs.declared.header.Header.{Header}
use Rattle.smpp_pdu.specs.declared.message.Message.{Message}
use Rattle.smpp_pdu.specs.declared.pdu.Pdu.{Pdu}
use Rattle.smpp_pdu.specs.Commands.{command_of}
use Rattle.smpp_pdu.specs.PduReading.{pdu_at}
use Rattle.smpp_pdu.specs.Writing.{written}
use Rattle.smpp_session.specs.declared.account.Account.{Account}
use Rattle.smpp_session.specs.declared.account.Login.{Login}
use Rattle.smpp_session.specs.declared.account.Login.TheVariants.{Known, UnknownName, WrongPassword, Full}
use Rattle.smpp_session.specs.declared.action.Action.{Action}
use Rattle.smpp_session.specs.declared.action.Action.TheVariants.{Send, Bound, Submit, Query, Cancel, DeliverAnswered, BindRefused, Unbound}
use Rattle.smpp_session.specs.declared.action.BindKind.{BindKind}
use Rattle.smpp_session.specs.declared.action.BindKind.TheVariants.{Transmitter, Receiver, Transceiver}
use Rattle.smpp_session.specs.declared.calling.Call.{Call}
use Rattle.smpp_session.specs.declared.calling.Call.TheVariants.{Full as FullCall, Feed, Answer, Deliver, Unbind as UnbindCall, Close}
use Rattle.smpp_session.specs.declared.fault.DeliverFault.{DeliverFault}
use Rattle.smpp_session.specs.declared.fault.DeliverFault.TheVariants.{WindowFull, NotBound}
use Rattle.smpp_session.specs.declared.front.Front.{Front}
use Rattle.smpp_session.specs.declared.front.Front.TheVariants.{Waiting, Whole, BadLength, Dropped}
use Rattle.smpp_session.specs.declared.conversation.SessionState.{SessionState}
use Rattle.smpp_session.specs.declared.conversation.SessionState.TheVariants.{Opened, BoundTx, BoundRx, BoundTrx, Unbinding, Finishing, Broken, Closed}
use Rattle.smpp_session.specs.declared.conversation.Conversation.{Conversation}
use Rattle.smpp_session.specs.declared.table.Judgement.{Judgement}
use Rattle.smpp_session.specs.declared.table.Judgement.TheVariants.{Read, Refused, Ignored}
use Rattle.smpp_session.specs.declared.turn.SessionStep.{SessionStep}
use Rattle.smpp_session.specs.Answers.{answered, is_last, owed_behind}
use Rattle.smpp_session.specs.Bindings.{is_bound, is_deaf, bound_after, bound_behind, is_bind_lost}
use Rattle.smpp_session.specs.Calls.{called, delivering, sending, and_then, ran}
use Rattle.smpp_session.specs.Logins.{admitted, login}
use Rattle.smpp_session.specs.Promises.{ReadsAsItsCommand, bound_as_reported}
use Rattle.smpp_session.specs.Sessions.{SessionView, opened, turn_of, fed, if_room, fault_in, delivery_fault, may_unbind, number_to_send, unbinding}
use Rattle.smpp_session.specs.SessionRun.{StreamProgress, fronted, one_more, stream}
use Rattle.smpp_session.specs.SessionTable.{judged, judged_fault, refusal, without_bind_resp, bound_as, response, priority_of, given, sent, closed, bound_turn, in_conversation, logged_in, bind_taken, delivered, taken, refused, read, judging, by_command, treated, bad_length}
use Rattle.smpp_session.specs.SessionTable.{accepting_bind, bind_refused, broken_by, closed_conversation, finishing_conversation, kind_of_command, left_by, name_of, passed_up, refused_by, unbind_number, unbound_by}
use Rattle.smpp_session.specs.Stream.{header_at, front_of}
use Rattle.smpp_session.specs.Windows.{is_among, without, IsSequenceNumber, IsWindow}
use Rattle.smpp_session.proofs.Cutting.{closed_deaf, dropped}
use Rattle.smpp_session.proofs.FreeNumbers.{after_is_number, free_is_free, free_is_number, window_added, window_taken, no_window}

-- what the actions of a turn told, where an account was bound before them or not
record IsSound (before : Bool) (turn : SessionStep) : Type 0 where
  waiting : IsWindow turn.conversation.unanswered
  number : IsSequenceNumber turn.conversation.next_number
  reads : AllByRecursion ReadsAsItsCommand turn.actions
  bound : (is_deaf turn.conversation.state ≡ true) ⊎ (is_bound turn.conversation.state ≡ bound_behind before turn.actions)

pub bound_end : (before : Bool) (acts : List Action) (action : Action) → bound_behind before (acts ++ action ∷ []) ≡ bound_after (bound_behind before acts) action
bound_end before [] action = refl
bound_end before (first ∷ acts) action = bound_end (bound_after before first) acts action

reads_end : (acts : List Action) (action : Action) → AllByRecursion ReadsAsItsCommand acts → ReadsAsItsCommand action → AllByRecursion ReadsAsItsCommand (acts ++ action ∷ [])
reads_end acts action h r = all_append ReadsAsItsCommand acts (action ∷ []) h (r, tt)

-- an action that binds and unbinds nobody
given_sound : (before : Bool) (action : Action) (turn : SessionStep) → IsSound before turn → ReadsAsItsCommand action → ((b : Bool) → bound_after b action ≡ b) → IsSound before (given action turn)
given_sound before action turn h r same = record {
  waiting = h.waiting;
  number = h.number;
  reads = reads_end turn.actions action h.reads r;
  bound = still h.bound;
} where
  still : (is_deaf turn.conversation.state ≡ true) ⊎ (is_bound turn.conversation.state ≡ bound_behind before turn.actions) → (is_deaf turn.conversation.state ≡ true) ⊎ (is_bound turn.conversation.state ≡ bound_behind before (turn.actions ++ action ∷ []))
  still (inl c) = inl c
  still (inr e) = inr (e ∙ (sym (same (bound_behind before turn.actions)) ∙ sym (bound_end before turn.actions action)))

sent_sound : (before : Bool) (body : Body) (status : CommandStatus) (n : ℕ) (turn : SessionStep) → IsSound before turn → IsSound before (sent body status n turn)
unfolding sent
sent_sound before body status n turn h = given_sound before (Send (written (response body status n))) turn h tt (λ b. refl)

pub kind_is_bound : (kind : BindKind) → is_bound (bound_as kind) ≡ true
kind_is_bound Transmitter = refl
kind_is_bound Receiver = refl
kind_is_bound Transceiver = refl

now_bound : (before : Bool) (kind : BindKind) (place version : ℕ) (turn : SessionStep) → IsSound before turn → IsSound before (bound_turn kind version (given (Bound place kind) turn))
now_bound before kind place version turn h = record {
  waiting = h.waiting;
  number = h.number;
  reads = reads_end turn.actions (Bound place kind) h.reads tt;
  bound = inr (kind_is_bound kind ∙ sym (bound_end before turn.actions (Bound place kind)));
}

bind_refused_sound : (before : Bool) (body : Body) (status : CommandStatus) (n : ℕ) (name : List ℕ) (turn : SessionStep) → IsSound before turn → IsSound before (bind_refused body status n name turn)
bind_refused_sound before body status n name turn h =
    given_sound before (BindRefused status name) (sent body status n turn) (sent_sound before body status n turn h) tt (λ b. refl)

logged_in_sound : (before : Bool) (kind : BindKind) (n : ℕ) (bind : Bind) (l : Login) (turn : SessionStep) → IsSound before turn → IsSound before (logged_in kind n bind l turn)
logged_in_sound before kind n bind (Known place) turn h =
    let said = Send (accepting_bind kind bind.interface_version n) in
    now_bound before kind place bind.interface_version (given said turn) (given_sound before said turn h tt (λ b. refl))
logged_in_sound before kind n bind UnknownName turn h = bind_refused_sound before (without_bind_resp kind) ESME_RINVSYSID n bind.system_id turn h
logged_in_sound before kind n bind WrongPassword turn h = bind_refused_sound before (without_bind_resp kind) ESME_RINVPASWD n bind.system_id turn h
logged_in_sound before kind n bind Full turn h = bind_refused_sound before (without_bind_resp kind) ESME_RBINDFAIL n bind.system_id turn h

bind_sound : (before : Bool) (accounts : List Account) (kind : BindKind) (n : ℕ) (bind : Bind) (turn : SessionStep) → IsSound before turn → IsSound before (bind_taken accounts kind n bind turn)
bind_sound before accounts kind n bind turn h = logged_in_sound before kind n bind (admitted turn.conversation.full (login 0 bind.system_id bind.password accounts)) turn h

closed_sound : (before : Bool) (turn : SessionStep) → IsSound before turn → IsSound before (closed turn)
closed_sound before turn h = record { waiting = no_window; number = h.number; reads = h.reads; bound = inl refl }

passed_sound : (before : Bool) (action : Action) (n : ℕ) (turn : SessionStep) → IsSound before turn → ReadsAsItsCommand action → ((b : Bool) → bound_after b action ≡ b) → IsSound before (passed_up action n turn)
passed_sound before action n turn h r same =
    let g = given_sound before action turn h r same in record { waiting = g.waiting; number = g.number; reads = g.reads; bound = g.bound }

-- the account is bound no longer
finishing_sound : (before : Bool) (unbind : Option ℕ) (turn : SessionStep) → IsSound before turn → IsSound before (in_conversation (finishing_conversation unbind turn.conversation) (given Unbound turn))
finishing_sound before unbind turn h = record {
  waiting = no_window;
  number = h.number;
  reads = reads_end turn.actions Unbound h.reads tt;
  bound = inr (sym (bound_end before turn.actions Unbound));
}

ended_sound : (before : Bool) (turn : SessionStep) → IsSound before turn → IsSound before (closed (given Unbound turn))
ended_sound before turn h = record { waiting = no_window; number = h.number; reads = reads_end turn.actions Unbound h.reads tt; bound = inl refl }

unbound_sound : (before : Bool) (owed : List ℕ) (n : ℕ) (turn : SessionStep) → IsSound before turn → IsSound before (unbound_by owed n turn)
unbound_sound before [] n turn h = ended_sound before (sent UnbindResp ESME_ROK n turn) (sent_sound before UnbindResp ESME_ROK n turn h)
unbound_sound before (first ∷ owed) n turn h = finishing_sound before (Some n) turn h

left_sound : (before : Bool) (owed : List ℕ) (turn : SessionStep) → IsSound before turn → IsSound before (left_by owed turn)
left_sound before [] turn h = ended_sound before turn h
left_sound before (first ∷ owed) turn h = finishing_sound before None turn h

left_if : (before : Bool) (b : Bool) (turn : SessionStep) → IsSound before turn → IsSound before (cond b (left_by turn.conversation.owed turn) turn)
left_if before true turn h = left_sound before turn.conversation.owed turn h
left_if before false turn h = h

broken_sound : (before : Bool) (owed : List ℕ) (turn : SessionStep) → IsSound before turn → IsSound before (broken_by owed turn)
broken_sound before [] turn h = closed_sound before turn h
broken_sound before (first ∷ owed) turn h = record { waiting = no_window; number = h.number; reads = h.reads; bound = inl refl }

delivered_sound : (before : Bool) (n : ℕ) (accepted : Bool) (turn : SessionStep) → IsSound before turn → IsSound before (delivered n accepted turn)
delivered_sound before n accepted turn h = by_test (is_among n turn.conversation.unanswered) where
  told : SessionStep
  told = given (DeliverAnswered n accepted) turn

  told_sound : IsSound before told
  told_sound = given_sound before (DeliverAnswered n accepted) turn h tt (λ b. refl)

  answered_turn : SessionStep
  answered_turn = record {
    conversation = record turn.conversation { unanswered = without n turn.conversation.unanswered };
    actions = turn.actions ++ DeliverAnswered n accepted ∷ [];
  }

  by_test : (b : Bool) → IsSound before (cond b answered_turn turn)
  by_test true = record { waiting = window_taken n turn.conversation.unanswered h.waiting; number = h.number; reads = told_sound.reads; bound = told_sound.bound }
  by_test false = h

taken_sound : (before : Bool) (accounts : List Account) (octets : List ℕ) (n : ℕ) (pdu : Pdu) (body : Body) (turn : SessionStep) → pdu_at octets ≡ Ok pdu → pdu.body ≡ body → IsSound before turn → IsSound before (taken accounts octets n pdu body turn)
taken_sound before accounts octets n pdu (BindTransmitter bind) turn e is h = bind_sound before accounts Transmitter n bind turn h
taken_sound before accounts octets n pdu (BindReceiver bind) turn e is h = bind_sound before accounts Receiver n bind turn h
taken_sound before accounts octets n pdu (BindTransceiver bind) turn e is h = bind_sound before accounts Transceiver n bind turn h
taken_sound before accounts octets n pdu (SubmitSm message) turn e is h = passed_sound before (Submit octets (priority_of message.priority_flag)) n turn h (pdu, message, e, is, refl) (λ b. refl)
taken_sound before accounts octets n pdu (QuerySm query) turn e is h = passed_sound before (Query octets) n turn h (pdu, query, e, is) (λ b. refl)
taken_sound before accounts octets n pdu (CancelSm cancel) turn e is h = passed_sound before (Cancel octets) n turn h (pdu, cancel, e, is) (λ b. refl)
taken_sound before accounts octets n pdu Unbind turn e is h = unbound_sound before turn.conversation.owed n turn h
taken_sound before accounts octets n pdu UnbindResp turn e is h = left_if before (eqb n unbind_number) turn h
taken_sound before accounts octets n pdu EnquireLink turn e is h = sent_sound before EnquireLinkResp ESME_ROK n turn h
taken_sound before accounts octets n pdu (DeliverSmResp body) turn e is h = delivered_sound before n (eqb pdu.command_status 0) turn h
taken_sound before accounts octets n pdu GenericNack turn e is h = delivered_sound before n false turn h
taken_sound before accounts octets n pdu body turn e is h = h

refused_by_sound : (before : Bool) (kind : Option BindKind) (c : CommandId) (status : CommandStatus) (n : ℕ) (name : List ℕ) (turn : SessionStep) → IsSound before turn → IsSound before (refused_by kind c status n name turn)
refused_by_sound before (Some kind) c status n name turn h = bind_refused_sound before (without_bind_resp kind) status n name turn h
refused_by_sound before None c status n name turn h = sent_sound before (refusal c) status n turn h

refused_sound : (before : Bool) (octets : List ℕ) (c : CommandId) (n : ℕ) (j : Judgement) (turn : SessionStep) → IsSound before turn → IsSound before (refused octets c n j turn)
refused_sound before octets c n (Refused status) turn h = refused_by_sound before (kind_of_command c) c status n (name_of (pdu_at octets)) turn h
refused_sound before octets c n Ignored turn h = h
refused_sound before octets c n Read turn h = h

read_sound : (before : Bool) (accounts : List Account) (octets : List ℕ) (c : CommandId) (n : ℕ) (r : Result Pdu PduFault) (turn : SessionStep) → pdu_at octets ≡ r → IsSound before turn → IsSound before (read accounts octets c n r turn)
read_sound before accounts octets c n (Ok pdu) turn e h = taken_sound before accounts octets n pdu pdu.body turn e refl h
read_sound before accounts octets c n (Err fault) turn e h = refused_sound before octets c n (judged_fault c fault) turn h

judging_sound : (before : Bool) (accounts : List Account) (octets : List ℕ) (c : CommandId) (n : ℕ) (j : Judgement) (turn : SessionStep) → IsSound before turn → IsSound before (judging accounts octets c n j turn)
judging_sound before accounts octets c n Read turn h = read_sound before accounts octets c n (pdu_at octets) turn refl h
judging_sound before accounts octets c n (Refused status) turn h = refused_sound before octets c n (Refused status) turn h
judging_sound before accounts octets c n Ignored turn h = h

command_sound : (before : Bool) (accounts : List Account) (octets : List ℕ) (header : Header) (c : Option CommandId) (turn : SessionStep) → IsSound before turn → IsSound before (by_command accounts octets header c turn)
command_sound before accounts octets header (Some c) turn h = judging_sound before accounts octets c header.sequence_number (judged c turn.conversation.state) turn h
command_sound before accounts octets header None turn h = by_test (ltb header.command_id 0x80000000) where
  by_test : (b : Bool) → IsSound before (cond b (sent GenericNack ESME_RINVCMDID header.sequence_number turn) turn)
  by_test true = sent_sound before GenericNack ESME_RINVCMDID header.sequence_number turn h
  by_test false = h

treated_sound : (before : Bool) (accounts : List Account) (octets : List ℕ) (turn : SessionStep) → IsSound before turn → IsSound before (treated accounts octets turn)
unfolding treated
treated_sound before accounts octets turn h = command_sound before accounts octets (header_at octets) (command_of (header_at octets).command_id) turn h

bad_sound : (before : Bool) (octets : List ℕ) (turn : SessionStep) → IsSound before turn → IsSound before (bad_length octets turn)
unfolding bad_length
bad_sound before octets turn h =
    broken_sound before (sent GenericNack ESME_RINVCMDLEN (header_at octets).sequence_number turn).conversation.owed (sent GenericNack ESME_RINVCMDLEN (header_at octets).sequence_number turn)
    (sent_sound before GenericNack ESME_RINVCMDLEN (header_at octets).sequence_number turn h)

fronted_sound : (before : Bool) (accounts : List Account) (f : Front) (turn : SessionStep) (octets : List ℕ) → IsSound before turn → IsSound before (fronted accounts f turn octets).0
fronted_sound before accounts Waiting turn octets h = h
fronted_sound before accounts (Whole len) turn octets h = treated_sound before accounts octets turn h
fronted_sound before accounts BadLength turn octets h = bad_sound before octets turn h
fronted_sound before accounts Dropped turn octets h = h

more_sound : (before : Bool) (accounts : List Account) (c : StreamProgress) (x : ℕ) → IsSound before c.0 → IsSound before (one_more accounts c x).0
unfolding one_more
more_sound before accounts c x h = fronted_sound before accounts (front_of c.0.conversation.state (c.1 ++ x ∷ [])) c.0 (c.1 ++ x ∷ []) h

stream_sound : (before : Bool) (accounts : List Account) (c : StreamProgress) (xs : List ℕ) → IsSound before c.0 → IsSound before (stream accounts c xs).0
unfolding stream
stream_sound before accounts c [] h = h
stream_sound before accounts c (x ∷ xs) h = stream_sound before accounts (one_more accounts c x) xs (more_sound before accounts c x h)

-- ---- feed

fed_sound : (s : SessionView) (xs : List ℕ) → IsWindow s.conversation.unanswered → IsSequenceNumber s.conversation.next_number → IsSound (is_bound s.conversation.state) (stream s.accounts (turn_of s, []) (s.buffered ++ xs)).0
fed_sound s xs waiting number =
    stream_sound (is_bound s.conversation.state) s.accounts (turn_of s, []) (s.buffered ++ xs) (record { waiting = waiting; number = number; reads = tt; bound = inr refl })

pub told : (s : SessionView) (xs : List ℕ) → IsWindow s.conversation.unanswered → IsSequenceNumber s.conversation.next_number → is_bound (fed s xs).0.conversation.state ≡ bound_as_reported s xs
told s xs waiting number = by_state (fed s xs).0.conversation.state refl (fed_sound s xs waiting number).bound where
  acts : List Action
  acts = (fed s xs).1

  by_closed : (b : Bool) → false ≡ cond b false b
  by_closed true = refl
  by_closed false = refl

  by_state : (state : SessionState) → (fed s xs).0.conversation.state ≡ state → (is_deaf state ≡ true) ⊎ (is_bound state ≡ bound_behind (is_bound s.conversation.state) acts)
      → is_bound state ≡ cond (is_bind_lost s.conversation.state acts state) false (bound_behind (is_bound s.conversation.state) acts)
  by_state Closed e h = by_closed (bound_behind (is_bound s.conversation.state) acts)
  by_state Opened e (inl c) = absurd cc
  by_state Opened e (inr h) = h
  by_state BoundTx e (inl c) = absurd cc
  by_state BoundTx e (inr h) = h
  by_state BoundRx e (inl c) = absurd cc
  by_state BoundRx e (inr h) = h
  by_state BoundTrx e (inl c) = absurd cc
  by_state BoundTrx e (inr h) = h
  by_state Unbinding e (inl c) = absurd cc
  by_state Unbinding e (inr h) = h
  by_state Finishing e (inl c) = absurd cc
  by_state Finishing e (inr h) = h
  by_state Broken e h = by_closed (bound_behind (is_bound s.conversation.state) acts)

-- ---- lists of calls

pub record KeepsPromises (c : SessionView × List Action) : Type 0 where
  pub waiting : IsWindow c.0.conversation.unanswered
  pub number : IsSequenceNumber c.0.conversation.next_number
  pub reads : AllByRecursion ReadsAsItsCommand c.1

in_window : (conversation : Conversation) → if_room conversation ≡ None → length conversation.unanswered < 10
in_window conversation e = by_test (ltb (length conversation.unanswered) 10) refl e where
  by_test : (b : Bool) → ltb (length conversation.unanswered) 10 ≡ b → cond b None (Some WindowFull) ≡ None → length conversation.unanswered < 10
  by_test true t h = ltb-true (length conversation.unanswered) 10 t
  by_test false t h = absurd cc

room : (state : SessionState) (conversation : Conversation) → fault_in state conversation ≡ None → length conversation.unanswered < 10
room Opened conversation e = absurd cc
room BoundTx conversation e = absurd cc
room BoundRx conversation e = in_window conversation e
room BoundTrx conversation e = in_window conversation e
room Unbinding conversation e = absurd cc
room Finishing conversation e = absurd cc
room Broken conversation e = absurd cc
room Closed conversation e = absurd cc

delivering_preserved : (s : SessionView) (message : Message) (f : Option DeliverFault) → delivery_fault s.conversation ≡ f → IsWindow s.conversation.unanswered → IsSequenceNumber s.conversation.next_number → KeepsPromises (delivering s message f)
delivering_preserved s message (Some fault) e waiting number = record { waiting = waiting; number = number; reads = tt }
delivering_preserved s message None e waiting number =
    let few = room s.conversation.state s.conversation e in
    let own = free_is_number s.conversation.next_number s.conversation.unanswered number in
    record {
      waiting = window_added (number_to_send s.conversation) s.conversation.unanswered waiting few (free_is_free s.conversation.next_number s.conversation.unanswered few) own;
      number = after_is_number (number_to_send s.conversation) own;
      reads = (tt, tt);
    }

sending_reads : (o : Option (List ℕ)) → AllByRecursion ReadsAsItsCommand (sending o)
sending_reads None = tt
sending_reads (Some octets) = (tt, tt)

after_window : (b : Bool) (owed : List ℕ) (c : Conversation) → IsWindow c.unanswered → IsSequenceNumber c.next_number
    → IsWindow (cond b (closed_conversation c) (record c { owed = owed })).unanswered × IsSequenceNumber (cond b (closed_conversation c) (record c { owed = owed })).next_number
after_window true owed c waiting number = (no_window, number)
after_window false owed c waiting number = (waiting, number)

unbinding_window : (b : Bool) (c : Conversation) → IsWindow c.unanswered → IsSequenceNumber c.next_number
    → IsWindow (cond b (record c { state = Unbinding }) c).unanswered × IsSequenceNumber (cond b (record c { state = Unbinding }) c).next_number
unbinding_window true c waiting number = (waiting, number)
unbinding_window false c waiting number = (waiting, number)

called_preserved : (s : SessionView) (call : Call) → IsWindow s.conversation.unanswered → IsSequenceNumber s.conversation.next_number → KeepsPromises (called s call)
called_preserved s (FullCall full) waiting number = record { waiting = waiting; number = number; reads = tt }
called_preserved s (Feed xs) waiting number = let h = fed_sound s xs waiting number in record { waiting = h.waiting; number = h.number; reads = h.reads }
called_preserved s (Answer n answer) waiting number =
    let c = after_window (is_last n s.conversation) (owed_behind n s.conversation) s.conversation waiting number in
    record { waiting = c.0; number = c.1; reads = sending_reads (answered s.conversation n answer) }
called_preserved s (Deliver message) waiting number = delivering_preserved s message (delivery_fault s.conversation) refl waiting number
called_preserved s UnbindCall waiting number =
    let c = unbinding_window (may_unbind s.conversation.state) s.conversation waiting number in
    record { waiting = c.0; number = c.1; reads = sending_reads (unbinding s.conversation.state) }
called_preserved s Close waiting number = record { waiting = no_window; number = number; reads = tt }

ran_preserved : (c : SessionView × List Action) (calls : List Call) → KeepsPromises c → KeepsPromises (ran c calls)
ran_preserved c [] h = h
ran_preserved c (call ∷ calls) h =
    let next = called_preserved c.0 call h.waiting h.number in
    ran_preserved (and_then c (called c.0 call)) calls (record { waiting = next.waiting; number = next.number; reads = all_append ReadsAsItsCommand c.1 (called c.0 call).1 h.reads next.reads })

pub opened_preserved : (accounts : List Account) (calls : List Call) → KeepsPromises (ran (opened accounts, []) calls)
opened_preserved accounts calls = ran_preserved (opened accounts, []) calls (record { waiting = no_window; number = (omega arith, omega arith); reads = tt })

pub number_is_preserved : (accounts : List Account) (calls : List Call) → IsSequenceNumber (number_to_send (ran (opened accounts, []) calls).0.conversation)
number_is_preserved accounts calls =
    let conversation = (ran (opened accounts, []) calls).0.conversation in
    free_is_number conversation.next_number conversation.unanswered (opened_preserved accounts calls).number

pub told_over : (accounts : List Account) (calls : List Call) (xs : List ℕ) → is_bound (fed (ran (opened accounts, []) calls).0 xs).0.conversation.state ≡ bound_as_reported (ran (opened accounts, []) calls).0 xs
told_over accounts calls xs = let h = opened_preserved accounts calls in told (ran (opened accounts, []) calls).0 xs h.waiting h.number

-- ---- a closed session

record IsQuiet (c : SessionView × List Action) : Type 0 where
  closed : c.0.conversation.state ≡ Closed
  nothing : c.1 ≡ []

feed_quiet : (s : SessionView) (xs : List ℕ) → s.conversation.state ≡ Closed → IsQuiet (fed s xs)
feed_quiet s xs e =
    let none : stream s.accounts (turn_of s, []) (s.buffered ++ xs) ≡ (turn_of s, []) = dropped s.accounts (turn_of s) (s.buffered ++ xs) (closed_deaf s.conversation.state e) in
    record { closed = ap (λ (c : StreamProgress). c.0.conversation.state) none ∙ e; nothing = ap (λ (c : StreamProgress). c.0.actions) none }

pub answered_state : (b : Bool) (owed : List ℕ) (c : Conversation) → c.state ≡ Closed → (cond b (closed_conversation c) (record c { owed = owed })).state ≡ Closed
answered_state true owed c e = refl
answered_state false owed c e = e

call_quiet : (s : SessionView) (call : Call) → s.conversation.state ≡ Closed → IsQuiet (called s call)
call_quiet s (FullCall full) e = record { closed = e; nothing = refl }
call_quiet s (Feed xs) e = feed_quiet s xs e
call_quiet s (Answer n answer) e = record {
  closed = answered_state (is_last n s.conversation) (owed_behind n s.conversation) s.conversation e;
  nothing = ap (λ (state : SessionState). sending (answered (record s.conversation { state = state }) n answer)) e;
}
call_quiet s (Deliver message) e =
    let none : delivery_fault s.conversation ≡ Some NotBound = ap (λ (state : SessionState). fault_in state s.conversation) e in
    subst (λ (f : Option DeliverFault). IsQuiet (delivering s message f)) (sym none) (record { closed = e; nothing = refl })
call_quiet s UnbindCall e =
    let no : may_unbind s.conversation.state ≡ false = ap may_unbind e in record {
      closed = ap (λ (b : Bool). (cond b (record s.conversation { state = Unbinding }) s.conversation).state) no ∙ e;
      nothing = ap (λ (state : SessionState). sending (unbinding state)) e;
    }
call_quiet s Close e = record { closed = refl; nothing = refl }

pub closed_is_quiet : (s : SessionView) (before : List Action) (calls : List Call) → s.conversation.state ≡ Closed → ((ran (s, before) calls).0.conversation.state ≡ Closed) × ((ran (s, before) calls).1 ≡ before)
closed_is_quiet s before [] e = (e, refl)
closed_is_quiet s before (call ∷ calls) e =
    let q = call_quiet s call e in
    let rest = closed_is_quiet (called s call).0 (before ++ (called s call).1) calls q.closed in
    (rest.0, rest.1 ∙ (ap (λ (acts : List Action). before ++ acts) q.nothing ∙ append-nil before))
