-- What is bound is not among the accounts that are full.
use Rattle.std.proofs.Common.{◌≡◌, ℕ, Bool, true, false, cond, eqb, ltb, List, [], ◌∷◌, ◌++◌, Option, Some, None, Result, Ok, Err, refl, sym, ap, subst, ◌∙◌}
use Rattle.std.specs.List.{AllByRecursion}
use Rattle.sms_base.proofs.Lists.{all_append}
use Rattle.smpp_pdu.specs.declared.fault.PduFault.{PduFault}
use Rattle.smpp_pdu.specs.declared.command.CommandId.{CommandId}
use Rattle.smpp_pdu.specs.declared.status.CommandStatus.{CommandStatus}
use Rattle.smpp_pdu.specs.declared.status.CommandStatus.TheVariants.{ESME_ROK, ESME_RINVCMDLEN, ESME_RINVCMDID, ESME_RBINDFAIL, ESME_RINVPASWD, ESME_RINVSYSID}
use Rattle.smpp_pdu.specs.declared.bind.Bind.{Bind}
use Rattle.smpp_pdu.specs.declared.body.Body.{Body}
use Rattle.smpp_pdu.specs.declared.body.Body.TheVariants.{BindReceiver, BindTransmitter, BindTransceiver, SubmitSm, QuerySm, CancelSm, Unbind, EnquireLink, GenericNack, DeliverSmResp, UnbindResp, EnquireLinkResp}
use Rattle.smpp_pdu.specs.declared.header.Header.{Header}
use Rattle.smpp_pdu.specs.declared.pdu.Pdu.{Pdu}
use Rattle.smpp_pdu.specs.Commands.{command_of}
use Rattle.smpp_pdu.specs.PduReading.{pdu_at}
use Rattle.smpp_pdu.specs.Writing.{written}
use Rattle.smpp_session.specs.declared.account.Account.{Account}
use Rattle.smpp_session.specs.declared.account.Login.{Login}
use Rattle.smpp_session.specs.declared.account.Login.TheVariants.{Known, UnknownName, WrongPassword, Full}
use Rattle.smpp_session.specs.declared.action.Action.{Action}
use Rattle.smpp_session.specs.declared.action.Action.TheVariants.{Send, Bound, Submit, Query, Cancel, DeliverAnswered, BindRefused, Unbound}
use Rattle.smpp_session.specs.declared.action.BindKind.{BindKind}
use Rattle.smpp_session.specs.declared.action.BindKind.TheVariants.{Transmitter, Receiver, Transceiver}
use Rattle.smpp_session.specs.declared.front.Front.{Front}
use Rattle.smpp_session.specs.declared.front.Front.TheVariants.{Waiting, Whole, BadLength, Dropped}
use Rattle.smpp_session.specs.declared.table.Judgement.{Judgement}
use Rattle.smpp_session.specs.declared.table.Judgement.TheVariants.{Read, Refused, Ignored}
use Rattle.smpp_session.specs.declared.turn.SessionStep.{SessionStep}
use Rattle.smpp_session.specs.Logins.{admitted, is_full, login}
use Rattle.smpp_session.specs.Promises.{HasRoom}
use Rattle.smpp_session.specs.Sessions.{SessionView, turn_of, fed}
use Rattle.smpp_session.specs.SessionRun.{StreamProgress, fronted, one_more, stream}
use Rattle.smpp_session.specs.SessionTable.{judged, judged_fault, refusal, without_bind_resp, priority_of, given, sent, bound_turn, in_conversation, logged_in, bind_taken, delivered, taken, refused, read, judging, by_command, treated, bad_length}
use Rattle.smpp_session.specs.SessionTable.{accepting_bind, bind_refused, broken_by, kind_of_command, left_by, name_of, passed_up, refused_by, unbind_number, unbound_by}
use Rattle.smpp_session.specs.Stream.{header_at, front_of}
use Rattle.smpp_session.specs.Windows.{is_among, without}

-- while those accounts are full
record IsRoomy (full : List Bool) (turn : SessionStep) : Type 0 where
  same : turn.conversation.full ≡ full
  room : AllByRecursion (HasRoom full) turn.actions

given_roomy : (full : List Bool) (action : Action) (turn : SessionStep) → HasRoom full action → IsRoomy full turn → IsRoomy full (given action turn)
given_roomy full action turn r h = record { same = h.same; room = all_append (HasRoom full) turn.actions (action ∷ []) h.room (r, tt) }

sent_roomy : (full : List Bool) (body : Body) (status : CommandStatus) (n : ℕ) (turn : SessionStep) → IsRoomy full turn → IsRoomy full (sent body status n turn)
unfolding sent
sent_roomy full body status n turn h = given_roomy full (Send (written _)) turn tt h

bind_refused_roomy : (full : List Bool) (body : Body) (status : CommandStatus) (n : ℕ) (name : List ℕ) (turn : SessionStep) → IsRoomy full turn → IsRoomy full (bind_refused body status n name turn)
bind_refused_roomy full body status n name turn h = given_roomy full (BindRefused status name) (sent body status n turn) tt (sent_roomy full body status n turn h)

-- what a login says that is admitted
abbrev Admits : List Bool → Login → Type 0
Admits full (Known place) = is_full place full ≡ false
Admits full UnknownName = Unit {0}
Admits full WrongPassword = Unit {0}
Admits full Full = Unit {0}

admits : (full : List Bool) (l : Login) → Admits full (admitted full l)
admits full (Known place) = by_test (is_full place full) refl where
  by_test : (b : Bool) → is_full place full ≡ b → Admits full (cond b Full (Known place))
  by_test true e = tt
  by_test false e = e
admits full UnknownName = tt
admits full WrongPassword = tt
admits full Full = tt

logged_in_roomy : (full : List Bool) (kind : BindKind) (n : ℕ) (bind : Bind) (l : Login) (turn : SessionStep) → Admits full l → IsRoomy full turn → IsRoomy full (logged_in kind n bind l turn)
logged_in_roomy full kind n bind (Known place) turn a h =
    let said = Send (accepting_bind kind bind.interface_version n) in
    let g = given_roomy full (Bound place kind) (given said turn) a (given_roomy full said turn tt h) in
    record { same = g.same; room = g.room }
logged_in_roomy full kind n bind UnknownName turn a h = bind_refused_roomy full (without_bind_resp kind) ESME_RINVSYSID n bind.system_id turn h
logged_in_roomy full kind n bind WrongPassword turn a h = bind_refused_roomy full (without_bind_resp kind) ESME_RINVPASWD n bind.system_id turn h
logged_in_roomy full kind n bind Full turn a h = bind_refused_roomy full (without_bind_resp kind) ESME_RBINDFAIL n bind.system_id turn h

bind_roomy : (full : List Bool) (accounts : List Account) (kind : BindKind) (n : ℕ) (bind : Bind) (turn : SessionStep) → IsRoomy full turn → IsRoomy full (bind_taken accounts kind n bind turn)
bind_roomy full accounts kind n bind turn h =
    let l = login 0 bind.system_id bind.password accounts in
    logged_in_roomy full kind n bind (admitted turn.conversation.full l) turn
    (subst (λ (f : List Bool). Admits full (admitted f l)) (sym h.same) (admits full l)) h

passed_roomy : (full : List Bool) (action : Action) (n : ℕ) (turn : SessionStep) → HasRoom full action → IsRoomy full turn → IsRoomy full (passed_up action n turn)
passed_roomy full action n turn r h = let g = given_roomy full action turn r h in record { same = g.same; room = g.room }

unbound_roomy : (full : List Bool) (owed : List ℕ) (n : ℕ) (turn : SessionStep) → IsRoomy full turn → IsRoomy full (unbound_by owed n turn)
unbound_roomy full [] n turn h =
    let g = given_roomy full Unbound (sent UnbindResp ESME_ROK n turn) tt (sent_roomy full UnbindResp ESME_ROK n turn h) in
    record { same = g.same; room = g.room }
unbound_roomy full (first ∷ owed) n turn h = let g = given_roomy full Unbound turn tt h in record { same = g.same; room = g.room }

left_roomy : (full : List Bool) (owed : List ℕ) (turn : SessionStep) → IsRoomy full turn → IsRoomy full (left_by owed turn)
left_roomy full [] turn h = let g = given_roomy full Unbound turn tt h in record { same = g.same; room = g.room }
left_roomy full (first ∷ owed) turn h = let g = given_roomy full Unbound turn tt h in record { same = g.same; room = g.room }

left_if : (full : List Bool) (b : Bool) (turn : SessionStep) → IsRoomy full turn → IsRoomy full (cond b (left_by turn.conversation.owed turn) turn)
left_if full true turn h = left_roomy full turn.conversation.owed turn h
left_if full false turn h = h

broken_roomy : (full : List Bool) (owed : List ℕ) (turn : SessionStep) → IsRoomy full turn → IsRoomy full (broken_by owed turn)
broken_roomy full [] turn h = record { same = h.same; room = h.room }
broken_roomy full (first ∷ owed) turn h = record { same = h.same; room = h.room }

delivered_roomy : (full : List Bool) (n : ℕ) (accepted : Bool) (turn : SessionStep) → IsRoomy full turn → IsRoomy full (delivered n accepted turn)
delivered_roomy full n accepted turn h = by_test (is_among n turn.conversation.unanswered) where
  told : IsRoomy full (given (DeliverAnswered n accepted) turn)
  told = given_roomy full (DeliverAnswered n accepted) turn tt h

  answered_turn : SessionStep
  answered_turn = record {
    conversation = record turn.conversation { unanswered = without n turn.conversation.unanswered };
    actions = turn.actions ++ DeliverAnswered n accepted ∷ [];
  }

  by_test : (b : Bool) → IsRoomy full (cond b answered_turn turn)
  by_test true = record { same = told.same; room = told.room }
  by_test false = h

taken_roomy : (full : List Bool) (accounts : List Account) (octets : List ℕ) (n : ℕ) (pdu : Pdu) (body : Body) (turn : SessionStep) → IsRoomy full turn → IsRoomy full (taken accounts octets n pdu body turn)
taken_roomy full accounts octets n pdu (BindTransmitter bind) turn h = bind_roomy full accounts Transmitter n bind turn h
taken_roomy full accounts octets n pdu (BindReceiver bind) turn h = bind_roomy full accounts Receiver n bind turn h
taken_roomy full accounts octets n pdu (BindTransceiver bind) turn h = bind_roomy full accounts Transceiver n bind turn h
taken_roomy full accounts octets n pdu (SubmitSm message) turn h = passed_roomy full (Submit octets (priority_of message.priority_flag)) n turn tt h
taken_roomy full accounts octets n pdu (QuerySm query) turn h = passed_roomy full (Query octets) n turn tt h
taken_roomy full accounts octets n pdu (CancelSm cancel) turn h = passed_roomy full (Cancel octets) n turn tt h
taken_roomy full accounts octets n pdu Unbind turn h = unbound_roomy full turn.conversation.owed n turn h
taken_roomy full accounts octets n pdu UnbindResp turn h = left_if full (eqb n unbind_number) turn h
taken_roomy full accounts octets n pdu EnquireLink turn h = sent_roomy full EnquireLinkResp ESME_ROK n turn h
taken_roomy full accounts octets n pdu (DeliverSmResp body) turn h = delivered_roomy full n (eqb pdu.command_status 0) turn h
taken_roomy full accounts octets n pdu GenericNack turn h = delivered_roomy full n false turn h
taken_roomy full accounts octets n pdu body turn h = h

refused_by_roomy : (full : List Bool) (kind : Option BindKind) (c : CommandId) (status : CommandStatus) (n : ℕ) (name : List ℕ) (turn : SessionStep) → IsRoomy full turn → IsRoomy full (refused_by kind c status n name turn)
refused_by_roomy full (Some kind) c status n name turn h = bind_refused_roomy full (without_bind_resp kind) status n name turn h
refused_by_roomy full None c status n name turn h = sent_roomy full (refusal c) status n turn h

refused_roomy : (full : List Bool) (octets : List ℕ) (c : CommandId) (n : ℕ) (j : Judgement) (turn : SessionStep) → IsRoomy full turn → IsRoomy full (refused octets c n j turn)
refused_roomy full octets c n (Refused status) turn h = refused_by_roomy full (kind_of_command c) c status n (name_of (pdu_at octets)) turn h
refused_roomy full octets c n Ignored turn h = h
refused_roomy full octets c n Read turn h = h

read_roomy : (full : List Bool) (accounts : List Account) (octets : List ℕ) (c : CommandId) (n : ℕ) (r : Result Pdu PduFault) (turn : SessionStep) → IsRoomy full turn → IsRoomy full (read accounts octets c n r turn)
read_roomy full accounts octets c n (Ok pdu) turn h = taken_roomy full accounts octets n pdu pdu.body turn h
read_roomy full accounts octets c n (Err fault) turn h = refused_roomy full octets c n (judged_fault c fault) turn h

judging_roomy : (full : List Bool) (accounts : List Account) (octets : List ℕ) (c : CommandId) (n : ℕ) (j : Judgement) (turn : SessionStep) → IsRoomy full turn → IsRoomy full (judging accounts octets c n j turn)
judging_roomy full accounts octets c n Read turn h = read_roomy full accounts octets c n (pdu_at octets) turn h
judging_roomy full accounts octets c n (Refused status) turn h = refused_roomy full octets c n (Refused status) turn h
judging_roomy full accounts octets c n Ignored turn h = h

command_roomy : (full : List Bool) (accounts : List Account) (octets : List ℕ) (header : Header) (c : Option CommandId) (turn : SessionStep) → IsRoomy full turn → IsRoomy full (by_command accounts octets header c turn)
command_roomy full accounts octets header (Some c) turn h = judging_roomy full accounts octets c header.sequence_number (judged c turn.conversation.state) turn h
command_roomy full accounts octets header None turn h = by_test (ltb header.command_id 0x80000000) where
  by_test : (b : Bool) → IsRoomy full (cond b (sent GenericNack ESME_RINVCMDID header.sequence_number turn) turn)
  by_test true = sent_roomy full GenericNack ESME_RINVCMDID header.sequence_number turn h
  by_test false = h

treated_roomy : (full : List Bool) (accounts : List Account) (octets : List ℕ) (turn : SessionStep) → IsRoomy full turn → IsRoomy full (treated accounts octets turn)
unfolding treated
treated_roomy full accounts octets turn h = command_roomy full accounts octets (header_at octets) (command_of (header_at octets).command_id) turn h

bad_roomy : (full : List Bool) (octets : List ℕ) (turn : SessionStep) → IsRoomy full turn → IsRoomy full (bad_length octets turn)
unfolding bad_length
bad_roomy full octets turn h =
    broken_roomy full (sent GenericNack ESME_RINVCMDLEN (header_at octets).sequence_number turn).conversation.owed (sent GenericNack ESME_RINVCMDLEN (header_at octets).sequence_number turn)
    (sent_roomy full GenericNack ESME_RINVCMDLEN (header_at octets).sequence_number turn h)

fronted_roomy : (full : List Bool) (accounts : List Account) (f : Front) (turn : SessionStep) (octets : List ℕ) → IsRoomy full turn → IsRoomy full (fronted accounts f turn octets).0
fronted_roomy full accounts Waiting turn octets h = h
fronted_roomy full accounts (Whole len) turn octets h = treated_roomy full accounts octets turn h
fronted_roomy full accounts BadLength turn octets h = bad_roomy full octets turn h
fronted_roomy full accounts Dropped turn octets h = h

more_roomy : (full : List Bool) (accounts : List Account) (c : StreamProgress) (x : ℕ) → IsRoomy full c.0 → IsRoomy full (one_more accounts c x).0
unfolding one_more
more_roomy full accounts c x h = fronted_roomy full accounts (front_of c.0.conversation.state (c.1 ++ x ∷ [])) c.0 (c.1 ++ x ∷ []) h

stream_roomy : (full : List Bool) (accounts : List Account) (c : StreamProgress) (xs : List ℕ) → IsRoomy full c.0 → IsRoomy full (stream accounts c xs).0
unfolding stream
stream_roomy full accounts c [] h = h
stream_roomy full accounts c (x ∷ xs) h = stream_roomy full accounts (one_more accounts c x) xs (more_roomy full accounts c x h)

pub fed_full : (s : SessionView) (xs : List ℕ) → (fed s xs).0.conversation.full ≡ s.conversation.full
fed_full s xs = (stream_roomy s.conversation.full s.accounts (turn_of s, []) (s.buffered ++ xs) (record { same = refl; room = tt })).same

pub fed_has_room : (s : SessionView) (xs : List ℕ) → AllByRecursion (HasRoom s.conversation.full) (fed s xs).1
fed_has_room s xs = (stream_roomy s.conversation.full s.accounts (turn_of s, []) (s.buffered ++ xs) (record { same = refl; room = tt })).room

-- ---- a bind by what its name and password say

pub bind_by : (accounts : List Account) (kind : BindKind) (n : ℕ) (bind : Bind) (turn : SessionStep) (l m : Login) → login 0 bind.system_id bind.password accounts ≡ l
    → admitted turn.conversation.full l ≡ m → bind_taken accounts kind n bind turn ≡ logged_in kind n bind m turn
bind_by accounts kind n bind turn l m e f = ap (λ (x : Login). logged_in kind n bind x turn) (ap (admitted turn.conversation.full) e ∙ f)

pub full_is_refused : (full : List Bool) (place : ℕ) → is_full place full ≡ true → admitted full (Known place) ≡ Full
full_is_refused full place e = ap (λ (b : Bool). cond b Full (Known place)) e
