-- However the octets were cut, the actions are the same.
use Rattle.std.proofs.Common.{◌≡◌, ◌⊎◌, inl, inr, ℕ, Bool, true, false, cond, List, [], ◌∷◌, ◌++◌, Option, Some, None, refl, sym, ap, subst, ◌∙◌, append_assoc}
use Rattle.std.proofs.lemmas.List.{append-nil}
use Rattle.smpp_pdu.specs.declared.message.Message.{Message}
use Rattle.smpp_pdu.specs.Writing.{written}
use Rattle.smpp_session.specs.declared.account.Account.{Account}
use Rattle.smpp_session.specs.declared.action.Action.{Action}
use Rattle.smpp_session.specs.declared.action.Action.TheVariants.{Send}
use Rattle.smpp_session.specs.declared.calling.Call.{Call}
use Rattle.smpp_session.specs.declared.calling.Call.TheVariants.{Full, Feed, Answer, Deliver, Unbind, Close}
use Rattle.smpp_session.specs.declared.fault.DeliverFault.{DeliverFault}
use Rattle.smpp_session.specs.declared.front.Front.{Front}
use Rattle.smpp_session.specs.declared.front.Front.TheVariants.{Waiting, Whole, BadLength, Dropped}
use Rattle.smpp_session.specs.declared.conversation.SessionState.{SessionState}
use Rattle.smpp_session.specs.declared.conversation.SessionState.TheVariants.{Opened, BoundTx, BoundRx, BoundTrx, Unbinding, Finishing, Broken, Closed}
use Rattle.smpp_session.specs.declared.conversation.Conversation.{Conversation}
use Rattle.smpp_session.specs.declared.turn.SessionStep.{SessionStep}
use Rattle.smpp_session.specs.Stream.{front_of}
use Rattle.smpp_session.specs.SessionRun.{StreamProgress, fronted, one_more, stream}
use Rattle.smpp_session.specs.Sessions.{SessionView, opened, turn_of, after_stream, with_more, treated_input, fed, delivery_fault, deliver_pdu, for_version, may_unbind, number_to_send, after_delivery, with_full}
use Rattle.smpp_session.specs.Answers.{is_last, owed_behind}
use Rattle.smpp_session.specs.SessionTable.{closed_conversation}
use Rattle.smpp_session.specs.Calls.{called, delivering, and_then, ran, singles, each_octet}
use Rattle.smpp_session.proofs.Cutting.{stream-append, waiting_preserved}
use Rattle.smpp_session.proofs.Adding.{progress_behind, stream_behind}

abbrev Given : Type 0
Given = SessionView × List Action

-- ---- what is buffered is treated no further

abbrev pub WaitsOrEmpty : SessionState → List ℕ → Type 0
WaitsOrEmpty state buffered = (front_of state buffered ≡ Waiting) ⊎ (buffered ≡ [])

abbrev pub WaitsInBuffer : SessionView → Type 0
WaitsInBuffer session = WaitsOrEmpty session.conversation.state session.buffered

fronted_preserved : (accounts : List Account) (f : Front) (turn : SessionStep) (xs : List ℕ) → front_of turn.conversation.state xs ≡ f → WaitsOrEmpty (fronted accounts f turn xs).0.conversation.state (fronted accounts f turn xs).1
fronted_preserved accounts Waiting turn xs e = inl e
fronted_preserved accounts (Whole len) turn xs e = inr refl
fronted_preserved accounts BadLength turn xs e = inr refl
fronted_preserved accounts Dropped turn xs e = inr refl

more_preserved : (accounts : List Account) (c : StreamProgress) (x : ℕ) → WaitsOrEmpty (one_more accounts c x).0.conversation.state (one_more accounts c x).1
unfolding one_more
more_preserved accounts c x = fronted_preserved accounts (front_of c.0.conversation.state (c.1 ++ x ∷ [])) c.0 (c.1 ++ x ∷ []) refl

stream_preserved : (accounts : List Account) (c : StreamProgress) (xs : List ℕ) → WaitsOrEmpty c.0.conversation.state c.1 → WaitsOrEmpty (stream accounts c xs).0.conversation.state (stream accounts c xs).1
unfolding stream
stream_preserved accounts c [] h = h
stream_preserved accounts c (x ∷ xs) h = stream_preserved accounts (one_more accounts c x) xs (more_preserved accounts c x)

preserved_again : (accounts : List Account) (turn : SessionStep) (xs : List ℕ) → WaitsOrEmpty turn.conversation.state xs → stream accounts (turn, []) xs ≡ (turn, xs)
unfolding stream
preserved_again accounts turn xs (inl e) = waiting_preserved accounts turn xs e
preserved_again accounts turn xs (inr e) = nothing xs e where
  nothing : (ys : List ℕ) → ys ≡ [] → stream accounts (turn, []) ys ≡ (turn, ys)
  nothing [] e = refl
  nothing (y ∷ ys) e = absurd cc

pub fed_preserved : (s : SessionView) (xs : List ℕ) → WaitsInBuffer (fed s xs).0
fed_preserved s xs = stream_preserved s.accounts (turn_of s, []) (s.buffered ++ xs) (inr refl)

-- ---- feed

feed_none : (s : SessionView) → WaitsInBuffer s → fed s [] ≡ (s, [])
feed_none s h = ap (after_stream s) (ap (stream s.accounts (turn_of s, [])) (append-nil s.buffered) ∙ preserved_again s.accounts (turn_of s) s.buffered h)

pub feed_joins : (s : SessionView) (xs ys : List ℕ) → fed s (xs ++ ys) ≡ and_then (fed s xs) (fed (fed s xs).0 ys)
feed_joins s xs ys = from (stream s.accounts (turn_of s, []) (s.buffered ++ xs)) refl where
  with_actions : StreamProgress → List Action → StreamProgress
  with_actions c acts = (record { conversation = c.0.conversation; actions = acts }, c.1)

  from : (c : StreamProgress) → stream s.accounts (turn_of s, []) (s.buffered ++ xs) ≡ c → fed s (xs ++ ys) ≡ and_then (fed s xs) (fed (fed s xs).0 ys)
  from c is =
      let kept : WaitsOrEmpty c.0.conversation.state c.1 = subst (λ (d : StreamProgress). WaitsOrEmpty d.0.conversation.state d.1) is (stream_preserved s.accounts (turn_of s, []) (s.buffered ++ xs) (inr refl)) in
      let again : stream s.accounts (turn_of (after_stream s c).0, []) (c.1 ++ ys) ≡ stream s.accounts (turn_of (after_stream s c).0, c.1) ys =
      stream-append s.accounts (turn_of (after_stream s c).0, []) c.1 ys
      ∙ ap (λ (d : StreamProgress). stream s.accounts d ys) (preserved_again s.accounts (turn_of (after_stream s c).0) c.1 kept)
      in
      let whole : progress_behind c.0.actions (turn_of (after_stream s c).0, c.1) ≡ c = ap (λ (acts : List Action). with_actions c acts) (append-nil c.0.actions) in
      let left : fed s (xs ++ ys) ≡ after_stream s (stream s.accounts c ys) =
      ap (λ (zs : List ℕ). after_stream s (stream s.accounts (turn_of s, []) zs)) (sym (append_assoc s.buffered xs ys))
      ∙ (ap (after_stream s) (stream-append s.accounts (turn_of s, []) (s.buffered ++ xs) ys)
      ∙ ap (λ (d : StreamProgress). after_stream s (stream s.accounts d ys)) is)
      in
      let middle : after_stream s (stream s.accounts c ys) ≡ after_stream s (progress_behind c.0.actions (stream s.accounts (turn_of (after_stream s c).0, c.1) ys)) =
      ap (λ (d : StreamProgress). after_stream s (stream s.accounts d ys)) (sym whole)
      ∙ ap (after_stream s) (stream_behind c.0.actions s.accounts (turn_of (after_stream s c).0, c.1) ys)
      in
      let right : and_then (after_stream s c) (fed (after_stream s c).0 ys) ≡ after_stream s (progress_behind c.0.actions (stream s.accounts (turn_of (after_stream s c).0, c.1) ys)) =
      ap (λ (d : StreamProgress). after_stream s (progress_behind c.0.actions d)) again
      in
      let same : and_then (after_stream s c) (fed (after_stream s c).0 ys) ≡ and_then (fed s xs) (fed (fed s xs).0 ys) =
      ap (λ (d : StreamProgress). and_then (after_stream s d) (fed (after_stream s d).0 ys)) (sym is)
      in
      left ∙ (middle ∙ (sym right ∙ same))

pub feed_waits : (s next : SessionView) (xs : List ℕ) (actions : List Action) → next ≡ with_more xs s → Waiting ≡ front_of next.conversation.state next.buffered → actions ≡ []
    → (let given : Given = (next, actions) in fed s xs ≡ given)
feed_waits s next xs actions is e none =
    ap treated_input (sym is)
    ∙ (ap (after_stream next) (waiting_preserved next.accounts (turn_of next) next.buffered (sym e))
    ∙ ap (λ (more : List Action). pair more) (sym none)) where
      pair : List Action → Given
      pair more = (next, more)

-- ---- calls

pub ran-append : (c : Given) (xs ys : List Call) → ran c (xs ++ ys) ≡ ran (ran c xs) ys
ran-append c [] ys = refl
ran-append c (x ∷ xs) ys = ran-append (and_then c (called c.0 x)) xs ys

delivering_preserved : (s : SessionView) (message : Message) (f : Option DeliverFault) → WaitsInBuffer s → WaitsInBuffer (delivering s message f).0
delivering_preserved s message None h = h
delivering_preserved s message (Some fault) h = h

answered_waits : (b : Bool) (c : Conversation) (owed buffered : List ℕ) → WaitsOrEmpty c.state buffered
    → WaitsOrEmpty (cond b (closed_conversation c) (record c { owed = owed })).state (cond b [] buffered)
answered_waits true c owed buffered h = inr refl
answered_waits false c owed buffered h = h

-- a session that may send an unbind cuts octets before and behind it
same_front : (state : SessionState) (xs : List ℕ) → may_unbind state ≡ true → front_of state xs ≡ front_of Unbinding xs
same_front Opened xs e = absurd cc
same_front BoundTx xs e = refl
same_front BoundRx xs e = refl
same_front BoundTrx xs e = refl
same_front Unbinding xs e = absurd cc
same_front Finishing xs e = absurd cc
same_front Broken xs e = absurd cc
same_front Closed xs e = absurd cc

unbinding_waits : (b : Bool) (c : Conversation) (buffered : List ℕ) → may_unbind c.state ≡ b → WaitsOrEmpty c.state buffered
    → WaitsOrEmpty (cond b (record c { state = Unbinding }) c).state buffered
unbinding_waits true c buffered e (inl h) = inl (sym (same_front c.state buffered e) ∙ h)
unbinding_waits true c buffered e (inr h) = inr h
unbinding_waits false c buffered e h = h

called_preserved : (s : SessionView) (call : Call) → WaitsInBuffer s → WaitsInBuffer (called s call).0
called_preserved s (Full full) h = h
called_preserved s (Feed xs) h = fed_preserved s xs
called_preserved s (Answer number answer) h =
    answered_waits (is_last number s.conversation) s.conversation (owed_behind number s.conversation) s.buffered h
called_preserved s Unbind h = unbinding_waits (may_unbind s.conversation.state) s.conversation s.buffered refl h
called_preserved s (Deliver message) h = delivering_preserved s message (delivery_fault s.conversation) h
called_preserved s Close h = inr refl

regroup : (s : SessionView) (acts : List Action) (r q t : SessionView × List Action) → t ≡ and_then r q → and_then (r.0, acts ++ r.1) q ≡ and_then (s, acts) t
regroup s acts r q t e = ap (λ (more : List Action). pair more) (append_assoc acts r.1 q.1) ∙ ap (and_then (s, acts)) (sym e) where
  pair : List Action → SessionView × List Action
  pair more = (q.0, more)

ran_singles : (s : SessionView) (acts : List Action) (xs : List ℕ) → WaitsInBuffer s → ran (s, acts) (singles xs) ≡ and_then (s, acts) (fed s xs)
ran_singles s acts [] h =
    let none : and_then (s, acts) (fed s []) ≡ (s, acts ++ []) = ap (and_then (s, acts)) (feed_none s h) in
    sym (none ∙ ap (λ (more : List Action). pair more) (append-nil acts)) where
      pair : List Action → SessionView × List Action
      pair more = (s, more)
ran_singles s acts (x ∷ xs) h =
    ran_singles (fed s (x ∷ [])).0 (acts ++ (fed s (x ∷ [])).1) xs (fed_preserved s (x ∷ []))
    ∙ regroup s acts (fed s (x ∷ [])) (fed (fed s (x ∷ [])).0 xs) (fed s (x ∷ xs)) (feed_joins s (x ∷ []) xs)

pub by_octets : (s : SessionView) (acts : List Action) (calls : List Call) → WaitsInBuffer s → ran (s, acts) calls ≡ ran (s, acts) (each_octet calls)
by_octets s acts [] h = refl
by_octets s acts (Full full ∷ calls) h = by_octets (with_full full s) (acts ++ []) calls h
by_octets s acts (Feed xs ∷ calls) h =
    by_octets (fed s xs).0 (acts ++ (fed s xs).1) calls (fed_preserved s xs)
    ∙ (ap (λ (c : SessionView × List Action). ran c (each_octet calls)) (sym (ran_singles s acts xs h))
    ∙ sym (ran-append (s, acts) (singles xs) (each_octet calls)))
by_octets s acts (Answer number answer ∷ calls) h =
    by_octets (called s (Answer number answer)).0 (acts ++ (called s (Answer number answer)).1) calls (called_preserved s (Answer number answer) h)
by_octets s acts (Deliver message ∷ calls) h =
    by_octets (called s (Deliver message)).0 (acts ++ (called s (Deliver message)).1) calls (called_preserved s (Deliver message) h)
by_octets s acts (Unbind ∷ calls) h =
    by_octets (called s Unbind).0 (acts ++ (called s Unbind).1) calls (called_preserved s Unbind h)
by_octets s acts (Close ∷ calls) h =
    by_octets (called s Close).0 (acts ++ (called s Close).1) calls (called_preserved s Close h)

pub however_cut : (accounts : List Account) (calls other : List Call) → each_octet other ≡ each_octet calls → ran (opened accounts, []) calls ≡ ran (opened accounts, []) other
however_cut accounts calls other same =
    by_octets (opened accounts) [] calls (inr refl)
    ∙ (ap (ran (opened accounts, [])) (sym same) ∙ sym (by_octets (opened accounts) [] other (inr refl)))

-- ---- as the walk over the calls goes

pub ran_one : (start c d : SessionView × List Action) (calls : List Call) (call : Call) → ran start calls ≡ c → d ≡ and_then c (called c.0 call) → ran start (calls ++ call ∷ []) ≡ d
ran_one start c d calls call is next =
    ran-append start calls (call ∷ []) ∙ (ap (λ (q : SessionView × List Action). ran q (call ∷ [])) is ∙ sym next)

pub deliver_called : (s next : SessionView) (acts more : List Action) (message : Message) (octets : List ℕ) (number : ℕ) → delivery_fault s.conversation ≡ None → number ≡ number_to_send s.conversation
    → octets ≡ written (deliver_pdu number (for_version s.conversation.interface_version message)) → next ≡ after_delivery s → more ≡ acts ++ Send octets ∷ []
    → (let given : SessionView × List Action = (next, more) in given ≡ and_then (s, acts) (called s (Deliver message)))
deliver_called s next acts more message octets number room number_is octets_is next_is more_is =
    let fit = for_version s.conversation.interface_version message in
    let octets_here : octets ≡ written (deliver_pdu (number_to_send s.conversation) fit) = octets_is ∙ ap (λ (n : ℕ). written (deliver_pdu n fit)) number_is in
    let gives : and_then (s, acts) (called s (Deliver message)) ≡ and_then (s, acts) (delivering s message None) = ap (λ (f : Option DeliverFault). and_then (s, acts) (delivering s message f)) room in
    ap (λ (q : SessionView). pair q more) next_is
    ∙ (ap (λ (m : List Action). pair (after_delivery s) m) (more_is ∙ ap (λ (o : List ℕ). acts ++ Send o ∷ []) octets_here) ∙ sym gives) where
      pair : SessionView → List Action → SessionView × List Action
      pair q m = (q, m)
