-- The stages of an event leave links and sessions sound over the rows that it began with; only the offers and receipts that follow
-- rest on the rows that it leaves.
use Rattle.std.proofs.Common.{◌≡◌, ℕ, List, [], ◌∷◌, Bool, Option, Some, None, Result, Ok, Err, refl, inl, inr}
use Rattle.std.specs.Prelude.{if◌then◌else◌}
use Rattle.std.proofs.lemmas.Bool.{cond_both}
use Rattle.sms_base.specs.Among.{Among}
use Rattle.sms_base.specs.declared.carried.Carried.{Carried}
use Rattle.sms_base.specs.declared.carried.Kind.{Kind}
use Rattle.sms_base.specs.declared.carried.Kind.TheVariants.{Ack, Error}
use Rattle.sms_base.specs.declared.holder.Holder.{Holder}
use Rattle.sms_control.specs.LinkStep.{fire_step, take_step}
use Rattle.sms_link.specs.declared.ending.Ending.{Ending}
use Rattle.sms_link.specs.declared.ending.Ending.TheVariants.{Lost}
use Rattle.sms_link.specs.declared.ending.Upward.{Upward}
use Rattle.sms_link.specs.declared.ending.Upward.TheVariants.{Opened, Ended}
use Rattle.sms_link.specs.LinkTurn.{fired as fired_link, replied, taken}
use Rattle.sms_relay.specs.declared.fault.RelayFault.{RelayFault}
use Rattle.sms_relay.specs.declared.frame.Rp.{Rp}
use Rattle.sms_relay.specs.declared.frame.Rp.TheVariants.{DataUnit, AckUnit, ErrorUnit, Smma}
use Rattle.sms_relay.specs.RelayGrammar.{ack_down}
use Rattle.sms_relay.specs.RelayReading.{up_at}
use Rattle.sms_rows.specs.table.Table.{row_at}
use Rattle.sms_rows.proofs.table.Tables.{found_among}
use Rattle.sms_tpdu.specs.declared.carrier.Carrier.TheVariants.{InData}
use Rattle.sms_tpdu.specs.TpduReading.{up_at as tpdu_up_at}
use Rattle.smpp_pdu.specs.declared.cancel.CancelSm.{CancelSm}
use Rattle.smpp_pdu.specs.declared.message.Message.{Message}
use Rattle.smpp_pdu.specs.declared.query.QuerySm.{QuerySm}
use Rattle.smpp_pdu.specs.declared.status.CommandStatus.{CommandStatus}
use Rattle.sms_centre_rows.specs.declared.messages.message.MessageRow.{MessageRow}
use Rattle.sms_centre_rows.specs.messages.Messages.{is_pending, message_at}
use Rattle.sms_centre_rows.specs.messages.SplitReferences.{is_among}
use Rattle.sms_centre_rows.specs.reports.Receipts.{Session, session_key}
use Rattle.sms_centre_rows.specs.declared.waiting.handset.HandsetRow.{HandsetRow}
use Rattle.sms_centre_rows.specs.declared.waiting.handset_link.HandsetLink.{HandsetLink}
use Rattle.sms_centre_rows.specs.waiting.Links.{Links, emptied, filled, link_at, link_of, lowered, put_link, raised as raised_link, turn_link}
use Rattle.sms_centre_rows.specs.waiting.References.{handset_at}
use Rattle.sms_centre_rows.specs.waiting.SoundAllocations.{IsNumber}
use Rattle.sms_intake.specs.declared.refusal.SubmitRefusal.{SubmitRefusal}
use Rattle.sms_intake.specs.declared.refusal.SubmitRefusal.TheVariants.{Duplicate, ReferenceTaken}
use Rattle.sms_intake.specs.HandsetIntake.{from_read}
use Rattle.sms_centre_spec.specs.declared.rows.Rows.{Rows}
use Rattle.sms_intake.specs.declared.submission.CentreAccount.{CentreAccount}
use Rattle.sms_intake.specs.declared.submission.Submission.{Submission}
use Rattle.sms_centre_spec.specs.declared.verdict.Verdict.{Verdict}
use Rattle.sms_centre_spec.specs.declared.verdict.Verdict.TheVariants.{Settled, HandsetFull, Again, Refused, Late}
use Rattle.sms_centre_spec.specs.Numbers.{id_in}
use Rattle.sms_intake.specs.SmppIntake.{from_pdu, source_in, is_empty}
use Rattle.sms_centre_spec.specs.Shares.{unless_too_much}
use Rattle.sms_centre_spec.specs.Submitting.{accept, is_reference_taken}
use Rattle.sms_centre_spec.specs.Transfers.{conclude, link_ended, verdict_on}
use Rattle.sms_centre_spec.specs.Receiving.{is_duplicate, memory_available, refuse, reply, submit_accepted, submit_received as submission_from, unit_received}
use Rattle.sms_relay.specs.Rejecting.{reference_octet}
use Rattle.sms_centre_spec.specs.declared.order.Order.{Order}
use Rattle.sms_centre_spec.specs.declared.order.Order.TheVariants.{Retry, Delete}
use Rattle.sms_centre_spec.specs.Orders.{ordered, retried}
use Rattle.sms_centre_spec.specs.Requests.{account_at, accepted, cancel_by, cancelled, message_numbered, own_message, queried, query_by, submission_received, submit_by, to_cancel}
use Rattle.sms_centre_spec.specs.Sessions.{answered_by, bind, bound_as, session_of, unbind, unbound_from}
use Rattle.sms_centre_spec.specs.CentreEvent.{aged, at_moment, fire_at, fire_mentioned, fire_others, fired, frame_taken, is_mentioned, lost, lower, raise, raise_all, raised, timed_out, went_up}
use Rattle.sms_centre_spec.specs.Draft.{Draft, Store, handsets_in, messages_in, on_links, rows_of}
use Rattle.sms_centre_spec.specs.MessageNumbers.{next_number}
use Rattle.sms_centre_spec.specs.SoundCore.{IsAnswerKind, IsLink}
use Rattle.sms_centre_spec.proofs.SoundLinks.{SoundLinks, SoundBindings, heard_brings, heard_link, link_found, link_sound, put_sound, replied_brings, replied_link, session_answered, session_put, session_removed, turn_sound}

-- links and sessions are sound over the rows
abbrev pub Sides : Rows → Draft → Type 0
Sides rows d = SoundLinks rows d.links × SoundBindings rows d.bindings

module _ (rows : Rows) where
  -- ---- how a transfer ends

  link_ended_sides : (v : Verdict) (h : List ℕ) (links : Links) → SoundLinks rows links → IsNumber h → SoundLinks rows (link_ended v h links)
  link_ended_sides Settled h links s is = s
  link_ended_sides HandsetFull h links s is =
      let l = link_sound rows h links s is in put_sound rows (filled (link_of h links.all)) links s (record { handset = l.handset; side = l.side; under_way = l.under_way; answered = l.answered })
  link_ended_sides Again h links s is = s
  link_ended_sides Refused h links s is = s
  link_ended_sides Late h links s is = s

  conclude_sides : (h : List ℕ) (t : Carried) (e : Ending) (d : Draft) → IsNumber h → Sides rows d → Sides rows (conclude h t e d)
  conclude_sides h t e d is k = (link_ended_sides (verdict_on t.tag e d.store) h d.links k.0 is, k.1)

  -- ---- units that open a transaction

  reply_sides : (h : List ℕ) (kind : Kind) (n : ℕ) (tag : Holder) (unit : List ℕ) (d : Draft) → IsAnswerKind kind → IsNumber h → Sides rows d → Sides rows (reply h kind n tag unit d)
  reply_sides h kind n tag unit d answer is k =
      let link : HandsetLink = link_of h d.links.all in (
        turn_sound rows link (replied d.store.moment kind n tag unit link.near_end) d.links k.0 (replied_link rows d.store.moment kind n tag unit link answer (link_sound rows h d.links k.0 is))
            (replied_brings rows d.store.moment kind n tag unit link answer),
        k.1,
      )

  accepted_sides : (h : List ℕ) (n : ℕ) (tag : Holder) (o : Option Store) (d : Draft) → IsNumber h → Sides rows d → Sides rows (submit_accepted h n tag o d)
  accepted_sides h n tag None d is k = reply_sides h Error n tag _ d tt is k
  accepted_sides h n tag (Some s) d is k = reply_sides h Ack n tag _ (record d { store = s }) tt is k

  submission_sides : (h : List ℕ) (n : ℕ) (tag : Holder) (u : Result Submission SubmitRefusal) (d : Draft) → IsNumber h → Sides rows d → Sides rows (submission_from h n tag u d)
  submission_sides h n tag (Err r) d is k = reply_sides h Error n tag _ d tt is k
  submission_sides h n tag (Ok u) d is k =
      cond_both (is_duplicate u d.store) (refuse h n tag Duplicate d)
      (if is_reference_taken u d.store then refuse h n tag ReferenceTaken d else submit_accepted h n tag (accept u d.store) d) (λ (e : Draft). Sides rows e)
      (λ t. reply_sides h Error n tag _ d tt is k)
      (λ t. cond_both (is_reference_taken u d.store) (refuse h n tag ReferenceTaken d) (submit_accepted h n tag (accept u d.store) d) (λ (e : Draft). Sides rows e)
      (λ t. reply_sides h Error n tag _ d tt is k) (λ t. accepted_sides h n tag (accept u d.store) d is k))

  memory_sides : (h : List ℕ) (n : ℕ) (tag : Holder) (d : Draft) → IsNumber h → Sides rows d → Sides rows (memory_available h n tag d)
  memory_sides h n tag d is k =
      let e : Draft = reply h Ack n tag (ack_down n None) d in
      let s = reply_sides h Ack n tag (ack_down n None) d tt is k in
      let l = link_sound rows h e.links s.0 is in
      (put_sound rows (emptied (link_of h e.links.all)) e.links s.0 (record { handset = l.handset; side = l.side; under_way = l.under_way; answered = l.answered }), s.1)

  unit_sides : (h : List ℕ) (tag : Holder) (unit : List ℕ) (u : Result Rp RelayFault) (d : Draft) → IsNumber h → Sides rows d → Sides rows (unit_received h tag unit u d)
  unit_sides h tag unit (Ok (DataUnit r z t)) d is k = submission_sides h r tag (from_read d.store.setup.accounts h d.store.moment (tpdu_up_at InData t)) d is k
  unit_sides h tag unit (Ok (AckUnit r t)) d is k = k
  unit_sides h tag unit (Ok (ErrorUnit r z t)) d is k = k
  unit_sides h tag unit (Ok (Smma r)) d is k = memory_sides h r tag d is k
  unit_sides h tag unit (Err f) d is k = reply_sides h Error (reference_octet unit) tag _ d tt is k

  -- ---- links

  up_sides : (h : List ℕ) (tag : Holder) (u : Option Upward) (d : Draft) → IsNumber h → Sides rows d → Sides rows (went_up h tag u d)
  up_sides h tag None d is k = k
  up_sides h tag (Some (Opened unit)) d is k = unit_sides h tag unit (up_at unit) d is k
  up_sides h tag (Some (Ended transfer ending)) d is k = conclude_sides h transfer ending d is k

  pub frame_sides : (octets : List ℕ) (tag : Holder) (l : HandsetLink) (d : Draft) → IsLink rows l → Sides rows d → Sides rows (frame_taken octets tag l d)
  frame_sides octets tag l d is k =
      up_sides l.handset tag (taken octets l.near_end).out.up (on_links (turn_link l (taken octets l.near_end) d.links) d) is.handset
      (turn_sound rows l (taken octets l.near_end) d.links k.0 (heard_link rows (take_step octets l.near_end.links) l is) (heard_brings rows (take_step octets l.near_end.links) l is), k.1)

  pub raise_sides : (h : List ℕ) (d : Draft) → IsNumber h → Sides rows d → Sides rows (raise h d)
  raise_sides h d is k =
      let l = link_sound rows h d.links k.0 is in
      (put_sound rows (raised_link (link_of h d.links.all)) d.links k.0 (record { handset = l.handset; side = l.side; under_way = l.under_way; answered = l.answered }), k.1)

  lost_sides : (h : List ℕ) (o : Option Carried) (d : Draft) → IsNumber h → Sides rows d → Sides rows (lost h o d)
  lost_sides h None d is k = k
  lost_sides h (Some t) d is k = conclude_sides h t Lost d is k

  pub lower_sides : (h : List ℕ) (d : Draft) → IsNumber h → Sides rows d → Sides rows (lower h d)
  lower_sides h d is k =
      let l : HandsetLink = link_of h d.links.all in
      let s = link_sound rows h d.links k.0 is in
      lost_sides l.handset l.near_end.under_way (on_links (put_link (lowered l) d.links) d) s.handset
      (put_sound rows (lowered l) d.links k.0 (record { handset = s.handset; side = refl; under_way = tt; answered = tt }), k.1)

  -- ---- a tick

  timed_out_sides : (h : List ℕ) (u : Option Upward) (d : Draft) → IsNumber h → Sides rows d → Sides rows (timed_out h u d)
  timed_out_sides h None d is k = k
  timed_out_sides h (Some (Opened unit)) d is k = k
  timed_out_sides h (Some (Ended transfer ending)) d is k = conclude_sides h transfer ending d is k

  fire_at_sides : (number : List ℕ) (o : Option HandsetLink) (d : Draft) → link_at number d.links.all ≡ o → Sides rows d → Sides rows (fire_at o d)
  fire_at_sides number None d e k = k
  fire_at_sides number (Some l) d e k =
      let is : IsLink rows l = k.0.each l (link_found number l d.links.all e).0 in
      timed_out_sides l.handset (fired_link d.store.moment l.near_end).out.up (on_links (turn_link l (fired_link d.store.moment l.near_end) d.links) d) is.handset
      (turn_sound rows l (fired_link d.store.moment l.near_end) d.links k.0 (heard_link rows (fire_step d.store.moment l.near_end.links) l is) (heard_brings rows (fire_step d.store.moment l.near_end.links) l is), k.1)

  fire_mentioned_sides : (hs : List HandsetRow) (d : Draft) → Sides rows d → Sides rows (fire_mentioned hs d)
  fire_mentioned_sides [] d k = k
  fire_mentioned_sides (h ∷ hs) d k =
      let o : Option HandsetLink = link_at h.number d.links.all in fire_mentioned_sides hs (fire_at o d) (fire_at_sides h.number o d refl k)

  fire_others_sides : (hs : List HandsetRow) (ls : List HandsetLink) (d : Draft) → Sides rows d → Sides rows (fire_others hs ls d)
  fire_others_sides hs [] d k = k
  fire_others_sides hs (l ∷ ls) d k =
      let o : Option HandsetLink = link_at l.handset d.links.all in
      fire_others_sides hs ls (if is_mentioned (handset_at l.handset hs) then d else fire_at o d)
      (cond_both (is_mentioned (handset_at l.handset hs)) d (fire_at o d) (λ (e : Draft). Sides rows e) (λ t. k) (λ t. fire_at_sides l.handset o d refl k))

  fired_sides : (d : Draft) → Sides rows d → Sides rows (fired d)
  fired_sides d k =
      let hs : List HandsetRow = handsets_in d.store in
      let e : Draft = fire_mentioned hs d in
      fire_others_sides hs d.links.all e (fire_mentioned_sides hs d k)

  raise_all_sides : (ls : List HandsetLink) (d : Draft) → ((l : HandsetLink) → Among l ls → IsNumber l.handset) → Sides rows d → Sides rows (raise_all ls d)
  raise_all_sides [] d are k = k
  raise_all_sides (l ∷ ls) d are k =
      raise_all_sides ls (if l.is_awaited then raise l.handset d else d) (λ x a. are x (inr a))
      (cond_both l.is_awaited (raise l.handset d) d (λ (e : Draft). Sides rows e) (λ t. raise_sides l.handset d (are l (inl refl)) k) (λ t. k))

  pub ticked_sides : (now : ℕ) (d : Draft) → Sides rows d → Sides rows (raised (fired (aged (at_moment now d))))
  ticked_sides now d k =
      let e : Draft = fired (aged (at_moment now d)) in
      let s = fired_sides (aged (at_moment now d)) k in
      raise_all_sides e.links.all e (λ l among. (s.0.each l among).handset) s

  -- ---- sessions

  pub answered_sides : (number id : ℕ) (b : Bool) (o : Option Session) (d : Draft) → row_at session_key number d.bindings.sessions ≡ o → Sides rows d → Sides rows (answered_by id b o d)
  answered_sides number id b None d e k = k
  answered_sides number id b (Some s) d e k =
      cond_both (is_among id s.unanswered) _ d (λ (x : Draft). Sides rows x)
      (λ t. (k.0, session_answered rows id s d.bindings k.1 (k.1.each s (found_among session_key number s d.bindings.sessions e)))) (λ t. k)

  unbound_sides : (o : Option Session) (d : Draft) → Sides rows d → Sides rows (unbound_from o d)
  unbound_sides None d k = k
  unbound_sides (Some s) d k = (k.0, session_removed rows s.number d.bindings k.1)

  pub unbind_sides : (n : ℕ) (d : Draft) → Sides rows d → Sides rows (unbind n d)
  unbind_sides n d k = unbound_sides (row_at session_key n d.bindings.sessions) d k

  bound_as_sides : (n : ℕ) (b : Bool) (a : Option CentreAccount) (d : Draft) → Sides rows d → Sides rows (bound_as n b a d)
  bound_as_sides n b None d k = k
  bound_as_sides n b (Some a) d k = (k.0, session_put rows (session_of n b a.name) d.bindings k.1 (record { unanswered = λ id among. absurd among }))

  pub bind_sides : (n place : ℕ) (b : Bool) (d : Draft) → Sides rows d → Sides rows (bind n place b d)
  bind_sides n place b d k = bound_as_sides n b (account_at place d.store.setup.accounts) (unbind n d) (unbind_sides n d k)

  -- ---- requests

  taken_sides : (id : ℕ) (o : Option Store) (d : Draft) → Sides rows d → Sides rows (accepted id o d)
  taken_sides id None d k = k
  taken_sides id (Some s) d k = k

  arrived_sides : (u : Result Submission CommandStatus) (d : Draft) → Sides rows d → Sides rows (submission_received u d)
  arrived_sides (Err status) d k = k
  arrived_sides (Ok u) d k =
      let o : Option Store = unless_too_much u (accept u d.store) in
      cond_both (is_reference_taken u d.store) _ (accepted (next_number (rows_of d.store)) o d) (λ (e : Draft). Sides rows e)
      (λ t. k) (λ t. taken_sides (next_number (rows_of d.store)) o d k)

  pub submit_sides : (a : Option CentreAccount) (m : Message) (d : Draft) → Sides rows d → Sides rows (submit_by a m d)
  submit_sides None m d k = k
  submit_sides (Some a) m d k = arrived_sides (from_pdu a d.store.moment m) d k

  queried_sides : (m : Option MessageRow) (d : Draft) → Sides rows d → Sides rows (queried m d)
  queried_sides None d k = k
  queried_sides (Some m) d k = k

  pub query_sides : (a : Option CentreAccount) (q : QuerySm) (d : Draft) → Sides rows d → Sides rows (query_by a q d)
  query_sides None q d k = k
  query_sides (Some a) q d k = queried_sides (own_message a (source_in a.address q.source) (message_numbered (id_in q.message_id) (messages_in d.store))) d k

  cancelled_sides : (m : Option MessageRow) (d : Draft) → Sides rows d → Sides rows (cancelled m d)
  cancelled_sides None d k = k
  cancelled_sides (Some m) d k = cond_both (is_pending m) _ _ (λ (e : Draft). Sides rows e) (λ t. k) (λ t. k)

  pub cancel_sides : (a : Option CentreAccount) (q : CancelSm) (d : Draft) → Sides rows d → Sides rows (cancel_by a q d)
  cancel_sides None q d k = k
  cancel_sides (Some a) q d k =
      let m : Option MessageRow = to_cancel a q (messages_in d.store) in
      cond_both (is_empty q.message_id) _ (cancelled m d) (λ (e : Draft). Sides rows e) (λ t. k) (λ t. cancelled_sides m d k)

  retried_sides : (m : Option MessageRow) (d : Draft) → Sides rows d → Sides rows (retried m d)
  retried_sides None d k = k
  retried_sides (Some m) d k = k

  pub ordered_sides : (order : Order) (id : ℕ) (d : Draft) → Sides rows d → Sides rows (ordered order id d)
  ordered_sides Retry id d k = retried_sides (message_at id (messages_in d.store)) d k
  ordered_sides Delete id d k = cancelled_sides (message_at id (messages_in d.store)) d k
