-- Which sessions a centre has behind an event, and to which of them the receipts of its messages go.
use Rattle.std.proofs.Common.{◌≡◌, ℕ, List, [], ◌∷◌, ◌++◌, length, Bool, true, Option, Some, None, Result, Ok, Err, refl, sym, ◌∙◌, ap, subst, ⊎_elim}
use Rattle.std.specs.Prelude.{◌⊎◌, ◌&&◌, if◌then◌else◌, nat_lt}
use Rattle.std.proofs.lemmas.Bool.{and_parts, cases_eq, cond_both}
use Rattle.std.proofs.lemmas.Option.{same_Some}
use Rattle.sms_base.proofs.Lists.{among_end}
use Rattle.sms_base.specs.Among.{Among}
use Rattle.sms_base.specs.declared.carried.Carried.{Carried}
use Rattle.sms_base.specs.declared.final_state.FinalState.TheVariants.{Deleted}
use Rattle.sms_base.specs.declared.holder.Holder.{Holder}
use Rattle.sms_rows.specs.table.Table.{Rises, put, row_at}
use Rattle.sms_rows.proofs.table.Tables.{among_found, among_put, among_without, found_among, found_key, rises_put, rises_without, row_at_put, row_at_put_other}
use Rattle.sms_link.specs.declared.ending.Upward.{Upward}
use Rattle.sms_link.specs.declared.ending.Upward.TheVariants.{Ended, Opened}
use Rattle.sms_link.specs.LinkTurn.{taken}
use Rattle.sms_relay.specs.RelayReading.{up_at}
use Rattle.sms_relay.specs.declared.fault.RelayFault.{RelayFault}
use Rattle.sms_relay.specs.declared.frame.Rp.{Rp}
use Rattle.sms_relay.specs.declared.frame.Rp.TheVariants.{AckUnit, DataUnit, ErrorUnit, Smma}
use Rattle.sms_tpdu.specs.TpduReading.{up_at as tpdu_up_at}
use Rattle.sms_tpdu.specs.declared.carrier.Carrier.TheVariants.{InData}
use Rattle.smpp_pdu.specs.declared.cancel.CancelSm.{CancelSm}
use Rattle.smpp_pdu.specs.declared.message.Message.{Message}
use Rattle.smpp_pdu.specs.declared.query.QuerySm.{QuerySm}
use Rattle.smpp_pdu.specs.declared.status.CommandStatus.{CommandStatus}
use Rattle.smpp_pdu.specs.declared.status.CommandStatus.TheVariants.{ESME_RCANCELFAIL, ESME_RSUBMITFAIL}
use Rattle.sms_intake.specs.HandsetIntake.{from_read}
use Rattle.sms_intake.specs.SmppIntake.{from_pdu, is_empty, source_in}
use Rattle.sms_intake.specs.declared.refusal.SubmitRefusal.{SubmitRefusal}
use Rattle.sms_intake.specs.declared.refusal.SubmitRefusal.TheVariants.{Duplicate, ReferenceTaken}
use Rattle.sms_intake.specs.declared.submission.CentreAccount.{CentreAccount}
use Rattle.sms_intake.specs.declared.submission.Submission.{Submission}
use Rattle.sms_centre_rows.specs.declared.messages.message.MessageRow.{MessageRow}
use Rattle.sms_centre_rows.specs.declared.reports.delivery.Delivery.{Delivery}
use Rattle.sms_centre_rows.specs.declared.reports.report.ReportRow.{ReportRow}
use Rattle.sms_centre_rows.specs.declared.waiting.handset_link.HandsetLink.{HandsetLink}
use Rattle.sms_centre_rows.specs.messages.Messages.{is_pending, message_at}
use Rattle.sms_centre_rows.specs.messages.SplitReferences.{is_among}
use Rattle.sms_centre_rows.specs.reports.Receipts.{Bindings, Session, is_account, receives_for, send as send_one, send_all, send_in, send_to, session_for, session_key, waits, window, answered_in, without_id}
use Rattle.sms_centre_rows.specs.waiting.Links.{link_of, lowered, put_link, turn_link}
use Rattle.sms_centre_rows.proofs.reports.Serving.{fewest_found}
use Rattle.sms_centre_spec.specs.CentreEvent.{aged, at_moment, fired, follow, frame_taken, happened, lost, lower, raise, raised, tag_of, went_up}
use Rattle.sms_centre_spec.specs.Draft.{Core, Draft, Store, answer_with, draft_of, in_store, messages_in, on_links, reports_in, rows_of}
use Rattle.sms_centre_spec.specs.Ends.{end}
use Rattle.sms_centre_spec.specs.MessageNumbers.{next_number}
use Rattle.sms_centre_spec.specs.Numbers.{id_in}
use Rattle.sms_centre_spec.specs.Receiving.{is_duplicate, refuse, submit_accepted, submit_received as submission_from, unit_received}
use Rattle.sms_centre_spec.specs.declared.order.Order.{Order}
use Rattle.sms_centre_spec.specs.declared.order.Order.TheVariants.{Retry, Delete}
use Rattle.sms_centre_spec.specs.Orders.{ordered, retried}
use Rattle.sms_centre_spec.specs.Requests.{account_at, accepted, cancel_by, cancelled, message_numbered, own_message, queried, query_by, refused, submission_received, submit_by, to_cancel}
use Rattle.sms_centre_spec.specs.Sessions.{answered_by, bind, bound_as, receipt_answered, session_of, unbind, unbound_from}
use Rattle.sms_centre_spec.specs.Shares.{unless_too_much}
use Rattle.sms_centre_spec.specs.SoundCore.{IsSoundCore}
use Rattle.sms_centre_spec.specs.Submitting.{accept, is_reference_taken}
use Rattle.sms_centre_spec.specs.declared.answer.CentreAnswer.TheVariants.{Cancelled}
use Rattle.sms_centre_spec.specs.declared.event.CentreEvent.{CentreEvent}
use Rattle.sms_centre_spec.specs.declared.event.CentreEvent.TheVariants.{Submit, Query, Cancel, Bound, Unbound, DeliverAnswered, Frame, LinkUp, LinkDown, Ordered, Tick}
use Rattle.sms_centre_spec.proofs.Ticking.{fired_says, raised_says}

-- said of each session: of its number, of the name of its account, and of whether it receives
abbrev pub Each : (ℕ → List ℕ → Bool → Type 0) → List Session → Type 0
Each R sessions = (s : Session) → Among s sessions → R s.number s.account s.receives

-- what was said of the sessions is still said of them
abbrev pub StaysSo : (ℕ → List ℕ → Bool → Type 0) → (ℕ → List ℕ → Bool → Type 0) → Type 0
StaysSo R Q = (k : ℕ) (name : List ℕ) (receives : Bool) → R k name receives → Q k name receives

-- but of the session of a number
abbrev pub StaysBut : ℕ → (ℕ → List ℕ → Bool → Type 0) → (ℕ → List ℕ → Bool → Type 0) → Type 0
StaysBut n R Q = (k : ℕ) (name : List ℕ) (receives : Bool) → (k ≡ n → ⊥) → R k name receives → Q k name receives

-- What was said of the sessions before the event leads to what is said of those behind it.
abbrev pub Becomes : CentreEvent → List CentreAccount → (ℕ → List ℕ → Bool → Type 0) → (ℕ → List ℕ → Bool → Type 0) → Type 0
Becomes (Submit account m) accounts R Q = StaysSo R Q
Becomes (Query account q) accounts R Q = StaysSo R Q
Becomes (Cancel account q) accounts R Q = StaysSo R Q
Becomes (Bound n place own) accounts R Q = StaysBut n R Q × ((account : CentreAccount) → account_at place accounts ≡ Some account → Q n account.name own)
Becomes (Unbound n) accounts R Q = StaysBut n R Q
Becomes (DeliverAnswered session id b) accounts R Q = StaysSo R Q
Becomes (Frame handset octets tag) accounts R Q = StaysSo R Q
Becomes (LinkUp handset) accounts R Q = StaysSo R Q
Becomes (LinkDown handset) accounts R Q = StaysSo R Q
Becomes (Ordered order id) accounts R Q = StaysSo R Q
Becomes (Tick now) accounts R Q = StaysSo R Q

-- ---- sending

-- it goes to a session of these, which receives for the account of its message
pub record Goes (messages : List MessageRow) (sessions : List Session) (x : Delivery) : Type 0 where
  pub message : MessageRow
  pub there : message_at x.id messages ≡ Some message
  pub session : Session
  pub bound : Among session sessions
  pub number : session.number ≡ x.session
  pub receives : session.receives ≡ true
  pub account : is_account session.account message.originator ≡ true

pub record Sends (messages : List MessageRow) (R : ℕ → List ℕ → Bool → Type 0) (bindings : Bindings) : Type 0 where
  pub keys : Rises session_key bindings.sessions
  pub held : Each R bindings.sessions
  pub each : (x : Delivery) → Among x bindings.deliveries → Goes messages bindings.sessions x

-- the session that is chosen
record IsChosen (m : MessageRow) (s : Session) (ss : List Session) : Type 0 where
  among : Among s ss
  receives : s.receives ≡ true
  account : is_account s.account m.originator ≡ true

chosen : (m : MessageRow) (s : Session) (ss : List Session) → session_for (Some m) ss ≡ Some s → IsChosen m s ss
chosen m s ss e =
    let f = fewest_found (receives_for m) s ss e in
    let both = and_parts s.receives (is_account s.account m.originator) f.1 in
    record { among = f.0; receives = both.0; account = both.1 }

module _ (messages : List MessageRow) (R : ℕ → List ℕ → Bool → Type 0) where
  sends_in : (id : ℕ) (m : MessageRow) (s : Session) (bindings : Bindings) → Sends messages R bindings → message_at id messages ≡ Some m → IsChosen m s bindings.sessions → Sends messages R (send_in id s bindings)
  sends_in id m s bindings k there is =
      let now : Session = record s { unanswered = s.unanswered ++ id ∷ [] } in
      let sessions : List Session = put session_key now bindings.sessions in
      let own : Among now sessions = found_among session_key s.number now sessions (row_at_put session_key now bindings.sessions) in
      record {
        keys = rises_put session_key now bindings.sessions k.keys;
        held = λ x i. ⊎_elim
            (λ (e : x ≡ now). subst (λ (z : Session). R z.number z.account z.receives) (sym e) (k.held s is.among))
            (λ old. k.held x old.0) (among_put session_key x now bindings.sessions i);
        each = λ x i. ⊎_elim
            (λ (j : Among x bindings.deliveries).
            let g : Goes messages bindings.sessions x = k.each x j in
            ⊎_elim
            (λ (e : g.session.number ≡ s.number).
            let same : g.session ≡ s =
            same_Some g.session s (sym (among_found session_key g.session bindings.sessions k.keys g.bound) ∙ ap (λ (n : ℕ). row_at session_key n bindings.sessions) e ∙ among_found session_key s bindings.sessions k.keys is.among) in
            let found : Goes messages sessions x = record {
              message = g.message;
              there = g.there;
              session = now;
              bound = own;
              number = sym e ∙ g.number;
              receives = is.receives;
              account = ap (λ (z : Session). is_account z.account g.message.originator) (sym same) ∙ g.account;
            } in found)
            (λ (ne : g.session.number ≡ s.number → ⊥).
            let found : Goes messages sessions x = record {
              message = g.message;
              there = g.there;
              session = g.session;
              bound = found_among session_key g.session.number g.session sessions
                  (row_at_put_other session_key g.session.number now bindings.sessions (λ q. ne (sym q)) ∙ among_found session_key g.session bindings.sessions k.keys g.bound);
              number = g.number;
              receives = g.receives;
              account = g.account;
            } in found)
            (cases_eq g.session.number s.number))
            (λ (e : x ≡ record { session = s.number; id = id }).
            let found : Goes messages sessions (record { session = s.number; id = id }) =
            record { message = m; there = there; session = now; bound = own; number = refl; receives = is.receives; account = is.account } in
            subst (λ (z : Delivery). Goes messages sessions z) (sym e) found)
            (among_end x (record { session = s.number; id = id }) bindings.deliveries i);
      }

  sends_to : (id : ℕ) (o : Option MessageRow) (to : Option Session) (bindings : Bindings) → message_at id messages ≡ o → session_for o bindings.sessions ≡ to → Sends messages R bindings → Sends messages R (send_to id to bindings)
  sends_to id o None bindings at is k = k
  sends_to id None (Some s) bindings at is k = absurd cc
  sends_to id (Some m) (Some s) bindings at is k =
      cond_both (nat_lt (length s.unanswered) window) (send_in id s bindings) bindings (λ (b : Bindings). Sends messages R b)
      (λ t. sends_in id m s bindings k at (chosen m s bindings.sessions is)) (λ t. k)

  all_sends : (moment : ℕ) (rs : List ReportRow) (bindings : Bindings) → Sends messages R bindings → Sends messages R (send_all moment messages rs bindings)
  all_sends moment [] bindings k = k
  all_sends moment (r ∷ rs) bindings k =
      let o : Option MessageRow = message_at r.id messages in
      let to : Option Session = session_for o bindings.sessions in
      all_sends moment rs (send_one moment messages r bindings)
      (cond_both (waits moment r bindings.sessions) (send_to r.id to bindings) bindings (λ (b : Bindings). Sends messages R b) (λ t. sends_to r.id o to bindings refl refl k) (λ t. k))

-- ---- nothing is sent before

record Quiet (R : ℕ → List ℕ → Bool → Type 0) (bindings : Bindings) : Type 0 where
  keys : Rises session_key bindings.sessions
  held : Each R bindings.sessions
  none : (x : Delivery) → Among x bindings.deliveries → ⊥

module _ (R : ℕ → List ℕ → Bool → Type 0) where
  abbrev Waits : Draft → Type 0
  Waits d = Quiet R d.bindings

  submit_accepted_waits : (h : List ℕ) (n : ℕ) (tag : Holder) (o : Option Store) (d : Draft) → Waits d → Waits (submit_accepted h n tag o d)
  submit_accepted_waits h n tag None d k = k
  submit_accepted_waits h n tag (Some e) d k = k

  submission_from_waits : (h : List ℕ) (n : ℕ) (tag : Holder) (u : Result Submission SubmitRefusal) (d : Draft) → Waits d → Waits (submission_from h n tag u d)
  submission_from_waits h n tag (Err r) d k = k
  submission_from_waits h n tag (Ok u) d k =
      cond_both (is_duplicate u d.store) (refuse h n tag Duplicate d)
      (if is_reference_taken u d.store then refuse h n tag ReferenceTaken d else submit_accepted h n tag (accept u d.store) d) (λ (e : Draft). Waits e)
      (λ t. k)
      (λ t. cond_both (is_reference_taken u d.store) (refuse h n tag ReferenceTaken d) (submit_accepted h n tag (accept u d.store) d) (λ (e : Draft). Waits e)
      (λ t. k) (λ t. submit_accepted_waits h n tag (accept u d.store) d k))

  unit_received_waits : (h : List ℕ) (tag : Holder) (unit : List ℕ) (u : Result Rp RelayFault) (d : Draft) → Waits d → Waits (unit_received h tag unit u d)
  unit_received_waits h tag unit (Ok (DataUnit r z t)) d k = submission_from_waits h r tag (from_read d.store.setup.accounts h d.store.moment (tpdu_up_at InData t)) d k
  unit_received_waits h tag unit (Ok (AckUnit r t)) d k = k
  unit_received_waits h tag unit (Ok (ErrorUnit r z t)) d k = k
  unit_received_waits h tag unit (Ok (Smma r)) d k = k
  unit_received_waits h tag unit (Err f) d k = k

  went_up_waits : (h : List ℕ) (tag : Holder) (u : Option Upward) (d : Draft) → Waits d → Waits (went_up h tag u d)
  went_up_waits h tag None d k = k
  went_up_waits h tag (Some (Opened unit)) d k = unit_received_waits h tag unit (up_at unit) d k
  went_up_waits h tag (Some (Ended transfer ending)) d k = k

  frame_taken_waits : (octets : List ℕ) (tag : Holder) (l : HandsetLink) (d : Draft) → Waits d → Waits (frame_taken octets tag l d)
  frame_taken_waits octets tag l d k = went_up_waits l.handset tag (taken octets l.near_end).out.up (on_links (turn_link l (taken octets l.near_end) d.links) d) k

  lost_waits : (h : List ℕ) (o : Option Carried) (d : Draft) → Waits d → Waits (lost h o d)
  lost_waits h None d k = k
  lost_waits h (Some t) d k = k

  lower_waits : (h : List ℕ) (d : Draft) → Waits d → Waits (lower h d)
  lower_waits h d k =
      let l : HandsetLink = link_of h d.links.all in lost_waits l.handset l.near_end.under_way (on_links (put_link (lowered l) d.links) d) k

  ticked_waits : (now : ℕ) (d : Draft) → Waits d → Waits (raised (fired (aged (at_moment now d))))
  ticked_waits now d k =
      let a : Draft = aged (at_moment now d) in
      raised_says Waits (λ h e kept. kept) (fired a) (fired_says Waits (λ h t ending e kept. kept) (λ links e kept. kept) a k)

  answered_by_waits : (id : ℕ) (b : Bool) (n : ℕ) (o : Option Session) (d : Draft) → row_at session_key n d.bindings.sessions ≡ o → Waits d → Waits (answered_by id b o d)
  answered_by_waits id b n None d at k = k
  answered_by_waits id b n (Some session) d at k =
      let now : Session = record session { unanswered = without_id id session.unanswered } in
      cond_both (is_among id session.unanswered) (record d { store = receipt_answered id b d.store; bindings = answered_in id session d.bindings }) d (λ (e : Draft). Waits e)
      (λ t. record {
        keys = rises_put session_key now d.bindings.sessions k.keys;
        held = λ x i. ⊎_elim
            (λ (e : x ≡ now). subst (λ (z : Session). R z.number z.account z.receives) (sym e) (k.held session (found_among session_key n session d.bindings.sessions at)))
            (λ old. k.held x old.0) (among_put session_key x now d.bindings.sessions i);
        none = k.none;
      }) (λ t. k)

  accepted_waits : (id : ℕ) (o : Option Store) (d : Draft) → Waits d → Waits (accepted id o d)
  accepted_waits id None d k = k
  accepted_waits id (Some s) d k = k

  submission_received_waits : (u : Result Submission CommandStatus) (d : Draft) → Waits d → Waits (submission_received u d)
  submission_received_waits (Err status) d k = k
  submission_received_waits (Ok u) d k =
      let o : Option Store = accept u d.store in
      cond_both (is_reference_taken u d.store) (refused ESME_RSUBMITFAIL d) (accepted (next_number (rows_of d.store)) (unless_too_much u o) d) (λ (e : Draft). Waits e)
      (λ t. k) (λ t. accepted_waits (next_number (rows_of d.store)) (unless_too_much u o) d k)

  submit_by_waits : (a : Option CentreAccount) (m : Message) (d : Draft) → Waits d → Waits (submit_by a m d)
  submit_by_waits None m d k = k
  submit_by_waits (Some a) m d k = submission_received_waits (from_pdu a d.store.moment m) d k

  queried_waits : (m : Option MessageRow) (d : Draft) → Waits d → Waits (queried m d)
  queried_waits None d k = k
  queried_waits (Some m) d k = k

  query_by_waits : (a : Option CentreAccount) (q : QuerySm) (d : Draft) → Waits d → Waits (query_by a q d)
  query_by_waits None q d k = k
  query_by_waits (Some a) q d k = queried_waits (own_message a (source_in a.address q.source) (message_numbered (id_in q.message_id) (messages_in d.store))) d k

  cancelled_waits : (m : Option MessageRow) (d : Draft) → Waits d → Waits (cancelled m d)
  cancelled_waits None d k = k
  cancelled_waits (Some m) d k = cond_both (is_pending m) (answer_with Cancelled (in_store (end Deleted m d.store) d)) (refused ESME_RCANCELFAIL d) (λ (e : Draft). Waits e) (λ t. k) (λ t. k)

  cancel_by_waits : (a : Option CentreAccount) (q : CancelSm) (d : Draft) → Waits d → Waits (cancel_by a q d)
  cancel_by_waits None q d k = k
  cancel_by_waits (Some a) q d k =
      let m : Option MessageRow = to_cancel a q (messages_in d.store) in
      cond_both (is_empty q.message_id) (refused ESME_RCANCELFAIL d) (cancelled m d) (λ (e : Draft). Waits e) (λ t. k) (λ t. cancelled_waits m d k)

  retried_waits : (m : Option MessageRow) (d : Draft) → Waits d → Waits (retried m d)
  retried_waits None d k = k
  retried_waits (Some m) d k = k

  ordered_waits : (order : Order) (id : ℕ) (d : Draft) → Waits d → Waits (ordered order id d)
  ordered_waits Retry id d k = retried_waits (message_at id (messages_in d.store)) d k
  ordered_waits Delete id d k = cancelled_waits (message_at id (messages_in d.store)) d k

-- ---- bind and unbind

module _ (R Q : ℕ → List ℕ → Bool → Type 0) where
  none_found : (x : Session) → None ≡ Some x → ⊥
  none_found x e = cc

  -- behind an unbind there is no session of the number
  unbound_waits : (n : ℕ) (o : Option Session) (d : Draft) → row_at session_key n d.bindings.sessions ≡ o → StaysBut n R Q → Waits R d → Waits Q (unbound_from o d)
  unbound_waits n None d at f k = record {
    keys = k.keys;
    held = λ x i. f x.number x.account x.receives
        (λ e. none_found x (sym (ap (λ (m : ℕ). row_at session_key m d.bindings.sessions) e ∙ at) ∙ among_found session_key x d.bindings.sessions k.keys i)) (k.held x i);
    none = k.none;
  }
  unbound_waits n (Some session) d at f k = record {
    keys = rises_without session_key session.number d.bindings.sessions k.keys;
    held = λ x i.
        let w = among_without session_key x session.number d.bindings.sessions i in
        f x.number x.account x.receives (λ e. w.1 (e ∙ sym (found_key session_key n session d.bindings.sessions at))) (k.held x w.0);
    none = k.none;
  }

  bound_waits : (n : ℕ) (b : Bool) (a : Option CentreAccount) (d : Draft) → ((account : CentreAccount) → a ≡ Some account → Q n account.name b) → Waits Q d → Waits Q (bound_as n b a d)
  bound_waits n b None d f k = k
  bound_waits n b (Some a) d f k =
      let now : Session = session_of n b a.name in record {
        keys = rises_put session_key now d.bindings.sessions k.keys;
        held = λ x i. ⊎_elim
            (λ (e : x ≡ now). subst (λ (z : Session). Q z.number z.account z.receives) (sym e) (f a refl))
            (λ old. k.held x old.0) (among_put session_key x now d.bindings.sessions i);
        none = k.none;
      }

-- ---- every event

-- what a draft sends at its end
sends_so : (Q : ℕ → List ℕ → Bool → Type 0) (d : Draft) → Waits Q d → Sends (messages_in d.store) Q (follow d).bindings
sends_so Q d k =
    all_sends (messages_in d.store) Q d.store.moment (reports_in d.store) d.bindings (record { keys = k.keys; held = k.held; each = λ y j. absurd (k.none y j) })

module _ (R Q : ℕ → List ℕ → Bool → Type 0) (c : Core) (s : IsSoundCore c) (all : Each R c.sessions) where
  begins : Waits R (draft_of c)
  begins = record { keys = s.session_keys; held = all; none = λ x i. i }

  begins_so : StaysSo R Q → Waits Q (draft_of c)
  begins_so f = record { keys = s.session_keys; held = λ x i. f x.number x.account x.receives (all x i); none = λ x i. i }

  pub sends_of : (event : CentreEvent) → Becomes event c.rows.setup.accounts R Q → Sends (messages_in (happened event c).store) Q (happened event c).bindings
  sends_of (Submit account m) f =
      let d : Draft = submit_by (account_at account c.rows.setup.accounts) m (draft_of c) in
      sends_so Q d (submit_by_waits Q (account_at account c.rows.setup.accounts) m (draft_of c) (begins_so f))
  sends_of (Query account q) f =
      let d : Draft = query_by (account_at account c.rows.setup.accounts) q (draft_of c) in
      sends_so Q d (query_by_waits Q (account_at account c.rows.setup.accounts) q (draft_of c) (begins_so f))
  sends_of (Cancel account q) f =
      let d : Draft = cancel_by (account_at account c.rows.setup.accounts) q (draft_of c) in
      sends_so Q d (cancel_by_waits Q (account_at account c.rows.setup.accounts) q (draft_of c) (begins_so f))
  sends_of (Bound n place b) f =
      let o : Option Session = row_at session_key n c.sessions in
      let d : Draft = unbound_from o (draft_of c) in
      sends_so Q (bind n place b (draft_of c))
      (bound_waits R Q n b (account_at place c.rows.setup.accounts) d f.1 (unbound_waits R Q n o (draft_of c) refl f.0 begins))
  sends_of (Unbound n) f =
      let o : Option Session = row_at session_key n c.sessions in
      sends_so Q (unbound_from o (draft_of c)) (unbound_waits R Q n o (draft_of c) refl f begins)
  sends_of (DeliverAnswered session id b) f =
      let o : Option Session = row_at session_key session c.sessions in
      sends_so Q (answered_by id b o (draft_of c)) (answered_by_waits Q id b session o (draft_of c) refl (begins_so f))
  sends_of (Frame handset octets tag) f =
      let l : HandsetLink = link_of handset c.links in
      sends_so Q (frame_taken octets (tag_of tag) l (draft_of c)) (frame_taken_waits Q octets (tag_of tag) l (draft_of c) (begins_so f))
  sends_of (LinkUp handset) f = sends_so Q (raise handset (draft_of c)) (begins_so f)
  sends_of (LinkDown handset) f = sends_so Q (lower handset (draft_of c)) (lower_waits Q handset (draft_of c) (begins_so f))
  sends_of (Ordered order id) f = sends_so Q (ordered order id (draft_of c)) (ordered_waits Q order id (draft_of c) (begins_so f))
  sends_of (Tick now) f = sends_so Q (raised (fired (aged (at_moment now (draft_of c))))) (ticked_waits Q now (draft_of c) (begins_so f))
