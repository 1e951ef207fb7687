-- The sessions are left as they are by every event but those of the sessions.
use Rattle.std.proofs.Common.{◌≡◌, ℕ, List, Option, Some, None, Result, Ok, Err, refl}
use Rattle.std.proofs.lemmas.Bool.{cond_both}
use Rattle.std.specs.Prelude.{if◌then◌else◌}
use Rattle.sms_base.specs.declared.carried.Carried.{Carried}
use Rattle.sms_base.specs.declared.holder.Holder.{Holder}
use Rattle.sms_link.specs.declared.ending.Ending.{Ending}
use Rattle.sms_link.specs.declared.ending.Upward.{Upward}
use Rattle.sms_link.specs.declared.ending.Upward.TheVariants.{Opened, Ended}
use Rattle.sms_link.specs.LinkTurn.{taken}
use Rattle.sms_relay.specs.declared.fault.RelayFault.{RelayFault}
use Rattle.sms_relay.specs.declared.frame.Rp.{Rp}
use Rattle.sms_relay.specs.declared.frame.Rp.TheVariants.{DataUnit, AckUnit, ErrorUnit, Smma}
use Rattle.sms_relay.specs.RelayReading.{up_at}
use Rattle.sms_tpdu.specs.declared.carrier.Carrier.TheVariants.{InData}
use Rattle.sms_tpdu.specs.TpduReading.{up_at as tpdu_up_at}
use Rattle.smpp_pdu.specs.declared.cancel.CancelSm.{CancelSm}
use Rattle.smpp_pdu.specs.declared.message.Message.{Message}
use Rattle.smpp_pdu.specs.declared.query.QuerySm.{QuerySm}
use Rattle.smpp_pdu.specs.declared.status.CommandStatus.{CommandStatus}
use Rattle.sms_centre_rows.specs.declared.messages.message.MessageRow.{MessageRow}
use Rattle.sms_centre_rows.specs.messages.Messages.{is_pending, message_at}
use Rattle.sms_centre_rows.specs.declared.waiting.handset_link.HandsetLink.{HandsetLink}
use Rattle.sms_centre_rows.specs.waiting.Links.{link_of, lowered, put_link, turn_link}
use Rattle.sms_intake.specs.HandsetIntake.{from_read}
use Rattle.sms_intake.specs.declared.refusal.SubmitRefusal.{SubmitRefusal}
use Rattle.sms_intake.specs.declared.refusal.SubmitRefusal.TheVariants.{Duplicate, ReferenceTaken}
use Rattle.sms_intake.specs.declared.submission.CentreAccount.{CentreAccount}
use Rattle.sms_intake.specs.declared.submission.Submission.{Submission}
use Rattle.sms_centre_spec.specs.Numbers.{id_in}
use Rattle.sms_intake.specs.SmppIntake.{from_pdu, source_in, is_empty}
use Rattle.sms_centre_spec.specs.Shares.{unless_too_much}
use Rattle.sms_centre_spec.specs.Submitting.{accept, is_reference_taken}
use Rattle.sms_centre_spec.specs.Transfers.{conclude}
use Rattle.sms_centre_spec.specs.Receiving.{is_duplicate, refuse, submit_accepted, submit_received as submission_from, unit_received}
use Rattle.sms_centre_spec.specs.declared.order.Order.{Order}
use Rattle.sms_centre_spec.specs.declared.order.Order.TheVariants.{Retry, Delete}
use Rattle.sms_centre_spec.specs.Orders.{ordered, retried}
use Rattle.sms_centre_spec.specs.Requests.{accepted, cancel_by, cancelled, message_numbered, own_message, queried, query_by, submission_received, submit_by, to_cancel}
use Rattle.sms_centre_spec.specs.CentreEvent.{aged, at_moment, fired, frame_taken, lost, lower, raised, went_up}
use Rattle.sms_centre_spec.specs.Draft.{Draft, Store, messages_in, on_links, rows_of}
use Rattle.sms_centre_spec.specs.MessageNumbers.{next_number}
use Rattle.sms_centre_spec.proofs.Ticking.{fired_says, raised_says}

conclude_bindings : (h : List ℕ) (t : Carried) (e : Ending) (d : Draft) → (conclude h t e d).bindings ≡ d.bindings
conclude_bindings h t e d = refl

-- ---- units that open a transaction

submit_accepted_bindings : (h : List ℕ) (n : ℕ) (tag : Holder) (o : Option Store) (d : Draft) → (submit_accepted h n tag o d).bindings ≡ d.bindings
submit_accepted_bindings h n tag None d = refl
submit_accepted_bindings h n tag (Some e) d = refl

submission_from_bindings : (h : List ℕ) (n : ℕ) (tag : Holder) (u : Result Submission SubmitRefusal) (d : Draft) → (submission_from h n tag u d).bindings ≡ d.bindings
submission_from_bindings h n tag (Err r) d = refl
submission_from_bindings h n tag (Ok u) d =
    cond_both (is_duplicate u d.store) (refuse h n tag Duplicate d)
    (if is_reference_taken u d.store then refuse h n tag ReferenceTaken d else submit_accepted h n tag (accept u d.store) d) (λ (e : Draft). e.bindings ≡ d.bindings)
    (λ t. refl)
    (λ t. cond_both (is_reference_taken u d.store) (refuse h n tag ReferenceTaken d) (submit_accepted h n tag (accept u d.store) d) (λ (e : Draft). e.bindings ≡ d.bindings)
    (λ t. refl) (λ t. submit_accepted_bindings h n tag (accept u d.store) d))

unit_received_bindings : (h : List ℕ) (tag : Holder) (unit : List ℕ) (u : Result Rp RelayFault) (d : Draft) → (unit_received h tag unit u d).bindings ≡ d.bindings
unit_received_bindings h tag unit (Ok (DataUnit r z t)) d = submission_from_bindings h r tag (from_read d.store.setup.accounts h d.store.moment (tpdu_up_at InData t)) d
unit_received_bindings h tag unit (Ok (AckUnit r t)) d = refl
unit_received_bindings h tag unit (Ok (ErrorUnit r z t)) d = refl
unit_received_bindings h tag unit (Ok (Smma r)) d = refl
unit_received_bindings h tag unit (Err f) d = refl

-- ---- links

went_up_bindings : (h : List ℕ) (tag : Holder) (u : Option Upward) (d : Draft) → (went_up h tag u d).bindings ≡ d.bindings
went_up_bindings h tag None d = refl
went_up_bindings h tag (Some (Opened unit)) d = unit_received_bindings h tag unit (up_at unit) d
went_up_bindings h tag (Some (Ended transfer ending)) d = refl

pub frame_taken_bindings : (octets : List ℕ) (tag : Holder) (l : HandsetLink) (d : Draft) → (frame_taken octets tag l d).bindings ≡ d.bindings
frame_taken_bindings octets tag l d = went_up_bindings l.handset tag (taken octets l.near_end).out.up (on_links (turn_link l (taken octets l.near_end) d.links) d)

lost_bindings : (h : List ℕ) (o : Option Carried) (d : Draft) → (lost h o d).bindings ≡ d.bindings
lost_bindings h None d = refl
lost_bindings h (Some t) d = refl

pub lower_bindings : (h : List ℕ) (d : Draft) → (lower h d).bindings ≡ d.bindings
lower_bindings h d =
    let l : HandsetLink = link_of h d.links.all in lost_bindings l.handset l.near_end.under_way (on_links (put_link (lowered l) d.links) d)

-- ---- a tick

pub ticked_bindings : (now : ℕ) (d : Draft) → (raised (fired (aged (at_moment now d)))).bindings ≡ d.bindings
ticked_bindings now d =
    let a : Draft = aged (at_moment now d) in
    raised_says (λ (e : Draft). e.bindings ≡ d.bindings) (λ h e same. same) (fired a)
    (fired_says (λ (e : Draft). e.bindings ≡ d.bindings) (λ h t ending e same. same) (λ links e same. same) a refl)

-- ---- requests

accepted_bindings : (id : ℕ) (o : Option Store) (d : Draft) → (accepted id o d).bindings ≡ d.bindings
accepted_bindings id None d = refl
accepted_bindings id (Some s) d = refl

submission_received_bindings : (u : Result Submission CommandStatus) (d : Draft) → (submission_received u d).bindings ≡ d.bindings
submission_received_bindings (Err status) d = refl
submission_received_bindings (Ok u) d =
    let o : Option Store = unless_too_much u (accept u d.store) in
    cond_both (is_reference_taken u d.store) _ (accepted (next_number (rows_of d.store)) o d) (λ (e : Draft). e.bindings ≡ d.bindings)
    (λ t. refl) (λ t. accepted_bindings (next_number (rows_of d.store)) o d)

pub submit_by_bindings : (a : Option CentreAccount) (m : Message) (d : Draft) → (submit_by a m d).bindings ≡ d.bindings
submit_by_bindings None m d = refl
submit_by_bindings (Some a) m d = submission_received_bindings (from_pdu a d.store.moment m) d

queried_bindings : (m : Option MessageRow) (d : Draft) → (queried m d).bindings ≡ d.bindings
queried_bindings None d = refl
queried_bindings (Some m) d = refl

pub query_by_bindings : (a : Option CentreAccount) (q : QuerySm) (d : Draft) → (query_by a q d).bindings ≡ d.bindings
query_by_bindings None q d = refl
query_by_bindings (Some a) q d =
    queried_bindings (own_message a (source_in a.address q.source) (message_numbered (id_in q.message_id) (messages_in d.store))) d

cancelled_bindings : (o : Option MessageRow) (d : Draft) → (cancelled o d).bindings ≡ d.bindings
cancelled_bindings None d = refl
cancelled_bindings (Some m) d = cond_both (is_pending m) _ _ (λ (e : Draft). e.bindings ≡ d.bindings) (λ t. refl) (λ t. refl)

pub cancel_by_bindings : (a : Option CentreAccount) (q : CancelSm) (d : Draft) → (cancel_by a q d).bindings ≡ d.bindings
cancel_by_bindings None q d = refl
cancel_by_bindings (Some a) q d =
    let m : Option MessageRow = to_cancel a q (messages_in d.store) in
    cond_both (is_empty q.message_id) _ (cancelled m d) (λ (e : Draft). e.bindings ≡ d.bindings) (λ t. refl) (λ t. cancelled_bindings m d)

-- ---- orders

retried_bindings : (o : Option MessageRow) (d : Draft) → (retried o d).bindings ≡ d.bindings
retried_bindings None d = refl
retried_bindings (Some m) d = refl

pub ordered_bindings : (order : Order) (id : ℕ) (d : Draft) → (ordered order id d).bindings ≡ d.bindings
ordered_bindings Retry id d = retried_bindings (message_at id (messages_in d.store)) d
ordered_bindings Delete id d = cancelled_bindings (message_at id (messages_in d.store)) d
