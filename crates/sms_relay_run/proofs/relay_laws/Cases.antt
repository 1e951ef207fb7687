-- What becomes of each unit.
use Rattle.std.proofs.Common.{◌≡◌, ℕ, ◌<◌, ◌≤◌, length, List, [], ◌∷◌, Bool, true, false, Option, Some, None, Result, Ok, Err, refl, ◌∙◌, ap, subst}
use Rattle.std.specs.Prelude.{not, slice_index, if◌then◌else◌, MatchBool, MatchResult}
use Rattle.std.specs.Str.{bytes_eq}
use Rattle.std.proofs.lemmas.Bool.{cond-false, cond-true}
use Rattle.std.proofs.lemmas.Slice.Eq.{bytes_eq-Decides}
use Rattle.sms_base.specs.HandsetNumber.{names_handset, own_address}
use Rattle.sms_base.specs.Reading.{◌>>=◌, AreOctets, only_if}
use Rattle.sms_base.specs.UtcClock.{stamp_of}
use Rattle.sms_base.specs.TimeStamp.{IsMoment}
use Rattle.sms_base.specs.declared.address.Address.{Address}
use Rattle.sms_base.specs.declared.carried.Carried.{Carried}
use Rattle.sms_base.specs.declared.carried.Kind.{Kind}
use Rattle.sms_base.specs.declared.carried.Kind.TheVariants.{Ack, Error}
use Rattle.sms_base.specs.declared.holder.Holder.{Holder}
use Rattle.sms_base.specs.declared.holder.Holder.TheVariants.{Entry}
use Rattle.sms_base.proofs.UtcClocks.{stamp_is_written}
use Rattle.sms_base.proofs.OctetLaws.{octets_themselves}
use Rattle.sms_control.specs.declared.link_state.Opened.{Opened}
use Rattle.sms_intake.specs.HandsetIntake.{from_read, from_submit, is_past, wish_of}
use Rattle.sms_intake.specs.PartBodies.{deliver_octets, deliver_of, deliver_written, is_wish}
use Rattle.sms_intake.specs.Refusals.{cause_of as told_cause, failure_of, unread}
use Rattle.sms_intake.specs.SubmitReports.{accepting_report, refusing_report, submit_report_of, submit_report_written}
use Rattle.sms_intake.specs.declared.refusal.SubmitRefusal.{SubmitRefusal}
use Rattle.sms_intake.specs.declared.refusal.SubmitRefusal.TheVariants.{NoHandset, PastLimit}
use Rattle.sms_intake.specs.declared.submission.Submission.{Submission}
use Rattle.sms_relay.specs.RelayGrammar.{ack_down, error_down}
use Rattle.sms_relay.specs.RelayReading.{up_at}
use Rattle.sms_relay.specs.declared.cause.RpCause.{RpCause}
use Rattle.sms_relay.specs.declared.fault.RelayFault.{RelayFault}
use Rattle.sms_relay.specs.declared.fault.RelayFault.TheVariants.{Truncated as RelayTruncated, Trailing as RelayTrailing, Unknown as RelayUnknown, BadLength as RelayBadLength}
use Rattle.sms_relay.specs.declared.frame.Rp.{Rp}
use Rattle.sms_relay.specs.declared.frame.Rp.TheVariants.{DataUnit, AckUnit, ErrorUnit, Smma}
use Rattle.sms_tpdu.specs.TpduReading.{up_at as tpdu_up_at}
use Rattle.sms_tpdu.specs.Codes.{cause_octet}
use Rattle.sms_tpdu.specs.TpduGrammar.{IsSubmit, IsWrittenDeliver, IsWrittenSubmitReport}
use Rattle.sms_tpdu.specs.declared.deliver.Deliver.{Deliver}
use Rattle.sms_tpdu.specs.declared.carrier.Carrier.TheVariants.{InData}
use Rattle.sms_tpdu.specs.declared.fault.TpduFault.{TpduFault}
use Rattle.sms_tpdu.specs.declared.fault.TpduFault.TheVariants.{Truncated}
use Rattle.sms_tpdu.specs.declared.submit.Submit.{Submit as SubmitOf}
use Rattle.sms_tpdu.specs.declared.up.Up.{Up}
use Rattle.sms_tpdu.specs.declared.up.Up.TheVariants.{Submit, DeliverReport}
use Rattle.sms_tpdu.proofs.Carriers.{up_takes}
use Rattle.sms_centre_rows.specs.waiting.SoundAllocations.{IsNumber}
use Rattle.sms_centre_rows.specs.declared.waiting.handset_link.HandsetLink.{HandsetLink}
use Rattle.sms_centre_rows.specs.waiting.Links.{Links, link_at, link_of, or_new_link_to}
use Rattle.sms_centre_spec.specs.CentreEvent.{follow, links_up}
use Rattle.sms_centre_spec.specs.Draft.{Draft, Store}
use Rattle.sms_centre_spec.specs.Offering.{offer_on}
use Rattle.sms_centre_spec.specs.Receiving.{has_memory, refuse, reject, reply, submit_received, unit_received}
use Rattle.sms_relay.specs.Rejecting.{fault_cause, reference_octet}
use Rattle.sms_centre_spec.proofs.UnitOctets.{tpdu_octets}
use Rattle.sms_relay_run.specs.relay_laws.Relay.{IsAccepted, IsAnswer, IsRefused, RelaysTpdu, RelaysUnit, cause_of, deliver_for, failure_cause_of, refusal_of, report_of, unreadable_answer, unreadable_cause}
use Rattle.sms_relay_run.specs.relay_laws.Relaying.{Relays, destination_in, destination_of, frames_of, others_for, outputs}
use Rattle.sms_relay_run.specs.declared.relay_laws.refusal.Refusal.{Refusal}
use Rattle.sms_relay_run.specs.declared.relay_laws.refusal.Refusal.TheVariants.{NoHandset as NoHandsetOf, PastLimit as PastLimitOf}
use Rattle.sms_relay_run.specs.declared.relay_laws.relayed.Relayed.{Relayed}
use Rattle.sms_relay_run.proofs.relay_laws.Accepting.{accepted_is, accepted_store, body, submitted}
use Rattle.sms_relay_run.proofs.relay_laws.FirstFrame.{acknowledged, answered, links_answered, arrived_unit_is, drafted, links_opened, replied_is, sender, store_for, replied_answer}
use Rattle.sms_relay_run.proofs.relay_laws.Offered.{idle, offered_is, unit_down}

-- ---- what is sent

abbrev nothing : Relayed
nothing = record { answer = None; down = None }

abbrev answer : List ℕ → Relayed
answer octets = record { answer = Some octets; down = None }

-- The unit that opened the transaction leads to a draft; what follows it sends what an empty centre sends.
abbrev Sends : List ℕ → Relayed → Draft → Type 0
Sends from r d = outputs (follow d).links.frames ≡ frames_of from r

-- ---- a unit that can't be read

same_cause : (fault : RelayFault) → fault_cause fault ≡ unreadable_cause fault
same_cause RelayTruncated = refl
same_cause RelayTrailing = refl
same_cause RelayUnknown = refl
same_cause RelayBadLength = refl

same_octet : (unit : List ℕ) → reference_octet unit ≡ slice_index unit 1
same_octet [] = refl
same_octet (kind ∷ []) = refl
same_octet (kind ∷ reference ∷ rest) = refl

-- ---- reports and messages as they are written

report_written : (failure : Option ℕ) (now : ℕ) → IsMoment now → IsWrittenSubmitReport (submit_report_written (submit_report_of failure now)) (report_of failure now)
report_written failure now moment = (stamp_of now, stamp_is_written now moment, tt, refl)

wished : (b : Bool) → is_wish (wish_of b) ≡ b
wished true = refl
wished false = refl

message_written : (centre : Address) (from : List ℕ) (now : ℕ) (s : SubmitOf) (octets : List ℕ) → IsNumber from → IsMoment now → IsSubmit octets s
    → IsWrittenDeliver (deliver_octets now (submitted centre from now s) (body centre from now s)) (deliver_for (own_address from) now s)
message_written centre from now s octets number moment is =
    let d : Deliver = deliver_of now (submitted centre from now s) (body centre from now s) in
    let written : IsWrittenDeliver (deliver_written d) d = (stamp_of now, number, stamp_is_written now moment, is.6, refl) in
    subst (λ (b : Bool). IsWrittenDeliver (deliver_written d) (record d { status_report_indication = b })) (wished s.status_report_request) written

-- ---- why a SUBMIT is refused

-- they are told alike
abbrev IsAlike : SubmitRefusal → Refusal → Type 0
IsAlike refusal own = (told_cause refusal ≡ cause_of own) × (cause_octet (failure_of refusal) ≡ failure_cause_of own)

fault_alike : (fault : TpduFault) → IsAlike (unread fault) (refusal_of fault)
fault_alike Truncated = (refl, refl)
fault_alike _ = (refl, refl)

-- ---- each unit

module _ (centre : Address) (from : List ℕ) (now : ℕ) (unit : List ℕ) (tag : Holder) where
  -- the unit is in, with links to these handsets beside the sender's
  abbrev start : List (List ℕ) → Draft
  start others = drafted (store_for centre now) (links_opened from unit (links_up others))

  -- an answer, where nothing waits
  answer_sent : (others : List (List ℕ)) (kind : Kind) (reference : ℕ) (octets : List ℕ) → Sends from (answer octets) (reply from kind reference tag octets (start others))
  answer_sent others kind reference octets =
      ap (λ (d : Draft). outputs (follow d).links.frames) (replied_is from unit (links_up others) (store_for centre now) kind reference tag octets)

  fault_sent : (others : List (List ℕ)) (fault : RelayFault) → Sends from (answer (unreadable_answer unit fault)) (unit_received from tag unit (Err fault) (start others))
  fault_sent others fault =
      ap (λ (cause : RpCause). outputs (follow (reject from (reference_octet unit) tag cause (start others))).links.frames) (same_cause fault)
      ∙ ap (λ (reference : ℕ). outputs (follow (reject from reference tag (unreadable_cause fault) (start others))).links.frames) (same_octet unit)
      ∙ answer_sent others Error (slice_index unit 1) (unreadable_answer unit fault)

  memory_sent : (others : List (List ℕ)) (reference : ℕ) → Sends from (answer (ack_down reference None)) (unit_received from tag unit (Ok (Smma reference)) (start others))
  memory_sent others reference =
      ap (λ (d : Draft). outputs (follow (has_memory from d)).links.frames) (replied_is from unit (links_up others) (store_for centre now) Ack reference tag (ack_down reference None))

  refused : (others : List (List ℕ)) (reference : ℕ) (refusal : SubmitRefusal) (own : Refusal) → IsMoment now → IsAlike refusal own
      → (r : Relayed) × IsRefused now reference own r × Sends from r (refuse from reference tag refusal (start others))
  refused others reference refusal own moment alike =
      let report : List ℕ = refusing_report refusal now in
      let octets : List ℕ = error_down reference (told_cause refusal) (Some report) in
      let written : IsWrittenSubmitReport report (report_of (Some (failure_cause_of own)) now) =
      subst (λ (n : ℕ). IsWrittenSubmitReport report (report_of (Some n) now)) alike.1 (report_written (Some (cause_octet (failure_of refusal))) now moment) in
      let is : IsRefused now reference own (answer octets) = (report, written, (ap (λ (cause : RpCause). Some (error_down reference cause (Some report))) alike.0, refl)) in
      (answer octets, is, answer_sent others Error reference octets)

  -- ---- a SUBMIT

  module _ (reference : ℕ) (s : SubmitOf) where
    abbrev to : List ℕ
    to = s.destination_address.digits

    abbrev accepting : List ℕ
    accepting = ack_down reference (Some (accepting_report now))

    abbrev accepted : Relayed
    accepted = record { answer = Some accepting; down = Some (s.destination_address, unit_down centre from now s) }

    abbrev link : HandsetLink
    link = answered from unit now Ack reference tag accepting

    -- it is offered on that link
    offered_there : (others : List (List ℕ)) (opened : Option Opened) (answered : Option Carried) → link_of to (link ∷ links_up others) ≡ idle to opened answered
        → Sends from accepted (submit_received from reference tag (Ok (submitted centre from now s)) (start others))
    offered_there others opened answered there =
        let store : Store = accepted_store centre from now s in
        let links : Links = links_answered from unit (links_up others) now Ack reference tag accepting in
        ap (λ (d : Draft). outputs (follow d).links.frames) (accepted_is centre from now s reference tag (links_opened from unit (links_up others)))
        ∙ ap (λ (d : Draft). outputs (follow d).links.frames) (replied_is from unit (links_up others) store Ack reference tag accepting)
        ∙ ap (λ (l : HandsetLink). outputs (offer_on l store links).frames) there
        ∙ offered_is centre from now s opened answered links.all (acknowledged from) (replied_answer from Ack reference tag accepting)

    accepted_sent : (b : Bool) → bytes_eq from to ≡ b → Sends from accepted (submit_received from reference tag (Ok (submitted centre from now s)) (start (if b then [] else to ∷ [])))
    accepted_sent true e =
        offered_there [] link.near_end.links.opened link.near_end.answered
        (ap (λ (o : Option HandsetLink). or_new_link_to to o) (cond-true (bytes_eq from to) (Some link) None e)
        ∙ ap (λ (handset : List ℕ). idle handset link.near_end.links.opened link.near_end.answered) ((bytes_eq-Decides from to).0 e))
    accepted_sent false e =
        offered_there (to ∷ []) None None
        (ap (λ (o : Option HandsetLink). or_new_link_to to o)
        (cond-false (bytes_eq from to) (Some link) (link_at to (sender to ∷ [])) e ∙ cond-true (bytes_eq to to) (Some (sender to)) None (octets_themselves to)))

    accepted_is_so : (octets : List ℕ) → IsNumber from → IsMoment now → IsSubmit octets s → IsAccepted centre (own_address from) now reference s accepted
    accepted_is_so octets number moment is =
        (accepting_report now, deliver_octets now (submitted centre from now s) (body centre from now s), report_written None now moment, message_written centre from now s octets number moment is, refl, refl)

    abbrev judged : Bool → Bool → Result Submission SubmitRefusal
    judged named past = only_if named NoHandset >>= (λ h. only_if (not past) PastLimit >>= (λ k. Ok (submitted centre from now s)))

    abbrev destination : Bool → Option Address
    destination named = if named then Some s.destination_address else None

    judged_as : (named past : Bool) (octets : List ℕ) → IsNumber from → IsMoment now → IsSubmit octets s
        → (r : Relayed) × MatchBool named (MatchBool past (IsRefused now reference PastLimitOf r) (IsAccepted centre (own_address from) now reference s r)) (IsRefused now reference NoHandsetOf r)
        × Sends from r (submit_received from reference tag (judged named past) (start (others_for from (destination named))))
    judged_as false past octets number moment is = refused [] reference NoHandset NoHandsetOf moment (refl, refl)
    judged_as true true octets number moment is = refused (others_for from (destination true)) reference PastLimit PastLimitOf moment (refl, refl)
    judged_as true false octets number moment is = (accepted, accepted_is_so octets number moment is, accepted_sent (bytes_eq from to) refl)

  -- ---- RP-DATA

  data_as : (reference : ℕ) (tpdu : List ℕ) (q : Result Up TpduFault) → IsNumber from → IsMoment now → AreOctets tpdu → tpdu_up_at InData tpdu ≡ q
      → (r : Relayed) × MatchResult q (RelaysTpdu centre (own_address from) now reference r) (λ fault. IsRefused now reference (refusal_of fault) r)
      × Sends from r (submit_received from reference tag (from_read [] from now q) (start (others_for from (destination_in q))))
  unfolding from_submit
  data_as reference tpdu (Ok (Submit s)) number moment are e =
      judged_as reference s (names_handset s.destination_address) (is_past now s.validity_period) tpdu number moment (up_takes InData tpdu (Submit s) are e)
  data_as reference tpdu (Ok (DeliverReport report)) number moment are e = absurd (up_takes InData tpdu (DeliverReport report) are e)
  data_as reference tpdu (Err fault) number moment are e = refused [] reference (unread fault) (refusal_of fault) moment (fault_alike fault)

  -- ---- each unit

  unit_as : (q : Result Rp RelayFault) → IsNumber from → IsMoment now → AreOctets unit → up_at unit ≡ q
      → (r : Relayed) × MatchResult q (RelaysUnit centre (own_address from) now r) (λ fault. IsAnswer (unreadable_answer unit fault) r)
      × Sends from r (unit_received from tag unit q (start (others_for from (destination_of q))))
  unit_as (Ok (DataUnit reference named tpdu)) number moment are e =
      data_as reference tpdu (tpdu_up_at InData tpdu) number moment (tpdu_octets unit tpdu named reference are e) refl
  unit_as (Ok (AckUnit reference tpdu)) number moment are e = (nothing, (refl, refl), refl)
  unit_as (Ok (ErrorUnit reference cause tpdu)) number moment are e = (nothing, (refl, refl), refl)
  unit_as (Ok (Smma reference)) number moment are e = (answer (ack_down reference None), (refl, refl), memory_sent [] reference)
  unit_as (Err fault) number moment are e = (answer (unreadable_answer unit fault), (refl, refl), fault_sent [] fault)

pub relays : (centre : Address) (from : List ℕ) (now : ℕ) (unit : List ℕ) → IsNumber from → IsMoment now → AreOctets unit → 0 < length unit → length unit ≤ 248 → Relays centre from now unit
relays centre from now unit number moment are some few =
    let r = unit_as centre from now unit (Entry 0) (up_at unit) number moment are refl in
    record {
      relayed = r.0;
      is_relayed = r.1;
      sent = ap (λ (d : Draft). outputs d.links.frames) (arrived_unit_is centre from now unit (others_for from (destination_of (up_at unit))) (Entry 0) some few) ∙ r.2;
    }
