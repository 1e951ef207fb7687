-- Each event of a handset sends octets, and so does every course of them.
use Rattle.std.proofs.Common.{◌≡◌, ℕ, ◌<◌, arith, List, [], ◌∷◌, length, refl, subst, Result, Ok, Err}
use Rattle.sms_base.specs.Reading.{AreOctets}
use Rattle.sms_control.specs.declared.fault.CpFault.{CpFault}
use Rattle.sms_control.specs.declared.message.Cp.{Cp}
use Rattle.sms_control.specs.declared.message.Cp.TheVariants.{DataUnit as CpData, AckUnit as CpAck, ErrorUnit as CpError}
use Rattle.sms_control.specs.ControlGrammar.{IsCp, head_octet}
use Rattle.sms_control.specs.ControlReading.{cp_at}
use Rattle.sms_control.proofs.ControlFrames.{cp_found}
use Rattle.sms_relay.specs.declared.fault.RelayFault.{RelayFault}
use Rattle.sms_relay.specs.declared.frame.Rp.{Rp}
use Rattle.sms_relay.specs.declared.frame.Rp.TheVariants.{DataUnit, AckUnit, ErrorUnit, Smma}
use Rattle.sms_relay.specs.RelayGrammar.{IsDown, data_down}
use Rattle.sms_relay.specs.RelayReading.{down_at}
use Rattle.sms_relay.proofs.FieldLaws.{IsBytes-octets}
use Rattle.sms_relay.proofs.UnitLaws.{down_takes}
use Rattle.sms_link.specs.LinkTurn.{Turn, fired, taken}
use Rattle.sms_handset_draft.specs.Draft.{Core, Draft, core_of, draft_of, link_of, recovered}
use Rattle.sms_handset_draft.specs.FirstRows.{first_rows}
use Rattle.sms_handset_draft.specs.FramesAndTicks.{at_moment, frame_heard, timers_fired}
use Rattle.sms_relay.specs.Rejecting.{reference_octet}
use Rattle.sms_handset.specs.HandsetEvent.{acted, frame_received, tag_of, ticked}
use Rattle.sms_handset.specs.OwnersActs.{delete, discard, write}
use Rattle.sms_handset.specs.declared.event.HandsetEvent.{HandsetEvent}
use Rattle.sms_handset.specs.declared.event.HandsetEvent.TheVariants.{Frame, Tick, Write, Delete, Discard}
use Rattle.sms_handset.specs.declared.refusal.Refusal.{Refusal}
use Rattle.sms_base.specs.declared.holder.Holder.{Holder}
use Rattle.sms_world.specs.handsets_send_octets.Arriving.{BringsInOctets, ArrivesInOctets, EventInOctets, IsAnsweredInOctet}
use Rattle.sms_world.specs.handsets_send_octets.Keeping.{CoreKeepsOctets}
use Rattle.sms_world.specs.handsets_send_octets.OctetLaws.{AllSendOctets, AreInOctets, ArrivalLaw, RunLaw, Episode, EventLaw, IfDone, RestartLaw, Restart, SendsOctets, StartLaw, Stopped, Whole, again, happened}
use Rattle.sms_world.proofs.handsets_send_octets.LinkOctets.{fired_fits, taken_fits}
use Rattle.sms_world.proofs.handsets_send_octets.StageOctets.{IfDoneOctets, OctetsAt, deletes, discards, fires, follows, heard, turn_fits, writes}
use Rattle.sms_handset.proofs.KeptByStages.{acted_keeps}

-- ---- one event

comes : (octets : List ℕ) (tag : Holder) (c : Core) → CoreKeepsOctets c → ArrivesInOctets octets → OctetsAt (frame_received octets tag c)
comes octets tag c k o =
    let turn : Turn = taken octets (link_of (draft_of c)) in
    let t = taken_fits octets (link_of (draft_of c)) o k.link in
    follows (frame_heard tag turn (draft_of c)) (heard tag turn (draft_of c) t.up (turn_fits turn (draft_of c) t (k, tt)))

ticks : (now : ℕ) (c : Core) → CoreKeepsOctets c → OctetsAt (ticked now c)
ticks now c k =
    let d : Draft = at_moment now (draft_of c) in
    let turn : Turn = fired d.moment (link_of d) in
    let t = fired_fits d.moment (link_of d) k.link in
    follows (timers_fired turn d) (fires turn d (turn_fits turn d t (k, tt)))

acts : (r : Result Draft Refusal) → IfDoneOctets r → IfDoneOctets (acted r)
acts r s = acted_keeps OctetsAt OctetsAt follows r s

event_keeps : (event : HandsetEvent) (c : Core) → CoreKeepsOctets c → EventInOctets event → IfDoneOctets (happened event c)
event_keeps (Frame octets tag) c k e = comes octets (tag_of tag) c k e
event_keeps (Tick now) c k e = ticks now c k
event_keeps (Write text to report) c k e = acts (write text to report (draft_of c)) (writes text to report (draft_of c) e (k, tt))
event_keeps (Delete entry) c k e = acts (delete entry (draft_of c)) (deletes entry (draft_of c) (k, tt))
event_keeps (Discard entry) c k e = acts (discard entry (draft_of c)) (discards entry (draft_of c) (k, tt))

pub event_sends : EventLaw
event_sends event c d k e q =
    let s : IfDoneOctets (Ok d) = subst (λ (r : Result Draft Refusal). IfDoneOctets r) q (event_keeps event c k e) in record { sent = s.1; core = s.0 }

-- ---- starts

pub restart_keeps : RestartLaw
restart_keeps c setup k a = record {
  centre = a;
  reference = k.reference;
  message_reference = k.message_reference;
  concat_reference = k.concat_reference;
  outbox = k.outbox;
  link = record { next = (let l : 0 < 7 = omega arith in l); begun = tt; opened = tt };
  notices = λ n i. absurd i;
}

pub start_keeps : StartLaw
start_keeps setup a = record {
  centre = a;
  reference = (let l : 0 < 256 = omega arith in l);
  message_reference = (let l : 0 < 256 = omega arith in l);
  concat_reference = (let l : 0 < 65536 = omega arith in l);
  outbox = λ o i. absurd i;
  link = record { next = (let l : 0 < 7 = omega arith in l); begun = tt; opened = tt };
  notices = λ n i. absurd i;
}

-- ---- a course

if_done : (r : Result Draft Refusal) (c : Core) (Refused : Core → Type 0) (Done : Draft → Type 0) → IfDoneOctets r → CoreKeepsOctets c → (CoreKeepsOctets c → Refused c)
    → ((d : Draft) → SendsOctets d → Done d) → IfDone r c Refused Done
if_done (Ok d) c Refused Done s k f g = g d (record { sent = s.1; core = s.0 })
if_done (Err refusal) c Refused Done s k f g = f k

run_from : (es : List Episode) (c : Core) → CoreKeepsOctets c → AreInOctets es → AllSendOctets es c
run_from [] c k a = tt
run_from (Whole event ∷ es) c k a =
    if_done (happened event c) c _ _ (event_keeps event c k a.0) k (λ q. run_from es c q a.1) (λ d s. (s.sent, run_from es (core_of d) s.core a.1))
run_from (Stopped event setup ∷ es) c k a =
    if_done (happened event c) c _ _ (event_keeps event c k a.0.0) k (λ q. run_from es (again setup c) (restart_keeps c setup q a.0.1) a.1)
    (λ d s. run_from es (again setup (core_of d)) (restart_keeps (core_of d) setup s.core a.0.1) a.1)
run_from (Restart setup ∷ es) c k a = run_from es (again setup c) (restart_keeps c setup k a.0) a.1

pub run_sends : RunLaw
run_sends es setup a e = run_from es (recovered (first_rows setup)) (start_keeps setup a) e

-- ---- frames of octets

reference_small : (unit : List ℕ) → AreOctets unit → reference_octet unit < 256
reference_small [] h = let l : 0 < 256 = omega arith in l
reference_small (a ∷ []) h = let l : 0 < 256 = omega arith in l
reference_small (a ∷ r ∷ rest) h = h.1.0

unit_answered : (unit : List ℕ) (r : Result Rp RelayFault) → AreOctets unit → down_at unit ≡ r → IsAnsweredInOctet unit r
unit_answered unit (Ok (DataUnit reference centre tpdu)) h e =
    let is : IsDown unit (DataUnit reference centre tpdu) = down_takes unit (DataUnit reference centre tpdu) (IsBytes-octets unit h) e in
    let all : AreOctets (data_down reference centre tpdu) = subst (λ (xs : List ℕ). AreOctets xs) is.2 h in all.1.0
unit_answered unit (Ok (AckUnit reference tpdu)) h e = tt
unit_answered unit (Ok (ErrorUnit reference cause tpdu)) h e = tt
unit_answered unit (Ok (Smma reference)) h e = tt
unit_answered unit (Err fault) h e = reference_small unit h

brings : (octets : List ℕ) (r : Result Cp CpFault) → AreOctets octets → r ≡ cp_at octets → BringsInOctets r
brings octets (Ok (CpData t unit)) h e =
    let is : IsCp octets (CpData t unit) = cp_found octets (Ok (CpData t unit)) (IsBytes-octets octets h) e in
    let all : AreOctets (head_octet t ∷ 1 ∷ length unit ∷ unit) = subst (λ (xs : List ℕ). AreOctets xs) is.spells h in
    (is.value.0, unit_answered unit (down_at unit) all.1.1.1 refl)
brings octets (Ok (CpAck t)) h e = tt
brings octets (Ok (CpError t cause)) h e = tt
brings octets (Err fault) h e = tt

pub octets_come : ArrivalLaw
octets_come octets h = brings octets (cp_at octets) h refl
