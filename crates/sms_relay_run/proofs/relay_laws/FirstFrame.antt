-- The unit comes to the centre, and is answered on the sender's link.
use Rattle.std.proofs.Common.{◌≡◌, ℕ, ◌<◌, ◌≤◌, length, List, [], ◌∷◌, true, false, Option, Some, None, Result, Ok, refl, ◌∙◌, ap, arith}
use Rattle.std.specs.Str.{bytes_eq}
use Rattle.std.proofs.lemmas.Bool.{cond-true}
use Rattle.std.proofs.lemmas.Slice.Eq.{bytes_eq-Decides}
use Rattle.sms_base.proofs.OctetLaws.{octets_themselves}
use Rattle.sms_base.specs.declared.address.Address.{Address}
use Rattle.sms_base.specs.declared.carried.Kind.{Kind}
use Rattle.sms_base.specs.declared.holder.Holder.{Holder}
use Rattle.sms_control.specs.ControlGrammar.{spelled}
use Rattle.sms_control.specs.ControlReading.{cp_at}
use Rattle.sms_control.specs.LinkStep.{acknowledgement, frame_taken as step_taken, fresh, in_transaction, reply_step, take_step}
use Rattle.sms_control.specs.Timers.{first_sending}
use Rattle.sms_control.specs.declared.fault.CpFault.{CpFault}
use Rattle.sms_control.specs.declared.link_state.LinkState.{LinkState}
use Rattle.sms_control.specs.declared.message.Cp.{Cp}
use Rattle.sms_control.specs.declared.message.Cp.TheVariants.{DataUnit}
use Rattle.sms_control.specs.declared.transaction.TransactionFlag.TheVariants.{FromOriginator, ToOriginator}
use Rattle.sms_control.proofs.ControlFrames.{spelled_again}
use Rattle.sms_link.specs.LinkTurn.{Turn, carried_in, heard, new_link, of_kind, of_links, taken}
use Rattle.sms_link.specs.declared.ending.Side.TheVariants.{Centre}
use Rattle.sms_relay.specs.RelayReading.{up_at}
use Rattle.sms_centre_rows.specs.declared.waiting.handset_link.HandsetLink.{HandsetLink}
use Rattle.sms_centre_rows.specs.declared.waiting.handset_link.Sent.{Sent}
use Rattle.sms_centre_rows.specs.waiting.Links.{Links, link_at, link_of, or_new_link_to, with_link}
use Rattle.sms_centre_spec.specs.CentreEvent.{follow, frame_received, frame_heard, frame_taken, links_up, started}
use Rattle.sms_centre_spec.specs.Draft.{Draft, Store, draft_of, on_links, store_of}
use Rattle.sms_centre_spec.specs.Receiving.{reply, reply_on, unit_received}
use Rattle.sms_centre_spec.specs.SoundRows.{first_rows}
use Rattle.sms_relay_run.specs.relay_laws.Relaying.{frame_for, setup_for}

-- ---- the sender's link: as it comes up, with the unit in, and answered

abbrev pub sender : List ℕ → HandsetLink
sender from = record { handset = from; is_up = true; is_awaited = false; is_full = false; near_end = new_link Centre }

abbrev pub opened_links : List ℕ → LinkState
opened_links unit = record {
  next_identifier = 0;
  begun = None;
  opened = Some (record { identifier = 0; opening = frame_for unit; answer = None });
  last_answer = None;
  last_opening = None;
}

abbrev pub opened : List ℕ → List ℕ → HandsetLink
opened from unit = record {
  handset = from;
  is_up = true;
  is_awaited = false;
  is_full = false;
  near_end = record { side = Centre; links = opened_links unit; under_way = None; answered = None };
}

abbrev pub answer_frame : List ℕ → List ℕ
answer_frame answer = spelled (DataUnit (in_transaction ToOriginator 0) answer)

abbrev pub answered_links : List ℕ → ℕ → List ℕ → LinkState
answered_links unit now answer = record {
  next_identifier = 0;
  begun = None;
  opened = Some (record { identifier = 0; opening = frame_for unit; answer = Some (record { frame = answer_frame answer; repetition = first_sending now }) });
  last_answer = None;
  last_opening = None;
}

abbrev pub answered : List ℕ → List ℕ → ℕ → Kind → ℕ → Holder → List ℕ → HandsetLink
answered from unit now kind reference tag answer = record {
  handset = from;
  is_up = true;
  is_awaited = false;
  is_full = false;
  near_end = record { side = Centre; links = answered_links unit now answer; under_way = None; answered = Some (of_kind kind reference tag) };
}

-- ---- what was sent on it

abbrev pub acknowledged : List ℕ → Sent
acknowledged from =
    let ack = acknowledgement (in_transaction FromOriginator 0) in
    record { handset = from; frame = of_links ack (carried_in (cp_at ack) None None) }

abbrev pub replied_answer : List ℕ → Kind → ℕ → Holder → List ℕ → Sent
replied_answer from kind reference tag answer =
    record { handset = from; frame = record { octets = answer_frame answer; carried = Some (of_kind kind reference tag); is_copy = false } }

-- ---- the drafts

abbrev pub drafted : Store → Links → Draft
drafted s links = record { store = s; links = links; bindings = record { sessions = []; deliveries = [] }; answer = None }

abbrev pub links_of : List HandsetLink → List Sent → Links
links_of links frames = record { all = links; frames = frames; read = [] }

abbrev pub store_for : Address → ℕ → Store
store_for centre now = store_of (first_rows (setup_for centre now)) now

module _ (from unit : List ℕ) (rest : List HandsetLink) where
  -- the unit is in, and CP-ACK went out
  abbrev pub links_opened : Links
  links_opened = links_of (opened from unit ∷ rest) (acknowledged from ∷ [])

  -- and the answer went out
  abbrev pub links_answered : ℕ → Kind → ℕ → Holder → List ℕ → Links
  links_answered now kind reference tag answer =
      links_of (answered from unit now kind reference tag answer ∷ rest) (acknowledged from ∷ replied_answer from kind reference tag answer ∷ [])

  found : (link : HandsetLink) → link.handset ≡ from → link_of from (link ∷ rest) ≡ link
  found link e = ap (λ (o : Option HandsetLink). or_new_link_to from o) (cond-true (bytes_eq link.handset from) (Some link) (link_at from rest) ((bytes_eq-Decides link.handset from).1 e))

  -- an answer
  pub replied_is : (s : Store) (kind : Kind) (reference : ℕ) (tag : Holder) (answer : List ℕ)
      → reply from kind reference tag answer (drafted s links_opened) ≡ drafted s (links_answered s.moment kind reference tag answer)
  unfolding reply_step
  replied_is s kind reference tag answer =
      let d : Draft = drafted s links_opened in
      let link : HandsetLink = answered from unit s.moment kind reference tag answer in
      let frames : List Sent = acknowledged from ∷ replied_answer from kind reference tag answer ∷ [] in
      ap (λ (l : HandsetLink). on_links (reply_on l s.moment kind reference tag answer links_opened) d) (found (opened from unit) refl)
      ∙ ap (λ (ls : List HandsetLink). drafted s (links_of ls frames))
      (cond-true (bytes_eq from from) (link ∷ rest) (opened from unit ∷ with_link link rest) (octets_themselves from))

-- ---- the unit comes

pub arrived_unit_is : (centre : Address) (from : List ℕ) (now : ℕ) (unit : List ℕ) (others : List (List ℕ)) (tag : Holder) → 0 < length unit → length unit ≤ 248
    → frame_received from (frame_for unit) tag (started (first_rows (setup_for centre now)) (from ∷ others) [])
    ≡ follow (unit_received from tag unit (up_at unit) (drafted (store_for centre now) (links_opened from unit (links_up others))))
unfolding take_step
arrived_unit_is centre from now unit others tag some few =
    let c = started (first_rows (setup_for centre now)) (from ∷ others) [] in
    let d : Draft = draft_of c in
    let rest : List HandsetLink = links_up others in
    let frame : List ℕ = frame_for unit in
    let read : cp_at frame ≡ Ok (DataUnit (in_transaction FromOriginator 0) unit) =
    spelled_again (DataUnit (in_transaction FromOriginator 0) unit) (omega arith, some, few) in
    let at : link_of from c.links ≡ sender from = found from unit rest (sender from) refl in
    let turned : taken frame (new_link Centre) ≡ heard (step_taken frame fresh (Ok (DataUnit (in_transaction FromOriginator 0) unit))) (new_link Centre) =
    ap (λ (r : Result Cp CpFault). heard (step_taken frame fresh r) (new_link Centre)) read in
    ap (λ (l : HandsetLink). follow (frame_taken frame tag l d)) at
    ∙ ap (λ (t : Turn). follow (frame_heard (sender from) tag t d)) turned
    ∙ ap (λ (ls : List HandsetLink). follow (unit_received from tag unit (up_at unit) (drafted (store_for centre now) (links_of ls (acknowledged from ∷ [])))))
    (cond-true (bytes_eq from from) (opened from unit ∷ rest) (sender from ∷ with_link (opened from unit) rest) (octets_themselves from))
