-- The message is offered at once, on its handset's link.
use Rattle.std.proofs.Common.{◌≡◌, ℕ, ◌+◌, List, [], ◌∷◌, Bool, true, false, Option, Some, None, refl, ◌∙◌, ap, arith}
use Rattle.std.specs.Prelude.{nat_le, ◌&&◌}
use Rattle.std.specs.Str.{bytes_eq}
use Rattle.std.proofs.lemmas.Bool.{and_right, cond-true, le-leb, or_from}
use Rattle.sms_base.proofs.OctetLaws.{octets_themselves}
use Rattle.sms_base.specs.declared.address.Address.{Address}
use Rattle.sms_base.specs.declared.carried.Carried.{Carried}
use Rattle.sms_base.specs.declared.holder.Holder.TheVariants.{Part}
use Rattle.sms_control.specs.ControlGrammar.{spelled}
use Rattle.sms_control.specs.LinkStep.{begin_step, in_transaction}
use Rattle.sms_control.specs.declared.link_state.Opened.{Opened}
use Rattle.sms_control.specs.declared.message.Cp.TheVariants.{DataUnit}
use Rattle.sms_control.specs.declared.transaction.TransactionFlag.TheVariants.{FromOriginator}
use Rattle.sms_intake.specs.HandsetIntake.{wish_of}
use Rattle.sms_intake.specs.PartBodies.{deliver_of, is_wish}
use Rattle.sms_link.specs.LinkTurn.{begun}
use Rattle.sms_link.specs.declared.ending.Side.TheVariants.{Centre}
use Rattle.sms_relay.specs.RelayGrammar.{data_down}
use Rattle.sms_tpdu.specs.AddressGrammar.{relay_address}
use Rattle.sms_tpdu.specs.Bits.{bit, bit_value}
use Rattle.sms_tpdu.specs.MoreMessages.{with_more_messages}
use Rattle.sms_tpdu.specs.TpduGrammar.{deliver_head}
use Rattle.sms_tpdu.specs.declared.submit.Submit.{Submit as SubmitOf}
use Rattle.sms_tpdu.proofs.MoreBits.{more_messages_keeps}
use Rattle.sms_centre_rows.specs.declared.waiting.handset_link.HandsetLink.{HandsetLink}
use Rattle.sms_centre_rows.specs.declared.waiting.handset_link.Sent.{Sent}
use Rattle.sms_centre_rows.specs.declared.waiting.queued_part.QueuedPart.{QueuedPart}
use Rattle.sms_centre_rows.specs.waiting.Links.{Links, turn_link}
use Rattle.sms_centre_rows.specs.waiting.Waiting.{next, preceding, waits_beside}
use Rattle.sms_centre_spec.specs.Draft.{Store, waiting_in}
use Rattle.sms_centre_spec.specs.Offering.{offer_among, offer_queued, offer_on, read_of, unit_of}
use Rattle.sms_relay_run.specs.relay_laws.Relaying.{outputs}
use Rattle.sms_relay_run.proofs.relay_laws.Accepting.{accepted_store, body, submitted, tpdu}
use Rattle.sms_relay_run.proofs.relay_laws.FirstFrame.{links_of}

-- it waits alone, and is due
abbrev pub waiting_queued : ℕ → QueuedPart
waiting_queued now = record { id = 1; number = 1; reference = 0; priority = 0; due = now }

now_is_due : (now : ℕ) → nat_le now now ≡ true
now_is_due now = le-leb now now (omega arith)

picked : (now : ℕ) → next now (waiting_queued now ∷ []) ≡ Some (waiting_queued now)
picked now = ap (λ (o : Option QueuedPart). preceding o None) (cond-true (nat_le now now) (Some (waiting_queued now)) None (now_is_due now))

alone : (now : ℕ) → waits_beside now (waiting_queued now) (waiting_queued now ∷ []) ≡ false
alone now = or_from (nat_le now now && false) false (and_right (nat_le now now) false refl) refl

-- a link that is up, on which this side began nothing yet
abbrev pub idle : List ℕ → Option Opened → Option Carried → HandsetLink
idle to opened answered = record {
  handset = to;
  is_up = true;
  is_awaited = false;
  is_full = false;
  near_end = record {
    side = Centre;
    links = record { next_identifier = 0; begun = None; opened = opened; last_answer = None; last_opening = None };
    under_way = None;
    answered = answered;
  };
}

-- TP-MMS is 1 in it already
head_tells : (a b c : Bool) → bit (4 + bit_value false 8 + bit_value a 32 + bit_value b 64 + bit_value c 128) 4 ≡ true
head_tells true true true = refl
head_tells true true false = refl
head_tells true false true = refl
head_tells true false false = refl
head_tells false true true = refl
head_tells false true false = refl
head_tells false false true = refl
head_tells false false false = refl

module _ (centre : Address) (from : List ℕ) (now : ℕ) (s : SubmitOf) where
  abbrev to : List ℕ
  to = s.destination_address.digits

  abbrev store : Store
  store = accepted_store centre from now s

  waits : waiting_in to store ≡ waiting_queued now ∷ []
  waits = cond-true (bytes_eq to to) (waiting_queued now ∷ []) [] (octets_themselves to)

  abbrev pub unit_down : List ℕ
  unit_down = data_down 0 (relay_address centre) (tpdu centre from now s)

  abbrev pub frame_down : List ℕ
  frame_down = spelled (DataUnit (in_transaction FromOriginator 0) unit_down)

  abbrev offered_links : Option Opened → Option Carried → Bool → Links → Links
  offered_links opened answered more links =
      let link : HandsetLink = idle to opened answered in
      turn_link link (begun now 0 (Part 1 1) (unit_of (waiting_queued now) more store) link.near_end) (read_of (waiting_queued now) store links)

  taken_up : (opened : Option Opened) (answered : Option Carried) (links : Links) → offer_on (idle to opened answered) store links ≡ offered_links opened answered false links
  taken_up opened answered links =
      let link : HandsetLink = idle to opened answered in
      ap (λ (ls : List QueuedPart). offer_among link ls store links) waits
      ∙ ap (λ (o : Option QueuedPart). offer_queued link (waiting_queued now ∷ []) o store links) (picked now)
      ∙ ap (λ (more : Bool). offered_links opened answered more links) (alone now)

  told_alone : with_more_messages false (tpdu centre from now s) ≡ tpdu centre from now s
  told_alone = more_messages_keeps false (deliver_head (deliver_of now (submitted centre from now s) (body centre from now s))) _ (head_tells (is_wish (wish_of s.status_report_request)) s.user_data_header_indicator s.reply_path)

  -- behind the frames that were sent on the sender's link
  pub offered_is : (opened : Option Opened) (answered : Option Carried) (links : List HandsetLink) (ack answer : Sent)
      → outputs (offer_on (idle to opened answered) store (links_of links (ack ∷ answer ∷ []))).frames
      ≡ (ack.handset, ack.frame.octets) ∷ (answer.handset, answer.frame.octets) ∷ (to, frame_down) ∷ []
  unfolding begin_step
  offered_is opened answered links ack answer =
      ap (λ (links : Links). outputs links.frames) (taken_up opened answered (links_of links (ack ∷ answer ∷ [])))
      ∙ ap (λ (octets : List ℕ). (ack.handset, ack.frame.octets) ∷ (answer.handset, answer.frame.octets) ∷ (to, spelled (DataUnit (in_transaction FromOriginator 0) (data_down 0 (relay_address centre) octets))) ∷ []) told_alone
