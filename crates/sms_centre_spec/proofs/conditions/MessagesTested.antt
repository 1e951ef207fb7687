-- The tests of messages, parts and priorities hold exactly where a centre can stand on them.
use Rattle.std.proofs.Common.{◌≡◌, ℕ, ◌<◌, List, length, Bool, true, false, Option, Some, None, Result, Ok, Err, refl, sym, ◌∙◌, ap, is_none, is_some, arith}
use Rattle.std.specs.List.{list_all}
use Rattle.std.specs.Prelude.{◌&&◌, ◌==◌, nat_le, nat_lt, not}
use Rattle.std.proofs.lemmas.Bool.{and_from, and_parts, eq-eqb, eqb-true, le-leb, leb-true, lt-ltb, ltb-true}
use Rattle.sms_base.specs.Among.{Among}
use Rattle.sms_base.specs.declared.final_state.FinalState.{FinalState}
use Rattle.sms_base.specs.HandsetNumber.{own_address}
use Rattle.sms_rows.specs.table.Table.{Rises, row_at}
use Rattle.sms_tpdu.specs.declared.carrier.Carrier.TheVariants.{InData}
use Rattle.sms_tpdu.specs.declared.deliver.Deliver.{Deliver as DeliverOf}
use Rattle.sms_tpdu.specs.declared.down.Down.{Down}
use Rattle.sms_tpdu.specs.declared.down.Down.TheVariants.{Deliver, StatusReport, SubmitReport}
use Rattle.sms_tpdu.specs.declared.fault.TpduFault.{TpduFault}
use Rattle.sms_tpdu.specs.TpduReading.{down_at}
use Rattle.sms_centre_rows.specs.declared.messages.message.MessageRow.{MessageRow}
use Rattle.sms_centre_rows.specs.declared.messages.part.PartRow.{PartRow}
use Rattle.sms_centre_rows.specs.declared.messages.priority.PriorityRow.{PriorityRow}
use Rattle.sms_centre_rows.specs.messages.Messages.{message_at, message_key, part_at, part_key, priority_key}
use Rattle.sms_centre_rows.specs.messages.SoundMessages.{EndsAt, IsDeliver, IsMessage, IsPart, IsPriority, SoundMessages}
use Rattle.sms_centre_rows.specs.messages.SplitReferences.{is_delivered, is_same_address}
use Rattle.sms_centre_rows.specs.conditions.AddressTest.{is_address}
use Rattle.sms_centre_rows.specs.conditions.MessageTest.{MessagesPass, are_alike, carries, ends_so, has_rows, is_deliver_of, is_done, is_handset, is_id, is_message, is_part, is_priority, delivery_agrees, parts_with}
use Rattle.sms_centre_rows.proofs.conditions.AddressTested.{address_from, address_same, address_to, same_address}
use Rattle.sms_centre_spec.proofs.conditions.DoneTogether.{done_together}
use Rattle.sms_centre_rows.proofs.conditions.Passing.{each_from, each_to, is_there, there_is}

-- ---- messages

ended_from : (state : Option FinalState) (done : Option ℕ) → ends_so state done ≡ true → EndsAt state done
ended_from None None e = refl
ended_from None (Some n) e = absurd cc
ended_from (Some f) None e = absurd cc
ended_from (Some f) (Some n) e = (n, refl)

ended_to : (state : Option FinalState) (done : Option ℕ) → EndsAt state done → ends_so state done ≡ true
ended_to None done is = ap (λ (o : Option ℕ). is_none o) is
ended_to (Some f) done is = is_there done is.0 is.1

alike_from : (a b : Bool) → are_alike a b ≡ true → a ≡ b
alike_from true true e = refl
alike_from true false e = absurd cc
alike_from false true e = absurd cc
alike_from false false e = refl

alike_to : (a b : Bool) → a ≡ b → are_alike a b ≡ true
alike_to true b e = sym e
alike_to false b e = ap (λ (x : Bool). not x) (sym e)

module _ (messages : List MessageRow) (parts : List PartRow) (priorities : List PriorityRow) where
  -- parts have numbers that keys can hold
  abbrev AreShort : Type 0
  AreShort = (p : PartRow) → Among p parts → p.number < 256

  message_from : (m : MessageRow) → Rises part_key parts → AreShort → is_message parts priorities m ≡ true → IsMessage parts priorities m
  message_from m rises short e =
      let top = and_parts ((is_id m.id && is_address m.source) && (is_handset m.handset && ends_so m.state m.done)) (delivery_agrees parts m && has_rows parts priorities m.id) e in
      let own = and_parts (is_id m.id && is_address m.source) (is_handset m.handset && ends_so m.state m.done) top.0 in
      let one = and_parts (is_id m.id) (is_address m.source) own.0 in
      let id = and_parts (nat_lt 0 m.id) (nat_le m.id 9999999999) one.0 in
      let two = and_parts (is_handset m.handset) (ends_so m.state m.done) own.1 in
      let rest = and_parts (delivery_agrees parts m) (has_rows parts priorities m.id) top.1 in
      let rows = and_parts (is_some (part_at m.id 1 parts)) (is_some (row_at priority_key m.id priorities)) rest.1 in
      record {
        id = record { some = ltb-true 0 m.id id.0; short = leb-true m.id 9999999999 id.1 };
        source = address_from m.source one.1;
        handset = address_from (own_address m.handset) two.0;
        ended = ended_from m.state m.done two.1;
        delivered = alike_from (is_delivered m.state) (list_all is_done (parts_with m.id parts)) rest.0 ∙ done_together m.id parts rises short;
        first = there_is (part_at m.id 1 parts) rows.0;
        priority = there_is (row_at priority_key m.id priorities) rows.1;
      }

  message_to : (m : MessageRow) → Rises part_key parts → AreShort → IsMessage parts priorities m → is_message parts priorities m ≡ true
  message_to m rises short is =
      and_from ((is_id m.id && is_address m.source) && (is_handset m.handset && ends_so m.state m.done)) (delivery_agrees parts m && has_rows parts priorities m.id)
      (and_from (is_id m.id && is_address m.source) (is_handset m.handset && ends_so m.state m.done)
      (and_from (is_id m.id) (is_address m.source)
      (and_from (nat_lt 0 m.id) (nat_le m.id 9999999999) (lt-ltb 0 m.id (is.id).some) (le-leb m.id 9999999999 (is.id).short)) (address_to m.source is.source))
      (and_from (is_handset m.handset) (ends_so m.state m.done) (address_to (own_address m.handset) is.handset) (ended_to m.state m.done is.ended)))
      (and_from (delivery_agrees parts m) (has_rows parts priorities m.id)
      (alike_to (is_delivered m.state) (list_all is_done (parts_with m.id parts)) (is.delivered ∙ sym (done_together m.id parts rises short)))
      (and_from (is_some (part_at m.id 1 parts)) (is_some (row_at priority_key m.id priorities))
      (is_there (part_at m.id 1 parts) (is.first).0 (is.first).1) (is_there (row_at priority_key m.id priorities) (is.priority).0 (is.priority).1)))

-- ---- parts

deliver_from : (m : MessageRow) (p : PartRow) (r : Result Down TpduFault) → down_at InData p.tpdu ≡ r → nat_le (length p.tpdu) 200 ≡ true → is_deliver_of m r ≡ true → (d : DeliverOf) × IsDeliver m p d
deliver_from m p (Ok (Deliver d)) read fits e =
    let a = and_parts (is_same_address d.originating_address m.source) ((d.data_coding_scheme == m.data_coding_scheme) && ((d.protocol_identifier == m.protocol_identifier) && d.no_more_messages_to_send)) e in
    let b = and_parts (d.data_coding_scheme == m.data_coding_scheme) ((d.protocol_identifier == m.protocol_identifier) && d.no_more_messages_to_send) a.1 in
    let c = and_parts (d.protocol_identifier == m.protocol_identifier) d.no_more_messages_to_send b.1 in (
      d,
      record {
        read = read;
        source = same_address d.originating_address m.source a.0;
        data_coding_scheme = eqb-true d.data_coding_scheme m.data_coding_scheme b.0;
        protocol_identifier = eqb-true d.protocol_identifier m.protocol_identifier c.0;
        no_more = c.1;
        fits = leb-true (length p.tpdu) 200 fits;
      },
    )
deliver_from m p (Ok (StatusReport s)) read fits e = absurd cc
deliver_from m p (Ok (SubmitReport s)) read fits e = absurd cc
deliver_from m p (Err f) read fits e = absurd cc

deliver_to : (m : MessageRow) (p : PartRow) (d : DeliverOf) → IsDeliver m p d → is_deliver_of m (down_at InData p.tpdu) ≡ true
deliver_to m p d is =
    ap (λ (r : Result Down TpduFault). is_deliver_of m r) is.read
    ∙ and_from (is_same_address d.originating_address m.source) ((d.data_coding_scheme == m.data_coding_scheme) && ((d.protocol_identifier == m.protocol_identifier) && d.no_more_messages_to_send))
    (address_same d.originating_address m.source is.source)
    (and_from (d.data_coding_scheme == m.data_coding_scheme) ((d.protocol_identifier == m.protocol_identifier) && d.no_more_messages_to_send)
    (eq-eqb d.data_coding_scheme m.data_coding_scheme is.data_coding_scheme)
    (and_from (d.protocol_identifier == m.protocol_identifier) d.no_more_messages_to_send (eq-eqb d.protocol_identifier m.protocol_identifier is.protocol_identifier) is.no_more))

-- its message is there, and it carries its DELIVER
abbrev Carries : List MessageRow → PartRow → Option MessageRow → Type 0
Carries messages p o = (m : MessageRow) × ((o ≡ Some m) × ((d : DeliverOf) × IsDeliver m p d))

carries_from : (messages : List MessageRow) (p : PartRow) (o : Option MessageRow) → carries p o ≡ true → Carries messages p o
carries_from messages p None e = absurd cc
carries_from messages p (Some m) e =
    let a = and_parts (nat_le (length p.tpdu) 200) (is_deliver_of m (down_at InData p.tpdu)) e in
    (m, (refl, deliver_from m p (down_at InData p.tpdu) refl a.0 a.1))

carries_to : (messages : List MessageRow) (p : PartRow) (o : Option MessageRow) → Carries messages p o → carries p o ≡ true
carries_to messages p o is =
    let m : MessageRow = is.0 in
    let d : DeliverOf = is.1.1.0 in
    let deliver : IsDeliver m p d = is.1.1.1 in
    ap (λ (x : Option MessageRow). carries p x) is.1.0
    ∙ and_from (nat_le (length p.tpdu) 200) (is_deliver_of m (down_at InData p.tpdu)) (le-leb (length p.tpdu) 200 deliver.fits) (deliver_to m p d deliver)

part_from : (messages : List MessageRow) (p : PartRow) → is_part messages p ≡ true → IsPart messages p
part_from messages p e =
    let a = and_parts (carries p (message_at p.id messages)) ((nat_lt 0 p.number && nat_le p.number 20) && nat_lt p.reference 256) e in
    let b = and_parts (nat_lt 0 p.number && nat_le p.number 20) (nat_lt p.reference 256) a.1 in
    let c = and_parts (nat_lt 0 p.number) (nat_le p.number 20) b.0 in
    record { first = ltb-true 0 p.number c.0; few = leb-true p.number 20 c.1; reference = ltb-true p.reference 256 b.1; message = carries_from messages p (message_at p.id messages) a.0 }

part_to : (messages : List MessageRow) (p : PartRow) → IsPart messages p → is_part messages p ≡ true
part_to messages p is =
    and_from (carries p (message_at p.id messages)) ((nat_lt 0 p.number && nat_le p.number 20) && nat_lt p.reference 256)
    (carries_to messages p (message_at p.id messages) is.message)
    (and_from (nat_lt 0 p.number && nat_le p.number 20) (nat_lt p.reference 256)
    (and_from (nat_lt 0 p.number) (nat_le p.number 20) (lt-ltb 0 p.number is.first) (le-leb p.number 20 is.few)) (lt-ltb p.reference 256 is.reference))

-- ---- priorities

priority_from : (messages : List MessageRow) (p : PriorityRow) → is_priority messages p ≡ true → IsPriority messages p
priority_from messages p e =
    let a = and_parts (nat_le p.priority 3) (is_some (message_at p.id messages)) e in
    record { few = leb-true p.priority 3 a.0; message = there_is (message_at p.id messages) a.1 }

priority_to : (messages : List MessageRow) (p : PriorityRow) → IsPriority messages p → is_priority messages p ≡ true
priority_to messages p is =
    and_from (nat_le p.priority 3) (is_some (message_at p.id messages)) (le-leb p.priority 3 is.few) (is_there (message_at p.id messages) (is.message).0 (is.message).1)

-- ---- all of it

pub messages_from : (messages : List MessageRow) (parts : List PartRow) (priorities : List PriorityRow) → Rises message_key messages → Rises part_key parts → Rises priority_key priorities
    → MessagesPass messages parts priorities → SoundMessages messages parts priorities
messages_from messages parts priorities a b c pass =
    let each : (p : PartRow) → Among p parts → IsPart messages p = λ p m. part_from messages p (each_from (λ q. is_part messages q) parts pass.each_part p m) in
    let short : (p : PartRow) → Among p parts → p.number < 256 = λ p m. let few = (each p m).few in omega (arith, few) in
    record {
      message_keys = a;
      part_keys = b;
      priority_keys = c;
      each_message = λ r m. message_from messages parts priorities r b short (each_from (λ q. is_message parts priorities q) messages pass.each_message r m);
      each_part = each;
      each_priority = λ r m. priority_from messages r (each_from (λ q. is_priority messages q) priorities pass.each_priority r m);
    }

pub messages_to : (messages : List MessageRow) (parts : List PartRow) (priorities : List PriorityRow) → SoundMessages messages parts priorities → MessagesPass messages parts priorities
messages_to messages parts priorities s =
    let short : (p : PartRow) → Among p parts → p.number < 256 = λ p m. let few = (s.each_part p m).few in omega (arith, few) in
    record {
      each_message = each_to (λ q. is_message parts priorities q) messages (λ r m. message_to messages parts priorities r s.part_keys short (s.each_message r m));
      each_part = each_to (λ q. is_part messages q) parts (λ r m. part_to messages r (s.each_part r m));
      each_priority = each_to (λ q. is_priority messages q) priorities (λ r m. priority_to messages r (s.each_priority r m));
    }
