use Rattle.std.proofs.Common.{◌∷◌, []}
use Rattle.smpp_pdu.specs.Fields.{c_string, counted}
use Rattle.smpp_pdu.specs.BodyGrammar.{address_octets}
use Rattle.smpp_pdu.proofs.Puts.{before}
use Rattle.smpp_pdu.proofs.message.Message.put.Goals as goal

pub returns-clause-items : goal.returns-clause-items
returns-clause-items c =
    let m = c.args.self.now in
    let done = c.put-3.new.out.items in
    before c.args.out.now.items c.put_text.new.out.items done (c_string m.service_type) _ c.put_text.ensures.items (
    before c.put_text.new.out.items c.put.new.out.items done (address_octets m.source) _ c.put.ensures.items (
    before c.put.new.out.items c.put-2.new.out.items done (address_octets m.destination) _ c.put-2.ensures.items (
    before c.put-2.new.out.items c.put_octet.new.out.items done (m.esm_class ∷ []) _ c.put_octet.ensures.items (
    before c.put_octet.new.out.items c.put_octet-2.new.out.items done (m.protocol_id ∷ []) _ c.put_octet-2.ensures.items (
    before c.put_octet-2.new.out.items c.put_octet-3.new.out.items done (m.priority_flag ∷ []) _ c.put_octet-3.ensures.items (
    before c.put_octet-3.new.out.items c.put_text-2.new.out.items done (c_string m.schedule_delivery_time) _ c.put_text-2.ensures.items (
    before c.put_text-2.new.out.items c.put_text-3.new.out.items done (c_string m.validity_period) _ c.put_text-3.ensures.items (
    before c.put_text-3.new.out.items c.put_octet-4.new.out.items done (m.registered_delivery ∷ []) _ c.put_octet-4.ensures.items (
    before c.put_octet-4.new.out.items c.put_octet-5.new.out.items done (m.replace_if_present_flag ∷ []) _ c.put_octet-5.ensures.items (
    before c.put_octet-5.new.out.items c.put_octet-6.new.out.items done (m.data_coding ∷ []) _ c.put_octet-6.ensures.items (
    before c.put_octet-6.new.out.items c.put_octet-7.new.out.items done (m.sm_default_msg_id ∷ []) _ c.put_octet-7.ensures.items (
    before c.put_octet-7.new.out.items c.put_counted.new.out.items done (counted m.short_message) _ c.put_counted.ensures.items (
    c.put-3.ensures.items)))))))))))))
