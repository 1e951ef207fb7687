use Rattle.std.proofs.Common.{◌∙◌, sym, subst, arith}
use Rattle.sms_base.proofs.OctetLaws.{are_octets}
use Rattle.sms_base.specs.Reading.{AreOctets}
use Rattle.sms_handset_rows.proofs.outbox.PartFields.{carries_lent, lent_is, submit_short}
use Rattle.sms_handset_rows.proofs.outbox.submits.submit_with.Goals as goal

pub write_submit-requires-clause-user_data : goal.write_submit-requires-clause-user_data
write_submit-requires-clause-user_data c =
    let a = c.args in
    carries_lent a.part.now a.fields.now a.message_reference a.destination.now a.report c.of.result (c.of.ensures ∙ c.requires.octets) c.requires.part c.requires.room c.requires.fields

pub of-requires-2-clause-some : goal.of-requires-2-clause-some
of-requires-2-clause-some c =
    let a = c.args in
    (submit_short a.part.now (record a.fields.now { octets = c.of.result }) a.message_reference a.destination.now a.report c.in_ok-tpdu.tpdu c.in_ok-tpdu.ensures.ok).0

pub of-requires-2-clause-few : goal.of-requires-2-clause-few
of-requires-2-clause-few c =
    let a = c.args in
    (submit_short a.part.now (record a.fields.now { octets = c.of.result }) a.message_reference a.destination.now a.report c.in_ok-tpdu.tpdu c.in_ok-tpdu.ensures.ok).1

pub returns : goal.returns
returns c =
    let a = c.args in
    c.of-2.ensures
    ∙ lent_is a.part.now a.fields.now a.message_reference a.destination.now a.report c.in_ok-tpdu.tpdu c.of.result (c.of.ensures ∙ c.requires.octets)
    (subst AreOctets (sym c.of.ensures) (are_octets a.octets.now (λ i. omega (arith, c.type_inv.octets i)))) c.requires.fields c.in_ok-tpdu.ensures.ok
