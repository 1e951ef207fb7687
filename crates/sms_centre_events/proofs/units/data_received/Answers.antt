use Rattle.std.proofs.Common.{refl, arith}
use Rattle.sms_base.proofs.OctetLaws.{are_octets}
use Rattle.sms_tpdu.specs.declared.carrier.Carrier.TheVariants.{InData}
use Rattle.sms_tpdu.specs.TpduReading.{up_at}
use Rattle.sms_centre_spec.proofs.SubmitFits.{tpdu_fits}
use Rattle.sms_centre_events.proofs.SubmitTexts.{read_submits}
use Rattle.sms_centre_events.proofs.units.data_received.Goals as goal

pub submit_received-requires-clause-submission : goal.submit_received-requires-clause-submission
submit_received-requires-clause-submission c =
    tpdu_fits c.accounts-accounts.result.now c.args.transfer.now.handset c.now-now.result c.args.tpdu.now (up_at InData c.args.tpdu.now) c.in-Ok.submission c.spells_a_number.ensures.address
    (are_octets c.args.tpdu.now (λ i. omega (arith, c.type_inv.tpdu i))) refl c.in-Ok.ensures

pub submit_received-requires-clause-units : goal.submit_received-requires-clause-units
submit_received-requires-clause-units c = (read_submits c.accounts-accounts.result.now c.args.transfer.now.handset c.now-now.result (up_at InData c.args.tpdu.now) c.in-Ok.submission c.in-Ok.ensures).0

pub submit_received-requires-clause-originator : goal.submit_received-requires-clause-originator
submit_received-requires-clause-originator c = (read_submits c.accounts-accounts.result.now c.args.transfer.now.handset c.now-now.result (up_at InData c.args.tpdu.now) c.in-Ok.submission c.in-Ok.ensures).1
