use Rattle.std.proofs.Common.{List, ℕ, subst}
use Rattle.sms_tpdu.specs.TpduGrammar.{IsUp}
use Rattle.sms_tpdu.specs.declared.carrier.Carrier.TheVariants.{InData}
use Rattle.sms_relay_run.proofs.relay_laws.Lengths.{none_carried}
use Rattle.sms_relay_run.proofs.relay_laws.uncarried.relay_uncarried.Goals as goal

pub unreachable-requires : goal.unreachable-requires
unreachable-requires c =
    let rp = c.in-Ok-DataUnit.field-0 in
    let brings : IsUp InData c.in-Ok-DataUnit.unit c.in-Ok.field-0 = subst (λ (o : List ℕ). IsUp InData o c.in-Ok.field-0) c.as_slice.ensures c.in-Ok.ensures.found in
    none_carried c.args.unit.now c.in-Ok-DataUnit.unit _ c.in-Ok-DataUnit.reference rp c.in-Ok.field-0 c.in-Ok-DataUnit.ensures.found c.in-Ok-DataUnit.field-0-is brings c.requires
