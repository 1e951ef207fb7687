use Rattle.std.proofs.Common.{◌∙◌, sym}
use Rattle.sms_tpdu.proofs.NameValues.{name_few}
use Rattle.sms_tpdu.proofs.address_field.put_address_value.Goals as goal

pub put_name-requires : goal.put_name-requires
put_name-requires c = rw c.as_slice.ensures (name_few c.args.address.now c.requires (sym c.is_name.ensures ∙ c.if-is_name.true))
