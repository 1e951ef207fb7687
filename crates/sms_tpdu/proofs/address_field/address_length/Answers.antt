use Rattle.std.proofs.Common.{◌∙◌, sym}
use Rattle.sms_tpdu.proofs.NameValues.{name_few}
use Rattle.sms_tpdu.proofs.address_field.address_length.Goals as goal

pub name_length-requires : goal.name_length-requires
name_length-requires c = rw c.as_slice.ensures (name_few c.args.address.now c.requires (sym c.is_name.ensures ∙ c.if-is_name.true))
