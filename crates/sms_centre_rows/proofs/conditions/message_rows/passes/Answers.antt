use Rattle.sms_base.specs.HandsetNumber.{own_address}
use Rattle.sms_centre_rows.proofs.conditions.AddressTested.{address_to}
use Rattle.sms_centre_rows.proofs.conditions.message_rows.passes.Goals as goal

pub returns : goal.returns
returns c = address_to (own_address c.args.number.now) c.spells_a_number.ensures.address
