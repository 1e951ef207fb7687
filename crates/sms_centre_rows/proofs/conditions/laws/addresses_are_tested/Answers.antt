use Rattle.sms_centre_rows.proofs.conditions.AddressTested.{address_tested}
use Rattle.sms_centre_rows.proofs.conditions.laws.addresses_are_tested.Goals as goal

pub returns : goal.returns
returns c = address_tested
