use Rattle.sms_base.proofs.KeysOfDigits.{digits_equal}
use Rattle.sms_rows.proofs.table.laws.equal_digits.Goals as goal

pub returns : goal.returns
returns c = digits_equal
