use Rattle.sms_receipt.proofs.Writables.{can_be_written, is_short}
use Rattle.sms_receipt.proofs.laws.receipts_can_be_written.Goals as goal

pub returns-clause-fields : goal.returns-clause-fields
returns-clause-fields c = can_be_written

pub returns-clause-short : goal.returns-clause-short
returns-clause-short c = is_short
