use Rattle.sms_world.proofs.wrong_reports.ReceiptState.{refused as state_is}
use Rattle.sms_world.proofs.wrong_reports.ReceiptOnce.{refused as once_is}
use Rattle.sms_world.proofs.wrong_reports.Unlisted.{refused as unlisted_is}
use Rattle.sms_world.proofs.wrong_reports.wrong_receipts_are_refused.Goals as goal

pub returns : goal.returns
returns c = record { state = state_is; once = once_is; unlisted = unlisted_is }
