use Rattle.sms_control.proofs.LinkLaws.{ends_once}
use Rattle.sms_control.proofs.laws.a_begun_transaction_ends_once.Goals as goal

pub returns : goal.returns
returns c = ends_once
