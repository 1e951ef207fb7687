use Rattle.sms_control.proofs.TickLaws.{ends_in_time}
use Rattle.sms_control.proofs.laws.a_begun_transaction_ends_in_time.Goals as goal

pub returns : goal.returns
returns c = ends_in_time
