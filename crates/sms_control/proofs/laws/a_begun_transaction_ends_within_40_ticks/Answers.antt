use Rattle.sms_control.proofs.TickLaws.{ends_in_ticks}
use Rattle.sms_control.proofs.laws.a_begun_transaction_ends_within_40_ticks.Goals as goal

pub returns : goal.returns
returns c = ends_in_ticks
