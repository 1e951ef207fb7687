use Rattle.sms_rows.specs.table.Table.{rows_from}
use Rattle.sms_centre_rows.specs.messages.Messages.{message_key}
use Rattle.sms_centre_spec.specs.forgetting.Forgetting.{may_go}
use Rattle.sms_centre_spec.proofs.forgetting.Going.{going_may, going_most, going_submitted, passes}
use Rattle.sms_centre_spec.proofs.forgetting.what_is_forgotten_may_go.Goals as goal

pub returns : goal.returns
returns c = record {
  may = λ before from most rows s. going_may before from most rows (may_go before rows) (λ m t. t) s;
  submitted = λ before from most rows m s a g. going_submitted before from most rows (may_go before rows) (λ x t. t) s m a g;
  each = λ before from most rows m s a g. passes before from most rows (may_go before rows) (λ x t. t) s m a g;
  few = λ before from most rows. going_most (may_go before rows) most (rows_from message_key from rows.messages);
}
