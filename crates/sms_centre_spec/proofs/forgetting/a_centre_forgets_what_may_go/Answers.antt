use Rattle.sms_rows.specs.table.Table.{rows_from}
use Rattle.sms_centre_rows.specs.messages.Messages.{message_key}
use Rattle.sms_centre_spec.specs.forgetting.Forget.{may_go_now}
use Rattle.sms_centre_spec.proofs.forgetting.Going.{going_most}
use Rattle.sms_centre_spec.proofs.forgetting.Now.{forgot_now, may_now}
use Rattle.sms_centre_spec.proofs.forgetting.Removed.{forget_leaves}
use Rattle.sms_centre_spec.proofs.forgetting.a_centre_forgets_what_may_go.Goals as goal

pub returns : goal.returns
returns c = record {
  left = forget_leaves;
  in_step = forgot_now;
  each = λ before from most c m s a g. may_now before from most c s m a g;
  few = λ before from most c. going_most (may_go_now before c) most (rows_from message_key from c.rows.messages);
}
