use Rattle.sms_centre_rows.specs.messages.Messages.{priority_key}
use Rattle.sms_centre_spec.specs.forgetting.Forgetting.{part_id}
use Rattle.sms_centre_spec.proofs.forgetting.Kept.{among_kept}
use Rattle.sms_centre_spec.proofs.forgetting.Looks.{message_stays}
use Rattle.sms_centre_spec.proofs.forgetting.Moves.{report_stays}
use Rattle.sms_centre_spec.proofs.forgetting.only_what_may_go_goes.Goals as goal

pub returns : goal.returns
returns c = record {
  message = λ goes rows id g. message_stays goes id rows.messages g;
  report = λ goes rows id g. report_stays goes id rows.reports g;
  part = λ goes rows p a g. among_kept part_id goes p rows.parts a g;
  priority = λ goes rows p a g. among_kept priority_key goes p rows.priorities a g;
}
