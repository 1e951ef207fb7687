use Rattle.sms_centre_spec.proofs.HeldAllocations.{part_given_held, report_made_held, status_given_held}
use Rattle.sms_centre_spec.proofs.HeldStages.{ended_held, entered_held, part_far_held, report_far_held}
use Rattle.sms_centre_spec.proofs.laws.references_stay_apart.Goals as goal

pub returns : goal.returns
returns c = record {
  entered = entered_held;
  part_given = part_given_held;
  report_made = report_made_held;
  status_given = status_given_held;
  part_far = part_far_held;
  report_far = report_far_held;
  ended = ended_held;
}
