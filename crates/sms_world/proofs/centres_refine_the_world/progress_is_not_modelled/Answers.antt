use Rattle.sms_world.proofs.centres_refine_the_world.Unseen.{part_far_unseen, report_far_unseen}
use Rattle.sms_world.proofs.centres_refine_the_world.progress_is_not_modelled.Goals as goal

pub returns : goal.returns
returns c = record { part = part_far_unseen; report = report_far_unseen }
