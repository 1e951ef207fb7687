use Rattle.sms_centre_queue.proofs.queues.RepresentedPlans.{adopted_represents}
use Rattle.sms_centre_queue.proofs.queues.laws.an_adopted_plan_represents_its_rows.Goals as goal

pub returns : goal.returns
returns c = adopted_represents
