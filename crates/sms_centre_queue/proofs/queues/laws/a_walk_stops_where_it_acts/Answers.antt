use Rattle.sms_centre_queue.proofs.queues.Walking.{walk_found}
use Rattle.sms_centre_queue.proofs.queues.laws.a_walk_stops_where_it_acts.Goals as goal

pub returns : goal.returns
returns g c = walk_found
