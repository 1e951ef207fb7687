use Rattle.sms_seats.proofs.JobsKeep.{begins}
use Rattle.sms_seats.proofs.queues.SeatQueues.open.Goals as goal

pub ruled-requires-clause-rule : goal.ruled-requires-clause-rule
ruled-requires-clause-rule g c = begins
