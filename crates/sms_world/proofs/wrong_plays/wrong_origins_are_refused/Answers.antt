use Rattle.sms_world.proofs.wrong_plays.NotFrom.{from_query, from_stopped, other_id, other_moment}
use Rattle.sms_world.proofs.wrong_plays.wrong_origins_are_refused.Goals as goal

pub returns : goal.returns
returns c = record { query = from_query; stopped = from_stopped; moment = other_moment; number = other_id }
