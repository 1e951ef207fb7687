use Rattle.sms_world.proofs.wrong_plays.NotHappened.{cancelled_again, cancelled_all_the_same, false_query, not_cancelled, others_query, query_ends, right_query}
use Rattle.sms_world.proofs.wrong_plays.wrong_requests_are_refused.Goals as goal

pub returns : goal.returns
returns c = record { right = right_query; state = false_query; own = others_query; same = query_ends; cancelled = not_cancelled; pending = cancelled_again; refused = cancelled_all_the_same }
