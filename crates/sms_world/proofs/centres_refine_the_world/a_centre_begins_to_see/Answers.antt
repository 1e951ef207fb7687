use Rattle.sms_world.proofs.centres_refine_the_world.Beginning.{reached_back, first_refines}
use Rattle.sms_world.proofs.centres_refine_the_world.Staying.{next_refines}
use Rattle.sms_world.proofs.centres_refine_the_world.a_centre_begins_to_see.Goals as goal

pub returns : goal.returns
returns c = record { first = first_refines; next = next_refines; back = reached_back }
