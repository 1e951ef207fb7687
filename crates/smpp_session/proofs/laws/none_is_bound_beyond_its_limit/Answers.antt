use Rattle.smpp_session.proofs.Rooms.{fed_has_room}
use Rattle.smpp_session.proofs.laws.none_is_bound_beyond_its_limit.Goals as goal

pub returns : goal.returns
returns c = fed_has_room
