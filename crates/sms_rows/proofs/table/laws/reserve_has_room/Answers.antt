use Rattle.sms_rows.proofs.table.Tables.{reserve_has_room}
use Rattle.sms_rows.proofs.table.laws.reserve_has_room.Goals as goal

pub returns : goal.returns
returns g c = reserve_has_room
