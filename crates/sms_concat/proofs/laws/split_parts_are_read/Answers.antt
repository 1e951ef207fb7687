use Rattle.sms_concat.proofs.Room.{split_room, split_read}
use Rattle.sms_concat.proofs.Numbering.{found_is}
use Rattle.sms_concat.proofs.laws.split_parts_are_read.Goals as goal

pub returns-clause-room : goal.returns-clause-room
returns-clause-room c = λ content reference parts units e. split_room content reference parts units (found_is content reference parts e).0

pub returns-clause-read : goal.returns-clause-read
returns-clause-read c = λ content reference parts coding units e. split_read content reference parts coding units (found_is content reference parts e).0
