use Rattle.sms_world.proofs.wrong_plays.PiecesJoined.{entry_without_row, joined_unknown, report_shut, report_unknown, report_without_row}
use Rattle.sms_world.proofs.wrong_plays.other_handsets_are_not_shown.Goals as goal

pub returns : goal.returns
returns c = record { joined = joined_unknown; entry = entry_without_row; report = report_unknown; row = report_without_row; still = report_shut }
