use Rattle.sms_world.proofs.wrong_plays.NotShown.{accepted_unknown, beginning as beginning_is, entry_unknown, frame_says_nothing, frame_unknown, given_unknown, given_up_unknown, given_without_row, holder_without_row, message_unknown, message_without_row, not_apart, open_report, part_not_given, part_unknown, receipt_unknown, receipt_unlisted}
use Rattle.sms_world.proofs.wrong_plays.other_worlds_are_not_shown.Goals as goal

pub returns : goal.returns
returns c = record { beginning = beginning_is; message = message_unknown; row = message_without_row; part = part_unknown; receipt = receipt_unknown; listed = receipt_unlisted; opened = open_report; accepted = accepted_unknown; entry = entry_unknown; apart = not_apart; given = given_unknown; recorded = given_without_row; holder = holder_without_row; reference = part_not_given; up = given_up_unknown; frame = frame_unknown; octets = frame_says_nothing }
