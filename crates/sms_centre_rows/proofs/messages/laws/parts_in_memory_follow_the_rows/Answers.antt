use Rattle.sms_centre_rows.proofs.messages.Entries.{amending_decides, found_decides, putting_decides}
use Rattle.sms_centre_rows.proofs.messages.laws.parts_in_memory_follow_the_rows.Goals as goal

pub returns : goal.returns
returns c = record { put = putting_decides; amended = amending_decides; found = found_decides }
