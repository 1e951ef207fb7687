use Rattle.sms_centre_rows.proofs.messages.Entries.{done_alike}
use Rattle.sms_centre_rows.proofs.messages.laws.parts_in_memory_decide_what_is_done.Goals as goal

pub returns : goal.returns
returns c = done_alike
