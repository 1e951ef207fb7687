use Rattle.sms_centre_rows.proofs.waiting.WaitingSound.{at_once_sound, put_off_sound, waits_under, withdrawn_sound, without_sound}
use Rattle.sms_centre_rows.proofs.waiting.laws.waiting_parts_have_distinct_references.Goals as goal

pub returns : goal.returns
returns c = record { more = waits_under; put_off = put_off_sound; fewer = without_sound; withdrawn = withdrawn_sound; at_once = at_once_sound }
