use Rattle.sms_centre_spec.proofs.OrdersDone.{due_messages, due_others, due_parts, due_reports}
use Rattle.sms_centre_spec.proofs.laws.a_retry_makes_its_message_due.Goals as goal

pub returns : goal.returns
returns c = record { parts = due_parts; others = due_others; messages = due_messages; reports = due_reports }
