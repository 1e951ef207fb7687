use Rattle.sms_base.proofs.MarkupReadings.{read_again}
use Rattle.sms_trace_files.proofs.picture.laws.an_escaped_text_is_read_again.Goals as goal

pub returns : goal.returns
returns c = read_again
