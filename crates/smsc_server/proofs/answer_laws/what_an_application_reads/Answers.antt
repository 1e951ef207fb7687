use Rattle.smsc_server.proofs.PartsWritten.{is_read}
use Rattle.smsc_server.proofs.answer_laws.what_an_application_reads.Goals as goal

pub returns : goal.returns
returns c = is_read
