use Rattle.smsc_status.proofs.Readings.{unquoted_again}
use Rattle.smsc_status.proofs.laws.a_quoted_text_is_read_again.Goals as goal

pub returns : goal.returns
returns c = unquoted_again
