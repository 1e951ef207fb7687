use Rattle.sms_relay_run.proofs.relay_laws.Numbers.{are_different, are_numbers, destination_named}
use Rattle.sms_relay_run.proofs.relay_laws.laws.handsets_can_have_links.Goals as goal

pub returns-clause-numbers : goal.returns-clause-numbers
returns-clause-numbers c = are_numbers

pub returns-clause-named : goal.returns-clause-named
returns-clause-named c = destination_named

pub returns-clause-apart : goal.returns-clause-apart
returns-clause-apart c = are_different
