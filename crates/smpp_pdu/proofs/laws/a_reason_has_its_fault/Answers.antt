use Rattle.smpp_pdu.proofs.PduReasons.{bad_length_is, no_command_is, header_is, left_over_is, short_is, missing_is}
use Rattle.smpp_pdu.proofs.laws.a_reason_has_its_fault.Goals as goal

pub returns-clause-length : goal.returns-clause-length
returns-clause-length c = bad_length_is

pub returns-clause-command : goal.returns-clause-command
returns-clause-command c = no_command_is

pub returns-clause-left_over : goal.returns-clause-left_over
returns-clause-left_over c = left_over_is

pub returns-clause-missing : goal.returns-clause-missing
returns-clause-missing c = missing_is

pub returns-clause-header : goal.returns-clause-header
returns-clause-header c = header_is

pub returns-clause-short : goal.returns-clause-short
returns-clause-short c = short_is
