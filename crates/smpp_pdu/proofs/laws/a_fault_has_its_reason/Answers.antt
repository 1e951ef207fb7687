use Rattle.smpp_pdu.proofs.PduReasons.{is_truncated, is_unterminated, is_cut_parameter, is_bad_length, is_unknown, is_long_field, is_long_message}
use Rattle.smpp_pdu.proofs.laws.a_fault_has_its_reason.Goals as goal

pub returns-clause-truncated : goal.returns-clause-truncated
returns-clause-truncated c = is_truncated

pub returns-clause-unterminated : goal.returns-clause-unterminated
returns-clause-unterminated c = is_unterminated

pub returns-clause-parameter : goal.returns-clause-parameter
returns-clause-parameter c = is_cut_parameter

pub returns-clause-length : goal.returns-clause-length
returns-clause-length c = is_bad_length

pub returns-clause-command : goal.returns-clause-command
returns-clause-command c = is_unknown

pub returns-clause-field : goal.returns-clause-field
returns-clause-field c = is_long_field

pub returns-clause-short_message : goal.returns-clause-short_message
returns-clause-short_message c = is_long_message
