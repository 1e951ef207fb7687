use Rattle.sms_script.proofs.owner.ScriptsLines.{write_same, delete_same, discard_same}
use Rattle.sms_script.proofs.owner.laws.a_line_is_a_scripts.Goals as goal

pub returns-clause-write : goal.returns-clause-write
returns-clause-write c = write_same

pub returns-clause-delete : goal.returns-clause-delete
returns-clause-delete c = delete_same

pub returns-clause-discard : goal.returns-clause-discard
returns-clause-discard c = discard_same
