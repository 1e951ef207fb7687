use Rattle.sms_script.proofs.Cuts.{lines_ended, lines_open}
use Rattle.sms_script.proofs.laws.a_text_is_its_lines.Goals as goal

pub returns-clause-whole : goal.returns-clause-whole
returns-clause-whole c = lines_ended

pub returns-clause-open_end : goal.returns-clause-open_end
returns-clause-open_end c = lines_open
