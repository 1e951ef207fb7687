use Rattle.std.proofs.Common.{◌≡◌, ◌++◌, drop}
use Rattle.sms_script.specs.report.ReportText.{lines, answer_line}
use Rattle.sms_script.proofs.report.put_answers.Given as goal

abbrev pub invariant-loop-answer : goal.invariant-loop-answer
invariant-loop-answer l = l.out ++ lines answer_line (drop l.answer-index l.answers) ≡ l.fn.out ++ lines answer_line l.answers
