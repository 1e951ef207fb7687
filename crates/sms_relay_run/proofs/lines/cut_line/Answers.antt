use Rattle.std.proofs.Common.{sym, ◌∙◌, ◌+◌, arith}
use Rattle.std.proofs.lemmas.List.{take_all, length-drop}
use Rattle.sms_relay_run.proofs.FirstLines.{end_found, no_end_found}
use Rattle.sms_relay_run.proofs.lines.cut_line.Goals as goal

pub returns-in-Some-clause-line : goal.returns-in-Some-clause-line
returns-in-Some-clause-line c = (end_found c.args.input.now c.in-Some.end (sym c.in-Some.ensures.value)).0

pub returns-in-Some-clause-behind : goal.returns-in-Some-clause-behind
returns-in-Some-clause-behind c = take_all _ _ (omega (arith, length-drop (c.in-Some.end + 1) c.args.input.now)) ∙ (end_found c.args.input.now c.in-Some.end (sym c.in-Some.ensures.value)).1

pub returns-in-None-clause-line : goal.returns-in-None-clause-line
returns-in-None-clause-line c = (no_end_found c.args.input.now (sym c.in-None.ensures.value)).0

pub returns-in-None-clause-behind : goal.returns-in-None-clause-behind
returns-in-None-clause-behind c = (no_end_found c.args.input.now (sym c.in-None.ensures.value)).1
