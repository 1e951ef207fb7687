use Rattle.std.proofs.Common.{Err, ap}
use Rattle.smsc_cli.proofs.words.Asked.{bad_line}
use Rattle.smsc_cli.proofs.words.secrets.add_line.Goals as goal

pub returns-in-Err-clause-bad : goal.returns-in-Err-clause-bad
returns-in-Err-clause-bad c = λ bad e.
    let h = bad_line c.in-Err.fault c.args.number bad c.line_fault.result c.line_fault.ensures.bad c.line_fault.ensures.memory e in
    (h.1, c.in-Err.ensures.bad (ap Err h.0))
