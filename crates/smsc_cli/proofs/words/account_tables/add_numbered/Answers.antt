use Rattle.std.proofs.Common.{Err, ap}
use Rattle.smsc_cli.proofs.words.TableTexts.{bad_account, some_accounts}
use Rattle.smsc_cli.proofs.words.account_tables.add_numbered.Goals as goal

pub returns-in-Err-clause-bad : goal.returns-in-Err-clause-bad
returns-in-Err-clause-bad c = λ bad e.
    let h = bad_account c.in-Err.fault c.args.number bad c.account_fault.result c.account_fault.ensures.bad c.account_fault.ensures.memory e in
    (h.1, c.in-Err.ensures.bad (ap Err h.0))

pub returns-in-Err-clause-other : goal.returns-in-Err-clause-other
returns-in-Err-clause-other c = some_accounts c.in-Err.fault c.args.number c.account_fault.result c.account_fault.ensures.bad c.account_fault.ensures.memory
