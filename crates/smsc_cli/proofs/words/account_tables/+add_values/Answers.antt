use Rattle.smsc_cli.proofs.words.TableTexts.{no_values, values_added, values_stop_first, values_stop_later}
use Rattle.smsc_cli.proofs.words.account_tables.+add_values.Goals as goal

pub returns-in-Ok-clause-ok : goal.returns-in-Ok-clause-ok
returns-in-Ok-clause-ok t c = values_added c.args.values.now c.in-Some.first.now c.in-Some.others.now c.args.accounts.now.items c.add_numbered.new.accounts.items c.add_values.new.accounts.items
    c.add_values.result c.in-Some.ensures.cases.0 c.in-Ok.ensures.ok c.add_values.ensures.ok

pub returns-in-Ok-clause-bad : goal.returns-in-Ok-clause-bad
returns-in-Ok-clause-bad t c = λ bad e. values_stop_later c.args.values.now c.in-Some.first.now c.in-Some.others.now bad c.args.number c.args.accounts.now.items
    c.add_numbered.new.accounts.items c.add_values.new.accounts.items c.in-Some.ensures.cases.0 c.in-Ok.ensures.ok (c.add_values.ensures.bad bad e)

pub returns-in-Err-clause-bad : goal.returns-in-Err-clause-bad
returns-in-Err-clause-bad t c = λ bad e. values_stop_first c.args.values.now c.in-Some.first.now c.in-Some.others.now bad c.args.number c.args.accounts.now.items
    c.add_numbered.new.accounts.items c.in-Some.ensures.cases.0 (c.in-Err.ensures.bad bad e) c.in-Err.ensures.err

pub returns-in-None-clause-ok : goal.returns-in-None-clause-ok
returns-in-None-clause-ok t c = no_values c.args.values.now c.args.accounts.now.items c.in-None.ensures.cases
