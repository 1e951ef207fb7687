use Rattle.smsc_cli.proofs.words.Cuts.{all_added, none_more, stops_first, stops_later}
use Rattle.smsc_cli.proofs.words.accounts.+add_all.Goals as goal

pub returns-in-Ok-clause-ok : goal.returns-in-Ok-clause-ok
returns-in-Ok-clause-ok t c = all_added c.args.texts.now c.in-Some.first.now c.in-Some.others.now c.args.accounts.now.items c.add.new.accounts.items c.add_all.new.accounts.items c.add_all.result c.in-Some.ensures.cases.0 c.in-Ok.ensures.ok c.add_all.ensures.ok

pub returns-in-Ok-clause-bad : goal.returns-in-Ok-clause-bad
returns-in-Ok-clause-bad t c = λ e. stops_later c.args.texts.now c.in-Some.first.now c.in-Some.others.now c.args.accounts.now.items c.add.new.accounts.items c.add_all.new.accounts.items c.in-Some.ensures.cases.0 c.in-Ok.ensures.ok (c.add_all.ensures.bad e)

pub returns-in-Err-clause-bad : goal.returns-in-Err-clause-bad
returns-in-Err-clause-bad t c = λ e. stops_first c.args.texts.now c.in-Some.first.now c.in-Some.others.now c.args.accounts.now.items c.add.new.accounts.items c.in-Some.ensures.cases.0 (c.in-Err.ensures.bad e) c.in-Err.ensures.err

pub returns-in-None-clause-ok : goal.returns-in-None-clause-ok
returns-in-None-clause-ok t c = none_more c.args.texts.now c.args.accounts.now.items c.in-None.ensures.cases
