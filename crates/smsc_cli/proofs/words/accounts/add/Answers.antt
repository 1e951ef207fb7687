use Rattle.smsc_cli.proofs.words.Cuts.{no_room}
use Rattle.smsc_cli.proofs.words.accounts.add.Goals as goal

pub returns-then-not-has_room-clause-bad : goal.returns-then-not-has_room-clause-bad
returns-then-not-has_room-clause-bad c = λ e. no_room c.args.text.now c.in-Some.account.name.now c.in-Some.account.password.now c.in-Some.account.address c.in-Some.account.sessions c.args.accounts.now.items c.as_slice.result.now c.has_room.result
    c.as_slice.ensures.value c.if-not-has_room.true c.has_room.ensures.1 c.in-Some.ensures.found

pub returns-in-None-clause-bad : goal.returns-in-None-clause-bad
returns-in-None-clause-bad c = λ e n p a k s room. c.in-None.ensures.only n p a k s
