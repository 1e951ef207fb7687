use Rattle.smsc_cli.proofs.words.TableTexts.{no_room_for, some_room_for}
use Rattle.smsc_cli.proofs.words.account_tables.add_value.Goals as goal
use Rattle.toml.specs.View.{view}

pub returns-then-not-has_room-clause-bad : goal.returns-then-not-has_room-clause-bad
returns-then-not-has_room-clause-bad c = λ e. no_room_for (view c.args.value.now) c.in-Some.account c.args.accounts.now.items c.as_slice.result.now c.has_room.result
    c.as_slice.ensures.value c.if-not-has_room.true c.has_room.ensures.1 c.in-Some.ensures.found

pub returns-in-None-clause-bad : goal.returns-in-None-clause-bad
returns-in-None-clause-bad c = λ e a s room. c.in-None.ensures.none a s

pub returns-in-Err-clause-memory : goal.returns-in-Err-clause-memory
returns-in-Err-clause-memory c = λ e. some_room_for (view c.args.value.now) c.in-Some.account c.args.accounts.now.items c.as_slice.result.now c.has_room.result
    c.as_slice.ensures.value c.if-not-has_room.false c.has_room.ensures.0 c.in-Some.ensures.found
