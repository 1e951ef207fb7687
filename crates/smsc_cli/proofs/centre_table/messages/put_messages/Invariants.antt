use Rattle.std.proofs.Common.{◌≡◌, ◌++◌, drop}
use Rattle.smsc_cli.specs.columns.Columns.{lines}
use Rattle.smsc_cli.specs.centre_table.CentreTable.{message_line}
use Rattle.smsc_cli.proofs.centre_table.messages.put_messages.Given as goal

abbrev pub invariant-loop-message : goal.invariant-loop-message
invariant-loop-message l =
    l.out ++ lines (message_line l.parts.rows) (drop l.message-index l.messages) ≡ l.fn.out ++ lines (message_line l.parts.rows) l.messages
