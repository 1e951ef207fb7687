use Rattle.std.proofs.Common.{◌≡◌, ◌≤◌, drop}
use Rattle.smsc_cli.specs.centre_table.CentreTable.{counted}
use Rattle.smsc_cli.proofs.centre_table.totals.count.Given as goal

abbrev pub invariant-loop-message : goal.invariant-loop-message
invariant-loop-message l = (counted l.state l.count (drop l.message-index l.messages) ≡ counted l.state 0 l.messages) × (l.count ≤ l.message-index)
