use Rattle.std.proofs.Common.{◌≡◌}
use Rattle.smsc_cli.specs.words.AccountTables.{are_file_keys}
use Rattle.smsc_cli.proofs.words.account_tables.has_file_keys.Given as goal
use Rattle.toml.specs.View.{members_view}

abbrev pub invariant-members : goal.invariant-members
invariant-members l =
    goal.iterator-members.can_next l.key-iterator
    × goal.iterator-members.is_finite l.key-iterator
    × (are_file_keys (members_view l.key-iterator) ≡ are_file_keys (members_view l.table.entries))
