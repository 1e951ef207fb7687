use Rattle.std.proofs.Common.{◌≡◌, ◌++◌, drop}
use Rattle.smsc_server.specs.serving.AccountNames.{names_of}
use Rattle.smsc_server.proofs.serving.account_book.named_list.names_in.Given as goal

abbrev pub invariant-loop-account : goal.invariant-loop-account
invariant-loop-account l = l.names.items ++ names_of (drop l.account-index l.accounts) ≡ names_of l.accounts
