use Rattle.std.proofs.Common.{codes}
use Rattle.smsc_cli.proofs.words.TableTexts.{no_digest}
use Rattle.smsc_cli.proofs.words.account_tables.salted_at.Goals as goal
use Rattle.toml.specs.View.{table_view}

pub returns-in_err-digest-clause-none : goal.returns-in_err-digest-clause-none
returns-in_err-digest-clause-none c = no_digest (table_view c.args.table.now) c.from_residual-in_err-digest.result c.requires c.text_at-2.ensures c.in_err-digest.ensures.none
