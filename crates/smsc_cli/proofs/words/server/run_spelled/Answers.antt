use Rattle.std.proofs.Common.{map}
use Rattle.smsc_cli.proofs.words.Served.{memory_of_run}
use Rattle.smsc_cli.specs.words.ServerWords.{account_texts, server_value}
use Rattle.smsc_cli.proofs.words.server.run_spelled.Goals as goal

pub returns-in-Ok-clause-good : goal.returns-in-Ok-clause-good
returns-in-Ok-clause-good c = λ ask. memory_of_run (λ name. server_value name (map (λ w. w.now) c.args.words.now)) (account_texts (map (λ w. w.now) c.args.words.now)) c.in-Ok.options c.in-Ok.ensures.options
    c.run_words.result c.run_words.ensures.bad ask.spelled ask.accounts ask.added
