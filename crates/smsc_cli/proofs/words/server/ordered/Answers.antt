use Rattle.std.proofs.Common.{codes, map, refl}
use Rattle.smsc_cli.proofs.words.Options.{memory_alone, value_found}
use Rattle.smsc_cli.specs.words.ServerWords.{order_command}
use Rattle.smsc_cli.proofs.words.server.ordered.Goals as goal

pub returns-clause-control : goal.returns-clause-control
returns-clause-control c = value_found (order_command c.args.order) _ _ _ (codes "control") refl c.in_ok-command.ensures c.in_ok-matches.ensures.matches c.get_str.ensures

pub returns-clause-id : goal.returns-clause-id
returns-clause-id c = value_found (order_command c.args.order) _ _ _ (codes "id") refl c.in_ok-command.ensures c.in_ok-matches.ensures.matches c.get_str-2.ensures

pub returns-in_err-matches-clause-good : goal.returns-in_err-matches-clause-good
returns-in_err-matches-clause-good c = memory_alone (order_command c.args.order) _ (map (λ w. w.now) c.args.words.now) c.in_err-matches.field-0.0 c.from_residual-in_err-matches.result c.from_residual-in_err-matches.ensures.1 c.in_ok-command.ensures c.in_err-matches.ensures.passes
