use Rattle.std.proofs.Common.{codes, map, refl}
use Rattle.smsc_cli.proofs.words.Options.{memory_alone, value_found}
use Rattle.smsc_cli.specs.words.SimWords.{relay_command}
use Rattle.smsc_cli.proofs.words.sim.relay_options.Goals as goal

pub returns-clause-centre : goal.returns-clause-centre
returns-clause-centre c = value_found relay_command _ _ _ (codes "centre") refl c.in_ok-command.ensures c.in_ok-matches.ensures.matches c.options_of.ensures.centre

pub returns-clause-from : goal.returns-clause-from
returns-clause-from c = value_found relay_command _ _ _ (codes "from") refl c.in_ok-command.ensures c.in_ok-matches.ensures.matches c.options_of.ensures.from

pub returns-clause-now : goal.returns-clause-now
returns-clause-now c = value_found relay_command _ _ _ (codes "now") refl c.in_ok-command.ensures c.in_ok-matches.ensures.matches c.options_of.ensures.now

pub returns-in_err-matches-clause-good : goal.returns-in_err-matches-clause-good
returns-in_err-matches-clause-good c = memory_alone relay_command _ (map (λ w. w.now) c.args.words.now) c.in_err-matches.field-0.0 c.from_residual-in_err-matches.result c.from_residual-in_err-matches.ensures.1 c.in_ok-command.ensures c.in_err-matches.ensures.passes
