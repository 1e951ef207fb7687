use Rattle.std.proofs.Common.{codes, map, refl}
use Rattle.smsc_cli.proofs.words.Options.{memory_alone, value_found}
use Rattle.smsc_cli.specs.words.LookWords.{look_command}
use Rattle.smsc_cli.proofs.words.look.look_options.Goals as goal

pub returns-clause-options : goal.returns-clause-options
returns-clause-options c = let o = c.options_of.ensures in record {
  store = value_found look_command _ _ _ (codes "store") refl c.in_ok-command.ensures c.in_ok-matches.ensures.matches o.store;
  id = value_found look_command _ _ _ (codes "id") refl c.in_ok-command.ensures c.in_ok-matches.ensures.matches o.id;
  from = value_found look_command _ _ _ (codes "from") refl c.in_ok-command.ensures c.in_ok-matches.ensures.matches o.from;
  to = value_found look_command _ _ _ (codes "to") refl c.in_ok-command.ensures c.in_ok-matches.ensures.matches o.to;
  account = value_found look_command _ _ _ (codes "account") refl c.in_ok-command.ensures c.in_ok-matches.ensures.matches o.account;
  state = value_found look_command _ _ _ (codes "state") refl c.in_ok-command.ensures c.in_ok-matches.ensures.matches o.state;
  stuck = value_found look_command _ _ _ (codes "stuck") refl c.in_ok-command.ensures c.in_ok-matches.ensures.matches o.stuck;
  last = value_found look_command _ _ _ (codes "last") refl c.in_ok-command.ensures c.in_ok-matches.ensures.matches o.last;
}

pub returns-in_err-matches-clause-good : goal.returns-in_err-matches-clause-good
returns-in_err-matches-clause-good c = memory_alone look_command _ (map (λ w. w.now) c.args.words.now) c.in_err-matches.field-0.0 c.from_residual-in_err-matches.result c.from_residual-in_err-matches.ensures.1 c.in_ok-command.ensures c.in_err-matches.ensures.passes
