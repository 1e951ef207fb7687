use Rattle.std.proofs.Common.{codes, map, refl}
use Rattle.smsc_cli.proofs.words.Options.{list_found, memory_alone, value_found}
use Rattle.smsc_cli.specs.words.ServerWords.{server_command}
use Rattle.smsc_cli.proofs.words.server.run_options.Goals as goal

pub returns-clause-options : goal.returns-clause-options
returns-clause-options c = let o = c.in_ok-options.ensures in record {
  store = value_found server_command _ _ _ (codes "store") refl c.in_ok-command.ensures c.in_ok-matches.ensures.matches o.store;
  smpp = value_found server_command _ _ _ (codes "smpp") refl c.in_ok-command.ensures c.in_ok-matches.ensures.matches o.smpp;
  links = value_found server_command _ _ _ (codes "links") refl c.in_ok-command.ensures c.in_ok-matches.ensures.matches o.links;
  centre = value_found server_command _ _ _ (codes "centre") refl c.in_ok-command.ensures c.in_ok-matches.ensures.matches o.centre;
  sessions = value_found server_command _ _ _ (codes "sessions") refl c.in_ok-command.ensures c.in_ok-matches.ensures.matches o.sessions;
  accounts = value_found server_command _ _ _ (codes "accounts") refl c.in_ok-command.ensures c.in_ok-matches.ensures.matches o.accounts;
  link_secrets = value_found server_command _ _ _ (codes "link-secrets") refl c.in_ok-command.ensures c.in_ok-matches.ensures.matches o.link_secrets;
  control = value_found server_command _ _ _ (codes "control") refl c.in_ok-command.ensures c.in_ok-matches.ensures.matches o.control;
  status = value_found server_command _ _ _ (codes "status") refl c.in_ok-command.ensures c.in_ok-matches.ensures.matches o.status;
  keep = value_found server_command _ _ _ (codes "keep") refl c.in_ok-command.ensures c.in_ok-matches.ensures.matches o.keep;
  archive = value_found server_command _ _ _ (codes "archive") refl c.in_ok-command.ensures c.in_ok-matches.ensures.matches o.archive;
  ahead = value_found server_command _ _ _ (codes "ahead") refl c.in_ok-command.ensures c.in_ok-matches.ensures.matches o.ahead;
  new_store = value_found server_command _ _ _ (codes "new-store") refl c.in_ok-command.ensures c.in_ok-matches.ensures.matches o.new_store;
  accept_loss = value_found server_command _ _ _ (codes "accept-loss") refl c.in_ok-command.ensures c.in_ok-matches.ensures.matches o.accept_loss;
  accounts_open = value_found server_command _ _ _ (codes "accounts-open") refl c.in_ok-command.ensures c.in_ok-matches.ensures.matches o.accounts_open;
  log = value_found server_command _ _ _ (codes "log") refl c.in_ok-command.ensures c.in_ok-matches.ensures.matches o.log;
  words = list_found server_command _ _ _ (codes "account") refl c.in_ok-command.ensures c.in_ok-matches.ensures.matches o.words;
}

pub returns-in_err-matches-clause-good : goal.returns-in_err-matches-clause-good
returns-in_err-matches-clause-good c = memory_alone server_command _ (map (λ w. w.now) c.args.words.now) c.in_err-matches.field-0.0 c.from_residual-in_err-matches.result c.from_residual-in_err-matches.ensures.1 c.in_ok-command.ensures c.in_err-matches.ensures.passes
