use Rattle.std.proofs.Common.{codes, map, refl}
use Rattle.smsc_cli.proofs.words.Options.{memory_alone, value_found}
use Rattle.smsc_cli.specs.words.HandsetWords.{run_command}
use Rattle.smsc_cli.proofs.words.misbehaviour.misbehaviour_options.Goals as goal

pub returns-clause-options : goal.returns-clause-options
returns-clause-options c = let o = c.options_of.ensures in record {
  refuse = value_found run_command _ _ _ (codes "refuse") refl c.in_ok-command.ensures c.in_ok-matches.ensures.matches o.refuse;
  slow = value_found run_command _ _ _ (codes "slow") refl c.in_ok-command.ensures c.in_ok-matches.ensures.matches o.slow;
  full_after = value_found run_command _ _ _ (codes "full-after") refl c.in_ok-command.ensures c.in_ok-matches.ensures.matches o.full_after;
  silent = value_found run_command _ _ _ (codes "silent") refl c.in_ok-command.ensures c.in_ok-matches.ensures.matches o.silent;
  drop = value_found run_command _ _ _ (codes "drop") refl c.in_ok-command.ensures c.in_ok-matches.ensures.matches o.drop;
  seed = value_found run_command _ _ _ (codes "seed") refl c.in_ok-command.ensures c.in_ok-matches.ensures.matches o.seed;
}

pub returns-in_err-matches-clause-good : goal.returns-in_err-matches-clause-good
returns-in_err-matches-clause-good c = memory_alone run_command _ (map (λ w. w.now) c.args.words.now) c.in_err-matches.field-0.0 c.from_residual-in_err-matches.result c.from_residual-in_err-matches.ensures.1 c.in_ok-command.ensures c.in_err-matches.ensures.passes
