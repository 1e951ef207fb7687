use Rattle.std.proofs.Common.{codes, map, refl}
use Rattle.smsc_cli.proofs.words.Options.{memory_alone, value_found}
use Rattle.smsc_cli.specs.words.HandsetWords.{run_command}
use Rattle.smsc_cli.proofs.words.handset.run_options.Goals as goal

pub returns-clause-connect : goal.returns-clause-connect
returns-clause-connect c = value_found run_command _ _ _ (codes "connect") refl c.in_ok-command.ensures c.in_ok-matches.ensures.matches c.options_of.ensures.connect

pub returns-clause-number : goal.returns-clause-number
returns-clause-number c = value_found run_command _ _ _ (codes "number") refl c.in_ok-command.ensures c.in_ok-matches.ensures.matches c.options_of.ensures.number

pub returns-clause-centre : goal.returns-clause-centre
returns-clause-centre c = value_found run_command _ _ _ (codes "centre") refl c.in_ok-command.ensures c.in_ok-matches.ensures.matches c.options_of.ensures.centre

pub returns-clause-slots : goal.returns-clause-slots
returns-clause-slots c = value_found run_command _ _ _ (codes "slots") refl c.in_ok-command.ensures c.in_ok-matches.ensures.matches c.options_of.ensures.slots

pub returns-clause-store : goal.returns-clause-store
returns-clause-store c = value_found run_command _ _ _ (codes "store") refl c.in_ok-command.ensures c.in_ok-matches.ensures.matches c.options_of.ensures.store

pub returns-clause-frames : goal.returns-clause-frames
returns-clause-frames c = value_found run_command _ _ _ (codes "frames") refl c.in_ok-command.ensures c.in_ok-matches.ensures.matches c.options_of.ensures.frames

pub returns-clause-secret : goal.returns-clause-secret
returns-clause-secret c = value_found run_command _ _ _ (codes "secret") refl c.in_ok-command.ensures c.in_ok-matches.ensures.matches c.options_of.ensures.secret

pub returns-in_err-matches-clause-good : goal.returns-in_err-matches-clause-good
returns-in_err-matches-clause-good c = memory_alone run_command _ (map (λ w. w.now) c.args.words.now) c.in_err-matches.field-0.0 c.from_residual-in_err-matches.result c.from_residual-in_err-matches.ensures.1 c.in_ok-command.ensures c.in_err-matches.ensures.passes
