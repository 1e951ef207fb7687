use Rattle.std.proofs.Common.{sym, ◌∙◌}
use Rattle.sms_centre_spec.proofs.conditions.RowsTested.{setup_from, setup_to}
use Rattle.sms_centre_recovery.proofs.soundness.tables.RowTables.has_setup.Goals as goal

pub returns : goal.returns
returns c = (λ e. setup_from c.args.self.now.setup (sym c.is_setup.ensures ∙ e), λ is. c.is_setup.ensures ∙ setup_to c.args.self.now.setup is)
