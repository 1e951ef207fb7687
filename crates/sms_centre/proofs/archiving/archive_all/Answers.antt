use Rattle.std.proofs.Common.{length, sym, ◌∙◌}
use Rattle.std.proofs.lemmas.Bool.{eqb-true}
use Rattle.sms_centre.specs.Archiving.{parts_in}
use Rattle.sms_centre.proofs.Archived.{none_of_none}
use Rattle.sms_centre.proofs.archiving.archive_all.Goals as goal

pub returns-then-is_empty-clause-archived : goal.returns-then-is_empty-clause-archived
returns-then-is_empty-clause-archived g c = λ core stands m a e. absurd (none_of_none m.id c.args.ids.now (eqb-true (length c.args.ids.now) 0 (sym c.is_empty.ensures ∙ c.if-is_empty.true)) e)

pub returns-in-Ok-clause-archived : goal.returns-in-Ok-clause-archived
returns-in-Ok-clause-archived g c = λ core stands m a e. c.in-Ok.ensures.synced m (parts_in core.rows m.id) (c.in_ok-take_each.ensures.took core stands m a e)
