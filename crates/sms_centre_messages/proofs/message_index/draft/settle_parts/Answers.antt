use Rattle.std.proofs.Common.{◌∙◌, ap, subst}
use Rattle.sms_centre_rows.specs.declared.messages.parts.PartEntry.{PartEntry}
use Rattle.sms_rows.specs.table.TableDraft.{FitsIn, TablePlanOf}
use Rattle.sms_centre_messages.specs.message_index.MessageIndex.{MessageIndexOf}
use Rattle.sms_centre_messages.proofs.message_index.draft.settle_parts.Goals as goal

pub returns-in-Ok-clause-changes : goal.returns-in-Ok-clause-changes
returns-in-Ok-clause-changes c =
    (ap (λ (t : TablePlanOf PartEntry). t.changes) c.in-Ok.ensures.parts ∙ c.in_ok-outcome.ensures.changes.0, c.in_ok-outcome.ensures.changes.1)

pub returns-in-Ok-clause-fits : goal.returns-in-Ok-clause-fits
returns-in-Ok-clause-fits c =
    c.in-Ok.ensures.fits (subst (λ (k : MessageIndexOf). FitsIn c.in_ok-outcome.outcome.entries k.parts) c.index.view_is c.in_ok-outcome.ensures.fits)
