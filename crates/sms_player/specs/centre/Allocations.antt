-- The references that an event of the centre gives, change by change.
use Rattle.std.specs.Prelude.{ℕ, List, [], ◌∷◌, ◌++◌}
use Rattle.sms_base.specs.declared.holder.Holder.TheVariants.{Part}
use Rattle.sms_centre_rows.specs.declared.messages.message.MessageRow.{MessageRow}
use Rattle.sms_centre_rows.specs.declared.messages.part.PartRow.{PartRow}
use Rattle.sms_centre_rows.specs.messages.Messages.{message_at}
use Rattle.sms_centre_rows.specs.declared.reports.report.ReportRow.{ReportRow}
use Rattle.sms_centre_rows.specs.declared.waiting.revision.Revision.{Revision}
use Rattle.sms_centre_rows.specs.declared.waiting.revision.Revision.TheVariants.{Put, Amend, Remove}
use Rattle.sms_script.specs.declared.report.rows.Direction.TheVariants.{Down}
use Rattle.sms_script.specs.declared.report.rows.GivenRow.{GivenRow}
use Rattle.sms_play.specs.CentreSide.{destination_in, report_given, source_in}

-- the items of each, in order
abbrev pub each : {A B : Type 0} → (A → List B) → List A → List B
each f [] = []
each f (x ∷ xs) = f x ++ each f xs

abbrev pub part_of : ℕ → List MessageRow → Revision PartRow → List GivenRow
part_of moment messages (Put p) =
    record { handset = destination_in (message_at p.id messages); direction = Down; reference = p.reference; holder = Part p.id p.number; moment = moment } ∷ []
part_of moment messages (Amend key progress) = []
part_of moment messages (Remove key) = []

abbrev pub report_of : ℕ → List MessageRow → Revision ReportRow → List GivenRow
report_of moment messages (Put r) = report_given moment r.id (source_in (message_at r.id messages)) r.kind
report_of moment messages (Amend key progress) = []
report_of moment messages (Remove key) = []
