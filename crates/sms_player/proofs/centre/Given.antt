-- What is noted change by change is what the definition tells of all changes.
use Rattle.std.proofs.Common.{◌≡◌, ℕ, List, [], ◌∷◌, ◌++◌, ap, refl}
use Rattle.sms_centre_rows.specs.declared.messages.message.MessageRow.{MessageRow}
use Rattle.sms_centre_rows.specs.declared.messages.part.PartRow.{PartRow}
use Rattle.sms_centre_rows.specs.messages.Messages.{message_at}
use Rattle.sms_centre_rows.specs.declared.reports.report.ReportRow.{ReportRow}
use Rattle.sms_centre_rows.specs.declared.waiting.revision.Revision.{Revision}
use Rattle.sms_centre_rows.specs.declared.waiting.revision.Revision.TheVariants.{Put, Amend, Remove}
use Rattle.sms_script.specs.declared.report.rows.GivenRow.{GivenRow}
use Rattle.sms_play.specs.CentreSide.{parts_given, report_given, reports_given, source_in}
use Rattle.sms_player.specs.centre.Allocations.{each, part_of, report_of}

pub parts_each : (moment : ℕ) (messages : List MessageRow) (changes : List (Revision PartRow)) → each (part_of moment messages) changes ≡ parts_given moment messages changes
parts_each moment messages [] = refl
parts_each moment messages (Put p ∷ changes) = ap (λ (rows : List GivenRow). part_of moment messages (Put p) ++ rows) (parts_each moment messages changes)
parts_each moment messages (Amend key progress ∷ changes) = parts_each moment messages changes
parts_each moment messages (Remove key ∷ changes) = parts_each moment messages changes

pub reports_each : (moment : ℕ) (messages : List MessageRow) (changes : List (Revision ReportRow)) → each (report_of moment messages) changes ≡ reports_given moment messages changes
reports_each moment messages [] = refl
reports_each moment messages (Put r ∷ changes) =
    ap (λ (rows : List GivenRow). report_given moment r.id (source_in (message_at r.id messages)) r.kind ++ rows) (reports_each moment messages changes)
reports_each moment messages (Amend key progress ∷ changes) = reports_each moment messages changes
reports_each moment messages (Remove key ∷ changes) = reports_each moment messages changes
