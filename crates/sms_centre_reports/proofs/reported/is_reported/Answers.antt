use Rattle.std.proofs.Common.{List, map, Bool, Option, sym, ◌∙◌, ap}
use Rattle.std.specs.Prelude.{◌&&◌, is_some, not}
use Rattle.sms_centre_reports.specs.declared.open_reports.entry.ReportEntry.{ReportEntry}
use Rattle.sms_centre_reports.specs.declared.report_log.log.LoggedReport.{LoggedReport}
use Rattle.sms_centre_reports.specs.report_log.ReportLog.{is_of_last, made_report}
use Rattle.sms_centre_reports.proofs.OpenAndLast.{reported_as}
use Rattle.sms_centre_reports.proofs.reported.is_reported.Goals as goal

pub returns-then-is_some : goal.returns-then-is_some
returns-then-is_some c = λ messages rows represents log sound.
    let id = c.args.id in
    let yes = ap (λ (o : Option ReportEntry). is_some o) (sym (c.find.ensures.found messages rows represents)) ∙ sym c.is_some.ensures ∙ c.if-is_some.true in
    ap (λ (b : Bool). not b && not (is_of_last id (map made_report rows))) (sym yes) ∙ reported_as id messages rows sound

pub returns : goal.returns
returns c = λ messages rows represents log sound.
    let id = c.args.id in
    let no = ap (λ (o : Option ReportEntry). is_some o) (sym (c.find.ensures.found messages rows represents)) ∙ sym c.is_some.ensures ∙ c.if-is_some.false in
    ap not (c.is_of_last.ensures ∙ ap (λ (l : List LoggedReport). is_of_last id l) log)
    ∙ ap (λ (b : Bool). not b && not (is_of_last id (map made_report rows))) (sym no) ∙ reported_as id messages rows sound
