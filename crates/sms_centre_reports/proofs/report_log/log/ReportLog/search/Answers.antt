use Rattle.std.proofs.Common.{◌≡◌, ℕ, suc, List, map, drop, add-one, Option, Some, sym, ◌∙◌, ap}
use Rattle.std.specs.List.{slice_get}
use Rattle.std.specs.Option.{option_map}
use Rattle.sms_centre_rows.specs.declared.reports.report.ReportRow.{ReportRow}
use Rattle.sms_centre_rows.specs.reports.Reports.{report_of}
use Rattle.sms_centre_reports.specs.declared.report_log.log.LoggedReport.{LoggedReport}
use Rattle.sms_centre_reports.specs.report_log.ReportLog.{LogInMemory, made_report}
use Rattle.sms_centre_reports.proofs.report_log.Indexing.{search_found, search_on, search_past}
use Rattle.sms_centre_reports.proofs.report_log.log.ReportLog.search.Goals as goal
use Rattle.sms_centre_reports.proofs.report_log.log.ReportLog.search.Goals.{in-Some+else-number, in-None}

pub returns-then-number : goal.returns-then-number
returns-then-number c = λ rows h.
    let place = c.loop-place.place in
    let held : c.self.inside.reports.rows ≡ map made_report rows = ap (λ (l : LogInMemory). l.reports.rows) c.self.view_is ∙ h in
    let at : Some c.in-Some.report.now ≡ slice_get (map made_report rows) place = c.in-Some.ensures ∙ ap (λ (l : List LoggedReport). slice_get l place) held in
    let own : c.in-Some.report.now.id ≡ c.args.id = sym c.number.ensures.value ∙ c.if-number.true ∙ c.number-in-Some.ensures.value in
    search_found c.args.id place rows c.in-Some.report.now at own ∙ ap (λ (o : Option ReportRow). option_map (λ (r : ReportRow). r.place) o) (c.loop-place.invariant rows h)

pub loop-place-preserved : goal.loop-place-preserved
loop-place-preserved c = λ rows h.
    let place = c.loop-place.place in
    let id = c.args.id in
    let held : c.self.inside.reports.rows ≡ map made_report rows = ap (λ (l : LogInMemory). l.reports.rows) c.self.view_is ∙ h in
    let next : report_of id (drop place rows) ≡ report_of id (drop (suc place) rows) = elim c.match-get.branch [
      | in-Some+else-number w ↦
          search_on id place rows w.in-Some.report.now (w.in-Some.ensures ∙ ap (λ (l : List LoggedReport). slice_get l place) held)
          (λ e. w.if-number.false (w.number.ensures.value ∙ e ∙ sym w.number-in-Some.ensures.value))
      | in-None w ↦ search_past id place rows (w.in-None.ensures ∙ ap (λ (l : List LoggedReport). slice_get l place) held)
    ] in
    ap (λ (n : ℕ). report_of id (drop n rows)) (add-one place) ∙ sym next ∙ c.loop-place.invariant rows h
