use Rattle.std.proofs.Common.{◌≡◌, ◌+◌, ◌-◌, ℕ, List, length, take, get_or, sym, ◌∙◌, ap, subst, arith}
use Rattle.std.proofs.lemmas.List.{take_more}
use Rattle.sms_centre_rows.specs.declared.reports.report.ReportRow.{ReportRow}
use Rattle.sms_centre_rows.specs.reports.Reports.{report_key, report_reaching}
use Rattle.sms_centre_rows.specs.declared.waiting.revision.Revision.{Revision}
use Rattle.sms_centre_rows.specs.waiting.Revisions.{all_revised, revised}
use Rattle.sms_centre_rows.proofs.waiting.Revising.{revised_push}
use Rattle.sms_centre_reports.specs.report_log.ReportLog.{HasLogRoom, Represents}
use Rattle.sms_centre_reports.proofs.report_log.Rooms.{fewer_room}
use Rattle.sms_centre_reports.proofs.report_log.log.ReportLog.apply_each.Goals as goal

pub apply-requires : goal.apply-requires
apply-requires c =
    let i = c.loop-change.change-index in
    fewer_room 1 (length c.args.changes.now - i) c.loop-change.self (omega (arith, c.loop-change-test.true)) c.loop-change.invariant.0

pub loop-change-preserved : goal.loop-change-preserved
loop-change-preserved c =
    let i = c.loop-change.change-index in
    let changes = c.args.changes.now in
    let inside = c.loop-change-test.true in
    let left : length changes - i ≡ length changes - (i + 1) + 1 = omega (arith, inside) in (
      c.apply.ensures.room (length changes - (i + 1)) (subst (λ (n : ℕ). HasLogRoom n c.loop-change.self) left c.loop-change.invariant.0),
      λ rows h.
          subst (λ (rs : List ReportRow). Represents c.apply.new.self rs)
          (sym (ap (λ (cs : List (Revision ReportRow)). all_revised report_key report_reaching cs rows) (take_more changes i c.change-item.result (omega (arith, inside)))
          ∙ revised_push report_key report_reaching (take i changes) (get_or changes i c.change-item.result) rows
          ∙ ap (λ (r : Revision ReportRow). revised report_key report_reaching r (all_revised report_key report_reaching (take i changes) rows)) (sym c.change-item.is)))
          (c.apply.ensures.holds (all_revised report_key report_reaching (take i changes) rows) (c.loop-change.invariant.1 rows h)),
    )
