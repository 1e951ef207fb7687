use Rattle.std.proofs.Common.{◌∙◌, ap, map}
use Rattle.std.specs.List.{list_all}
use Rattle.sms_centre_rows.specs.conditions.Differing.{differ}
use Rattle.sms_centre_rows.specs.conditions.ReportTest.{id_of, is_report}
use Rattle.sms_centre_spec.proofs.conditions.ReportsTested.{reports_from, reports_to}
use Rattle.sms_centre_spec.proofs.conditions.Together.{both_from, both_to}
use Rattle.sms_centre_spec.proofs.conditions.whole.reports_are_sound.Goals as goal

pub returns : goal.returns
returns c =
    let ms = c.args.messages.now.rows in
    let rs = c.args.reports.now.rows in
    let x = c.are_reports-each in
    let y = c.in_ok-once in
    let a = list_all (λ r. is_report ms r) rs in
    let b = differ (map id_of rs) in
    let p = x.ensures ∙ ap (λ l. list_all (λ r. is_report ms r) l) c.as_slice.ensures.rows in
    let q = y.ensures ∙ ap (λ l. differ (map id_of l)) c.as_slice-2.ensures.rows in (
      λ e.
          let h = both_from x.result y.once c.both.result a b p q c.both.ensures e in
          reports_from ms rs c.as_slice.ensures.order (record { each = h.one; ids = h.other }),
      λ sound. let h = reports_to ms rs sound in both_to x.result y.once c.both.result a b p q c.both.ensures h.each h.ids,
    )
