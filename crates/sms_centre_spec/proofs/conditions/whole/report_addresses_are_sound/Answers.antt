use Rattle.std.proofs.Common.{sym, ◌∙◌, ap}
use Rattle.std.specs.List.{list_all}
use Rattle.sms_centre_spec.specs.conditions.RowsTest.{is_reportable}
use Rattle.sms_centre_spec.proofs.conditions.RowsTested.{told_from, told_to}
use Rattle.sms_centre_spec.proofs.conditions.whole.report_addresses_are_sound.Goals as goal

pub returns : goal.returns
returns c =
    let rows = c.args.messages.now.rows in
    let is = c.have_report_addresses.ensures ∙ ap (λ l. list_all is_reportable l) c.as_slice.ensures.rows in
    (λ e. told_from rows (sym is ∙ e), λ f. is ∙ told_to rows f)
