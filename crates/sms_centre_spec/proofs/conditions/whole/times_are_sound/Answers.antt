use Rattle.std.proofs.Common.{◌∙◌, ap}
use Rattle.std.specs.List.{list_all}
use Rattle.sms_centre_spec.specs.conditions.RowsTest.{is_dated, is_made, is_submitted}
use Rattle.sms_centre_spec.proofs.conditions.RowsTested.{times_from, times_to}
use Rattle.sms_centre_spec.proofs.conditions.Together.{three_from, three_to}
use Rattle.sms_centre_spec.proofs.conditions.whole.times_are_sound.Goals as goal

pub returns : goal.returns
returns c =
    let ms = c.args.messages.now.rows in
    let refs = c.args.references.now.rows in
    let rs = c.args.reports.now.rows in
    let x = c.are_submitted-submitted in
    let y = c.are_dated-dated in
    let z = c.are_made-made in
    let p = x.ensures ∙ ap (λ l. list_all is_submitted l) c.as_slice.ensures.rows in
    let q = y.ensures ∙ ap (λ l. list_all is_dated l) c.as_slice-2.ensures.rows in
    let r = z.ensures ∙ ap (λ l. list_all is_made l) c.as_slice-3.ensures.rows in (
      λ e.
          let h = three_from x.result y.result z.result c.both.result c.both-2.result (list_all is_submitted ms) (list_all is_dated refs) (list_all is_made rs) p q r c.both.ensures c.both-2.ensures e in
          times_from ms refs rs (record { submitted = h.first; dated = h.second; made = h.third }),
      λ are.
          let h = times_to ms refs rs are in
          three_to x.result y.result z.result c.both.result c.both-2.result (list_all is_submitted ms) (list_all is_dated refs) (list_all is_made rs) p q r c.both.ensures c.both-2.ensures h.submitted h.dated h.made,
    )
