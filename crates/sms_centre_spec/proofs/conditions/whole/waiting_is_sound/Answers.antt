use Rattle.std.proofs.Common.{◌∙◌, ap, subst}
use Rattle.std.specs.List.{list_all}
use Rattle.sms_centre_rows.specs.conditions.Differing.{differ}
use Rattle.sms_centre_rows.specs.conditions.WaitingTest.{Places, holds, part_given, report_given}
use Rattle.sms_centre_spec.proofs.conditions.Together.{three_from, three_to}
use Rattle.sms_centre_spec.proofs.conditions.WaitingTested.{OthersSound, waiting_from, waiting_to}
use Rattle.sms_centre_spec.proofs.conditions.whole.waiting_is_sound.Goals as goal

pub returns : goal.returns
returns c allocations messages reports told =
    let hs = c.args.handsets.now.rows in
    let refs = c.args.references.now.rows in
    let ms = c.args.messages.now.rows in
    let qs = c.args.priorities.now.rows in
    let ps = c.args.parts.now.rows in
    let rs = c.args.reports.now.rows in
    let entries = c.in_ok-places.places.entries in
    let places = subst (λ l. Places entries l) c.as_slice.ensures.rows c.in_ok-places.ensures in
    let stand : OthersSound entries hs refs ms qs ps rs = record { places = places; allocations = allocations; messages = messages; reports = reports; report_addresses = told } in
    let x = c.are_parts_given-given in
    let y = c.are_reports_given-reported in
    let z = c.in_ok-apart in
    let a = list_all (part_given entries refs ms) ps in
    let b = list_all (report_given entries refs ms) rs in
    let d = differ (holds entries ms ps rs) in
    let p = x.ensures ∙ ap (λ l. list_all (part_given entries refs ms) l) c.as_slice-2.ensures.rows in
    let q = y.ensures ∙ ap (λ l. list_all (report_given entries refs ms) l) c.as_slice-3.ensures.rows in
    let r = z.ensures ∙ ap (λ l. differ (holds entries ms l c.as_slice-5.result.now)) c.as_slice-4.ensures.rows ∙ ap (λ l. differ (holds entries ms ps l)) c.as_slice-5.ensures.rows in (
      λ e.
          let h = three_from x.result y.result z.apart c.both.result c.both-2.result a b d p q r c.both.ensures c.both-2.ensures e in
          waiting_from entries hs refs ms qs ps rs stand (record { each_part = h.first; each_report = h.second; apart = h.third }),
      λ sound.
          let h = waiting_to entries hs refs ms qs ps rs stand sound in
          three_to x.result y.result z.apart c.both.result c.both-2.result a b d p q r c.both.ensures c.both-2.ensures h.each_part h.each_report h.apart,
    )
