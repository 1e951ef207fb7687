use Rattle.std.proofs.Common.{◌∙◌, ap, map}
use Rattle.std.specs.List.{list_all}
use Rattle.sms_centre_rows.specs.conditions.Differing.{differ}
use Rattle.sms_centre_rows.specs.conditions.AllocationTest.{is_given, is_mentioned, number_key}
use Rattle.sms_centre_spec.proofs.conditions.AllocationsTested.{allocations_from, allocations_to}
use Rattle.sms_centre_spec.proofs.conditions.Together.{three_from, three_to}
use Rattle.sms_centre_spec.proofs.conditions.whole.allocations_are_sound.Goals as goal

pub returns : goal.returns
returns c =
    let hs = c.args.handsets.now.rows in
    let rs = c.args.references.now.rows in
    let x = c.are_mentioned-mentioned in
    let y = c.are_given-given in
    let z = c.in_ok-apart in
    let a = list_all (λ h. is_mentioned rs h) hs in
    let b = list_all (λ r. is_given hs r) rs in
    let d = differ (map number_key hs) in
    let p = x.ensures ∙ ap (λ l. list_all (λ h. is_mentioned rs h) l) c.as_slice.ensures.rows in
    let q = y.ensures ∙ ap (λ l. list_all (λ r. is_given hs r) l) c.as_slice-2.ensures.rows in
    let r = z.ensures ∙ ap (λ l. differ (map number_key l)) c.as_slice-3.ensures.rows in (
      λ e.
          let h = three_from x.result y.result z.apart c.both.result c.both-2.result a b d p q r c.both.ensures c.both-2.ensures e in
          allocations_from hs rs c.as_slice.ensures.order c.as_slice-2.ensures.order (record { each_handset = h.first; each_reference = h.second; numbers = h.third }),
      λ sound.
          let h = allocations_to hs rs sound in
          three_to x.result y.result z.apart c.both.result c.both-2.result a b d p q r c.both.ensures c.both-2.ensures h.each_handset h.each_reference h.numbers,
    )
