use Rattle.std.proofs.Common.{◌∙◌, ap}
use Rattle.std.specs.List.{list_all}
use Rattle.sms_centre_rows.specs.conditions.MessageTest.{is_message, is_part, is_priority}
use Rattle.sms_centre_spec.proofs.conditions.MessagesTested.{messages_from, messages_to}
use Rattle.sms_centre_spec.proofs.conditions.Together.{three_from, three_to}
use Rattle.sms_centre_spec.proofs.conditions.whole.messages_are_sound.Goals as goal

pub returns : goal.returns
returns c =
    let ms = c.args.messages.now.rows in
    let ps = c.args.parts.now.rows in
    let qs = c.args.priorities.now.rows in
    let x = c.are_messages-each_message in
    let y = c.are_parts-each_part in
    let z = c.are_priorities-each_priority in
    let a = list_all (λ m. is_message ps qs m) ms in
    let b = list_all (λ p. is_part ms p) ps in
    let d = list_all (λ q. is_priority ms q) qs in
    let p = x.ensures ∙ ap (λ l. list_all (λ m. is_message ps qs m) l) c.as_slice.ensures.rows in
    let q = y.ensures ∙ ap (λ l. list_all (λ p. is_part ms p) l) c.as_slice-2.ensures.rows in
    let r = z.ensures ∙ ap (λ l. list_all (λ q. is_priority ms q) l) c.as_slice-3.ensures.rows in (
      λ e.
          let h = three_from x.result y.result z.result c.both.result c.both-2.result a b d p q r c.both.ensures c.both-2.ensures e in
          messages_from ms ps qs c.as_slice.ensures.order c.as_slice-2.ensures.order c.as_slice-3.ensures.order (record { each_message = h.first; each_part = h.second; each_priority = h.third }),
      λ sound.
          let h = messages_to ms ps qs sound in
          three_to x.result y.result z.result c.both.result c.both-2.result a b d p q r c.both.ensures c.both-2.ensures h.each_message h.each_part h.each_priority,
    )
