use Rattle.std.proofs.Common.{◌≡◌, ℕ, ◌+◌, ◌*◌, ◌≤◌, drop, ◌∙◌, ap, subst, slice_range, arith}
use Rattle.sms_rows.specs.table.Keys.{pair_key}
use Rattle.sms_rows.specs.table.Table.{rows_between, rows_from}
use Rattle.sms_centre_rows.specs.messages.PartEntries.{entry_key}
use Rattle.sms_centre_messages.specs.message_index.MessageIndex.{MessageIndexOf}
use Rattle.sms_centre_messages.proofs.message_index.Between.{places_rise, rows_at_places}
use Rattle.sms_centre_messages.proofs.message_index.index.MessageIndex.places_of_parts.Goals as goal

pub returns-clause-order : goal.returns-clause-order
returns-clause-order c =
    let es = c.self.inside.parts.rows in
    let low = c.pair.ensures ∙ ap (λ (n : ℕ). pair_key n 0) c.number-number.ensures.value in
    let high = c.pair-2.ensures ∙ ap (λ (n : ℕ). pair_key n 255) c.number-number.ensures.value in
    let rises : 256 * c.args.id + 0 ≤ 256 * c.args.id + 255 = omega arith in
    places_rise entry_key (pair_key c.args.id 0) (pair_key c.args.id 255) c.place_of-start.result c.place_of-end.result es rises
    c.place_of-start.ensures.bound c.place_of-end.ensures.bound
    (c.place_of-start.ensures.from ∙ ap (λ (n : ℕ). rows_from entry_key n es) low) (c.place_of-end.ensures.from ∙ ap (λ (n : ℕ). rows_from entry_key n es) high)

pub returns-clause-rows : goal.returns-clause-rows
returns-clause-rows c =
    let es = c.self.inside.parts.rows in
    let low = c.pair.ensures ∙ ap (λ (n : ℕ). pair_key n 0) c.number-number.ensures.value in
    let high = c.pair-2.ensures ∙ ap (λ (n : ℕ). pair_key n 255) c.number-number.ensures.value in
    let rises : 256 * c.args.id + 0 ≤ 256 * c.args.id + 255 = omega arith in
    subst (λ (k : MessageIndexOf). rows_between entry_key (pair_key c.args.id 0) (pair_key c.args.id 255) k.parts.rows ≡ slice_range k.parts.rows c.place_of-start.result c.place_of-end.result) c.self.view_is
    (rows_at_places entry_key (pair_key c.args.id 0) (pair_key c.args.id 255) c.place_of-start.result c.place_of-end.result es rises
    c.place_of-start.ensures.bound c.place_of-end.ensures.bound
    (c.place_of-start.ensures.from ∙ ap (λ (n : ℕ). rows_from entry_key n es) low) (c.place_of-end.ensures.from ∙ ap (λ (n : ℕ). rows_from entry_key n es) high))
