use Rattle.std.proofs.Common.{◌≡◌, ℕ, ◌+◌, List, ◌∷◌, length, sym, ◌∙◌, ap, subst, arith}
use Rattle.sms_centre_rows.specs.declared.messages.message.MessageRow.{MessageRow}
use Rattle.sms_centre_rows.specs.messages.Messages.{message_key}
use Rattle.sms_rows.specs.declared.table.change.Change.{Change}
use Rattle.sms_rows.specs.table.Table.{all_applied, applied}
use Rattle.sms_centre_messages.specs.message_index.MessageIndex.{HasRoomFor}
use Rattle.std.specs.Vec.Iter.{into_iter_items}
use Rattle.sms_centre_messages.proofs.message_index.index.MessageIndex.apply_each.Goals as goal

pub loop-change-preserved : goal.loop-change-preserved
loop-change-preserved c =
    let rest = into_iter_items c.next.new.self in
    let step : into_iter_items c.loop-change.change-iterator ≡ c.in-Some.change ∷ rest = c.in-Some.ensures.steps.0 in
    let count = ap (λ (l : List (Change MessageRow)). length l) step in
    let more : length (into_iter_items c.loop-change.change-iterator) ≡ length rest + 1 = omega (arith, count) in
    record {
      can_next = tt;
      is_finite = tt;
      room = c.apply.ensures.room (length rest) (subst (λ (n : ℕ). HasRoomFor n c.loop-change.self) more c.loop-change.invariant.room);
      holds = λ ms ps h.
          let i = c.loop-change.invariant.holds ms ps h in
          (applied message_key c.in-Some.change i.0, c.apply.ensures.holds i.0 ps i.1, ap (λ (l : List (Change MessageRow)). all_applied message_key l i.0) (sym step) ∙ i.2);
    }
