use Rattle.std.proofs.Common.{List, [], length, refl, ◌∙◌, subst}
use Rattle.sms_rows.specs.declared.table.change.Change.{Change}
use Rattle.sms_rows.specs.table.Table.{all_applied}
use Rattle.sms_centre_rows.specs.declared.messages.bar.BarRow.{BarRow}
use Rattle.sms_centre_rows.specs.messages.Messages.{message_key}
use Rattle.sms_centre_messages.specs.references.ReferenceIndex.{Barred, ReferenceIndexOf}
use Rattle.sms_centre_messages.proofs.references.Adopted.{barred_taken, barred_then, bars_taken, bars_then, holds_barred, holds_taken, room_taken, same_room}
use Rattle.sms_centre_messages.proofs.references.reference_index.ReferenceIndex.adopt.Goals as goal

pub apply_all-requires : goal.apply_all-requires
apply_all-requires c = room_taken c.args.reserve (length c.args.messages.now) (length c.args.parts.now) (length c.args.bars.now) c.args.self.now c.take_in.new.self c.requires c.take_in.ensures

pub apply_bars-requires : goal.apply_bars-requires
apply_bars-requires c =
    same_room (length c.args.bars.now) c.take_in.new.self c.apply_parts.new.self (bars_then c.take_in.new.self c.apply_all.new.self c.apply_parts.new.self c.apply_all.ensures.bars c.apply_parts.ensures.bars)
    (bars_taken c.args.reserve (length c.args.messages.now) (length c.args.parts.now) (length c.args.bars.now) c.args.self.now c.take_in.new.self c.requires c.take_in.ensures)

pub returns-clause-moved : goal.returns-clause-moved
returns-clause-moved c = λ bs ms ps h rises part_rises none moves part_moves.
    holds_barred c.apply_parts.new.self c.apply_bars.new.self bs _ _ (subst (λ (cs : List (Change BarRow)). Barred cs c.apply_parts.new.self c.apply_bars.new.self) none c.apply_bars.ensures)
    (c.apply_parts.ensures.moved bs ms (all_applied message_key c.args.messages.now ms) ps refl
    (c.apply_all.ensures.holds bs ms ps (holds_taken c.args.reserve c.args.self.now c.take_in.new.self bs ms ps c.take_in.ensures h) rises moves) part_rises part_moves)

pub returns-clause-kept : goal.returns-clause-kept
returns-clause-kept c = λ removals part_removals.
    barred_then [] c.args.bars.now c.args.self.now c.take_in.new.self c.apply_bars.new.self (barred_taken c.args.reserve c.args.self.now c.take_in.new.self c.take_in.ensures)
    (subst (λ (k : ReferenceIndexOf). Barred c.args.bars.now k c.apply_bars.new.self) (c.apply_parts.ensures.kept part_removals ∙ c.apply_all.ensures.kept removals) c.apply_bars.ensures)
