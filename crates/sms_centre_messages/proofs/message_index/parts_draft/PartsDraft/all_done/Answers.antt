use Rattle.std.proofs.Common.{Option, sym, ◌∙◌, ap, arith}
use Rattle.sms_centre_rows.specs.declared.messages.parts.PartEntry.{PartEntry}
use Rattle.sms_centre_rows.specs.messages.PartEntries.{is_done_entry, rows_now}
use Rattle.sms_centre_rows.proofs.messages.DoneParts.{done_more, none_done, not_done}
use Rattle.sms_centre_messages.proofs.message_index.parts_draft.PartsDraft.all_done.Goals as goal

pub loop-behind-init : goal.loop-behind-init
loop-behind-init c = none_done c.args.id (rows_now c.args.self.now)

pub returns-then-not-is_done : goal.returns-then-not-is_done
returns-then-not-is_done c =
    sym (not_done c.args.id 20 c.loop-behind.behind (rows_now c.args.self.now) (omega (arith, c.loop-behind-test.true))
    (ap (λ (o : Option PartEntry). is_done_entry o) (sym c.find.ensures) ∙ sym c.is_done.ensures ∙ c.if-not-is_done.true))

pub loop-behind-preserved : goal.loop-behind-preserved
loop-behind-preserved c =
    done_more c.args.id c.loop-behind.behind (rows_now c.args.self.now) c.loop-behind.invariant
    (ap (λ (o : Option PartEntry). is_done_entry o) (sym c.find.ensures) ∙ sym c.is_done.ensures ∙ c.if-not-is_done.false)
