use Rattle.std.proofs.Common.{sym, subst}
use Rattle.sms_centre_messages.specs.message_index.MessageIndex.{MessageIndexOf, Notes}
use Rattle.sms_centre_messages.proofs.message_index.IndexRepresents.{puts_in}
use Rattle.sms_centre_messages.proofs.message_index.index.MessageIndex.put.Goals as goal

pub returns : goal.returns
returns c =
    puts_in c.args.row c.entry_ready-entry.result c.entry_ready-entry.new.self c.put_ready.new.self c.args.self.now (record { names = c.self.inside.names; messages = c.self.inside.messages; parts = c.self.inside.parts; deadlines = c.self.inside.deadlines })
    (subst (λ (k : MessageIndexOf). Notes c.args.row c.args.self.now k) (sym c.self.view_is) c.note.ensures)
    c.entry_ready-entry.ensures.others c.entry_ready-entry.ensures.room c.entry_ready-entry.ensures.own
    c.put_ready.ensures.rows c.put_ready.ensures.capacity
