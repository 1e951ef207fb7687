use Rattle.std.proofs.Common.{sym, subst}
use Rattle.sms_centre_rows.specs.declared.messages.message.MessageRow.{MessageRow}
use Rattle.sms_rows.specs.declared.table.change.Change.{Change}
use Rattle.sms_rows.specs.declared.table.change.Change.TheVariants.{Remove}
use Rattle.sms_rows.specs.table.Table.{RowsInMemory}
use Rattle.sms_centre_messages.specs.declared.message_index.message_entry.MessageEntry.{MessageEntry}
use Rattle.sms_centre_messages.specs.message_index.MessageIndex.{Applies, MessageIndexOf}
use Rattle.sms_centre_messages.proofs.message_index.IndexRepresents.{takes_out}
use Rattle.sms_centre_messages.proofs.message_index.index.MessageIndex.apply.Goals as goal

pub returns-in-Remove : goal.returns-in-Remove
returns-in-Remove c =
    subst (λ (change : Change MessageRow). Applies change c.args.self.now (record { names = c.self.inside.names; messages = c.remove.new.self; parts = c.self.inside.parts; deadlines = c.self.inside.deadlines })) (sym c.in-Remove.is)
    (subst (λ (k : MessageIndexOf). Applies (Remove c.in-Remove.key) k (record { names = c.self.inside.names; messages = c.remove.new.self; parts = c.self.inside.parts; deadlines = c.self.inside.deadlines })) c.self.view_is
    (subst (λ (t : RowsInMemory MessageEntry). Applies (Remove c.in-Remove.key) (record { names = c.self.inside.names; messages = c.self.inside.messages; parts = c.self.inside.parts; deadlines = c.self.inside.deadlines }) (record { names = c.self.inside.names; messages = t; parts = c.self.inside.parts; deadlines = c.self.inside.deadlines })) (sym c.remove.ensures.rows)
    (takes_out c.in-Remove.key (record { names = c.self.inside.names; messages = c.self.inside.messages; parts = c.self.inside.parts; deadlines = c.self.inside.deadlines }))))
