use Rattle.std.proofs.Common.{List, [], sym, ◌∙◌, ap, subst}
use Rattle.sms_centre_rows.specs.declared.messages.parts.PartEntry.{PartEntry}
use Rattle.sms_centre_rows.specs.messages.PartEntries.{entry_key}
use Rattle.sms_centre_rows.proofs.messages.Entries.{rises_entries}
use Rattle.sms_rows.specs.table.Table.{RowsInMemory, Rises}
use Rattle.sms_centre_messages.specs.message_index.MessageIndex.{Represents, MessageIndexOf}
use Rattle.sms_centre_messages.proofs.message_index.Recovering.{holds_parts}
use Rattle.sms_centre_messages.proofs.message_index.index.MessageIndex.of_parts.Goals as goal

pub from_vec-requires : goal.from_vec-requires
from_vec-requires c = subst (λ (es : List PartEntry). Rises entry_key es) (sym c.in_ok-entries.ensures) (rises_entries c.args.parts.now c.requires)

pub returns : goal.returns
returns c =
    holds_parts (record { names = c.index.inside.names; messages = c.index.inside.messages; parts = c.index.inside.parts; deadlines = c.index.inside.deadlines }) c.from_vec.result c.args.parts.now
    (subst (λ (k : MessageIndexOf). Represents k [] []) (sym c.index.view_is) c.new-index.ensures)
    (ap (λ (t : RowsInMemory PartEntry). t.rows) c.from_vec.ensures ∙ c.in_ok-entries.ensures) c.requires
