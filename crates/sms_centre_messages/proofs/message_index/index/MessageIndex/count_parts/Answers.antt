use Rattle.std.proofs.Common.{List, length, sym, ◌∙◌, ap}
use Rattle.sms_rows.specs.table.Keys.{pair_key}
use Rattle.sms_rows.specs.table.Table.{rows_between}
use Rattle.sms_centre_rows.specs.declared.messages.parts.PartEntry.{PartEntry}
use Rattle.sms_centre_rows.specs.messages.PartEntries.{entry_key}
use Rattle.sms_centre_messages.proofs.message_index.Between.{length_range}
use Rattle.sms_centre_messages.proofs.message_index.Numbers.{counted}
use Rattle.sms_centre_messages.proofs.message_index.index.MessageIndex.count_parts.Goals as goal

pub returns : goal.returns
returns c = λ ms ps h.
    let places = c.places_of_parts-places in
    sym (length_range places.result.start places.result.end c.args.self.now.parts.rows places.ensures.order places.ensures.bound)
    ∙ ap (λ (l : List PartEntry). length l) (sym places.ensures.rows)
    ∙ ap (λ (l : List PartEntry). length (rows_between entry_key (pair_key c.args.id 0) (pair_key c.args.id 255) l)) h.parts
    ∙ counted c.args.id ps
