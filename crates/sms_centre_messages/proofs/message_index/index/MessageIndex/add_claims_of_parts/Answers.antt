use Rattle.std.proofs.Common.{List, ◌++◌, sym, ◌∙◌, ap}
use Rattle.sms_centre_rows.specs.declared.messages.parts.PartEntry.{PartEntry}
use Rattle.sms_centre_messages.specs.message_index.Forgettable.{claims_of_entries}
use Rattle.sms_centre_messages.proofs.message_index.index.MessageIndex.add_claims_of_parts.Goals as goal

pub returns : goal.returns
returns c =
    c.in_ok-add_claims_at.ensures ∙ ap (λ (l : List PartEntry). c.args.claims.now.items ++ claims_of_entries c.args.message.now l) (sym c.places_of_parts-places.ensures.rows)
