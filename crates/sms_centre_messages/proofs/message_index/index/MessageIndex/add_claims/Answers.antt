use Rattle.std.proofs.Common.{List, ◌++◌, ◌∙◌, ap, append_assoc}
use Rattle.sms_rows.specs.table.Keys.{pair_key}
use Rattle.sms_rows.specs.table.Table.{rows_between}
use Rattle.sms_centre_rows.specs.declared.messages.parts.PartEntry.{PartEntry}
use Rattle.sms_centre_rows.specs.declared.messages.claim.Claim.{Claim}
use Rattle.sms_centre_rows.specs.messages.Bars.{claims_of_parts, claims_of_split}
use Rattle.sms_centre_rows.specs.messages.PartEntries.{entry_key}
use Rattle.sms_centre_messages.specs.message_index.Forgettable.{claims_of_entries}
use Rattle.sms_centre_messages.proofs.message_index.Claiming.{claims_between}
use Rattle.sms_centre_messages.proofs.message_index.index.MessageIndex.add_claims.Goals as goal

pub returns : goal.returns
returns c = λ ms ps h few.
    let m = c.args.message.now in
    c.in_ok-add_claims_of_parts.ensures
    ∙ ap (λ (l : List PartEntry). c.add_claim_of_split.new.claims.items ++ claims_of_entries m (rows_between entry_key (pair_key m.id 0) (pair_key m.id 255) l)) h.parts
    ∙ ap (λ (l : List Claim). c.add_claim_of_split.new.claims.items ++ l) (claims_between m ps few)
    ∙ ap (λ (l : List Claim). l ++ claims_of_parts m ps) c.in_ok-add_claim_of_split.ensures
    ∙ append_assoc c.args.claims.now.items (claims_of_split m m.split_reference) (claims_of_parts m ps)
