-- What is asked of a message's parts before it is forgotten: to what they lay claim, and how many there are.
use Rattle.std.specs.Prelude.{ℕ, List, [], ◌∷◌, ◌++◌, length}
use Rattle.sms_rows.specs.table.Keys.{pair_key}
use Rattle.sms_rows.specs.table.Table.{rows_between}
use Rattle.sms_centre_rows.specs.declared.messages.message.MessageRow.{MessageRow}
use Rattle.sms_centre_rows.specs.declared.messages.parts.PartEntry.{PartEntry}
use Rattle.sms_centre_rows.specs.declared.messages.part.PartRow.{PartRow}
use Rattle.sms_centre_rows.specs.declared.messages.claim.Claim.{Claim}
use Rattle.sms_centre_rows.specs.messages.Bars.{claims_of_header}
use Rattle.sms_centre_rows.specs.messages.Messages.{part_key}
use Rattle.sms_centre_rows.specs.messages.SplitReferences.{unless_split, wide_in}

-- the 16-bit references of their headers, where the centre did not split the message
abbrev pub claims_of_entries : MessageRow → List PartEntry → List Claim
claims_of_entries m [] = []
claims_of_entries m (e ∷ es) = claims_of_header m (unless_split m.split_reference (wide_in e.key)) ++ claims_of_entries m es

-- how many parts it has; their numbers are 1 to 20
abbrev pub count_parts : ℕ → List PartRow → ℕ
count_parts id ps = length (rows_between part_key (pair_key id 0) (pair_key id 255) ps)
