-- What the owner of the handset does: writing, deleting, discarding; and why it is refused.
use Rattle.std.specs.Prelude.{◌≤◌, ◌≡◌, ℕ, ◌+◌, ◌%◌, Bool, List, [], ◌∷◌, true, false, nat_lt, length, nat_le, if◌then◌else◌, Result, Ok, Err, Option, Some}
use Rattle.std.specs.Prelude.{None, ◌==◌}
use Rattle.sms_base.specs.declared.address.Address.{Address}
use Rattle.sms_base.specs.declared.address_error.AddressError.{AddressError}
use Rattle.sms_base.specs.Address.{IsAddress, address_of}
use Rattle.sms_rows.specs.table.Table.{row_at}
use Rattle.sms_concat.specs.declared.content.Part.{Part as PartOf}
use Rattle.sms_concat.specs.declared.split_error.SplitError.{SplitError}
use Rattle.sms_concat.specs.Splitting.{split_of}
use Rattle.sms_handset_rows.specs.inbox.Groups.{is_open_part, part_numbers, first_number, members}
use Rattle.sms_handset_rows.specs.declared.inbox.entry.Entry.{Entry}
use Rattle.sms_handset_rows.specs.inbox.Keys.{entry_key}
use Rattle.sms_handset_rows.specs.declared.inbox.entry.Group.{Group}
use Rattle.sms_handset_rows.specs.declared.inbox.entry.Message.{Message}
use Rattle.sms_handset_rows.specs.declared.inbox.entry.Message.TheVariants.{Single, Part, Joined}
use Rattle.sms_concat.specs.TextContent.{content_of_text}
use Rattle.sms_handset_rows.specs.outbox.Submits.{written_entry}
use Rattle.sms_handset_rows.specs.outbox.References.{held_message_references, held_references, next_free, is_unfinished}
use Rattle.sms_handset_rows.specs.declared.outbox.out_entry.OutEntry.{OutEntry}
use Rattle.sms_handset_rows.specs.outbox.Keys.{out_key}
use Rattle.sms_handset_draft.specs.Draft.{Draft, put_out, put_counters, remove_out, remove_entry, put_mark}
use Rattle.sms_handset.specs.declared.refusal.Refusal.{Refusal}
use Rattle.sms_handset.specs.declared.refusal.Refusal.TheVariants.{OutboxFull, Destination, TooManyParts, NoEntry, StillOpen, TooManyDiscarded}
use Rattle.sms_handset_draft.specs.MemoryAvailable.{freed}
use Rattle.sms_handset_draft.specs.Storing.{drop_all}

-- ---- writing

-- an entry under the next number, the next free TP-MR and the next free RP reference
abbrev pub write_with : ℕ → ℕ → Address → Bool → Bool → PartOf → Draft → Draft
write_with message_reference reference destination report is_long part d =
    put_out (written_entry d.rows.counters.entry message_reference reference destination report is_long part)
    (put_counters (record d.rows.counters {
      entry = d.rows.counters.entry + 1;
      message_reference = (message_reference + 1) % 256;
      reference = (reference + 1) % 256;
    }) d)

abbrev pub write_part : Address → Bool → Bool → PartOf → Draft → Draft
write_part destination report is_long part d =
    write_with (next_free d.rows.counters.message_reference (held_message_references d.rows.outbox))
    (next_free d.rows.counters.reference (held_references d.notices d.rows.outbox)) destination report is_long part d

abbrev pub write_parts : Address → Bool → Bool → List PartOf → Draft → Draft
write_parts destination report is_long [] d = d
write_parts destination report is_long (part ∷ parts) d =
    write_parts destination report is_long parts (write_part destination report is_long part d)

-- a text that is split uses up a reference for its header
abbrev pub count_split : Bool → Draft → Draft
count_split false d = d
count_split true d = put_counters (record d.rows.counters { concat_reference = (d.rows.counters.concat_reference + 1) % 65536 }) d

abbrev pub written : Address → Bool → List PartOf → Draft → Draft
written destination report parts d =
    let is_long = nat_lt 1 (length parts) in
    write_parts destination report is_long parts (count_split is_long d)

-- the outbox has room for 20 entries, finished ones among them, and numbers are left
abbrev pub fits_outbox : ℕ → Draft → Bool
fits_outbox parts d =
    if nat_le (length d.rows.outbox + parts) 20 then nat_le (d.rows.counters.entry + parts) 4294967295 else false

abbrev pub write_to : Bool → List PartOf → Result Address AddressError → Draft → Result Draft Refusal
write_to report parts (Err fault) d = Err (Destination fault)
write_to report parts (Ok destination) d =
    if fits_outbox (length parts) d then Ok (written destination report parts d) else Err OutboxFull

abbrev pub write_split : List ℕ → Bool → Result (List PartOf) SplitError → Draft → Result Draft Refusal
write_split to report (Err fault) d = Err TooManyParts
write_split to report (Ok parts) d = write_to report parts (address_of 1 1 to) d

-- the text and the number are lists of characters; the number is an international one of the telephone numbering plan
abbrev pub write : List ℕ → List ℕ → Bool → Draft → Result Draft Refusal
write text to report d = write_split to report (split_of (content_of_text text) d.rows.counters.concat_reference) d

-- What is known of a text before memory is asked for: why it is refused, or its destination, and that its parts are written.
abbrev pub JudgesText : Result Address Refusal → List ℕ → List ℕ → Draft → Type 0
JudgesText (Err refusal) text to d = (report : Bool) → write text to report d ≡ Err refusal
JudgesText (Ok destination) text to d =
    IsAddress destination
    × ((parts : List PartOf)
    × ((split_of (content_of_text text) d.rows.counters.concat_reference ≡ Ok parts)
    × ((d.rows.counters.entry + length parts ≤ 4294967295)
    × ((report : Bool) → write text to report d ≡ Ok (written destination report parts d)))))

-- ---- deleting

abbrev pub delete_out : ℕ → Option OutEntry → Draft → Result Draft Refusal
delete_out n None d = Err NoEntry
delete_out n (Some o) d = if is_unfinished o.state then Err StillOpen else Ok (remove_out n d)

-- an entry of the inbox frees its slots
abbrev pub delete_in : ℕ → Option Entry → Draft → Result Draft Refusal
delete_in n None d = delete_out n (row_at out_key n d.rows.outbox) d
delete_in n (Some e) d = if is_open_part e.message then Err StillOpen else Ok (freed (remove_entry n d))

abbrev pub delete : ℕ → Draft → Result Draft Refusal
delete n d = delete_in n (row_at entry_key n d.rows.entries) d

-- ---- discarding: the group's slots are freed, and the numbers of its parts that arrived are kept until all have arrived

abbrev pub discard_group : ℕ → Group → List Entry → Draft → Draft
discard_group n g es d = freed (put_mark (record { number = n; group = g; seen = part_numbers es }) (drop_all es d))

abbrev pub discard_members : ℕ → Group → List Entry → Draft → Result Draft Refusal
discard_members n g es d =
    if first_number es == n
    then (if nat_lt (length d.rows.marks) 64 then Ok (discard_group n g es d) else Err TooManyDiscarded)
    else Err NoEntry

abbrev pub discard_in : ℕ → Message → Draft → Result Draft Refusal
discard_in n (Single tpdu) d = Err NoEntry
discard_in n (Part group number tpdu) d = discard_members n group (members group d.rows.entries) d
discard_in n (Joined source content) d = Err NoEntry

abbrev pub discard_at : ℕ → Option Entry → Draft → Result Draft Refusal
discard_at n None d = Err NoEntry
discard_at n (Some e) d = discard_in n e.message d

abbrev pub discard : ℕ → Draft → Result Draft Refusal
discard n d = discard_at n (row_at entry_key n d.rows.entries) d
