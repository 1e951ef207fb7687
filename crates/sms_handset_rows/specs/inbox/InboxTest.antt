-- The tests whether rows of the inbox are sound, over lists.
use Rattle.std.specs.Prelude.{◌&&◌, List, [], ◌∷◌, Bool, true, ℕ, not, nat_lt, false, Result, Ok, Err, ◌==◌, Option, Some, None, nat_le, is_none, if◌then◌else◌}
use Rattle.sms_rows.specs.table.Table.{row_at}
use Rattle.sms_alphabet.specs.declared.concat_key.ConcatKey.{ConcatKey}
use Rattle.sms_tpdu.specs.declared.down.Down.{Down}
use Rattle.sms_tpdu.specs.declared.down.Down.TheVariants.{Deliver, StatusReport, SubmitReport}
use Rattle.sms_tpdu.specs.declared.fault.TpduFault.{TpduFault}
use Rattle.sms_tpdu.specs.declared.deliver.Deliver.{Deliver as DeliverOf}
use Rattle.sms_tpdu.specs.declared.carrier.Carrier.TheVariants.{InData}
use Rattle.sms_tpdu.specs.TpduReading.{down_at}
use Rattle.sms_handset_rows.specs.inbox.Groups.{is_among, group_of, is_same_group, key_of, all_numbers, mark_of, members, part_numbers, first_number}
use Rattle.sms_handset_rows.specs.declared.inbox.entry.Group.{Group}
use Rattle.sms_handset_rows.specs.declared.inbox.entry.Message.{Message}
use Rattle.sms_handset_rows.specs.declared.inbox.entry.Message.TheVariants.{Single, Part, Joined}
use Rattle.sms_handset_rows.specs.declared.inbox.entry.Entry.{Entry}
use Rattle.sms_handset_rows.specs.declared.inbox.discarded_group.DiscardedGroup.{DiscardedGroup}
use Rattle.sms_handset_rows.specs.declared.inbox.last_accepted.LastAccepted.{LastAccepted}
use Rattle.sms_handset_rows.specs.inbox.Keys.{entry_key}

-- each item passes
abbrev pub each_passes : {A : Type 0} → (A → Bool) → List A → Bool
each_passes test [] = true
each_passes test (x ∷ xs) = test x && each_passes test xs

-- no number is there twice
abbrev pub differ : List ℕ → Bool
differ [] = true
differ (n ∷ ns) = not (is_among n ns) && differ ns

-- ---- the inbox

abbrev pub is_given : ℕ → ℕ → Bool
is_given next n = nat_lt 0 n && nat_lt n next

abbrev pub reads_deliver : Result Down TpduFault → Bool
reads_deliver (Ok (Deliver m)) = true
reads_deliver (Ok (StatusReport r)) = false
reads_deliver (Ok (SubmitReport r)) = false
reads_deliver (Err fault) = false

abbrev pub has_key : Group → ℕ → DeliverOf → Option ConcatKey → Bool
has_key g n m None = false
has_key g n m (Some key) = is_same_group (group_of m.originating_address key) g && (key.number == n)

abbrev pub reads_part : Group → ℕ → Result Down TpduFault → Bool
reads_part g n (Ok (Deliver m)) = has_key g n m (key_of m)
reads_part g n (Ok (StatusReport r)) = false
reads_part g n (Ok (SubmitReport r)) = false
reads_part g n (Err fault) = false

abbrev pub is_message : ℕ → Message → Bool
is_message slots (Single tpdu) = (slots == 1) && reads_deliver (down_at InData tpdu)
is_message slots (Part g n tpdu) = (slots == 1) && reads_part g n (down_at InData tpdu)
is_message slots (Joined source content) = nat_le 1 slots

abbrev pub is_entry : ℕ → Entry → Bool
is_entry next e = is_given next e.number && is_message e.slots e.message

-- each of its numbers once, not all of them, and not discarded
abbrev pub is_open_group : List Entry → List DiscardedGroup → Group → Bool
is_open_group entries marks g =
    differ (part_numbers (members g entries)) && (not (all_numbers g.total (part_numbers (members g entries))) && is_none (mark_of g marks))

-- a group is looked at with its first part
abbrev pub is_of_open_group : List Entry → List DiscardedGroup → ℕ → Message → Bool
is_of_open_group entries marks number (Single tpdu) = true
is_of_open_group entries marks number (Part g n tpdu) = if first_number (members g entries) == number then is_open_group entries marks g else true
is_of_open_group entries marks number (Joined source content) = true

-- ---- what was accepted last

abbrev pub reads_last : Result Down TpduFault → Bool
reads_last (Ok (Deliver m)) = true
reads_last (Ok (StatusReport r)) = true
reads_last (Ok (SubmitReport r)) = false
reads_last (Err fault) = false

abbrev pub is_last : LastAccepted → Bool
is_last l = reads_last (down_at InData l.tpdu)

-- ---- numbers that inbox and outbox share

abbrev pub is_apart : ℕ → List Entry → Bool
is_apart n entries = is_none (row_at entry_key n entries)

-- ---- discarded groups

abbrev pub are_marks : ℕ → List Entry → List DiscardedGroup → Bool
are_marks next entries [] = true
are_marks next entries (m ∷ ms) =
    ((is_given next m.number && is_apart m.number entries) && (differ m.seen && (not (all_numbers m.group.total m.seen) && is_none (mark_of m.group ms))))
    && are_marks next entries ms
