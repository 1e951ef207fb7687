-- What an accepted message leaves: a DELIVER of no discarded group that is accepted is in the inbox, alone or joined.
use Rattle.std.specs.Prelude.{◌≡◌, ℕ, List, Some, ◌⊎◌, Ok}
use Rattle.sms_base.specs.Among.{Among}
use Rattle.sms_rows.specs.declared.table.change.Change.TheVariants.{Put}
use Rattle.sms_concat.specs.declared.content.Part.{Part as PartOf}
use Rattle.sms_concat.specs.Joining.{content_joined}
use Rattle.sms_alphabet.specs.declared.concat_key.ConcatKey.{ConcatKey}
use Rattle.sms_tpdu.specs.declared.carrier.Carrier.TheVariants.{InData}
use Rattle.sms_tpdu.specs.declared.deliver.Deliver.{Deliver as DeliverOf}
use Rattle.sms_tpdu.specs.TpduReading.{down_at}
use Rattle.sms_tpdu.specs.declared.down.Down.TheVariants.{Deliver}
use Rattle.sms_handset_rows.specs.declared.inbox.entry.Message.{Message}
use Rattle.sms_handset_rows.specs.declared.inbox.entry.Message.TheVariants.{Single, Part, Joined}
use Rattle.sms_handset_rows.specs.inbox.Groups.{carried_part, group_of, key_of, mark_of}
use Rattle.sms_handset_rows.specs.declared.inbox.discarded_group.DiscardedGroup.{DiscardedGroup}
use Rattle.sms_handset_rows.specs.declared.inbox.entry.Entry.{Entry}
use Rattle.sms_handset_rows.specs.declared.inbox.last_accepted.LastAccepted.{LastAccepted}
use Rattle.sms_handset_draft.specs.declared.rows.Rows.{Rows}
use Rattle.sms_handset_draft.specs.Draft.{Changes}

-- The message has the DELIVER's source and user data: it is that DELIVER, or was joined from parts of which it is one.
abbrev pub Contains : List ℕ → DeliverOf → Message → Type 0
Contains tpdu m (Single octets) = octets ≡ tpdu
Contains tpdu m (Part g n octets) = (octets ≡ tpdu) × (g.source ≡ m.originating_address)
Contains tpdu m (Joined source content) =
    (source ≡ m.originating_address)
    × ((parts : List PartOf) × (part : PartOf) × ((content_joined parts ≡ Some content) × (carried_part (down_at InData tpdu) ≡ Some part) × Among part parts))

-- a part of a discarded group
abbrev pub IsOfDiscarded : List DiscardedGroup → DeliverOf → Type 0
IsOfDiscarded marks m = (key : ConcatKey) × (mark : DiscardedGroup) × ((key_of m ≡ Some key) × (mark_of (group_of m.originating_address key) marks ≡ Some mark))

-- an entry that was put, and is among the rows
abbrev pub IsPut : Changes → Rows → Entry → Type 0
IsPut changes rows e = Among (Put e) changes.entries × Among e rows.entries

-- Changes that put a DELIVER of no discarded group into what was accepted last also put an entry of its source and user data.
abbrev pub StoresAccepted : List DiscardedGroup → Changes → Rows → Type 0
StoresAccepted marks changes rows =
    (l : LastAccepted) → Among (Put l) changes.last → (m : DeliverOf) → down_at InData l.tpdu ≡ Ok (Deliver m)
    → IsOfDiscarded marks m ⊎ ((e : Entry) × (IsPut changes rows e × Contains l.tpdu m e.message))
