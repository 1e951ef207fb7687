-- Room for one entry more.
use Rattle.std.proofs.Common.{◌≡◌, ◌<◌, arith, length, true}
use Rattle.std.specs.Prelude.{nat_lt}
use Rattle.std.proofs.lemmas.Bool.{ltb-true}
use Rattle.sms_handset_rows.proofs.inbox.SoundRoom.{slot, no_fewer_slots, tested}
use Rattle.sms_handset_rows.specs.inbox.Slots.{slots_taken}
use Rattle.sms_handset_draft.specs.Draft.{Draft}
use Rattle.sms_handset_draft.specs.MemoryAvailable.{has_room}
use Rattle.sms_handset.proofs.SoundDrafts.{SoundAt}

pub room_left : (d : Draft) → has_room d ≡ true → SoundAt d → length d.rows.entries < 255
room_left d t s =
    let free = ltb-true (slots_taken d.rows.entries) d.rows.setup.slots (tested (nat_lt (slots_taken d.rows.entries) d.rows.setup.slots) (nat_lt d.rows.counters.entry 4294967295) t) in
    omega (arith, free, s.setup.slots_fit, no_fewer_slots d.rows.entries (λ e m. slot e.slots e.message (s.inbox.each e m).1))
