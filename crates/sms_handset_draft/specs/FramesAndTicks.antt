-- A frame, and time that passes, up to what follows every event.
use Rattle.std.specs.Prelude.{Option, Some, None, ℕ, max}
use Rattle.sms_base.specs.declared.holder.Holder.{Holder}
use Rattle.sms_relay.specs.RelayReading.{down_at}
use Rattle.sms_link.specs.declared.ending.Upward.{Upward}
use Rattle.sms_link.specs.declared.ending.Upward.TheVariants.{Opened, Ended}
use Rattle.sms_link.specs.LinkTurn.{Turn}
use Rattle.sms_handset_draft.specs.Draft.{Draft, with_turn}
use Rattle.sms_handset_draft.specs.Outbox.{transfer_ended}
use Rattle.sms_handset_draft.specs.Receiving.{unit_received}

-- ---- a frame

-- what the link passes up: a unit that opens a transaction, or how the handset's own transfer ended
abbrev pub went_up : Holder → Option Upward → Draft → Draft
went_up tag None d = d
went_up tag (Some (Opened unit)) d = unit_received tag unit (down_at unit) d
went_up tag (Some (Ended transfer ending)) d = transfer_ended transfer ending d

abbrev pub frame_heard : Holder → Turn → Draft → Draft
frame_heard tag turn d = went_up tag turn.out.up (with_turn turn d)

-- ---- a tick: timers fire; time never decreases

abbrev pub at_moment : ℕ → Draft → Draft
at_moment now d = record d { moment = max d.moment now }

-- a transfer of this side that a timer ended
abbrev pub timed_out : Option Upward → Draft → Draft
timed_out None d = d
timed_out (Some (Opened unit)) d = d
timed_out (Some (Ended transfer ending)) d = transfer_ended transfer ending d

abbrev pub timers_fired : Turn → Draft → Draft
timers_fired turn d = timed_out turn.out.up (with_turn turn d)
