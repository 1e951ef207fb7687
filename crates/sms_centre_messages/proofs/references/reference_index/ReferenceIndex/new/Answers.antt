use Rattle.std.proofs.Common.{refl}
use Rattle.sms_centre_messages.proofs.references.Answering.{holds_nothing}
use Rattle.sms_centre_messages.proofs.references.reference_index.ReferenceIndex.new.Goals as goal

pub returns : goal.returns
returns c =
    holds_nothing (record { held = c.new-held.result; own = c.new-own.result; last = c.new-last.result; pending = c.new-pending.result; held_bars = c.new-held_bars.result; own_bars = c.new-own_bars.result; last_bar = 0 })
    c.new-held.ensures c.new-own.ensures c.new-last.ensures c.new-pending.ensures c.new-held_bars.ensures c.new-own_bars.ensures refl
