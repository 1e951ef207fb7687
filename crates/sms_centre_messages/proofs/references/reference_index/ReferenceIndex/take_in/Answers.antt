use Rattle.std.proofs.Common.{refl, subst}
use Rattle.sms_centre_messages.specs.references.ReferenceIndex.{ReferenceIndexOf}
use Rattle.sms_centre_messages.specs.references.Moves.{ReferenceIndexReserveOf, TakesInReferences}
use Rattle.sms_centre_messages.proofs.references.reference_index.ReferenceIndex.take_in.Goals as goal

pub returns : goal.returns
returns c =
    subst (λ (s : ReferenceIndexReserveOf). TakesInReferences s c.args.self.now (record { held = c.use_reserve.new.self; own = c.use_reserve-2.new.self; last = c.use_reserve-3.new.self; pending = c.use_reserve-4.new.self; held_bars = c.use_reserve-5.new.self; own_bars = c.use_reserve-6.new.self; last_bar = c.self.inside.last_bar })) c.reserve.view_is
    (subst (λ (k : ReferenceIndexOf). TakesInReferences (record { held = c.reserve.inside.held; own = c.reserve.inside.own; last = c.reserve.inside.last; pending = c.reserve.inside.pending; held_bars = c.reserve.inside.held_bars; own_bars = c.reserve.inside.own_bars }) k
    (record { held = c.use_reserve.new.self; own = c.use_reserve-2.new.self; last = c.use_reserve-3.new.self; pending = c.use_reserve-4.new.self; held_bars = c.use_reserve-5.new.self; own_bars = c.use_reserve-6.new.self; last_bar = c.self.inside.last_bar })) c.self.view_is
    (record {
      held = c.use_reserve.ensures.counts;
      held_room = c.use_reserve.ensures.room;
      own = c.use_reserve-2.ensures.counts;
      own_room = c.use_reserve-2.ensures.room;
      last = c.use_reserve-3.ensures.counts;
      last_room = c.use_reserve-3.ensures.room;
      pending = c.use_reserve-4.ensures.counts;
      pending_room = c.use_reserve-4.ensures.room;
      held_bars = c.use_reserve-5.ensures.counts;
      held_bars_room = c.use_reserve-5.ensures.room;
      own_bars = c.use_reserve-6.ensures.counts;
      own_bars_room = c.use_reserve-6.ensures.room;
      last_bar = refl;
    }))
