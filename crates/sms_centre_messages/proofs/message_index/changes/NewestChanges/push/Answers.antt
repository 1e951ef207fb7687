use Rattle.std.proofs.Common.{◌∙◌}
use Rattle.sms_centre_messages.proofs.message_index.Places.{places_pushed}
use Rattle.sms_centre_messages.proofs.message_index.changes.NewestChanges.push.Goals as goal

pub invariant_of-self-2 : goal.invariant_of-self-2
invariant_of-self-2 g c =
    places_pushed g.T.Row.key c.self.inside.changes.items c.reserve.new.self.items c.push_reserved.new.self.items c.args.change c.number.result c.len-place.result c.self.inside.places.entries c.insert.new.self.entries
    c.self.invariant c.in_ok-reserve.ensures.items c.push_reserved.ensures.items (c.number.ensures ∙ c.key.ensures) (c.len-place.ensures ∙ c.reserve.new.self.ok.0) c.in_ok-insert.ensures.updates.0
