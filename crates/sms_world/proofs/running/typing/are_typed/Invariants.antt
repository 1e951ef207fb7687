use Rattle.std.proofs.Common.{drop}
use Rattle.sms_world.specs.headline.TypedEvents.{AreTyped}
use Rattle.sms_world.proofs.running.typing.are_typed.Given as goal

abbrev pub invariant-loop-event : goal.invariant-loop-event
invariant-loop-event l = AreTyped (drop l.event-index l.events) → AreTyped l.events
