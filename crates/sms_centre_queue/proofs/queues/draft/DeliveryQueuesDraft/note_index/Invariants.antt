use Rattle.std.proofs.Common.{◌≡◌}
use Rattle.sms_centre_queue.specs.queues.Stops.{all_noted}
use Rattle.sms_centre_queue.proofs.queues.draft.DeliveryQueuesDraft.note_index.Given as goal

abbrev pub invariant-loop-key : goal.invariant-loop-key
invariant-loop-key l = all_noted l.purpose l.self l.key-iterator l.found.rows ≡ all_noted l.purpose l.self l.self.base.index l.initial.found.rows
