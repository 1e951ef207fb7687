-- The keys of stops.
use Rattle.std.specs.Prelude.{ℕ}
use Rattle.sms_centre_queue.specs.declared.queues.concern.ConcernedHandset.{ConcernedHandset}

abbrev pub stop_key : ConcernedHandset → ℕ
stop_key s = s.order
