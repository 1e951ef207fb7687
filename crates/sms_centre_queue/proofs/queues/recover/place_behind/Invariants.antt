use Rattle.std.proofs.Common.{◌≡◌, drop}
use Rattle.sms_centre_rows.specs.waiting.References.{place_after}
use Rattle.sms_centre_queue.proofs.queues.recover.place_behind.Given as goal

abbrev pub invariant-loop-handset : goal.invariant-loop-handset
invariant-loop-handset l = place_after l.place (drop l.handset-index l.handsets) ≡ place_after 1 l.handsets
