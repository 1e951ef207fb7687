use Rattle.std.proofs.Common.{ℕ, List, [], take}
use Rattle.sms_centre_queue.specs.queues.Representing.{DraftRepresents}
use Rattle.sms_centre_recovery.specs.starting.Starting.{links_of}
use Rattle.sms_centre_rows.specs.declared.waiting.queued_part.QueuedPart.{QueuedPart}
use Rattle.sms_centre_rows.specs.waiting.References.{Allocations}
use Rattle.sms_centre_recovery.proofs.starting.connecting.connect_all.Given as goal

abbrev pub invariant-loop-handset : goal.invariant-loop-handset
invariant-loop-handset l =
    (g : Allocations) (waiting : List ℕ → List QueuedPart) → DraftRepresents g (record { all = []; frames = []; read = [] }) waiting l.initial.queues
    → DraftRepresents g (record { all = links_of l.are_up (take l.handset-index l.handsets); frames = []; read = [] }) waiting l.queues
