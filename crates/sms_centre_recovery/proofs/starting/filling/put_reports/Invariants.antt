use Rattle.std.proofs.Common.{ℕ, List, ◌-◌, length, drop}
use Rattle.sms_centre_rows.specs.reports.Waiting.{with_reports}
use Rattle.sms_centre_queue.specs.queues.Representing.{DraftRepresents}
use Rattle.sms_centre_rows.specs.declared.waiting.queued_part.QueuedPart.{QueuedPart}
use Rattle.sms_centre_rows.specs.waiting.Links.{Links}
use Rattle.sms_centre_rows.specs.waiting.References.{Allocations}
use Rattle.sms_centre_recovery.proofs.starting.filling.put_reports.Given as goal

abbrev pub invariant-loop-i : goal.invariant-loop-i
invariant-loop-i l =
    (g : Allocations) (links : Links) (waiting : List ℕ → List QueuedPart) → DraftRepresents g links waiting l.initial.queues
    → DraftRepresents g links (λ (number : List ℕ). with_reports number l.tables.messages.rows (drop (length l.reports - l.i) l.reports) (waiting number)) l.queues
