use Rattle.std.proofs.Common.{ℕ, List, [], ◌-◌, length, drop}
use Rattle.sms_centre_rows.specs.messages.OpenParts.{parts_waiting}
use Rattle.sms_centre_queue.specs.queues.Representing.{DraftRepresents}
use Rattle.sms_centre_rows.specs.waiting.Links.{Links}
use Rattle.sms_centre_rows.specs.waiting.References.{Allocations}
use Rattle.sms_centre_recovery.proofs.starting.filling.put_parts.Given as goal

abbrev pub invariant-loop-i : goal.invariant-loop-i
invariant-loop-i l =
    (g : Allocations) (links : Links) → DraftRepresents g links (λ (number : List ℕ). []) l.initial.queues
    → DraftRepresents g links (λ (number : List ℕ). parts_waiting number l.tables.messages.rows l.tables.priorities.rows (drop (length l.parts - l.i) l.parts)) l.queues
