use Rattle.std.proofs.Common.{ℕ, List, Bool, OnOk, sym, subst}
use Rattle.sms_centre_queue.specs.queues.Representing.{DraftRepresents}
use Rattle.sms_centre_recovery.specs.starting.Starting.{connected}
use Rattle.sms_centre_rows.specs.declared.waiting.queued_part.QueuedPart.{QueuedPart}
use Rattle.sms_centre_rows.specs.waiting.Links.{Links, link_of, put_link}
use Rattle.sms_centre_rows.specs.waiting.References.{Allocations}
use Rattle.sms_centre_recovery.proofs.starting.connecting.connect.Goals as goal

pub returns-then-is_up : goal.returns-then-is_up
returns-then-is_up c =
    subst (λ (b : Bool). OnOk c.raise.result ((g : Allocations) (links : Links) (waiting : List ℕ → List QueuedPart) → DraftRepresents g links waiting c.args.queues.now → DraftRepresents g (put_link (connected b (link_of c.args.handset links.all)) links) waiting c.raise.new.self))
    (sym c.if-is_up.true) c.raise.ensures

pub returns-else-is_up : goal.returns-else-is_up
returns-else-is_up c =
    subst (λ (b : Bool). OnOk c.expect.result ((g : Allocations) (links : Links) (waiting : List ℕ → List QueuedPart) → DraftRepresents g links waiting c.args.queues.now → DraftRepresents g (put_link (connected b (link_of c.args.handset links.all)) links) waiting c.expect.new.self))
    (sym c.if-is_up.false) c.expect.ensures
