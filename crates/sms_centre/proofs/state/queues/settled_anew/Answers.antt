use Rattle.std.proofs.Common.{ℕ, List, [], false}
use Rattle.sms_centre.proofs.state.Results.{if_ok_then}
use Rattle.sms_centre_queue.specs.queues.Plan.{IsAdopted, IsSettled, DeliveryQueuesPlanOf}
use Rattle.sms_centre_queue.specs.queues.Queues.{DeliveryQueuesOf}
use Rattle.sms_centre_queue.specs.queues.Representing.{Represents}
use Rattle.sms_centre_recovery.specs.starting.Starting.{links_of}
use Rattle.sms_rows.specs.table.Since.{untouched}
use Rattle.sms_centre_rows.specs.waiting.Links.{Links}
use Rattle.sms_centre_rows.specs.waiting.References.{Allocations}
use Rattle.sms_centre_rows.specs.declared.waiting.handset.HandsetRow.{HandsetRow}
use Rattle.sms_centre_rows.specs.declared.waiting.handset_link.HandsetLink.{HandsetLink}
use Rattle.sms_centre_rows.specs.declared.waiting.queued_part.QueuedPart.{QueuedPart}
use Rattle.sms_centre_rows.specs.declared.waiting.reference.ReferenceRow.{ReferenceRow}
use Rattle.sms_centre.proofs.state.queues.settled_anew.Goals as goal

pub returns-in-Ok-clause-consistent : goal.returns-in-Ok-clause-consistent
returns-in-Ok-clause-consistent c =
    let all_new : Links = record { all = links_of false c.args.handsets.now; frames = []; read = [] } in
    if_ok_then c.settled.result (λ (s : DeliveryQueuesPlanOf). IsSettled c.link_anew.new.queues s)
    (λ (s : DeliveryQueuesPlanOf). (rows : List HandsetRow) (references : List ReferenceRow) (links : List HandsetLink) (waiting : List ℕ → List QueuedPart) (new : DeliveryQueuesOf) → Represents rows references links waiting c.args.queues.now → IsAdopted s new
    → Represents rows references (links_of false c.args.handsets.now) waiting new)
    (λ s settled rows references links waiting new stood adopted.
    let g : Allocations = record { handsets = untouched rows; references = untouched references } in
    let begun = c.in_ok-pending.ensures rows references links waiting stood in
    c.an_adopted_plan_represents_its_rows.ensures g all_new waiting c.link_anew.new.queues s new (c.in-Ok.ensures g links waiting begun) settled adopted)
    c.settled.ensures.queues
