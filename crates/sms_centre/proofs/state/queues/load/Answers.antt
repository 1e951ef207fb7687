use Rattle.std.proofs.Common.{ℕ, List, []}
use Rattle.sms_centre.proofs.state.Results.{if_ok_then}
use Rattle.sms_centre_queue.specs.queues.Plan.{IsAdopted, IsSettled, DeliveryQueuesPlanOf}
use Rattle.sms_centre_queue.specs.queues.Queues.{DeliveryQueuesOf}
use Rattle.sms_centre_queue.specs.queues.Representing.{Represents}
use Rattle.sms_centre_recovery.specs.soundness.RowsOf.{rows_of}
use Rattle.sms_centre_recovery.specs.starting.Starting.{links_of}
use Rattle.sms_rows.specs.table.Since.{untouched}
use Rattle.sms_centre_rows.specs.waiting.Links.{Links}
use Rattle.sms_centre_rows.specs.waiting.References.{Allocations}
use Rattle.sms_centre_spec.specs.SoundRows.{all_for}
use Rattle.sms_centre.proofs.state.queues.load.Goals as goal

pub returns-in-Ok-clause-consistent : goal.returns-in-Ok-clause-consistent
returns-in-Ok-clause-consistent c =
    let t = c.args.tables.now in
    let g : Allocations = record { handsets = untouched t.handsets.rows; references = untouched t.references.rows } in
    let links : Links = record { all = links_of c.args.are_up c.args.handsets.now; frames = []; read = [] } in
    if_ok_then c.settled.result (λ (s : DeliveryQueuesPlanOf). IsSettled c.fill.new.queues s)
    (λ (s : DeliveryQueuesPlanOf). (new : DeliveryQueuesOf) → Represents t.handsets.rows t.references.rows [] (λ (n : List ℕ). []) c.args.queues.now → IsAdopted s new
    → Represents t.handsets.rows t.references.rows (links_of c.args.are_up c.args.handsets.now) (λ (n : List ℕ). all_for n (rows_of t)) new)
    (λ s settled new stood adopted.
    let begun = c.in_ok-pending.ensures t.handsets.rows t.references.rows [] (λ (n : List ℕ). []) stood in
    c.an_adopted_plan_represents_its_rows.ensures g links (λ (n : List ℕ). all_for n (rows_of t)) c.fill.new.queues s new (c.in-Ok.ensures g begun) settled adopted)
    c.settled.ensures.queues
