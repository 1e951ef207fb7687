use Rattle.std.proofs.Common.{ℕ, List, [], subst}
use Rattle.sms_centre_queue.specs.queues.Representing.{Represents}
use Rattle.sms_centre_rows.specs.declared.waiting.handset.HandsetRow.{HandsetRow}
use Rattle.sms_centre.proofs.state.queues.queues_of.Goals as goal

pub returns : goal.returns
returns c =
    c.in_ok-settled.ensures.consistent c.adopt.new.self
    (subst (λ (hs : List HandsetRow). Represents hs c.args.tables.now.references.rows [] (λ (n : List ℕ). []) c.in_ok-queues.queues) c.as_slice.ensures.rows c.in_ok-queues.ensures)
    c.adopt.ensures
