use Rattle.std.proofs.Common.{List, OnOk, sym, ◌∙◌, ap, subst}
use Rattle.sms_centre_queue.specs.declared.queues.concern.ConcernedHandset.{ConcernedHandset}
use Rattle.sms_centre_queue.specs.queues.Walks.{walk}
use Rattle.sms_centre_spec.specs.CentreEvent.{raise}
use Rattle.sms_centre_spec.specs.Draft.{Draft}
use Rattle.sms_centre_draft.specs.CentreDraft.{Represents}
use Rattle.sms_centre_events.proofs.walks.raise.Goals as goal

pub returns : goal.returns
returns c = λ d represents.
    let are = c.as_slice.ensures.value ∙ c.in_ok-awaited.ensures d represents in
    subst (λ (e : Draft). OnOk c.raise_each.result (Represents e c.raise_each.new.draft))
    (ap (λ (ss : List ConcernedHandset). walk raise ss d) are ∙ sym (c.links_rise_where_found.ensures d represents.queues.apart))
    (c.raise_each.ensures d represents)
