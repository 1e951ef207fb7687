use Rattle.std.proofs.Common.{ℕ, List, OnOk, sym, ◌∙◌, ap, subst}
use Rattle.sms_centre_queue.specs.declared.queues.concern.ConcernedHandset.{ConcernedHandset}
use Rattle.sms_centre_queue.specs.declared.queues.concern.Concern.TheVariants.{Fire, FireUnmentioned}
use Rattle.sms_centre_queue.specs.queues.Walks.{walk}
use Rattle.sms_centre_spec.specs.Draft.{Draft}
use Rattle.sms_centre_draft.specs.walks.Stepping.{fire_on, stops_in}
use Rattle.sms_centre_draft.specs.CentreDraft.{Represents}
use Rattle.sms_centre_events.proofs.walks.fire.Goals as goal

pub returns : goal.returns
returns c = λ d represents.
    let mentioned = c.as_slice.ensures.value ∙ c.in_ok-mentioned.ensures d represents ∙ ap (λ (n : ℕ). stops_in (Fire n) d) (c.now-now.ensures d represents) in
    let others = c.as_slice-2.ensures.value ∙ c.in_ok-others.ensures d represents ∙ ap (λ (n : ℕ). stops_in (FireUnmentioned n) d) (c.now-now.ensures d represents) in
    let mid : Draft = walk fire_on (stops_in (Fire d.store.moment) d) d in
    let one : Represents mid c.fire_each.new.draft =
    subst (λ (ss : List ConcernedHandset). Represents (walk fire_on ss d) c.fire_each.new.draft) mentioned
    (c.in_ok-fire_each.ensures d represents) in
    subst (λ (e : Draft). OnOk c.fire_each-2.result (Represents e c.fire_each-2.new.draft))
    (ap (λ (ss : List ConcernedHandset). walk fire_on ss mid) others ∙ sym (c.timers_fire_at_those_found.ensures d represents.consistent.held.allocations represents.queues.apart))
    (c.fire_each-2.ensures mid one)
