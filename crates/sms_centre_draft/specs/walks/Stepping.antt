-- What an event that concerns all handsets does at one of them, and where it stops.
use Rattle.std.specs.Prelude.{ℕ, List}
use Rattle.sms_centre_rows.specs.waiting.Links.{link_of}
use Rattle.sms_centre_queue.specs.declared.queues.concern.ConcernedHandset.{ConcernedHandset}
use Rattle.sms_centre_queue.specs.declared.queues.concern.Concern.{Concern}
use Rattle.sms_centre_queue.specs.queues.Stops.{found}
use Rattle.sms_centre_spec.specs.CentreEvent.{fire_link}
use Rattle.sms_centre_spec.specs.Draft.{Draft, handsets_in, on_links, waiting_in}
use Rattle.sms_centre_spec.specs.Offering.{offer_to}

-- the handsets that it concerns as it begins
abbrev pub stops_in : Concern → Draft → List ConcernedHandset
stops_in wanted d = found wanted (handsets_in d.store) d.links.all (λ (number : List ℕ). waiting_in number d.store)

-- what waits for the handset is offered there
abbrev pub offer_at : List ℕ → Draft → Draft
offer_at number d = on_links (offer_to number d.store d.links) d

-- the timers of its link fire
abbrev pub fire_on : List ℕ → Draft → Draft
fire_on number d = fire_link (link_of number d.links.all) d
