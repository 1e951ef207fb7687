-- What is offered to one handset.
use Rattle.std.specs.Prelude.{ℕ, List, if◌then◌else◌, Option, None}
use Rattle.sms_link.specs.LinkTurn.{begun}
use Rattle.sms_centre_rows.specs.declared.waiting.queued_part.QueuedPart.{QueuedPart}
use Rattle.sms_centre_rows.specs.waiting.Links.{is_ready, link_of, turn_link}
use Rattle.sms_centre_rows.specs.waiting.Waiting.{next}
use Rattle.sms_centre_spec.specs.Draft.{Draft, on_links, waiting_in}
use Rattle.sms_centre_spec.specs.Offering.{holder_of, offer_queued, read_of}

-- the next that is due for it, if its link is ready
abbrev pub next_for : List ℕ → Draft → Option QueuedPart
next_for handset d = if is_ready (link_of handset d.links.all) then next d.store.moment (waiting_in handset d.store) else None

-- that one is offered
abbrev pub offer_next : List ℕ → Option QueuedPart → Draft → Draft
offer_next handset o d = on_links (offer_queued (link_of handset d.links.all) (waiting_in handset d.store) o d.store d.links) d

-- what waits is sent in that unit, its TPDU read before or made
abbrev pub offer_in : List ℕ → List ℕ → QueuedPart → Draft → Draft
offer_in handset unit l d =
    on_links (turn_link (link_of handset d.links.all) (begun d.store.moment l.reference (holder_of l) unit (link_of handset d.links.all).near_end)
    (read_of l d.store d.links)) d
