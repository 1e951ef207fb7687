-- How the links at the seats are, as a status page shows them.
use Rattle.std.specs.Prelude.{◌≡◌, ℕ, ◌<◌, List, get_or, Option, Some, None, Bool, true, false, if◌then◌else◌}
use Rattle.sms_centre_queue.specs.declared.queue.link_figures.LinkFigures.{LinkFigures}
use Rattle.sms_centre_queue.specs.queue.Watching.{figures_of}
use Rattle.sms_centre_rows.specs.waiting.Links.{link_of}
use Rattle.sms_centre_spec.specs.Draft.{Core}
use Rattle.sms_centre_spec.specs.SoundRows.{all_for}
use Rattle.sms_centre_spec.specs.declared.jobs.job.Job.{Job}
use Rattle.sms_centre_spec.specs.declared.jobs.job.Job.TheVariants.{Bound, Unbound, Submit, Query, Cancel, DeliverAnswered, LinkUp, LinkDown, Frame}
use Rattle.sms_keeper.specs.declared.machine.Stimulus.{Stimulus}
use Rattle.sms_keeper.specs.declared.machine.Stimulus.TheVariants.{Job as JobOf, Tick, Own}
use Rattle.smsc_service.specs.declared.seat_map.LinkSeat.{LinkSeat}
use Rattle.smsc_service.specs.Numbers.{is_number}
use Rattle.smsc_service.specs.Seats.{handset_at}

-- how many wait for the handset, and how its link is, if it is one
abbrev pub figures_for : Core → Option (List ℕ) → Option LinkFigures
figures_for c None = None
figures_for c (Some handset) = if is_number handset then Some (figures_of (all_for handset c.rows) (link_of handset c.links)) else None

-- how the link at the seat is, if one is there
abbrev pub figures_at : Core → List LinkSeat → ℕ → Option LinkFigures
figures_at c links seat = figures_for c (handset_at seat links)

-- each of the 32 seats has the figures of its own link
abbrev pub AreShown : Core → List LinkSeat → List (Option LinkFigures) → Type 0
AreShown c links shown = (seat : ℕ) → seat < 32 → get_or shown seat None ≡ figures_at c links seat

-- ---- when they are shown

abbrev pub brings_link : Job → Bool
brings_link (Bound account receives) = false
brings_link Unbound = false
brings_link (Submit account pdu) = false
brings_link (Query account pdu) = false
brings_link (Cancel account pdu) = false
brings_link (DeliverAnswered id is_accepted) = false
brings_link (LinkUp handset) = true
brings_link LinkDown = false
brings_link (Frame octets) = false

-- once a second, and when a link is up
abbrev pub is_shown_after : Stimulus Job → Bool
is_shown_after (Tick now) = true
is_shown_after (Own errand) = false
is_shown_after (JobOf seat job) = brings_link job
