-- The links to the handsets that a centre starts with: up from the first moment on, or up from its first tick on.
use Rattle.std.specs.Prelude.{ℕ, List, Bool, true, false}
use Rattle.sms_centre_rows.specs.declared.waiting.handset_link.HandsetLink.{HandsetLink}
use Rattle.sms_centre_rows.specs.waiting.Links.{raised}
use Rattle.sms_centre_queue.specs.queues.LinkOrder.{expected}
use Rattle.sms_centre_spec.specs.CentreEvent.{links_awaited, links_up}

abbrev pub links_of : Bool → List (List ℕ) → List HandsetLink
links_of true handsets = links_up handsets
links_of false handsets = links_awaited handsets

-- so becomes one of them
abbrev pub connected : Bool → HandsetLink → HandsetLink
connected true link = raised link
connected false link = expected link
