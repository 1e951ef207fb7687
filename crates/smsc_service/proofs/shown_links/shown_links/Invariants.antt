use Rattle.std.proofs.Common.{◌≡◌, ◌<◌, ℕ, get_or, length, None}
use Rattle.sms_centre.specs.state.CentreState.{Represents}
use Rattle.sms_centre_spec.specs.Draft.{Core}
use Rattle.smsc_service.specs.Seats.{seats_in}
use Rattle.smsc_service.specs.ShownLinks.{figures_at}
use Rattle.smsc_service.proofs.shown_links.shown_links.Given as goal

-- the seats before have the figures of their links
abbrev pub invariant-loop-seat : goal.invariant-loop-seat
invariant-loop-seat l =
    (length l.shown ≡ 32)
    × ((c : Core) → Represents c l.centre → (seat : ℕ) → seat < l.seat → get_or l.shown seat None ≡ figures_at c (seats_in l.seat_map).links seat)
