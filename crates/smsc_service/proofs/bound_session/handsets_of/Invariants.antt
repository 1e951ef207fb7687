use Rattle.std.proofs.Common.{◌≡◌, drop}
use Rattle.sms_centre_spec.specs.SoundCore.{AreDifferent}
use Rattle.smsc_service.specs.BoundSession.{handsets_from, handsets_of}
use Rattle.smsc_service.proofs.bound_session.handsets_of.Given as goal

abbrev pub invariant-loop-link : goal.invariant-loop-link
invariant-loop-link l =
    (handsets_from l.handsets.items (drop l.link-index l.seat_map.links) ≡ handsets_of l.seat_map.links) × AreDifferent l.handsets.items
