use Rattle.std.proofs.Common.{◌≡◌, drop}
use Rattle.sms_player.specs.playing.Places.{place_from}
use Rattle.sms_player.proofs.playing.places.party_place.Given as goal

abbrev pub invariant-loop-place : goal.invariant-loop-place
invariant-loop-place l = place_from l.place l.number (drop l.place l.parties) ≡ place_from 0 l.number l.parties
