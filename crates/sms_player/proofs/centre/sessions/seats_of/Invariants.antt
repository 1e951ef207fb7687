use Rattle.std.proofs.Common.{◌≡◌, ◌++◌, drop}
use Rattle.sms_play.specs.PlayedEvent.{sessions_from}
use Rattle.sms_player.proofs.centre.sessions.seats_of.Given as goal

abbrev pub invariant-loop-account : goal.invariant-loop-account
invariant-loop-account l = (l.place ≡ l.account-index) × (l.seats.items ++ sessions_from l.place (drop l.account-index l.accounts) ≡ sessions_from 0 l.accounts)
