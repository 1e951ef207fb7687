use Rattle.std.proofs.Common.{◌≡◌, drop}
use Rattle.sms_play.specs.Meeting.{account_from}
use Rattle.sms_player.proofs.playing.places.account_place.Given as goal

abbrev pub invariant-loop-account : goal.invariant-loop-account
invariant-loop-account l = (l.place ≡ l.account-index) × (account_from l.place l.name (drop l.account-index l.accounts) ≡ account_from 0 l.name l.accounts)
