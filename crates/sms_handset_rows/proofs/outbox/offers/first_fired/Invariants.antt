use Rattle.std.proofs.Common.{◌≡◌, drop}
use Rattle.sms_handset_rows.specs.outbox.Offers.{first_fired}
use Rattle.sms_handset_rows.proofs.outbox.offers.first_fired.Given as goal

abbrev pub invariant-loop-notice : goal.invariant-loop-notice
invariant-loop-notice l = first_fired l.moment (drop l.notice-index l.notices) ≡ first_fired l.moment l.notices
