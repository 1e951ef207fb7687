use Rattle.std.proofs.Common.{◌≡◌, drop}
use Rattle.sms_handset_rows.specs.outbox.Offers.{first_due}
use Rattle.sms_handset_rows.proofs.outbox.offers.first_due.Given as goal

abbrev pub invariant-loop-view : goal.invariant-loop-view
invariant-loop-view l = first_due l.moment (drop l.view-index l.outbox) ≡ first_due l.moment l.outbox
