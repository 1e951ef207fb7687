use Rattle.std.proofs.Common.{◌≡◌, take}
use Rattle.sms_handset_rows.proofs.outbox.out_view.views_of.Given as goal

abbrev pub invariant-loop-entry : goal.invariant-loop-entry
invariant-loop-entry l = l.views.items ≡ take l.entry-index l.entries
