use Rattle.std.proofs.Common.{◌≡◌, take}
use Rattle.sms_handset_rows.proofs.outbox.out_view.copies_of.Given as goal

abbrev pub invariant-loop-view : goal.invariant-loop-view
invariant-loop-view l = l.entries.items ≡ take l.view-index l.outbox
