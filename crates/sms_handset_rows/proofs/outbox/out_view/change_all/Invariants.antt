use Rattle.std.proofs.Common.{◌≡◌, drop}
use Rattle.sms_rows.specs.table.Table.{all_applied}
use Rattle.sms_handset_rows.specs.outbox.Keys.{out_key}
use Rattle.sms_handset_rows.proofs.outbox.out_view.change_all.Given as goal

abbrev pub invariant-loop-change : goal.invariant-loop-change
invariant-loop-change l = all_applied out_key (drop l.change-index l.changes) l.outbox.rows ≡ all_applied out_key l.changes l.initial.outbox.rows
