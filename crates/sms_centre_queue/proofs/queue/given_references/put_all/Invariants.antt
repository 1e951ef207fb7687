use Rattle.std.proofs.Common.{◌≡◌, drop}
use Rattle.sms_centre_rows.specs.waiting.Keys.{reference_key}
use Rattle.sms_centre_queue.specs.queue.Given.{all_put}
use Rattle.sms_centre_queue.proofs.queue.given_references.put_all.Given as goal

abbrev pub invariant-loop-row : goal.invariant-loop-row
invariant-loop-row l = all_put reference_key (drop l.row-index l.rows) l.table.rows ≡ all_put reference_key l.rows l.initial.table.rows
