use Rattle.std.proofs.Common.{◌≡◌, ◌-◌}
use Rattle.sms_handset_rows.specs.outbox.References.{free_from, next_free}
use Rattle.sms_handset_rows.proofs.outbox.references.next_free.Given as goal

abbrev pub invariant-loop-turn : goal.invariant-loop-turn
invariant-loop-turn l = free_from (256 - l.turn) l.free l.held ≡ next_free l.reference l.held
